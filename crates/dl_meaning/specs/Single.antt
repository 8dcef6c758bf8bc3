-- That a statement or a block has at most one outcome, which is what the function gives.
use Rattle.std.specs.Prelude.{◌≡◌, Option, List}
use Rattle.dl_ir.specs.declared.answers.End.{End}
use Rattle.dl_ir.specs.declared.expressions.Cond.{Cond}
use Rattle.dl_ir.specs.declared.statements.Stmt.{Stmt}
use Rattle.dl_ir.specs.Meaning.{Context, State, Outcome, does, block_does, loops}
use Rattle.dl_ir.specs.Relation.{Runs, RunsBlock, Loops}

-- a state after a statement or a block, and how the operation ended there, if it did
abbrev pub outcome : State → Option End → Outcome
outcome after end = record { state = after; end = end }

-- two outcomes of a statement from one state are the same
abbrev pub StatementsHaveAtMostOne : Type 0
StatementsHaveAtMostOne = (cx : Context) (d : Stmt) (s t u : State) (end other : Option End)
    → Runs cx d s t end → Runs cx d s u other → (t ≡ u) × (end ≡ other)

-- two outcomes of a block from one state are the same
abbrev pub BlocksHaveAtMostOne : Type 0
BlocksHaveAtMostOne = (cx : Context) (block : List Stmt) (s t u : State) (end other : Option End)
    → RunsBlock cx block s t end → RunsBlock cx block s u other → (t ≡ u) × (end ≡ other)

-- an outcome of a statement is what the function gives
abbrev pub DoesIsTheOutcome : Type 0
DoesIsTheOutcome = (cx : Context) (d : Stmt) (s t : State) (end : Option End) → Runs cx d s t end → does cx d s ≡ outcome t end

-- an outcome of a loop is what the function gives, with as many turns as are left
abbrev pub LoopsIsTheOutcome : Type 0
LoopsIsTheOutcome = (cx : Context) (c : Cond) (body : List Stmt) (s t : State) (end : Option End)
    → Loops cx c body s t end → loops s.turns c (block_does cx body) s ≡ outcome t end

-- an outcome of a block is what the function gives
abbrev pub BlockDoesIsTheOutcome : Type 0
BlockDoesIsTheOutcome = (cx : Context) (block : List Stmt) (s t : State) (end : Option End)
    → RunsBlock cx block s t end → block_does cx block s ≡ outcome t end
