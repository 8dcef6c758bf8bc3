-- The code of a module: what each statement becomes.
use Rattle.std.specs.Prelude.{ℕ, ◌+◌, Bool, true, false, pos, List, [], ◌∷◌, ◌++◌, length, map}
use Rattle.dl_ir.specs.declared.expressions.Cond.{Cond}
use Rattle.dl_ir.specs.declared.expressions.Expr.TheVariants.{Num}
use Rattle.dl_ir.specs.declared.modules.Module.{Module}
use Rattle.dl_ir.specs.declared.modules.OpDecl.{OpDecl}
use Rattle.dl_ir.specs.declared.statements.Stmt.{Stmt, Stmt-F}
use Rattle.dl_ir.specs.declared.statements.Stmt.TheFolds.{fold-Stmt}
use Rattle.dl_instr.specs.declared.code.Code.{Code}
use Rattle.dl_instr.specs.declared.steps.Step.{Step}
use Rattle.dl_instr.specs.declared.steps.Step.TheVariants.{Read, Want, Set, Drop, Make, Eval, Write, Emit, Test, Jump, Give}
use Rattle.dl_instr.specs.declared.steps.Origin.TheVariants as origins
use Rattle.dl_instr.specs.declared.steps.Content.TheVariants as contents

-- the steps of a part of an operation, by the number that the first of them has
abbrev pub Placed : Type 0
Placed = ℕ → List Step

-- the steps of parts, one part behind another
abbrev pub in_row : List Placed → Placed
in_row [] first = []
in_row (part ∷ rest) first = part first ++ in_row rest (first + length (part first))

-- a test that goes on behind the block where it is false
abbrev pub if_code : Cond → Placed → Placed
if_code c block first = Test c false (first + 1 + length (block (first + 1))) ∷ block (first + 1)

-- a test, the block that it guards and a last step; where the test is false it goes on behind them
abbrev pub tested : Cond → Bool → Placed → Step → Placed
tested c is_turn block last first = Test c is_turn (first + 1 + length (block (first + 1)) + 1) ∷ block (first + 1) ++ last ∷ []

-- a block behind a jump over it, where the block has this first place
abbrev pub skipped : Placed → Placed
skipped block first = Jump (first + length (block first)) ∷ block first

-- a test and two blocks: the first ends with a jump over the second, and the second is where the test goes on if it is false
abbrev pub if_else_code : Cond → Placed → Placed → Placed
if_else_code c block other first =
    let second = first + 1 + length (block (first + 1)) + 1 in
    Test c false second ∷ block (first + 1) ++ skipped other second

-- a loop's test, and a body that ends with a jump back to it
abbrev pub while_code : Cond → Placed → Placed
while_code c body first = tested c true body (Jump first) first

-- the steps of a statement, the statements in it being replaced by their steps
abbrev pub steps_of : Stmt-F Placed → Placed
steps_of (Stmt-F.SetInt x e) first = Eval e ∷ Set x origins.Hand ∷ []
steps_of (Stmt-F.Load x p f) first = Read p f ∷ Set x origins.Hand ∷ []
steps_of (Stmt-F.Store p f e) first = Eval e ∷ Write p f contents.Number ∷ []
steps_of (Stmt-F.Copy p q) first = Set p (origins.Local q) ∷ []
steps_of (Stmt-F.Null p) first = Drop p ∷ []
steps_of (Stmt-F.Follow p q f) first = Read q f ∷ Want ∷ Set p origins.Hand ∷ []
steps_of (Stmt-F.New p kind) first = Make kind ∷ Set p origins.Hand ∷ []
steps_of (Stmt-F.Link q f p) first = Read q f ∷ Want ∷ Write q f (contents.Local p) ∷ []
steps_of (Stmt-F.Cut q f) first = Read q f ∷ Want ∷ Write q f contents.Null ∷ []
steps_of (Stmt-F.If c block []) first = if_code c (in_row block) first
steps_of (Stmt-F.If c block (part ∷ rest)) first = if_else_code c (in_row block) (in_row (part ∷ rest)) first
steps_of (Stmt-F.While c body) first = while_code c (in_row body) first
steps_of (Stmt-F.Return e) first = Give e ∷ []
steps_of (Stmt-F.Emit e) first = Eval e ∷ Emit ∷ []

-- the steps of a statement
abbrev pub stmt_code : Stmt → Placed
stmt_code = fold-Stmt Placed steps_of

-- the steps of a block
abbrev pub block_code : List Stmt → Placed
block_code block = in_row (map stmt_code block)

-- the steps of an operation: those of its body, and `give 0` behind them
abbrev pub op_code : OpDecl → List Step
op_code op = block_code op.body 0 ++ Give (Num (pos 0)) ∷ []

-- the code of a module
abbrev pub code : Module → Code
code source = record { source = source; ops = map op_code source.ops }
