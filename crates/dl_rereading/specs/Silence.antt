-- That a module of version 1 emits nothing.
use Rattle.std.specs.Prelude.{◌≡◌, ℕ, Bool, true, false, ◌||◌, List}
use Rattle.std.specs.List.{AllByRecursion, list_any}
use Rattle.dl_grammar.specs.declared.tree.Tree.{Tree}
use Rattle.dl_grammar.specs.declared.tree.TreeOp.{TreeOp}
use Rattle.dl_grammar.specs.declared.tree.TreeStmt.{TreeStmt, TreeStmt-F}
use Rattle.dl_grammar.specs.declared.tree.What.{What-F}
use Rattle.dl_grammar.specs.declared.tree.What.TheFolds.{fold-TreeStmt}
use Rattle.dl_grammar.specs.Texts.{Spells}

-- some statement of a block emits
abbrev pub some_emits : List Bool → Bool
some_emits block = list_any (λ b. b) block

-- one level of a statement
abbrev pub emits_step : What-F Bool Bool → Bool
emits_step (What-F.Assign x right) = false
emits_step (What-F.Store p f right) = false
emits_step (What-F.If c yes_block no_block) = some_emits yes_block || some_emits no_block
emits_step (What-F.While c body) = some_emits body
emits_step (What-F.Return e) = false
emits_step (What-F.Emit e) = true

-- a statement emits a number, by itself or in its blocks
abbrev pub emits : TreeStmt → Bool
emits = fold-TreeStmt Bool Bool emits_step (λ (s : TreeStmt-F Bool Bool). s.what)

-- no statement of an operation emits
abbrev pub IsSilent : TreeOp → Type 0
IsSilent op = AllByRecursion (λ s. emits s ≡ false) op.body

-- where bytes spell a tree of version 1, none of its operations emits
abbrev pub FirstVersionEmitsNothing : Type 0
FirstVersionEmitsNothing = (bytes : List ℕ) (tree : Tree) → Spells bytes tree → tree.version ≡ 1 → AllByRecursion IsSilent tree.ops
