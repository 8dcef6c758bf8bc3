-- The limits that each tree of a module text keeps, and what the laws of checked modules say.
use Rattle.std.specs.Prelude.{◌≡◌, ◌≤◌, true, length, sum_by}
use Rattle.std.specs.List.{AllByRecursion}
use Rattle.dl_ir.specs.declared.modules.Module.{Module}
use Rattle.dl_ir.specs.Checked.{IsChecked}
use Rattle.dl_grammar.specs.declared.tree.Tree.{Tree}
use Rattle.dl_grammar.specs.declared.tree.TreeKind.{TreeKind}
use Rattle.dl_grammar.specs.Limits.{IsInLimits, IsOpInLimits}
use Rattle.dl_types.specs.Rules.{Types}

-- a root kind has a root
abbrev pub HasSomeRoot : TreeKind → Type 0
HasSomeRoot kind = kind.is_root ≡ true → 1 ≤ kind.count

-- a kind has at most 16 fields
abbrev pub HasFewFields : TreeKind → Type 0
HasFewFields kind = length kind.fields ≤ 16

-- the limits of a tree, element by element, as the checker goes through it
pub record IsBounded (tree : Tree) : Type 0 where
  pub few_kinds : length tree.kinds ≤ 16
  pub some_roots : AllByRecursion HasSomeRoot tree.kinds
  pub few_fields : AllByRecursion HasFewFields tree.kinds
  pub few_roots : sum_by (λ (kind : TreeKind). kind.count) tree.kinds ≤ 1024
  pub few_ops : length tree.ops ≤ 64
  pub ops : AllByRecursion IsOpInLimits tree.ops

-- the module that a tree within the limits is, is checked
abbrev pub TypedIsChecked : Type 0
TypedIsChecked = (tree : Tree) (source : Module) → IsInLimits tree → Types tree source → IsChecked source
