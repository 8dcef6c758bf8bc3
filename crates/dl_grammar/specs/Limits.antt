-- The limits that each tree of a module text keeps.
use Rattle.std.specs.Prelude.{◌≡◌, ◌+◌, ◌≤◌, ◌⊎◌, true, length, sum_by, All}
use Rattle.dl_grammar.specs.declared.tree.Tree.{Tree}
use Rattle.dl_grammar.specs.declared.tree.TreeKind.{TreeKind}
use Rattle.dl_grammar.specs.declared.tree.TreeOp.{TreeOp}

-- a root kind has a root, and a kind has at most 16 fields
pub record IsKindInLimits (kind : TreeKind) : Type 0 where
  pub rooted : kind.is_root ≡ true → 1 ≤ kind.count
  pub few_roots : kind.count ≤ 1024
  pub few_fields : length kind.fields ≤ 16

-- an operation has at most 32 locals, makes at most 64 objects and has at most 1,000,000 turns
pub record IsOpInLimits (op : TreeOp) : Type 0 where
  pub few_locals : length op.params + length op.vars ≤ 32
  pub few_allocs : op.allocs ≤ 64
  pub little_fuel : op.fuel ≤ 1000000

-- a tree is of version 1 or 2 and has at most 16 kinds, 64 operations and 1,024 roots in all
pub record IsInLimits (tree : Tree) : Type 0 where
  pub version : (tree.version ≡ 1) ⊎ (tree.version ≡ 2)
  pub few_kinds : length tree.kinds ≤ 16
  pub kinds : All IsKindInLimits tree.kinds
  pub few_roots : sum_by (λ (kind : TreeKind). kind.count) tree.kinds ≤ 1024
  pub few_ops : length tree.ops ≤ 64
  pub ops : All IsOpInLimits tree.ops
