use Rattle.std.proofs.Common.{◌≡◌, ◌+◌, ◌≤◌, drop, [], length, sum_by, All}
use Rattle.std.specs.List.{AllByRecursion}
use Rattle.dl_ir.specs.declared.modules.KindDecl.{KindDecl}
use Rattle.dl_grammar.specs.declared.tree.TreeKind.{TreeKind}
use Rattle.dl_types.specs.Checks.{each}
use Rattle.dl_types.specs.Declarations.{kind_typed}
use Rattle.dl_types.proofs.declarations.kinds_typed.Given as goal

abbrev pub invariant-loop-kind : goal.invariant-loop-kind
invariant-loop-kind l = record {
  count : length l.typed ≡ l.kind-index;
  roots : l.next ≡ sum_by (λ (k : KindDecl). k.count) l.typed;
  few_roots : l.next + sum_by (λ (k : TreeKind). k.count) (drop l.kind-index l.kinds) ≤ 1024;
  few_fields : AllByRecursion (λ (k : TreeKind). length k.fields ≤ 16) (drop l.kind-index l.kinds);
  each_few : All (λ (k : KindDecl). length k.fields ≤ 16) l.typed;
  left : each (kind_typed l.kinds) l.typed (drop l.kind-index l.kinds) ≡ each (kind_typed l.kinds) [] l.kinds;
}
