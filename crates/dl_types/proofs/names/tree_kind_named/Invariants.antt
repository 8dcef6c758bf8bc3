use Rattle.std.proofs.Common.{◌≡◌, ◌+◌, drop}
use Rattle.dl_types.specs.Names.{tree_kind_named}
use Rattle.dl_types.proofs.names.tree_kind_named.Given as goal

abbrev pub invariant-loop-kind : goal.invariant-loop-kind
invariant-loop-kind l = record {
  counted : l.number ≡ 0 + l.kind-index;
  left : tree_kind_named l.number (drop l.kind-index l.kinds) l.name ≡ tree_kind_named 0 l.kinds l.name;
}
