use Rattle.std.proofs.Common.{◌≡◌, ◌+◌, drop}
use Rattle.dl_types.specs.Names.{local_named}
use Rattle.dl_types.proofs.names.local_named.Given as goal

abbrev pub invariant-loop-local : goal.invariant-loop-local
invariant-loop-local l = record {
  counted : l.number ≡ l.from + l.local-index;
  left : local_named l.number (drop l.local-index l.locals) l.name ≡ local_named l.from l.locals l.name;
}
