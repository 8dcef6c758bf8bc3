use Rattle.std.proofs.Common.{◌≡◌, ◌+◌, drop}
use Rattle.dl_types.specs.Names.{field_named}
use Rattle.dl_types.proofs.names.field_named.Given as goal

abbrev pub invariant-loop-field : goal.invariant-loop-field
invariant-loop-field l = record {
  counted : l.number ≡ 0 + l.field-index;
  left : field_named l.number (drop l.field-index l.fields) l.name ≡ field_named 0 l.fields l.name;
}
