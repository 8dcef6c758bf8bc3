use Rattle.std.proofs.Common.{◌≡◌, drop, [], length}
use Rattle.dl_types.specs.Checks.{each}
use Rattle.dl_types.specs.Declarations.{field_typed}
use Rattle.dl_types.proofs.declarations.fields_typed.Given as goal

abbrev pub invariant-loop-field : goal.invariant-loop-field
invariant-loop-field l = record {
  count : length l.typed ≡ l.field-index;
  left : each (field_typed l.kinds) l.typed (drop l.field-index l.fields) ≡ each (field_typed l.kinds) [] l.fields;
}
