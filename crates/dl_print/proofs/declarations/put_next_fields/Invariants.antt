use Rattle.std.proofs.Common.{drop}
use Rattle.std.specs.List.{flat_map}
use Rattle.dl_print.specs.Canonical.{next_field}
use Rattle.dl_print.proofs.Steps.{PutSoFar}
use Rattle.dl_print.proofs.declarations.put_next_fields.Given as goal

abbrev pub invariant-fields : goal.invariant-fields
invariant-fields g l =
    PutSoFar (g.K.Sink.taken l.initial.sink) (g.K.Sink.taken l.sink) l.initial.out l.out (flat_map next_field l.fields) (flat_map next_field (drop l.field-index l.fields))
