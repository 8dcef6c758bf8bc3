use Rattle.std.proofs.Common.{drop}
use Rattle.std.specs.List.{flat_map, zip}
use Rattle.dl_history.specs.Report.{field_text}
use Rattle.dl_text.proofs.Loops.{PutSoFar}
use Rattle.dl_history.proofs.heap_lines.put_fields.Given as goal

abbrev pub invariant-fields : goal.invariant-fields
invariant-fields g l = PutSoFar (g.K.Sink.taken l.initial.sink) (g.K.Sink.taken l.sink) l.initial.out l.out
    (flat_map field_text (zip l.decls l.values)) (flat_map field_text (zip (drop l.i l.decls) (drop l.i l.values)))
