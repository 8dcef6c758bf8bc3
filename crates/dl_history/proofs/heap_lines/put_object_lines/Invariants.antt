use Rattle.std.specs.List.{flat_map}
use Rattle.std.specs.FinMap.{entries}
use Rattle.dl_history.specs.Report.{object_line}
use Rattle.dl_text.proofs.Loops.{PutSoFar}
use Rattle.dl_history.proofs.heap_lines.put_object_lines.Given as goal

abbrev pub invariant-objects : goal.invariant-objects
invariant-objects g l = PutSoFar (g.K.Sink.taken l.initial.sink) (g.K.Sink.taken l.sink) l.initial.out l.out
    (flat_map (object_line l.source) (entries l.heap.objects)) (flat_map (object_line l.source) l.name-iterator)
