use Rattle.std.proofs.Common.{◌≡◌}
use Rattle.dl_serial.specs.Progress.{IsAfter}
use Rattle.dl_serial.proofs.serving.run_calls.Given as goal

abbrev pub invariant-loop-at : goal.invariant-loop-at
invariant-loop-at l = record {
  same : l.call-items ≡ l.calls;
  after : IsAfter l.source l.places l.first l.fn.heap.objects l.calls l.at l.line l.heap;
}
