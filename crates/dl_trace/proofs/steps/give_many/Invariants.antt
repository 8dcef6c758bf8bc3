use Rattle.std.proofs.Common.{replicate}
use Rattle.std.specs.Prelude.{fold}
use Rattle.dl_trace.specs.Going.{GoesOn}
use Rattle.dl_trace.specs.Runs.{give_to}
use Rattle.dl_trace.proofs.steps.give_many.Given as goal

abbrev pub invariant-times : goal.invariant-times
invariant-times g l = GoesOn l.files (λ plan run. fold (give_to plan l.files) run (replicate l._time l.give.caller)) l.fn.core l.core l.fn.tally l.tally (g.K.Sink.taken l.fn.sink) (g.K.Sink.taken l.sink) l.fn.out l.out
