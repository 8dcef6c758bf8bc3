use Rattle.std.proofs.Common.{take}
use Rattle.dl_trace.specs.Going.{GoesOn}
use Rattle.dl_trace.specs.Runs.{scheduled}
use Rattle.dl_trace.proofs.steps.give_schedule.Given as goal

abbrev pub invariant-gives : goal.invariant-gives
invariant-gives g l = GoesOn l.files (λ plan run. scheduled plan l.files (take l.give-index l.schedule) run) l.fn.core l.core l.fn.tally l.tally (g.K.Sink.taken l.fn.sink) (g.K.Sink.taken l.sink) l.fn.out l.out
