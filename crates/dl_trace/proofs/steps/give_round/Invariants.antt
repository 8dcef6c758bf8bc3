use Rattle.std.specs.Prelude.{fold}
use Rattle.dl_core.specs.Sound.{numbers_from}
use Rattle.dl_trace.specs.Going.{GoesOn}
use Rattle.dl_trace.specs.Runs.{take_turn}
use Rattle.dl_trace.proofs.steps.give_round.Given as goal

abbrev pub invariant-callers : goal.invariant-callers
invariant-callers g l = GoesOn l.files (λ plan run. fold (take_turn plan l.files) run (numbers_from 1 l.place)) l.fn.core l.core l.fn.tally l.tally (g.K.Sink.taken l.fn.sink) (g.K.Sink.taken l.sink) l.fn.out l.out
