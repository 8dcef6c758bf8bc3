use Rattle.std.proofs.Common.{◌≡◌}
use Rattle.dl_trace.specs.Going.{MadeRounds}
use Rattle.dl_trace.proofs.running.make_rounds.Given as goal

abbrev pub invariant-rounds : goal.invariant-rounds
invariant-rounds g l = record {
  made : MadeRounds l.fn.files l.fn.core l.rounds.core.now l.fn.tally l.tally (g.K.Sink.taken l.fn.sink) (g.K.Sink.taken l.sink) l.fn.out l.out;
  files : l.rounds.files.now ≡ l.fn.files;
  reference : l.rounds.core.ghost_name ≡ l.initial.rounds.core.ghost_name;
}

abbrev pub decreases-rounds : goal.decreases-rounds
decreases-rounds g l = l.rounds.left.0
