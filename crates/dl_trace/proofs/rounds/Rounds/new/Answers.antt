use Rattle.dl_trace.proofs.Makings.{left_now}
use Rattle.dl_trace.proofs.rounds.Rounds.new.Goals as goal

pub invariant_of-result : goal.invariant_of-result
invariant_of-result c = record { left = left_now c.args.core.now c.args.files.now c.requires.way }
