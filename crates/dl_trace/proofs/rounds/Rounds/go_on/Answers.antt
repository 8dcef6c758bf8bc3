use Rattle.dl_trace.proofs.Makings.{left_now}
use Rattle.dl_trace.proofs.rounds.Rounds.go_on.Goals as goal

pub invariant_of-self : goal.invariant_of-self
invariant_of-self g c = record { left = left_now c.give_round.new.core c.args.self.now.files.now c.give_round.ensures.way }
