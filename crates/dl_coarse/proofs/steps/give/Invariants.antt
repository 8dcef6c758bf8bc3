use Rattle.dl_coarse.specs.Sights.{sight_after}
use Rattle.dl_coarse.proofs.steps.give.Given as goal
use Rattle.dl_core.specs.Turns.{call_of}

abbrev pub ghosts-give_at : goal.ghosts-give_at
ghosts-give_at g a = record { sight = sight_after (g.M.Machine.state a.machine) (call_of a.op a.args.now) a.answer.now a.seat.now.me.0 }
