use Rattle.dl_live.proofs.Lives.{all_marked}
use Rattle.dl_live.proofs.live.live_places.Goals as goal

pub returns-then-not-sweep : goal.returns-then-not-sweep
returns-then-not-sweep c = λ at. (
  c.sweep.ensures.sound at,
  all_marked c.args.steps.now c.args.local c.sweep.new.marks c.if-not-sweep.ensures.more at,
)
