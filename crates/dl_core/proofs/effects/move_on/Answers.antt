use Rattle.dl_core.proofs.Recounting.{no_first}
use Rattle.dl_core.proofs.effects.move_on.Goals as goal

pub pass_step-requires : goal.pass_step-requires
pass_step-requires c = c.requires (no_first c.args.frame.now.loose.items c.in-None.ensures)
