use Rattle.dl_core.proofs.Ways.{space}
use Rattle.dl_core.proofs.Recounting.{can_loosened}
use Rattle.dl_core.proofs.effects.wrote.Goals as goal

pub loosen-requires : goal.loosen-requires
loosen-requires c = space c.args.code.now c.recount.new.frame (c.recount.ensures.can c.requires.can)

pub make_ready-requires : goal.make_ready-requires
make_ready-requires c = can_loosened c.args.code.now c.recount.new.frame c.loosen.new.frame c.target_held-lost.result c.loosen.ensures.rooms c.loosen.ensures.shown (c.recount.ensures.can c.requires.can)
