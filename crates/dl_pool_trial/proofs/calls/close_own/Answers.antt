use Rattle.dl_pool_trial.proofs.Adding.{closes}
use Rattle.dl_pool_trial.proofs.calls.close_own.Goals as goal

pub returns : goal.returns
returns c = closes c.args.table.shared.key c.args.seat.id c.args.seat.me.0 _ _ _ c.close_with-closed.ensures.values.2 c.word-word.ensures c.requires.all
