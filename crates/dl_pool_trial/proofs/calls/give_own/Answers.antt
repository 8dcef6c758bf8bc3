use Rattle.dl_pool_trial.proofs.Conditions.{may_give}
use Rattle.dl_pool_trial.proofs.calls.give_own.Goals as goal

pub give_back-requires-clause-rule : goal.give_back-requires-clause-rule
give_back-requires-clause-rule c = may_give c.args.table.now.key _ _ _ c.requires.left.1 c.requires.spares.1 c.requires.left.0
