use Rattle.dl_pool_trial.proofs.Conditions.{may_reserve}
use Rattle.dl_pool_trial.proofs.calls.reserve_own.Goals as goal

pub reserve-requires-clause-rule : goal.reserve-requires-clause-rule
reserve-requires-clause-rule c = may_reserve c.args.table.now.key _ _ _ c.requires.left.1 c.requires.left.0
