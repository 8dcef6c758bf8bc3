use Rattle.dl_pool_trial.proofs.Conditions.{may_join}
use Rattle.dl_pool_trial.proofs.calls.join_own.Goals as goal

pub join-requires-clause-rule : goal.join-requires-clause-rule
join-requires-clause-rule c = may_join c.args.table.now.key _ _ _ _
