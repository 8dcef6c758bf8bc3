use Rattle.dl_pool_trial.proofs.Conditions.{may_vacate_as}
use Rattle.dl_pool_trial.proofs.calls.vacate_own.Goals as goal

pub vacate-requires-clause-rule : goal.vacate-requires-clause-rule
vacate-requires-clause-rule c = may_vacate_as c.args.table.now.key c.args.layout.now _ _ _ c.requires.layout.0 c.requires.claimed
