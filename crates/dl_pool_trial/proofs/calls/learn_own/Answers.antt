use Rattle.dl_pool_trial.proofs.Conditions.{may_learn}
use Rattle.dl_pool_trial.proofs.calls.learn_own.Goals as goal

pub learn-requires-clause-rule : goal.learn-requires-clause-rule
learn-requires-clause-rule c = may_learn c.args.table.now.key _ _ _ _ c.requires.note.0 c.requires.note.2
