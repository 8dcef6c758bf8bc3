use Rattle.dl_pool_trial.proofs.Conditions.{may_deal}
use Rattle.dl_pool_trial.proofs.calls.deal_own.Goals as goal

pub deal-requires-clause-rule : goal.deal-requires-clause-rule
deal-requires-clause-rule c = may_deal c.args.table.now.key _ _ c.requires.dealing.0 c.requires.dealing.1 c.requires.dealing.2
