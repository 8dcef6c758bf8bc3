use Rattle.dl_pool_trial.proofs.Conditions.{may_claim_as}
use Rattle.dl_pool_trial.proofs.calls.claim_own.Goals as goal

pub claim-requires-clause-rule : goal.claim-requires-clause-rule
claim-requires-clause-rule c = may_claim_as c.args.table.now.key c.args.layout.now _ _ _ _ c.requires.layout.0 c.requires.number.0 c.requires.layout.1 c.requires.number.1 c.requires.spare
