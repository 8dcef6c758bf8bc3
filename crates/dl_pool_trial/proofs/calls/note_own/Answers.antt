use Rattle.dl_pool_trial.proofs.Conditions.{may_note}
use Rattle.dl_pool_trial.proofs.calls.note_own.Goals as goal

pub note-requires-clause-rule : goal.note-requires-clause-rule
note-requires-clause-rule c = may_note c.args.table.now.key _ _
