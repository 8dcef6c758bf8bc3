use Rattle.dl_pool_trial.proofs.Conditions.{opens}
use Rattle.dl_pool_trial.proofs.calls.open.Goals as goal

pub of_words-requires : goal.of_words-requires
of_words-requires c = opens c.args.setting.now c.requires.0 c.requires.1 c.requires.2
