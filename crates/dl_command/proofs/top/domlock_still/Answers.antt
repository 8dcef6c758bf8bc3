use Rattle.dl_command.specs.Wishes.{still_wish_of_words}
use Rattle.dl_command.proofs.WorkLemmas.{comes_keeps}
use Rattle.dl_command.proofs.top.domlock_still.Goals as goal

pub returns : goal.returns
returns g c = comes_keeps (still_wish_of_words c.args.words.now) _ _ _ _ c.run_still.result c.spelled_has_names.ensures c.run_still.ensures
