use Rattle.dl_core.proofs.GoodCode as code
use Rattle.dl_core.proofs.laws.plans_have_good_code.Goals as goal

pub returns : goal.returns
returns c = code.plans_have_good_code
