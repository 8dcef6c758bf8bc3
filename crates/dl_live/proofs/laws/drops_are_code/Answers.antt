use Rattle.dl_live.proofs.Codes.{dropped_is_code}
use Rattle.dl_live.proofs.One.{dropped_is_one}
use Rattle.dl_live.proofs.laws.drops_are_code.Goals as goal

pub returns-clause-code : goal.returns-clause-code
returns-clause-code c = dropped_is_code

pub returns-clause-one : goal.returns-clause-one
returns-clause-one c = dropped_is_one
