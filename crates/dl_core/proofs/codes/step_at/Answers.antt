use Rattle.dl_core.proofs.Asking.{none_there}
use Rattle.dl_core.proofs.codes.step_at.Goals as goal

pub returns-in-None-clause-step : goal.returns-in-None-clause-step
returns-in-None-clause-step c = none_there c.args.code.now.ops c.args.op c.args.place c.in-None.ensures
