use Rattle.dl_trace.proofs.Goings.{puts_on, puts_still}
use Rattle.dl_trace.proofs.tally.show.Goals as goal

pub returns-in-Ok-clause-puts : goal.returns-in-Ok-clause-puts
returns-in-Ok-clause-puts g c = λ start first text told. puts_on c.args.shown _ c.in-Ok.is told c.put_step_line.ensures

pub returns-in-Err-clause-puts : goal.returns-in-Err-clause-puts
returns-in-Err-clause-puts g c = λ start first text told. puts_still _ c.args.shown _ c.in-Err.is told
