use Rattle.dl_order.proofs.Looking.{example, one_waits, both_run}
use Rattle.dl_order.proofs.example.example_runs.Goals as goal

pub returns-clause-example : goal.returns-clause-example
returns-clause-example c = example c.codes_of_modules.ensures.plain

pub returns-clause-waits : goal.returns-clause-waits
returns-clause-waits c = one_waits c.codes_of_modules.ensures.plain

pub returns-clause-run : goal.returns-clause-run
returns-clause-run c = both_run c.codes_of_modules.ensures.plain
