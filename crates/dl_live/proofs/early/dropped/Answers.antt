use Rattle.dl_live.proofs.Tables.{made_by}
use Rattle.dl_live.proofs.early.dropped.Goals as goal

pub returns-in_ok-table-in-Some : goal.returns-in_ok-table-in-Some
returns-in_ok-table-in-Some c = made_by c.args.op.now c.args.steps.now c.in_ok-table-in-Some.table c.spread.result c.in_ok-table-in-Some.ensures c.spread.ensures
