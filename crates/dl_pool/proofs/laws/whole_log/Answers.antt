use Rattle.dl_pool.proofs.Logs.{whole_logs}
use Rattle.dl_pool.proofs.laws.whole_log.Goals as goal

pub returns : goal.returns
returns c = whole_logs
