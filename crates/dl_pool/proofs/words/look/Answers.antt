use Rattle.std.proofs.Common.{rules}
use Rattle.dl_pool.proofs.Keeps.{looks_allowed}
use Rattle.dl_pool.proofs.words.look.Goals as goal

pub load-requires : goal.load-requires
load-requires g c = (search rules, search rules, looks_allowed (g.P.TableRule.holds c.args.table.now.key) (g.P.Pooled.opening c.args.table.now.key) (g.P.Pooled.callers c.args.table.now.key) (g.P.Pooled.layout c.args.table.now.key) (g.met.P.Pooled.contains c.args.table.now.key) _ _ _ _ _ c.requires.rule)
