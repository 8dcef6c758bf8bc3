use Rattle.std.proofs.Common.{rules}
use Rattle.dl_pool.proofs.Keeps.{gives_allowed_as}
use Rattle.dl_pool.proofs.words.give.Goals as goal

pub fetch_add-requires : goal.fetch_add-requires
fetch_add-requires g c = (search rules, search rules, gives_allowed_as (g.P.TableRule.holds c.args.table.now.key) (g.P.Pooled.opening c.args.table.now.key) (g.P.Pooled.callers c.args.table.now.key) (g.P.Pooled.layout c.args.table.now.key) (g.met.P.Pooled.contains c.args.table.now.key) _ _ _ _ g.O.Onward.back _ c.requires.amount c.requires.spares c.requires.rule)
