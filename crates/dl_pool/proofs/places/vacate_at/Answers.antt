use Rattle.std.proofs.Common.{rules}
use Rattle.dl_pool.proofs.Keeps.{vacates_allowed_as}
use Rattle.dl_pool.proofs.places.vacate_at.Goals as goal

pub store-requires : goal.store-requires
store-requires g c = (search rules, search rules, vacates_allowed_as (g.P.TableRule.holds c.args.table.now.key) (g.P.Pooled.opening c.args.table.now.key) (g.P.Pooled.callers c.args.table.now.key) (g.P.Pooled.layout c.args.table.now.key) (g.met.P.Pooled.contains c.args.table.now.key) _ _ _ _ _ _ g.O.Onward.vacated _ c.requires.named.0 c.requires.named.1 c.requires.rule)
