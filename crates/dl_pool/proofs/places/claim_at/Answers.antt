use Rattle.std.proofs.Common.{rules}
use Rattle.dl_pool.proofs.Keeps.{claims_allowed_as}
use Rattle.dl_pool.proofs.places.claim_at.Goals as goal

pub compare_exchange-requires : goal.compare_exchange-requires
compare_exchange-requires g c = (search rules, search rules, claims_allowed_as (g.P.TableRule.holds c.args.table.now.key) (g.P.Pooled.opening c.args.table.now.key) (g.P.Pooled.callers c.args.table.now.key) (g.P.Pooled.layout c.args.table.now.key) (g.met.P.Pooled.contains c.args.table.now.key) _ _ _ _ _ _ _ g.O.Onward.claimed _ c.requires.named.0 c.requires.named.1 c.requires.rule)
