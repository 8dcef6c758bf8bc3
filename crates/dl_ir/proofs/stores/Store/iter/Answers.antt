use Rattle.std.proofs.Common.{ap, sym, ◌∙◌}
use Rattle.dl_ir.specs.Counted.{objects_along}
use Rattle.dl_ir.specs.Joined.{along}
use Rattle.dl_ir.proofs.Joining.{entries-joined}
use Rattle.dl_ir.proofs.stores.Store.iter.Goals as goal

pub returns : goal.returns
returns c = rw (← c.self.view_is) (ap (λ es. objects_along (along c.self.inside.tails.rows es)) c.iter.ensures ∙ sym (ap objects_along (entries-joined c.self.inside.heads.rows c.self.inside.tails.rows)))
