use Rattle.std.proofs.Common.{sym, ◌∙◌}
use Rattle.dl_ir.proofs.Joining.{len-joined}
use Rattle.dl_ir.proofs.stores.Store.len.Goals as goal

pub returns : goal.returns
returns c = rw (← c.self.view_is) (c.len.ensures ∙ sym (len-joined c.self.inside.heads.rows c.self.inside.tails.rows))
