use Rattle.std.proofs.Common.{ap, sym, ◌∙◌}
use Rattle.std.specs.Option.{option_map}
use Rattle.dl_ir.specs.declared.rows.Head.{Head}
use Rattle.dl_ir.proofs.Joining.{counts-joined}
use Rattle.dl_ir.proofs.stores.Store.count.Goals as goal

pub returns-in-Some : goal.returns-in-Some
returns-in-Some c = rw (← c.self.view_is) (ap (option_map (λ (head : Head). head.refs)) c.in-Some.ensures ∙ sym (counts-joined c.self.inside.heads.rows c.self.inside.tails.rows c.args.name))

pub returns-in-None : goal.returns-in-None
returns-in-None c = rw (← c.self.view_is) (ap (option_map (λ (head : Head). head.refs)) c.in-None.ensures ∙ sym (counts-joined c.self.inside.heads.rows c.self.inside.tails.rows c.args.name))
