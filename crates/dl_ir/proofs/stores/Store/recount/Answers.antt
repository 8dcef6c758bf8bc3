use Rattle.std.proofs.Common.{ap, sym, ◌∙◌, refl}
use Rattle.std.specs.Option.{option_map}
use Rattle.dl_ir.specs.Joined.{recounted_head}
use Rattle.dl_ir.specs.Counted.{recounted_row}
use Rattle.dl_ir.proofs.Joining.{joined-heads, stored-heads, get-joined, seals-joined, row_at}
use Rattle.dl_ir.proofs.stores.Store.recount.Goals as goal

pub recount-requires : goal.recount-requires
recount-requires c head is some =
    let tails = c.self.inside.tails.rows in
    (rw (← c.self.view_is) at c.requires) (row_at tails c.args.name head) (get-joined c.self.inside.heads.rows tails c.args.name ∙ ap (option_map (row_at tails c.args.name)) is) some

pub invariant_of-self : goal.invariant_of-self
invariant_of-self c = rw c.recount.ensures.recounted (stored-heads c.self.inside.heads c.self.inside.tails c.self.invariant c.args.name (recounted_head c.args.more c.args.fewer) (λ head good. record { few = good.few; full = good.full }) (λ head. refl))

pub returns-clause-before : goal.returns-clause-before
returns-clause-before c = rw (← c.self.view_is) (c.recount.ensures.before ∙ sym (seals-joined c.self.inside.heads.rows c.self.inside.tails.rows c.args.name))

pub returns-clause-recounted : goal.returns-clause-recounted
returns-clause-recounted c = rw (← c.self.view_is, c.recount.ensures.recounted) (ap (λ m. record { rows = m; room = c.self.inside.heads.room }) (joined-heads c.self.inside.heads.rows c.self.inside.tails.rows c.args.name (recounted_head c.args.more c.args.fewer) (recounted_row c.args.more c.args.fewer) (λ head is. refl)))
