use Rattle.std.proofs.Common.{ap, refl}
use Rattle.dl_ir.specs.Joined.{sealed_head}
use Rattle.dl_ir.specs.Counted.{sealed_row}
use Rattle.dl_ir.proofs.Joining.{joined-heads, stored-heads}
use Rattle.dl_ir.proofs.stores.Store.seal.Goals as goal

pub invariant_of-self : goal.invariant_of-self
invariant_of-self c = rw c.seal.ensures (stored-heads c.self.inside.heads c.self.inside.tails c.self.invariant c.args.name sealed_head (λ head good. record { few = good.few; full = good.full }) (λ head. refl))

pub returns : goal.returns
returns c = rw (← c.self.view_is, c.seal.ensures) (ap (λ m. record { rows = m; room = c.self.inside.heads.room }) (joined-heads c.self.inside.heads.rows c.self.inside.tails.rows c.args.name sealed_head sealed_row (λ head is. refl)))
