use Rattle.std.proofs.Common.{ap, sym, ◌-◌, ◌∙◌, refl}
use Rattle.dl_ir.specs.Joined.{near_with, far_with}
use Rattle.dl_ir.proofs.Joining.{stored-heads, stored-tails, near-good, read-near, read-far, written-near, written-far}
use Rattle.dl_ir.proofs.stores.Store.replace_field.Goals as goal

pub invariant_of-self : goal.invariant_of-self
invariant_of-self c = rw c.replace_near.ensures.written (
    stored-heads c.self.inside.heads c.self.inside.tails c.self.invariant c.args.name (near_with c.args.field c.args.value) (near-good c.args.field c.args.value) (λ head. refl))

pub invariant_of-self-else-field-lt4 : goal.invariant_of-self-else-field-lt4
invariant_of-self-else-field-lt4 c = rw c.replace_far.ensures.written (
    stored-tails c.self.inside.heads c.self.inside.tails c.self.invariant c.args.name (far_with (c.args.field - 4) c.args.value))

pub returns-then-field-lt4-clause-before : goal.returns-then-field-lt4-clause-before
returns-then-field-lt4-clause-before c = rw (← c.self.view_is) (
    c.replace_near.ensures.before ∙ sym (read-near c.self.inside.heads c.self.inside.tails c.self.invariant c.args.name c.args.field c.if-field-lt4.true))

pub returns-then-field-lt4-clause-written : goal.returns-then-field-lt4-clause-written
returns-then-field-lt4-clause-written c = rw (← c.self.view_is, c.replace_near.ensures.written) (
    ap (λ m. record { rows = m; room = c.self.inside.heads.room }) (
    written-near c.self.inside.heads c.self.inside.tails c.self.invariant c.args.name c.args.field c.args.value c.if-field-lt4.true))

pub returns-else-field-lt4-clause-before : goal.returns-else-field-lt4-clause-before
returns-else-field-lt4-clause-before c = rw (← c.self.view_is) (
    c.replace_far.ensures.before ∙ sym (read-far c.self.inside.heads c.self.inside.tails c.self.invariant c.args.name c.args.field c.if-field-lt4.false))

pub returns-else-field-lt4-clause-written : goal.returns-else-field-lt4-clause-written
returns-else-field-lt4-clause-written c = rw (← c.self.view_is, c.replace_far.ensures.written) (
    ap (λ m. record { rows = m; room = c.self.inside.heads.room }) (
    written-far c.self.inside.heads c.self.inside.tails c.self.invariant c.args.name c.args.field c.args.value c.if-field-lt4.false))
