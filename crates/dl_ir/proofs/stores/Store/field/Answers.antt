use Rattle.std.proofs.Common.{◌-◌, List, ap, sym, ◌∙◌}
use Rattle.std.specs.Prelude.{option_and_then, slice_get}
use Rattle.dl_ir.specs.declared.names.Value.{Value}
use Rattle.dl_ir.specs.declared.rows.Head.{Head}
use Rattle.dl_ir.proofs.Joining.{read-near, read-far}
use Rattle.dl_ir.proofs.stores.Store.field.Goals as goal

pub returns-in-Some : goal.returns-in-Some
returns-in-Some c = rw (← c.self.view_is) (
    c.get-in-Some.ensures ∙ ap (option_and_then (λ (head : Head). slice_get head.near c.args.at)) c.in-Some.ensures
    ∙ sym (read-near c.self.inside.heads c.self.inside.tails c.self.invariant c.args.name c.args.at c.if-at-lt4.true))

pub returns-in-None : goal.returns-in-None
returns-in-None c = rw (← c.self.view_is) (
    ap (option_and_then (λ (head : Head). slice_get head.near c.args.at)) c.in-None.ensures
    ∙ sym (read-near c.self.inside.heads c.self.inside.tails c.self.invariant c.args.name c.args.at c.if-at-lt4.true))

pub returns-in-Some-get : goal.returns-in-Some-get
returns-in-Some-get c = rw (← c.self.view_is) (
    c.get-in-Some-get.ensures ∙ ap (option_and_then (λ (far : List Value). slice_get far (c.args.at - 4))) c.in-Some-get.ensures
    ∙ sym (read-far c.self.inside.heads c.self.inside.tails c.self.invariant c.args.name c.args.at c.if-at-lt4.false))

pub returns-in-None-get : goal.returns-in-None-get
returns-in-None-get c = rw (← c.self.view_is) (
    ap (option_and_then (λ (far : List Value). slice_get far (c.args.at - 4))) c.in-None-get.ensures
    ∙ sym (read-far c.self.inside.heads c.self.inside.tails c.self.invariant c.args.name c.args.at c.if-at-lt4.false))
