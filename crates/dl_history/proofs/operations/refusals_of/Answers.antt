use Rattle.std.proofs.Common.{◌≡◌, ◌-◌, Some, None, slice_get, sym, ◌∙◌, ap, subst}
use Rattle.std.specs.Option.{option_copied}
use Rattle.dl_history.specs.Histories.{joined}
use Rattle.dl_history.specs.Orders.{AreRefusalsOf}
use Rattle.dl_history.proofs.Walk.{listed, unlisted}
use Rattle.dl_history.proofs.operations.refusals_of.Goals as goal

pub returns-in-Some : goal.returns-in-Some
returns-in-Some c =
    let there : slice_get c.args.refusals.now (c.args.caller - 1) ≡ Some c.in-Some.list.now = sym c.at.ensures ∙ ap option_copied c.in-Some.is in
    subst (AreRefusalsOf (joined c.args.refusals.now) c.args.caller) (sym c.as_slice.ensures)
    (listed c.args.refusals.now c.requires.by_caller c.args.caller c.requires.caller c.in-Some.list.now there)

pub returns-in-None : goal.returns-in-None
returns-in-None c =
    let there : slice_get c.args.refusals.now (c.args.caller - 1) ≡ None = sym c.at.ensures ∙ ap option_copied c.in-None.is in
    unlisted c.args.refusals.now c.requires.by_caller c.args.caller c.requires.caller there
