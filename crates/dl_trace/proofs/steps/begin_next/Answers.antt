use Rattle.std.proofs.Common.{◌∙◌, sym, ap}
use Rattle.std.specs.Option.{option_copied}
use Rattle.dl_trace.proofs.Goings.{may_begin_next, under_way_begun}
use Rattle.dl_trace.proofs.steps.begin_next.Goals as goal

pub begin-requires : goal.begin-requires
begin-requires c =
    let next = sym c.next_call.ensures ∙ ap (λ o. option_copied o) c.in-Some.is in
    record { may = (c.requires.way.plan, c.requires.way.calls, c.requires.way.running, may_begin_next c.args.core.now c.args.files.now c.requires.way c.args.caller c.in-Some.call.now c.requires.caller (c.is_idle.ensures.0 c.if-not-is_idle.false) next) }

pub returns-in-Some-clause-way : goal.returns-in-Some-clause-way
returns-in-Some-clause-way c =
    let next = sym c.next_call.ensures ∙ ap (λ o. option_copied o) c.in-Some.is in
    let may = may_begin_next c.args.core.now c.args.files.now c.requires.way c.args.caller c.in-Some.call.now c.requires.caller (c.is_idle.ensures.0 c.if-not-is_idle.false) next in
    under_way_begun c.args.core.now c.begin.new.self c.args.files.now c.requires.way c.args.caller c.in-Some.call.now c.requires.caller (c.is_idle.ensures.0 c.if-not-is_idle.false) next
    (c.begin.ensures.running c.requires.way.plan c.requires.way.calls c.requires.way.running may)
