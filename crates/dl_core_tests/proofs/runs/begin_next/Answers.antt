use Rattle.std.proofs.Common.{◌∙◌, sym, ap}
use Rattle.std.specs.Option.{option_copied}
use Rattle.dl_core.specs.Reached.{with_begun}
use Rattle.dl_core_tests.proofs.UnderWay.{may_begin, way_goes_on}
use Rattle.dl_core_tests.proofs.runs.begin_next.Goals as goal

pub begin-requires : goal.begin-requires
begin-requires c =
    let way = c.requires.way in
    let next = sym c.next_call.ensures ∙ ap (λ o. option_copied o) c.in-Some.is in
    let may = may_begin c.args.core.now c.args.files.now way c.args.caller c.in-Some.call.now c.requires.caller (c.is_idle.ensures.0 c.if-not-is_idle.false) next in
    record { may = (way.plan, way.calls, way.running, may) }

pub returns-in-Some-clause-way : goal.returns-in-Some-clause-way
returns-in-Some-clause-way c =
    let way = c.requires.way in
    let next = sym c.next_call.ensures ∙ ap (λ o. option_copied o) c.in-Some.is in
    let may = may_begin c.args.core.now c.args.files.now way c.args.caller c.in-Some.call.now c.requires.caller (c.is_idle.ensures.0 c.if-not-is_idle.false) next in
    way_goes_on c.args.core.now c.args.files.now way c.begin.new.self (with_begun way.calls c.args.caller c.in-Some.call.now) (c.begin.ensures.running way.plan way.calls way.running may)
