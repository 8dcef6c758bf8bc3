use Rattle.std.proofs.Common.{ℕ, length, ◌<◌, ap, sym, subst, ◌∙◌}
use Rattle.dl_ir.specs.declared.calls.Call.{Call}
use Rattle.dl_core.specs.Plans.{Plan, size_of}
use Rattle.dl_core.specs.Turns.{MayRun}
use Rattle.dl_coarse.specs.Sights.{Sight, own_of}
use Rattle.dl_coarse.proofs.Views.{may_run, leaves_here, rests, may_mark, is_marked, may_give, progresses}
use Rattle.dl_coarse.proofs.turns.take_turn.Goals as goal
use Rattle.dl_core.specs.Turns.{call_of}

pub mark-requires-clause-may : goal.mark-requires-clause-may
mark-requires-clause-may g c =
    let plan : Plan = g.M.Machine.opening c.args.table.now.key in
    let before : Sight = c.args.seat.now.me.0 in
    let call : Call = (call_of c.args.op c.args.args.now) in
    let got = c.in_ok-machine.ensures.ok in
    let room : length (own_of before).calls < size_of plan (own_of before).number = subst (λ (n : ℕ). length (own_of before).calls < size_of plan n) (sym c.requires.number.0) c.requires.room in
    let may = may_run g.M.Machine.runs g.M.Machine.state plan before call c.requires.resting.0 c.in_ok-machine.machine got.0 room c.requires.fits in
    let leaves = leaves_here g.M.Machine.state plan c.in_ok-machine.machine c.run-left.result.0 (own_of before).number c.args.number call c.run-left.result.1 c.requires.number.0 may (c.run-left.ensures.leaves plan got.0.of_run) in
    let of_run = c.run-left.ensures.runs plan got.0.of_run (subst (λ (n : ℕ). MayRun plan (g.M.Machine.state c.in_ok-machine.machine) n call) c.requires.number.0 may) in
    may_mark g.M.Machine.runs g.M.Machine.state plan before call c.requires.resting.0 c.in_ok-machine.machine got.0 room c.requires.fits c.run-left.result.0 c.run-left.result.1 of_run leaves
    c.grab.new.seat.me.0 c.version-old.result (ap (λ me. me.0) got.1) c.version-old.ensures

pub give-requires-clause-may : goal.give-requires-clause-may
give-requires-clause-may g c =
    let plan : Plan = g.M.Machine.opening c.args.table.now.key in
    let before : Sight = c.args.seat.now.me.0 in
    let call : Call = (call_of c.args.op c.args.args.now) in
    let got = c.in_ok-machine.ensures.ok in
    let room : length (own_of before).calls < size_of plan (own_of before).number = subst (λ (n : ℕ). length (own_of before).calls < size_of plan n) (sym c.requires.number.0) c.requires.room in
    let may = may_run g.M.Machine.runs g.M.Machine.state plan before call c.requires.resting.0 c.in_ok-machine.machine got.0 room c.requires.fits in
    let leaves = leaves_here g.M.Machine.state plan c.in_ok-machine.machine c.run-left.result.0 (own_of before).number c.args.number call c.run-left.result.1 c.requires.number.0 may (c.run-left.ensures.leaves plan got.0.of_run) in
    let of_run = c.run-left.ensures.runs plan got.0.of_run (subst (λ (n : ℕ). MayRun plan (g.M.Machine.state c.in_ok-machine.machine) n call) c.requires.number.0 may) in
    may_give g.M.Machine.runs g.M.Machine.state plan before call c.requires.resting.0 c.in_ok-machine.machine got.0 room c.requires.fits c.run-left.result.0 c.run-left.result.1 of_run leaves
    c.mark.new.seat.me.0
    (is_marked g.M.Machine.runs g.M.Machine.state plan before call c.requires.resting.0 c.in_ok-machine.machine got.0 room c.requires.fits c.run-left.result.0 c.run-left.result.1 of_run leaves
    c.grab.new.seat.me c.mark.new.seat.me (ap (λ me. me.0) got.1) c.mark.ensures.marked)

pub returns-clause-resting : goal.returns-clause-resting
returns-clause-resting g c =
    let plan : Plan = g.M.Machine.opening c.args.table.now.key in
    let before : Sight = c.args.seat.now.me.0 in
    let call : Call = (call_of c.args.op c.args.args.now) in
    let got = c.in_ok-machine.ensures.ok in
    let room : length (own_of before).calls < size_of plan (own_of before).number = subst (λ (n : ℕ). length (own_of before).calls < size_of plan n) (sym c.requires.number.0) c.requires.room in
    let may = may_run g.M.Machine.runs g.M.Machine.state plan before call c.requires.resting.0 c.in_ok-machine.machine got.0 room c.requires.fits in
    let leaves = leaves_here g.M.Machine.state plan c.in_ok-machine.machine c.run-left.result.0 (own_of before).number c.args.number call c.run-left.result.1 c.requires.number.0 may (c.run-left.ensures.leaves plan got.0.of_run) in
    let of_run = c.run-left.ensures.runs plan got.0.of_run (subst (λ (n : ℕ). MayRun plan (g.M.Machine.state c.in_ok-machine.machine) n call) c.requires.number.0 may) in
    let rest = rests g.M.Machine.runs g.M.Machine.state plan before call c.requires.resting.0 c.in_ok-machine.machine got.0 room c.requires.fits c.run-left.result.0 c.run-left.result.1 of_run leaves
    c.give.new.seat.me.0 c.mark.new.seat.me.0 c.mark.new.seat.me.0.look
    (is_marked g.M.Machine.runs g.M.Machine.state plan before call c.requires.resting.0 c.in_ok-machine.machine got.0 room c.requires.fits c.run-left.result.0 c.run-left.result.1 of_run leaves
    c.grab.new.seat.me c.mark.new.seat.me (ap (λ me. me.0) got.1) c.mark.ensures.marked) (ap (λ me. me.0) c.give.ensures.sight_after) in
    (rest.0, ap (λ me. me.1) c.give.ensures.sight_after, rest.1 ∙ c.requires.number.0)

pub returns-clause-ok : goal.returns-clause-ok
returns-clause-ok g c =
    let plan : Plan = g.M.Machine.opening c.args.table.now.key in
    let before : Sight = c.args.seat.now.me.0 in
    let call : Call = (call_of c.args.op c.args.args.now) in
    let got = c.in_ok-machine.ensures.ok in
    let room : length (own_of before).calls < size_of plan (own_of before).number = subst (λ (n : ℕ). length (own_of before).calls < size_of plan n) (sym c.requires.number.0) c.requires.room in
    let may = may_run g.M.Machine.runs g.M.Machine.state plan before call c.requires.resting.0 c.in_ok-machine.machine got.0 room c.requires.fits in
    let leaves = leaves_here g.M.Machine.state plan c.in_ok-machine.machine c.run-left.result.0 (own_of before).number c.args.number call c.run-left.result.1 c.requires.number.0 may (c.run-left.ensures.leaves plan got.0.of_run) in
    let of_run = c.run-left.ensures.runs plan got.0.of_run (subst (λ (n : ℕ). MayRun plan (g.M.Machine.state c.in_ok-machine.machine) n call) c.requires.number.0 may) in
    progresses g.M.Machine.runs g.M.Machine.state plan before call c.requires.resting.0 c.in_ok-machine.machine got.0 room c.requires.fits c.run-left.result.0 c.run-left.result.1 of_run leaves
    c.version-old.result c.grab.new.seat.me c.mark.new.seat.me c.give.new.seat.me.0 c.version-old.ensures (ap (λ me. me.0) got.1) c.mark.ensures.marked c.mark.ensures.look (ap (λ me. me.0) c.give.ensures.sight_after)

pub run-left-requires : goal.run-left-requires
run-left-requires g c =
    let plan : Plan = g.M.Machine.opening c.args.table.now.key in
    let before : Sight = c.args.seat.now.me.0 in
    let call : Call = (call_of c.args.op c.args.args.now) in
    let got = c.in_ok-machine.ensures.ok in
    let room : length (own_of before).calls < size_of plan (own_of before).number = subst (λ (n : ℕ). length (own_of before).calls < size_of plan n) (sym c.requires.number.0) c.requires.room in
    record { may = (plan, got.0.of_run, subst (λ (n : ℕ). MayRun plan (g.M.Machine.state c.in_ok-machine.machine) n call) c.requires.number.0 (may_run g.M.Machine.runs g.M.Machine.state plan before call c.requires.resting.0 c.in_ok-machine.machine got.0 room c.requires.fits)) }
