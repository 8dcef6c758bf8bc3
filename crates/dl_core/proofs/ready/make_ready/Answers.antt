use Rattle.std.proofs.Common.{refl}
use Rattle.dl_core.proofs.Ways.{space, on_way_on, steps_on, steps_fall, end_can, end_ready, end_due, end_rooms}
use Rattle.dl_core.proofs.ready.make_ready.Goals as goal

pub loop-due-init : goal.loop-due-init
loop-due-init c = record { can = c.requires; rooms = refl; leads = λ plan same. refl }

pub go-requires-clause-space : goal.go-requires-clause-space
go-requires-clause-space c = space c.args.code.now c.loop-due.frame c.loop-due.invariant.can

pub returns-in-Some-clause-can : goal.returns-in-Some-clause-can
returns-in-Some-clause-can c = end_can c.args.code.now c.args.frame.now c.loop-due.frame c.go.new.frame c.in-Some.due c.loop-due.invariant (c.in-Some.ensures).next c.go.ensures.rooms

pub returns-in-Some-clause-ready : goal.returns-in-Some-clause-ready
returns-in-Some-clause-ready c = end_ready c.args.code.now c.args.frame.now c.loop-due.frame c.go.new.frame c.in-Some.due c.loop-due.invariant (c.in-Some.ensures).next c.go.ensures.rooms

pub returns-in-Some-clause-due : goal.returns-in-Some-clause-due
returns-in-Some-clause-due c = end_due c.args.code.now c.args.frame.now c.loop-due.frame c.go.new.frame c.in-Some.due c.loop-due.invariant (c.in-Some.ensures).next c.go.ensures.rooms

pub returns-in-Some-clause-rooms : goal.returns-in-Some-clause-rooms
returns-in-Some-clause-rooms c = end_rooms c.args.code.now c.args.frame.now c.loop-due.frame c.go.new.frame c.in-Some.due c.loop-due.invariant (c.in-Some.ensures).next c.go.ensures.rooms

pub loop-due-smaller : goal.loop-due-smaller
loop-due-smaller c = steps_fall c.args.code.now c.loop-due.frame c.go.new.frame c.loop-due.invariant.can c.in-None.ensures.next c.go.ensures.rooms

pub loop-due-preserved : goal.loop-due-preserved
loop-due-preserved c = on_way_on c.args.code.now c.args.frame.now c.loop-due.frame c.go.new.frame c.loop-due.invariant (steps_on c.args.code.now c.loop-due.frame c.go.new.frame c.loop-due.invariant.can c.in-None.ensures.next c.go.ensures.rooms)
