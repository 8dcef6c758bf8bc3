use Rattle.std.proofs.Common.{refl, subst}
use Rattle.dl_serial.specs.Serving.{IsEntryOf}
use Rattle.dl_serial.proofs.Lines.{after_refusal, after_entry}
use Rattle.dl_serial.proofs.serving.serve.Goals as goal

pub returns-in_ok-push : goal.returns-in_ok-push
returns-in_ok-push c places first count begun calls after there is =
    after_refusal c.args.source.now places first begun calls count c.args.line.now c.args.heap.now c.args.call.now _ c.push.new.self after there
    (rw (← c.allocs-need.ensures) c.if-line-need.true)
    (record { caller = refl; index = is; need = c.allocs-need.ensures; found = after.free; version = refl })
    c.in_ok-push.ensures.ok

pub returns-in_ok-push-2 : goal.returns-in_ok-push-2
returns-in_ok-push-2 c places first count begun calls after there is =
    after_entry c.args.source.now places first begun calls count c.args.line.now c.carry_out.new.line c.args.heap.now c.carry_out.new.heap c.args.call.now c.in_ok-entry.entry c.push-else-line-need.new.self after there
    (rw (← c.allocs-need.ensures) c.if-line-need.false)
    (subst (λ n. IsEntryOf c.args.source.now c.args.heap.now.objects c.args.call.now c.args.line.now.ticket n c.args.line.now.version c.in_ok-entry.entry) is c.in_ok-entry.ensures.entry)
    c.in_ok-entry.ensures.left c.in_ok-entry.ensures.line c.in_ok-push-2.ensures.ok
