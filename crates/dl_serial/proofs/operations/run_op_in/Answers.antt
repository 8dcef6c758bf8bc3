use Rattle.std.proofs.Common.{rules, ◌≡◌, ◌+◌, arith}
use Rattle.std.proofs.lemmas.Grind.{common_steps}
use Rattle.std.specs.Prelude.{OnOk}
use Rattle.dl_ir.specs.Heap.{Objects, IsHeapOf}
use Rattle.dl_shape.specs.Operation.{operated}
use Rattle.dl_meaning.specs.FirstStates.{HasTicketsBelow}
use Rattle.dl_meaning.proofs.Left.{calls_leave_heaps, is_positive}
use Rattle.dl_serial.proofs.Modules.{of_left}
use Rattle.dl_serial.proofs.operations.run_op_in.Goals as goal

pub returns-in-Some-clause-heap : goal.returns-in-Some-clause-heap
returns-in-Some-clause-heap c =
    let objects : Objects = (operated c.args.source.now c.args.heap.now.objects c.args.ticket c.args.call.now).objects in
    let left : OnOk c.run_body.result (c.run_body.new.heap ≡ record c.args.heap.now { objects = objects }) = first_of (search rules, grind (arith, common_steps)) in
    of_left (IsHeapOf c.args.source.now) c.run_body.result c.args.heap.now c.run_body.new.heap objects left
    (calls_leave_heaps c.args.source.now c.args.heap.now.objects c.args.ticket c.args.call.now c.requires.checked c.requires.of_module c.requires.heap c.requires.below).0

pub returns-in-Some-clause-below : goal.returns-in-Some-clause-below
returns-in-Some-clause-below c =
    let objects : Objects = (operated c.args.source.now c.args.heap.now.objects c.args.ticket c.args.call.now).objects in
    let left : OnOk c.run_body.result (c.run_body.new.heap ≡ record c.args.heap.now { objects = objects }) = first_of (search rules, grind (arith, common_steps)) in
    of_left (HasTicketsBelow (c.args.ticket + 1)) c.run_body.result c.args.heap.now c.run_body.new.heap objects left
    (calls_leave_heaps c.args.source.now c.args.heap.now.objects c.args.ticket c.args.call.now c.requires.checked c.requires.of_module c.requires.heap c.requires.below).1

pub run_body-requires-clause-ticket : goal.run_body-requires-clause-ticket
run_body-requires-clause-ticket c = is_positive c.args.source.now c.args.heap.now.objects c.args.ticket c.requires.checked c.requires.heap c.requires.below
