use Rattle.std.proofs.Common.{◌+◌, sym, ap, ◌∙◌, arith}
use Rattle.dl_ir.specs.Heap.{root, roots_from, blank_object}
use Rattle.dl_ir.specs.Rows.{added}
use Rattle.dl_ir.proofs.Starts.{roots_from-more, length-roots_from, added_more, len-added}
use Rattle.dl_ir.proofs.heaps.add_roots_of.Goals as goal

pub put-requires : goal.put-requires
put-requires c =
    let object = blank_object c.args.kind c.args.declared.now in
    let so_far = roots_from c.args.declared.now.first c.loop-i.i object in
    rw c.loop-i.invariant (omega (arith, len-added c.args.heap.now.objects so_far, length-roots_from c.args.declared.now.first c.loop-i.i object, c.loop-i-test.true, c.requires.room))

pub loop-i-preserved : goal.loop-i-preserved
loop-i-preserved c =
    let object = blank_object c.args.kind c.args.declared.now in
    let first = c.args.declared.now.first in
    rw (c.put.ensures, c.blank.ensures, c.loop-i.invariant) (
    ap (λ objects. record { objects = objects; room = c.args.heap.now.room }) (
    sym (added_more c.args.heap.now.objects (roots_from first c.loop-i.i object) (root (first + c.loop-i.i), object))
    ∙ ap (added c.args.heap.now.objects) (sym (roots_from-more first c.loop-i.i object))))
