use Rattle.std.proofs.Common.{◌≡◌, ◌<◌, length, map, take, refl, sym, ap, ◌∙◌, arith, Some}
use Rattle.std.specs.List.{slice_get}
use Rattle.std.proofs.lemmas.Option.{slice_get_read}
use Rattle.dl_ir.specs.Rows.{added}
use Rattle.dl_heapfile.specs.Blanks.{emptied_entry}
use Rattle.dl_heapfile.proofs.Filling.{map_one, taken_short}
use Rattle.dl_heapfile.proofs.building.put_emptied.Goals as goal
use Rattle.dl_shape.proofs.Added.{added_more, len-added}

pub put-requires : goal.put-requires
put-requires c =
    let es = c.args.entries.now in
    let i = c.loop-entry.entry-index in
    let less : i < length es = omega (arith, c.loop-entry-test.true) in
    rw c.loop-entry.invariant (omega (arith, len-added c.args.heap.now.objects (map emptied_entry (take i es)), taken_short emptied_entry es i (omega (arith, less)), less, c.requires.room))

pub loop-entry-preserved : goal.loop-entry-preserved
loop-entry-preserved c =
    let es = c.args.entries.now in
    let i = c.loop-entry.entry-index in
    let e = c.entry-item.result in
    let h = c.args.heap.now.objects in
    let there : slice_get es i ≡ Some e = slice_get_read es (length es) i e refl c.loop-entry-test.true c.entry-item.is in
    rw (c.put.ensures, c.emptied.ensures, c.loop-entry.invariant) (
    ap (λ objects. record { objects = objects; room = c.args.heap.now.room }) (
    sym (added_more h (map emptied_entry (take i es)) (emptied_entry e)) ∙ ap (added h) (sym (map_one emptied_entry es i e there))))
