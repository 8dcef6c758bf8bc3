use Rattle.std.proofs.Common.{◌≡◌, length, take, refl, sym, ap, ◌∙◌, Some}
use Rattle.std.specs.List.{slice_get}
use Rattle.std.proofs.lemmas.Option.{slice_get_read}
use Rattle.dl_ir.specs.Rows.{added}
use Rattle.dl_heapfile.proofs.Filling.{take_one}
use Rattle.dl_heapfile.proofs.building.write_all.Goals as goal
use Rattle.dl_lemmas.proofs.Tests.{holds}
use Rattle.dl_shape.proofs.Added.{added_more, not_yet}

pub write-requires : goal.write-requires
write-requires c =
    let es = c.args.entries.now in
    let i = c.loop-entry.entry-index in
    let e = c.entry-item.result in
    let there : slice_get es i ≡ Some e = slice_get_read es (length es) i e refl c.loop-entry-test.true c.entry-item.is in
    rw c.loop-entry.invariant (not_yet c.args.heap.now.objects es i e (holds _ c.requires.sorted) there ∙ c.requires.there i e there)

pub loop-entry-preserved : goal.loop-entry-preserved
loop-entry-preserved c =
    let es = c.args.entries.now in
    let i = c.loop-entry.entry-index in
    let e = c.entry-item.result in
    let h = c.args.heap.now.objects in
    let there : slice_get es i ≡ Some e = slice_get_read es (length es) i e refl c.loop-entry-test.true c.entry-item.is in
    rw (c.write.ensures, c.loop-entry.invariant) (
    ap (λ objects. record { objects = objects; room = c.args.heap.now.room }) (sym (added_more h (take i es) e) ∙ ap (added h) (sym (take_one es i e there))))
