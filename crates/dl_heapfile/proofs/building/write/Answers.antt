use Rattle.std.proofs.Common.{◌≡◌, ◌+◌, ◌<◌, ◌∷◌, length, drop, get_or, Some, sym, ◌∙◌, ap, arith}
use Rattle.std.proofs.lemmas.List.{length-drop, drop_more}
use Rattle.std.proofs.lemmas.Option.{slice_get-get_or}
use Rattle.dl_heapfile.proofs.Filling.{put_same, write_more}
use Rattle.dl_heapfile.proofs.building.write.Goals as goal

pub loop-field-init : goal.loop-field-init
loop-field-init c = record {
  heap = ap (λ objects. record { objects = objects; room = c.args.heap.now.room }) (put_same c.args.heap.now.objects c.args.name c.args.object.now c.requires);
  left = c.iter-value-items.ensures.value;
  within = omega arith;
  few = rw (← c.iter-value-items.ensures.value) c.iter-value-items.ensures.few;
}

pub loop-field-preserved : goal.loop-field-preserved
loop-field-preserved c =
    let object = c.args.object.now in
    let i = c.loop-field.field in
    let v = c.in-Some.value in
    let left : drop i object.fields ≡ v ∷ c.next.new.self = sym c.loop-field.invariant.left ∙ c.in-Some.ensures.steps in
    let less : i < length object.fields = omega (arith, length-drop i object.fields, ap length left) in
    let cut : get_or object.fields i v ∷ drop (i + 1) object.fields ≡ v ∷ c.next.new.self = sym (drop_more object.fields i v less) ∙ left in
    let head : get_or object.fields i v ≡ v = cc in
    let rest : drop (i + 1) object.fields ≡ c.next.new.self = cc in
    record {
      heap = rw (c.set_field.ensures, c.loop-field.invariant.heap) (ap (λ objects. record { objects = objects; room = c.args.heap.now.room }) (write_more c.args.heap.now.objects c.args.name object i v (slice_get-get_or object.fields i v less ∙ ap Some head)));
      left = sym rest;
      within = omega (arith, less);
      few = c.loop-field.invariant.few;
    }
