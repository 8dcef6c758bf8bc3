use Rattle.std.proofs.Common.{◌≡◌, length, sym, ap, ◌∙◌, arith}
use Rattle.std.specs.FinMap as map
use Rattle.std.specs.FinMap.{len-empty, len-entries}
use Rattle.dl_ir.specs.Heap.{View, name_cmp}
use Rattle.dl_ir.specs.Rows.{added}
use Rattle.dl_lemmas.proofs.Maps.{len-put}
use Rattle.dl_shape.proofs.Added.{added-entries}
use Rattle.dl_shape.proofs.Names.{names}
use Rattle.dl_replay.proofs.copies.copied.Goals as goal

pub loop-name-init : goal.loop-name-init
loop-name-init c =
    let made = ap (λ (v : View). v.objects) c.in_ok-copy.ensures in
    let all : c.into_iter-name-iterator.result ≡ map.entries c.args.heap.now.objects = cc in
    record {
      objects = ap (λ h. added h c.into_iter-name-iterator.result) made ∙ ap (added map.empty) all;
      few = omega (arith, ap map.len made, len-empty name_cmp, ap length all, len-entries c.args.heap.now.objects, c.requires, ap (λ (v : View). v.room) c.in_ok-copy.ensures);
      room = ap (λ (v : View). v.room) c.in_ok-copy.ensures;
    }

pub loop-name-preserved : goal.loop-name-preserved
loop-name-preserved c =
    let copy = c.loop-name.copy.objects in
    let put : c.put.new.self.objects ≡ map.insert copy c.in-Some.name c.in-Some.object
    = ap (λ (v : View). v.objects) c.put.ensures ∙ ap (map.insert copy c.in-Some.name) c.copy_of.ensures in
    let room = ap (λ (v : View). v.room) c.put.ensures in
    record {
      objects = ap (λ h. added h c.next.new.self) put ∙ ap (added copy) (sym c.in-Some.ensures.steps) ∙ c.loop-name.invariant.objects;
      few = omega (arith, ap map.len put, len-put names copy c.in-Some.name c.in-Some.object, ap length c.in-Some.ensures.steps, c.loop-name.invariant.few, room);
      room = room ∙ c.loop-name.invariant.room;
    }

pub returns : goal.returns
returns c =
    let copy = c.loop-name.copy in
    let all : copy.objects ≡ c.args.heap.now.objects
    = sym (ap (added copy.objects) c.in-None.ensures.steps.0) ∙ c.loop-name.invariant.objects ∙ added-entries c.args.heap.now.objects in
    ap (λ h. record { objects = h; room = copy.room }) all ∙ ap (λ r. record { objects = c.args.heap.now.objects; room = r }) c.loop-name.invariant.room
