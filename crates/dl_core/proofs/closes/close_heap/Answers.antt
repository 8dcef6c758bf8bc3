use Rattle.std.proofs.Common.{◌≡◌, length, map, sym, ap, ◌∙◌, arith}
use Rattle.std.specs.FinMap as finite
use Rattle.std.specs.FinMap.{len-empty, len-entries}
use Rattle.dl_ir.specs.declared.objects.Obj.{Obj}
use Rattle.dl_ir.specs.Heap.{Objects, View, name_cmp}
use Rattle.dl_ir.specs.Rows.{added}
use Rattle.dl_core.specs.Heaps.{plain_object}
use Rattle.dl_lemmas.proofs.Entries.{still_sorted}
use Rattle.dl_lemmas.proofs.Maps.{len-put}
use Rattle.dl_shape.proofs.Added.{added_alone}
use Rattle.dl_shape.proofs.Names.{names}
use Rattle.dl_core.proofs.Plain.{changed_entry}
use Rattle.dl_core.proofs.closes.close_heap.Goals as goal

pub loop-name-init : goal.loop-name-init
loop-name-init c =
    let iterator : c.into_iter-name-iterator.result ≡ finite.entries c.args.shared.now.rows = c.into_iter-name-iterator.ensures.into_iter_gives ∙ c.iter-name-items.ensures in
    let empty = c.requires.empty in
    record {
      rows = λ i. added (empty i) (map (changed_entry name_cmp plain_object) (iterator i));
      few = omega (arith, ap (λ (h : Objects). finite.len h) empty, len-empty name_cmp Obj, ap length iterator, len-entries c.args.shared.now.rows, c.requires.room);
    }

pub loop-name-preserved : goal.loop-name-preserved
loop-name-preserved c =
    let put = c.put.ensures in
    let step = c.in-Some.ensures.steps in
    record {
      rows =
          (λ i. added ((put ∙ ap (λ (o : Obj). record c.loop-name.heap { objects = finite.insert c.loop-name.heap.objects c.in-Some.name o }) c.plain_object.ensures) i).objects (map (changed_entry name_cmp plain_object) c.next.new.self))
          ∙ sym (ap (λ es. added c.loop-name.heap.objects (map (changed_entry name_cmp plain_object) es)) step)
          ∙ c.loop-name.invariant.rows;
      few = omega (arith, ap (λ (v : View). finite.len v.objects) put, ap (λ (v : View). v.room) put, len-put names c.loop-name.heap.objects c.in-Some.name c.plain_object.result, ap length step, c.loop-name.invariant.few);
    }

pub returns : goal.returns
returns c =
    ap (λ es. added c.loop-name.heap.objects (map (changed_entry name_cmp plain_object) es)) (sym c.in-None.ensures.steps.0) ∙ c.loop-name.invariant.rows ∙ added_alone (map (changed_entry name_cmp plain_object) (finite.entries c.args.shared.now.rows)) (still_sorted name_cmp (λ e. plain_object e.1) c.args.shared.now.rows)
