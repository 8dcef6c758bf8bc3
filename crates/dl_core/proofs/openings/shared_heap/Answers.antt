use Rattle.std.proofs.Common.{◌≡◌, length, map, sym, ap, ◌∙◌, arith}
use Rattle.std.specs.FinMap as finite
use Rattle.std.specs.FinMap.{len-empty, len-entries}
use Rattle.dl_ir.specs.Heap.{name_cmp}
use Rattle.dl_ir.specs.Rows.{Rows, added}
use Rattle.dl_core.specs.declared.objects.Object.{Object}
use Rattle.dl_core.specs.Heaps.{marked_object}
use Rattle.dl_lemmas.proofs.Entries.{still_sorted}
use Rattle.dl_lemmas.proofs.Maps.{len-put}
use Rattle.dl_shape.proofs.Added.{added_alone}
use Rattle.dl_shape.proofs.Names.{names}
use Rattle.dl_core.proofs.Plain.{changed_entry}
use Rattle.dl_core.proofs.openings.shared_heap.Goals as goal

pub loop-name-init : goal.loop-name-init
loop-name-init c =
    let iterator : c.into_iter-name-iterator.result ≡ finite.entries c.args.heap.now.objects = c.into_iter-name-iterator.ensures.into_iter_gives ∙ c.iter-name-items.ensures in
    let shared = c.in_ok-shared.ensures in
    record {
      rows = λ i. added (shared i).rows (map (changed_entry name_cmp marked_object) (iterator i));
      room = ap (λ (r : Rows Object). r.room) shared;
      few = omega (arith, ap (λ (r : Rows Object). finite.len r.rows) shared, len-empty name_cmp Object, ap length iterator, len-entries c.args.heap.now.objects, c.requires);
    }

pub loop-name-preserved : goal.loop-name-preserved
loop-name-preserved c =
    let put = c.put.ensures in
    let step = c.in-Some.ensures.steps in
    record {
      rows =
          (λ i. added ((put ∙ ap (λ (o : Object). record c.loop-name.shared { rows = finite.insert c.loop-name.shared.rows c.in-Some.name o }) c.found_object.ensures) i).rows (map (changed_entry name_cmp marked_object) c.next.new.self))
          ∙ sym (ap (λ (es : _). added c.loop-name.shared.rows (map (changed_entry name_cmp marked_object) es)) step)
          ∙ c.loop-name.invariant.rows;
      room = ap (λ (r : Rows Object). r.room) put ∙ c.loop-name.invariant.room;
      few = omega (arith, ap (λ (r : Rows Object). finite.len r.rows) put, len-put names c.loop-name.shared.rows c.in-Some.name c.found_object.result, ap length step, c.loop-name.invariant.few);
    }

pub returns : goal.returns
returns c =
    let none = c.in-None.ensures.steps.0 in
    let rows = ap (λ es. added c.loop-name.shared.rows (map (changed_entry name_cmp marked_object) es)) (sym none) ∙ c.loop-name.invariant.rows ∙ added_alone (map (changed_entry name_cmp marked_object) (finite.entries c.args.heap.now.objects)) (still_sorted name_cmp (λ e. marked_object e.1) c.args.heap.now.objects) in
    λ i. record { rows = rows i; room = c.loop-name.invariant.room i }
