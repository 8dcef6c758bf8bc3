-- how one call moves a line on
use Rattle.std.proofs.Common.{◌≡◌, ℕ, ◌+◌, ◌<◌, ◌≤◌, ◌==◌, true, false, List, [], ◌∷◌, ◌++◌, length, refl, sym, ap, subst, ◌∙◌, Some, arith, length-append}
use Rattle.std.specs.Prelude.{slice_get, if◌then◌else◌}
use Rattle.dl_ir.specs.declared.answers.Entry.{Entry}
use Rattle.dl_ir.specs.declared.answers.Refusal.{Refusal}
use Rattle.dl_ir.specs.declared.calls.Call.{Call}
use Rattle.dl_ir.specs.declared.modules.Module.{Module}
use Rattle.dl_ir.specs.Heap.{Objects, View, hidden_count}
use Rattle.dl_shape.specs.Operation.{operated}
use Rattle.dl_serial.specs.declared.serving.Line.{Line}
use Rattle.dl_serial.specs.Progress.{IsAfter, Passes}
use Rattle.dl_serial.specs.Rooms.{allocs_of}
use Rattle.dl_serial.specs.Serving.{Serves, IsEntryOf, IsRefusalOf, move_count, carries_out, refuses}

-- a move or none
pub one_move : (places : ℕ) → move_count places ≤ 1
one_move places = elim (places == 0) as (λ b. (if b then 0 else 1) ≤ 1) [ true ↦ omega arith | false ↦ omega arith ]

module _ (source : Module) (places first : ℕ) (start : Objects) (calls : List Call) where
  -- the same, at what is equal
  serves_at : {count : ℕ} {es fs : List Entry} {rs ss : List Refusal} {g h : Objects} {v w : ℕ} → es ≡ fs → rs ≡ ss → g ≡ h → v ≡ w
      → Serves source places first start calls count es rs g v → Serves source places first start calls count fs ss h w
  serves_at {count = n} {es = es} {fs = fs} {rs = rs} {ss = ss} {g = g} {h = h} {v = v} {w = w} e r o x is =
      subst (λ y. Serves source places first start calls n fs ss h y) x
      (subst (λ y. Serves source places first start calls n fs ss y v) o
      (subst (λ y. Serves source places first start calls n fs y g v) r
      (subst (λ y. Serves source places first start calls n y rs g v) e is)))

  -- a call is refused
  pub after_refusal : (count : ℕ) (line : Line) (heap : View) (call : Call) (refusal : Refusal) (refusals : List Refusal)
      → IsAfter source places first start calls count line heap → slice_get calls count ≡ Some call → line.free < allocs_of source call
      → IsRefusalOf source places heap.objects call (count + 1) line.version refusal → refusals ≡ line.refusals ++ refusal ∷ []
      → IsAfter source places first start calls (count + 1) (record line { refusals = refusals }) heap
  after_refusal count line heap call refusal refusals after there short is pushed = record {
    serves = serves_at refl (sym pushed) refl refl (refuses call refusal after.serves there (omega (arith, after.free, short)) is);
    ticket = after.ticket;
    free = after.free;
    version = omega (arith, after.version);
    few = omega (arith, after.few);
  }

  -- a call is carried out
  pub after_entry : (count : ℕ) (line next : Line) (heap left : View) (call : Call) (entry : Entry) (entries : List Entry)
      → IsAfter source places first start calls count line heap → slice_get calls count ≡ Some call → allocs_of source call ≤ line.free
      → IsEntryOf source heap.objects call line.ticket (count + 1) line.version entry
      → left ≡ record heap { objects = (operated source heap.objects line.ticket call).objects }
      → Passes line next (allocs_of source call) entry
      → entries ≡ next.entries ++ entry ∷ []
      → IsAfter source places first start calls (count + 1) (record next { entries = entries }) left
  after_entry count line next heap left call entry entries after there fits is leaves passes pushed =
      let objects : left.objects ≡ (operated source heap.objects line.ticket call).objects = ap (λ (v : View). v.objects) leaves in
      let hidden : hidden_count left.objects ≡ hidden_count (operated source heap.objects line.ticket call).objects = ap hidden_count objects in
      let pushed_on : entries ≡ line.entries ++ entry ∷ [] = pushed ∙ ap (λ (es : List Entry). es ++ entry ∷ []) passes.entries in
      let longer : length entries ≡ length line.entries + 1 = ap length pushed_on ∙ length-append line.entries (entry ∷ []) in
      record {
        serves = serves_at (sym pushed_on) (sym passes.refusals) (sym (objects ∙ ap (λ t. (operated source heap.objects t call).objects) after.ticket)) (sym passes.version)
            (carries_out call entry after.serves there (omega (arith, after.free, fits)) (subst (λ t. IsEntryOf source heap.objects call t (count + 1) line.version entry) after.ticket is));
        ticket = omega (arith, passes.ticket, after.ticket, longer);
        free = omega (arith, passes.free, is.returned, hidden, after.free);
        version = omega (arith, passes.version, after.version, one_move (allocs_of source call), one_move entry.returned);
        few = omega (arith, longer, after.few);
      }
