-- Calls leave a heap of their module.
use Rattle.std.proofs.Common.{◌≡◌, ℕ, ◌+◌, [], ◌∷◌, ◌++◌, List, length, sym, ap, subst, Result, Ok, Err, All, arith}
use Rattle.std.specs.Prelude.{OnOk}
use Rattle.std.proofs.lemmas.List.Elements.{All-get_or}
use Rattle.std.proofs.lemmas.Option.{slice_get_within, get_or_from_slice_get}
use Rattle.dl_ir.specs.declared.answers.Entry.{Entry}
use Rattle.dl_ir.specs.declared.answers.Refusal.{Refusal}
use Rattle.dl_ir.specs.declared.calls.Call.{Call}
use Rattle.dl_ir.specs.declared.modules.Module.{Module}
use Rattle.dl_ir.specs.CallForms.{IsCallOf}
use Rattle.dl_ir.specs.Checked.{IsChecked}
use Rattle.dl_ir.specs.Heap.{Objects, View, IsHeapOf}
use Rattle.dl_meaning.specs.FirstStates.{HasTicketsBelow}
use Rattle.dl_meaning.proofs.Left.{calls_leave_heaps}
use Rattle.dl_serial.specs.Serving.{Serves, begins, carries_out, refuses}

-- a fact of the objects that are left
pub of_left : {T E : Type 0} (P : Objects → Type 0) (result : Result T E) (old left : View) (objects : Objects) → OnOk result (left ≡ record old { objects = objects }) → P objects → OnOk result (P left.objects)
of_left P (Ok value) old left objects same holds = subst P (sym (ap (λ (v : View). v.objects) same)) holds
of_left P (Err fault) old left objects same holds = tt

one_more : (entries : List Entry) (entry : Entry) → length (entries ++ entry ∷ []) ≡ length entries + 1
one_more [] entry = omega arith
one_more (e ∷ entries) entry = omega (arith, one_more entries entry)

-- so many calls leave a heap of the module, in which no ticket is above the last
pub serves_heap : (source : Module) (places first : ℕ) (start : Objects) (calls : List Call) → IsChecked source → All (IsCallOf source) calls → IsHeapOf source start → HasTicketsBelow first start
    → {count version : ℕ} {entries : List Entry} {refusals : List Refusal} {heap : Objects} → Serves source places first start calls count entries refusals heap version
    → IsHeapOf source heap × HasTicketsBelow (first + length entries) heap
serves_heap source places first start calls checked all heap below begins = (heap, λ q p there. let early = below q p there in omega (arith, early))
serves_heap source places first start calls checked all heap below (carries_out {entries = entries} {heap = before} call entry served called need is) =
    let old = serves_heap source places first start calls checked all heap below served in
    let of_module = subst (IsCallOf source) (get_or_from_slice_get calls _ call call called) (All-get_or (IsCallOf source) calls _ call (slice_get_within calls _ call called) all) in
    let left = calls_leave_heaps source before (first + length entries) call checked of_module old.0 old.1 in
    (left.0, λ q p there. let early = left.1 q p there in omega (arith, early, one_more entries entry))
serves_heap source places first start calls checked all heap below (refuses call refusal served called short is) = serves_heap source places first start calls checked all heap below served
