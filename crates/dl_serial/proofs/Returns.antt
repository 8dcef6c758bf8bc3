-- what served calls return, and the free places that their moves leave
use Rattle.std.proofs.Common.{◌≡◌, ℕ, ◌+◌, ◌≤◌, List, [], ◌∷◌, ◌++◌, length, refl, sym, ap, subst, ◌∙◌, Some, arith, ℤ, pos, ◌+ℤ◌, ◌-ℤ◌}
use Rattle.std.specs.Prelude.{slice_get}
use Rattle.std.proofs.lemmas.Grind.{flat_map-append}
use Rattle.std.proofs.lemmas.Int.{ints}
use Rattle.std.proofs.lemmas.List.{append-nil}
use Rattle.std.proofs.lemmas.List.Sums.{fold-append}
use Rattle.dl_ir.specs.declared.answers.Entry.{Entry}
use Rattle.dl_ir.specs.declared.answers.Refusal.{Refusal}
use Rattle.dl_ir.specs.declared.calls.Call.{Call}
use Rattle.dl_ir.specs.declared.modules.Module.{Module}
use Rattle.dl_ir.specs.declared.moves.Move.{Move}
use Rattle.dl_ir.specs.Cover.{call_at}
use Rattle.dl_ir.specs.Heap.{Objects, hidden_count}
use Rattle.dl_shape.specs.Operation.{operated}
use Rattle.dl_shape.specs.Pool.{ReturnsFit, ends, goes_on, allocs_at, moves_of, moves_of_entry, reservation_of, return_of}
use Rattle.dl_shape.specs.Replay.{after_call, replayed}
use Rattle.dl_serial.specs.Rooms.{allocs_of}
use Rattle.dl_serial.specs.Serving.{Serves, begins, carries_out, refuses}
use Rattle.dl_serial.proofs.Laws.{call_of_one, serves_replayed}
use Rattle.dl_serial.proofs.Lawful.{level, Stays, stays_append}
use Rattle.dl_serial.proofs.Pools.{entry_pool}
use Rattle.dl_serial.proofs.Rising.{allocs_same}

-- returns that fit go on with one entry more
returns_push : (source : Module) (files : List (List Call)) {heap : Objects} {es : List Entry} (e : Entry) → ReturnsFit source files heap es
    → allocs_at source files e.caller e.index + hidden_count (replayed source files heap es)
    ≡ e.returned + hidden_count (after_call source (replayed source files heap es) e.ticket (call_at files e.caller e.index))
    → ReturnsFit source files heap (es ++ e ∷ [])
returns_push source files e ends fit = goes_on fit ends
returns_push source files e (goes_on first rest) fit = goes_on first (returns_push source files e rest fit)

-- the moves with those of one entry more
pub moves_push : (source : Module) (calls : List Call) (n : ℕ) (es : List Entry) (e : Entry) (call : Call) → slice_get calls n ≡ Some call → e.caller ≡ 1 → e.index ≡ n + 1
    → moves_of source (calls ∷ []) (es ++ e ∷ []) ≡ moves_of source (calls ∷ []) es ++ (reservation_of e (allocs_of source call) ++ return_of e)
moves_push source calls n es e call there is_one is_next =
    flat_map-append (moves_of_entry source (calls ∷ [])) es (e ∷ [])
    ∙ ap (λ (l : List Move). moves_of source (calls ∷ []) es ++ l) (append-nil _ ∙ ap (λ (a : ℕ). reservation_of e a ++ return_of e) (allocs_same source calls n e.caller e.index call there is_one is_next))

-- the free places after the moves so far are those that the heap leaves, and never were negative
pub record IsLevel (places : ℕ) (start heap : Objects) (moves : List Move) : Type 0 where
  pub left : level (pos places -ℤ pos (hidden_count start)) moves ≡ pos places -ℤ pos (hidden_count heap)
  pub stays : Stays (pos places -ℤ pos (hidden_count start)) moves

module _ (source : Module) (places first : ℕ) (start : Objects) (calls : List Call) where
  pub serves_returns : {n version : ℕ} {es : List Entry} {rs : List Refusal} {heap : Objects} → Serves source places first start calls n es rs heap version
      → ReturnsFit source (calls ∷ []) start es
  serves_returns begins = ends
  serves_returns (carries_out {count = n} {entries = es} {heap = h} call e before there fits is) =
      let allocs = allocs_same source calls n e.caller e.index call there is.caller is.index in
      let same : replayed source (calls ∷ []) start es ≡ h = serves_replayed source places first start calls before in
      let now : after_call source (replayed source (calls ∷ []) start es) e.ticket (call_at (calls ∷ []) e.caller e.index) ≡ (operated source h (first + length es) call).objects
      = ap (after_call source (replayed source (calls ∷ []) start es) e.ticket) (call_of_one calls n e.caller e.index call there is.caller is.index)
      ∙ ap (λ (g : Objects). (operated source g e.ticket call).objects) same ∙ ap (λ (t : ℕ). (operated source h t call).objects) is.ticket in
      let before_it : hidden_count (replayed source (calls ∷ []) start es) ≡ hidden_count h = ap hidden_count same in
      let after_it = ap hidden_count now in
      returns_push source (calls ∷ []) e (serves_returns before) (omega (arith, allocs, before_it, after_it, is.returned))
  serves_returns (refuses call r before there short is) = serves_returns before

  pub serves_level : {n version : ℕ} {es : List Entry} {rs : List Refusal} {heap : Objects} → hidden_count start ≤ places → Serves source places first start calls n es rs heap version
      → IsLevel places start heap (moves_of source (calls ∷ []) es)
  serves_level small begins = record { left = refl; stays = omega (arith, ints) }
  serves_level small (carries_out {count = n} {entries = es} {heap = h} call e before there fits is) =
      let so_far = serves_level small before in
      let new = entry_pool e (allocs_of source call) (hidden_count h) (hidden_count (operated source h (first + length es) call).objects) places fits is.returned in
      let free = pos places -ℤ pos (hidden_count start) in
      let old = moves_of source (calls ∷ []) es in
      let added = reservation_of e (allocs_of source call) ++ return_of e in
      subst (λ (l : List Move). IsLevel places start (operated source h (first + length es) call).objects l) (sym (moves_push source calls n es e call there is.caller is.index))
      (record {
        left = fold-append (λ free (m : Move). free +ℤ m.change) free old added ∙ ap (λ (f : ℤ). level f added) so_far.left ∙ new.1;
        stays = stays_append free old added so_far.stays (subst (λ (f : ℤ). Stays f added) (sym so_far.left) new.0);
      })
  serves_level small (refuses call r before there short is) = serves_level small before
