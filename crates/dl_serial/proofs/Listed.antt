-- the entries and refusals of a line of calls, as lists in rising order
use Rattle.std.proofs.Common.{◌≡◌, ℕ, ◌+◌, ◌-◌, ◌<◌, ◌≤◌, List, [], ◌∷◌, ◌++◌, length, length-append, arith}
use Rattle.std.specs.Prelude.{All}
use Rattle.std.specs.List.Sorted.{IsNonDecreasingBy}
use Rattle.std.proofs.lemmas.List.Elements.{All-nil, All-push, All-weaker, All-get_or}
use Rattle.std.proofs.lemmas.List.Sorted.{IsNonDecreasingBy-push, IsNonDecreasingBy-short}
use Rattle.dl_ir.specs.declared.answers.Entry.{Entry}
use Rattle.dl_ir.specs.declared.answers.Refusal.{Refusal}
use Rattle.dl_ir.specs.declared.calls.Call.{Call}
use Rattle.dl_ir.specs.declared.moves.Move.{Move}
use Rattle.dl_ir.specs.declared.modules.Module.{Module}
use Rattle.dl_ir.specs.Heap.{Objects}
use Rattle.dl_shape.specs.Pool.{moves_of}
use Rattle.dl_shape.specs.Rising.{AreApart}
use Rattle.dl_shape.proofs.Rising.{Rises, rises_push, rises_apart}
use Rattle.dl_serial.specs.Serving.{Serves, begins, carries_out, refuses}
use Rattle.dl_serial.proofs.Rising.{serves_numbered, numbered_rises}

module _ (source : Module) (places first : ℕ) (start : Objects) (calls : List Call) where
  -- there are no more entries than calls
  pub serves_short : {n version : ℕ} {es : List Entry} {rs : List Refusal} {heap : Objects} → Serves source places first start calls n es rs heap version → length es ≤ n
  serves_short begins = omega arith
  serves_short (carries_out {entries = es} call e before there fits is) = omega (arith, length-append es (e ∷ []), serves_short before)
  serves_short (refuses call r before there short is) = omega (arith, serves_short before)

  -- the tickets are below the next one
  below : {n version : ℕ} {es : List Entry} {rs : List Refusal} {heap : Objects} → Serves source places first start calls n es rs heap version
      → All (λ (e : Entry). e.ticket < first + length es) es
  below begins = All-nil (λ (e : Entry). e.ticket < first + 0)
  below (carries_out {entries = es} call e before there fits is) =
      let longer : length (es ++ e ∷ []) ≡ length es + 1 = length-append es (e ∷ []) in
      All-push (λ (d : Entry). d.ticket < first + length (es ++ e ∷ [])) es e
      (All-weaker (λ (d : Entry). d.ticket < first + length es) (λ (d : Entry). d.ticket < first + length (es ++ e ∷ [])) (λ d under. omega arith) es (below before))
      (omega (arith, is.ticket))
  below (refuses call r before there short is) = below before

  -- the tickets rise
  pub serves_tickets : {n version : ℕ} {es : List Entry} {rs : List Refusal} {heap : Objects} → Serves source places first start calls n es rs heap version
      → Rises (λ (e : Entry). e.ticket) es
  serves_tickets begins = tt
  serves_tickets (carries_out {entries = es} call e before there fits is) =
      rises_push (λ (d : Entry). d.ticket) es e (serves_tickets before)
      (All-weaker (λ (d : Entry). d.ticket < first + length es) (λ (d : Entry). d.ticket < e.ticket) (λ d under. omega (arith, is.ticket)) es (below before))
  serves_tickets (refuses call r before there short is) = serves_tickets before

  -- no two moves have the same version
  pub serves_apart : {n version : ℕ} {es : List Entry} {rs : List Refusal} {heap : Objects} → Serves source places first start calls n es rs heap version
      → AreApart (λ (move : Move). move.version) (moves_of source (calls ∷ []) es)
  serves_apart served = rises_apart (λ (move : Move). move.version) _ (numbered_rises 1 _ (serves_numbered source places first start calls served).numbered)

  -- the refusals are of caller 1
  pub serves_caller : {n version : ℕ} {es : List Entry} {rs : List Refusal} {heap : Objects} → Serves source places first start calls n es rs heap version
      → All (λ (r : Refusal). r.caller ≡ 1) rs
  serves_caller begins = All-nil (λ (r : Refusal). r.caller ≡ 1)
  serves_caller (carries_out call e before there fits is) = serves_caller before
  serves_caller (refuses {refusals = rs} call r before there short is) = All-push (λ (r : Refusal). r.caller ≡ 1) rs r (serves_caller before) is.caller

  -- their indexes are among those of the calls so far
  pub within : {n version : ℕ} {es : List Entry} {rs : List Refusal} {heap : Objects} → Serves source places first start calls n es rs heap version
      → All (λ (r : Refusal). r.index ≤ n) rs
  within begins = All-nil (λ (r : Refusal). r.index ≤ 0)
  within (carries_out {count = n} {refusals = rs} call e before there fits is) =
      All-weaker (λ (r : Refusal). r.index ≤ n) (λ (r : Refusal). r.index ≤ n + 1) (λ r under. omega arith) rs (within before)
  within (refuses {count = n} {refusals = rs} call r before there short is) =
      All-push (λ (d : Refusal). d.index ≤ n + 1) rs r
      (All-weaker (λ (d : Refusal). d.index ≤ n) (λ (d : Refusal). d.index ≤ n + 1) (λ d under. omega arith) rs (within before)) (omega (arith, is.index))

  -- they stand in order of index
  pub serves_in_order : {n version : ℕ} {es : List Entry} {rs : List Refusal} {heap : Objects} → Serves source places first start calls n es rs heap version
      → IsNonDecreasingBy (λ (r : Refusal). r.index) rs
  serves_in_order begins = IsNonDecreasingBy-short (λ (r : Refusal). r.index) [] (omega arith)
  serves_in_order (carries_out call e before there fits is) = serves_in_order before
  serves_in_order (refuses {count = n} {refusals = rs} call r before there short is) =
      IsNonDecreasingBy-push (λ (d : Refusal). d.index) rs r (serves_in_order before)
      (λ d some. let under = All-get_or (λ (q : Refusal). q.index ≤ n) rs (length rs - 1) d (omega arith) (within before) in omega (arith, is.index))
