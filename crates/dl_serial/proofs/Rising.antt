-- The versions of the moves of served calls.
use Rattle.std.proofs.Common.{◌≡◌, ℕ, ◌+◌, ◌<◌, ◌==◌, true, false, List, [], ◌∷◌, ◌++◌, length, Some, slice_get, refl, sym, ◌∙◌, ap, subst, arith, length-append, zero, suc, nat_lt, add-one}
use Rattle.std.proofs.lemmas.List.{append-nil}
use Rattle.std.proofs.lemmas.List.Elements.{All-nil, All-cons, All-push}
use Rattle.std.specs.Prelude.{All}
use Rattle.std.proofs.lemmas.Bool.Decides.{nat_tests}
use Rattle.std.proofs.lemmas.Grind.{flat_map-append}
use Rattle.dl_ir.specs.declared.answers.Entry.{Entry}
use Rattle.dl_ir.specs.declared.answers.Refusal.{Refusal}
use Rattle.dl_ir.specs.declared.calls.Call.{Call}
use Rattle.dl_ir.specs.declared.modules.Module.{Module}
use Rattle.dl_ir.specs.declared.moves.Move.{Move}
use Rattle.dl_ir.specs.Heap.{Objects}
use Rattle.dl_shape.specs.Pool.{moves_of, moves_of_entry, in_rising_versions, reservation_of, return_of, allocs_at, HasVersionsOfMovesAlone}
use Rattle.dl_shape.proofs.Rising.{Rises, rising_is}
use Rattle.dl_serial.specs.Rooms.{allocs_of}
use Rattle.dl_serial.specs.Serving.{Serves, begins, carries_out, refuses, IsEntryOf, move_count, version_made}

-- the versions of the moves are those from this one on, in order
abbrev pub IsNumbered : ℕ → List Move → Type 0
IsNumbered version [] = Unit {0}
IsNumbered version (move ∷ rest) = (move.version ≡ version) × IsNumbered (version + 1) rest

-- numbered moves are above an earlier version
above : (version from : ℕ) (moves : List Move) → version < from → IsNumbered from moves → All (λ (move : Move). version < move.version) moves
above version from [] below numbered = All-nil (λ (move : Move). version < move.version)
above version from (move ∷ rest) below numbered =
    All-cons (λ (later : Move). version < later.version) move rest (omega (arith, numbered.0)) (above version (from + 1) rest (omega arith) numbered.1)

-- numbered moves stand in rising versions
pub numbered_rises : (version : ℕ) (moves : List Move) → IsNumbered version moves → Rises (λ (move : Move). move.version) moves
numbered_rises version [] numbered = tt
numbered_rises version (move ∷ rest) numbered =
    (above move.version (version + 1) rest (omega (arith, numbered.0)) numbered.1, numbered_rises (version + 1) rest numbered.1)

-- so they stay as they are
pub numbered_rise : (moves : List Move) → IsNumbered 1 moves → in_rising_versions moves ≡ moves
numbered_rise moves numbered = rising_is (λ (move : Move). move.version) moves (numbered_rises 1 moves numbered)

numbered_append : (version : ℕ) (xs ys : List Move) → IsNumbered version xs → IsNumbered (version + length xs) ys → IsNumbered version (xs ++ ys)
numbered_append version [] ys h g = subst (λ v. IsNumbered v ys) (omega arith) g
numbered_append version (x ∷ xs) ys h g = (h.0, numbered_append (version + 1) xs ys h.1 (subst (λ v. IsNumbered v ys) (omega arith) g))

-- what an entry says of one of its moves: as many as that move is, and numbered
record OneMove (version places : ℕ) (moves : List Move) : Type 0 where
  pub numbered : IsNumbered (version + 1) moves
  count : length moves ≡ move_count places

suc_positive : (n : ℕ) → nat_lt 0 (suc n) ≡ true
suc_positive n = grind (arith, nat_tests)

suc_nonzero : (n : ℕ) → (suc n == 0) ≡ false
suc_nonzero n = grind (arith, nat_tests)

one_move : (n : ℕ) → move_count (suc n) ≡ 1
one_move n = rw (suc_nonzero n) refl

reserved : (entry : Entry) (allocs version : ℕ) → entry.reserved_at ≡ version_made version allocs → OneMove version allocs (reservation_of entry allocs)
reserved entry zero version is = record { numbered = tt; count = refl }
reserved entry (suc allocs) version is =
    let at : entry.reserved_at ≡ version + 1 = rw (suc_nonzero allocs) at is in
    rw (suc_positive allocs) (record { numbered = (at, tt); count = sym (one_move allocs) })

returned : (entry : Entry) (places version : ℕ) → entry.returned ≡ places → entry.returned_at ≡ version_made version places → OneMove version places (return_of entry)
returned entry zero version same is = rw same (record { numbered = tt; count = refl })
returned entry (suc places) version same is =
    let at : entry.returned_at ≡ version + 1 = rw (suc_nonzero places) at is in
    rw (same, suc_positive places) (record { numbered = (at, tt); count = sym (one_move places) })

-- what an entry's call may make is what its operation may make
pub allocs_same : (source : Module) (calls : List Call) (n caller index : ℕ) (call : Call) → slice_get calls n ≡ Some call → caller ≡ 1 → index ≡ n + 1
    → allocs_at source (calls ∷ []) caller index ≡ allocs_of source call
allocs_same source calls n caller index call there is_one is_next = rw (is_one, is_next, add-one n, there) refl

-- the moves of one entry: as many as its two counts say, and numbered
pub record EntryMoves (version next : ℕ) (moves : List Move) : Type 0 where
  pub numbered : IsNumbered (version + 1) moves
  pub count : version + length moves ≡ next

pub entry_moves : (source : Module) (heap : Objects) (call : Call) (drawn number version : ℕ) (entry : Entry) → IsEntryOf source heap call drawn number version entry
    → EntryMoves version (version + move_count (allocs_of source call) + move_count entry.returned) (reservation_of entry (allocs_of source call) ++ return_of entry)
entry_moves source heap call drawn number version entry is =
    let first = reserved entry (allocs_of source call) version is.reserved_at in
    let second = returned entry entry.returned (version + move_count (allocs_of source call)) refl is.returned_at in
    record {
      numbered = numbered_append (version + 1) _ _ first.numbered (subst (λ v. IsNumbered v (return_of entry)) (omega (arith, first.count)) second.numbered);
      count = rw length-append (omega (arith, first.count, second.count));
    }

-- the moves of the entries: numbered from 1 on, up to the version
pub record AllMoves (version : ℕ) (moves : List Move) : Type 0 where
  pub numbered : IsNumbered 1 moves
  pub count : length moves ≡ version

module _ (source : Module) (places first : ℕ) (start : Objects) (calls : List Call) where
  pub serves_numbered : {n version : ℕ} {es : List Entry} {rs : List Refusal} {heap : Objects} → Serves source places first start calls n es rs heap version
      → AllMoves version (moves_of source (calls ∷ []) es)
  serves_numbered begins = record { numbered = tt; count = refl }
  serves_numbered (carries_out {count = n} {version = v} {entries = es} {heap = h} call e before there fits is) =
      let so_far = serves_numbered before in
      let same : moves_of_entry source (calls ∷ []) e ≡ reservation_of e (allocs_of source call) ++ return_of e =
      ap (λ a. reservation_of e a ++ return_of e) (allocs_same source calls n e.caller e.index call there is.caller is.index) in
      let new = entry_moves source h call _ _ v e is in
      let whole : moves_of source (calls ∷ []) (es ++ e ∷ []) ≡ moves_of source (calls ∷ []) es ++ (reservation_of e (allocs_of source call) ++ return_of e) =
      flat_map-append (moves_of_entry source (calls ∷ [])) es (e ∷ []) ∙ ap (λ l. moves_of source (calls ∷ []) es ++ l) (append-nil _ ∙ same) in
      rw whole (record {
        numbered = numbered_append 1 _ _ so_far.numbered (subst (λ w. IsNumbered w (reservation_of e (allocs_of source call) ++ return_of e)) (omega (arith, so_far.count)) new.numbered);
        count = rw length-append (omega (arith, so_far.count, new.count));
      })
  serves_numbered (refuses call r before there short is) = serves_numbered before

  -- the moves of the entries stand in rising versions
  pub serves_rise : {n version : ℕ} {es : List Entry} {rs : List Refusal} {heap : Objects} → Serves source places first start calls n es rs heap version
      → in_rising_versions (moves_of source (calls ∷ []) es) ≡ moves_of source (calls ∷ []) es
  serves_rise served = numbered_rise _ (serves_numbered served).numbered

  -- an entry that made no move has the version 0
  pub serves_versions : {n version : ℕ} {es : List Entry} {rs : List Refusal} {heap : Objects} → Serves source places first start calls n es rs heap version
      → All (HasVersionsOfMovesAlone source (calls ∷ [])) es
  serves_versions begins = All-nil (HasVersionsOfMovesAlone source (calls ∷ []))
  serves_versions (carries_out {count = n} {version = v} {entries = es} call e before there fits is) =
      All-push (HasVersionsOfMovesAlone source (calls ∷ [])) es e (serves_versions before) (record {
        unreserved = λ none. is.reserved_at ∙ ap (version_made v) (sym (allocs_same source calls n e.caller e.index call there is.caller is.index) ∙ none);
        unreturned = λ none. is.returned_at ∙ ap (version_made (v + move_count (allocs_of source call))) none;
      })
  serves_versions (refuses call r before there short is) = serves_versions before
