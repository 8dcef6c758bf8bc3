-- the pool of served calls is lawful
use Rattle.std.proofs.Common.{◌≡◌, ℕ, zero, suc, ◌+◌, ◌-◌, ◌<◌, ◌≤◌, List, [], ◌∷◌, ◌++◌, length, take, get_or, map, refl, sym, ap, subst, ◌∙◌, arith, ℤ, pos, ◌-ℤ◌, ◌⊎◌, inl, inr}
use Rattle.std.specs.Prelude.{All, AllPairs, Contains}
use Rattle.std.specs.List.Sorted.{IsStrictlyIncreasing}
use Rattle.std.proofs.lemmas.Int.{ints}
use Rattle.std.proofs.lemmas.List.{take-append-le, take_all}
use Rattle.std.proofs.lemmas.List.Elements.{All-push}
use Rattle.std.proofs.lemmas.List.Quantifiers.{all_pairs_push}
use Rattle.dl_ir.specs.declared.answers.Entry.{Entry}
use Rattle.dl_ir.specs.declared.answers.Refusal.{Refusal}
use Rattle.dl_ir.specs.declared.calls.Call.{Call}
use Rattle.dl_ir.specs.declared.modules.Module.{Module}
use Rattle.dl_ir.specs.declared.moves.Move.{Move}
use Rattle.dl_ir.specs.Heap.{Objects, hidden_count}
use Rattle.dl_shape.specs.Pool.{AreBelow, IsLawfulPool, allocs_at, free_at, moves_of, versions_of, reservation_of, return_of}
use Rattle.dl_serial.specs.Rooms.{allocs_of}
use Rattle.dl_serial.specs.Serving.{Serves, begins, carries_out, refuses, move_count}
use Rattle.dl_serial.proofs.Covering.{serves_indexes, serves_in_order}
use Rattle.dl_serial.proofs.Lawful.{level, stays_take, numbered_range, numbered_once, up_to}
use Rattle.dl_serial.proofs.Returns.{moves_push, serves_returns, serves_level}
use Rattle.dl_serial.proofs.Rising.{IsNumbered, entry_moves, allocs_same, serves_numbered}

-- the versions of moves that are numbered
version_at : (from : ℕ) (ms : List Move) → IsNumbered from ms → (k d : ℕ) → k < length (map (λ (m : Move). m.version) ms) → get_or (map (λ (m : Move). m.version) ms) k d ≡ from + k
version_at from [] numbered k d within = absurd (omega arith)
version_at from (m ∷ rest) numbered zero d within = numbered.0 ∙ omega arith
version_at from (m ∷ rest) numbered (suc k) d within = version_at (from + 1) rest numbered.1 k d (omega arith) ∙ omega arith

same_length : (ms : List Move) → length (map (λ (m : Move). m.version) ms) ≡ length ms
same_length [] = refl
same_length (m ∷ rest) = ap suc (same_length rest)

-- one number is below the other, or they are the same
three : (i j : ℕ) → (i < j) ⊎ ((i ≡ j) ⊎ (j < i))
three zero zero = inr (inl refl)
three zero (suc j) = inl (omega arith)
three (suc i) zero = inr (inr (omega arith))
three (suc i) (suc j) = elim (three i j) [ inl l ↦ inl (omega (arith, l)) | inr r ↦ elim r [ inl e ↦ inr (inl (ap suc e)) | inr g ↦ inr (inr (omega (arith, g))) ] ]

-- within a list the default does not matter
get_or_same : {X : Type 0} (xs : List X) (k : ℕ) (c d : X) → k < length xs → get_or xs k c ≡ get_or xs k d
get_or_same [] k c d inside = absurd (omega arith)
get_or_same (x ∷ xs) zero c d inside = refl
get_or_same (x ∷ xs) (suc k) c d inside = get_or_same xs k c d (omega arith)

module _ (source : Module) (places first : ℕ) (start : Objects) (calls : List Call) where
  abbrev pub versions : Entry → List ℕ
  versions e = versions_of source (calls ∷ []) e

  abbrev pub moves : List Entry → List Move
  moves es = moves_of source (calls ∷ []) es

  abbrev pub base : ℤ
  base = pos places -ℤ pos (hidden_count start)

  -- an entry and a refusal, by which came first
  pub record IsApart (e : Entry) (r : Refusal) : Type 0 where
    pub after : e.index < r.index → All (λ w. w ≤ r.version) (versions e)
    pub before : r.index < e.index → All (λ w. r.version < w) (versions e)

  pub record WasDue (ms : List Move) (r : Refusal) : Type 0 where
    pub need : r.need ≡ allocs_at source (calls ∷ []) r.caller r.index
    pub found : level base (take r.version ms) ≡ pos r.found
    pub short : r.found < r.need

  pub record IsOrdered (n version : ℕ) (es : List Entry) (rs : List Refusal) : Type 0 where
    pub within : All (λ (e : Entry). IsStrictlyIncreasing (versions e)) es
    pub upto : All (λ (e : Entry). All (λ w. w ≤ version) (versions e)) es
    pub along : AllPairs (λ (a b : Entry). AreBelow (versions a) (versions b)) es
    pub refused : All (λ (r : Refusal). (r.version ≤ version) × (r.index ≤ n)) rs
    pub mixed : All (λ (e : Entry). All (IsApart e) rs) es
    pub due : All (WasDue (moves es)) rs

  pub serves_ordered : {n version : ℕ} {es : List Entry} {rs : List Refusal} {heap : Objects} → hidden_count start ≤ places → Serves source places first start calls n es rs heap version
      → IsOrdered n version es rs
  serves_ordered small begins = record {
    within = λ k d inside. absurd (omega arith);
    upto = λ k d inside. absurd (omega arith);
    along = λ i j d less inside. absurd (omega arith);
    refused = λ k d inside. absurd (omega arith);
    mixed = λ k d inside. absurd (omega arith);
    due = λ k d inside. absurd (omega arith);
  }
  serves_ordered small (carries_out {count = n} {version = v} {entries = es} {refusals = rs} {heap = h} call e before there fits is) =
      let old = serves_ordered small before in
      let added = reservation_of e (allocs_of source call) ++ return_of e in
      let new = entry_moves source h call (first + length es) (n + 1) v e is in
      let same : versions e ≡ map (λ (m : Move). m.version) added
      = ap (λ (a : ℕ). map (λ (m : Move). m.version) (reservation_of e a ++ return_of e)) (allocs_same source calls n e.caller e.index call there is.caller is.index) in
      let at : (k d : ℕ) → k < length (versions e) → get_or (versions e) k d ≡ v + 1 + k
      = subst (λ (ws : List ℕ). (k d : ℕ) → k < length ws → get_or ws k d ≡ v + 1 + k) (sym same) (version_at (v + 1) added new.numbered) in
      let long : length (versions e) ≡ length added = ap length same ∙ same_length added in
      let numbers = serves_numbered source places first start calls before in
      record {
        within = All-push (λ (x : Entry). IsStrictlyIncreasing (versions x)) es e old.within (λ k inside. omega (arith, at k 0 (omega arith), at (k + 1) 0 inside));
        upto = All-push (λ (x : Entry). All (λ w. w ≤ v + move_count (allocs_of source call) + move_count e.returned) (versions x)) es e
            (λ k d inside j c within. omega (arith, old.upto k d inside j c within, new.count)) (λ k d inside. omega (arith, at k d inside, long, new.count));
        along = all_pairs_push (λ (a b : Entry). AreBelow (versions a) (versions b)) es e old.along
            (λ k d inside i c within j b later. omega (arith, old.upto k d inside i c within, at j b later));
        refused = λ k d inside. let r = old.refused k d inside in (omega (arith, r.0, new.count), omega (arith, r.1));
        mixed = All-push (λ (x : Entry). All (IsApart x) rs) es e old.mixed (λ k d inside. record {
          after = λ less. absurd (omega (arith, less, (old.refused k d inside).1, is.index));
          before = λ less j c within. omega (arith, at j c within, (old.refused k d inside).0);
        });
        due = λ k d inside. let r = old.due k d inside in record {
          need = r.need;
          found = ap (λ (ms : List Move). level base (take (get_or rs k d).version ms)) (moves_push source calls n es e call there is.caller is.index)
              ∙ ap (level base) (take-append-le (get_or rs k d).version (moves es) added (omega (arith, (old.refused k d inside).0, numbers.count))) ∙ r.found;
          short = r.short;
        };
      }
  serves_ordered small (refuses {count = n} {version = v} {entries = es} {refusals = rs} {heap = h} call r before there short is) =
      let old = serves_ordered small before in
      let numbers = serves_numbered source places first start calls before in
      let now = serves_level source places first start calls small before in
      record {
        within = old.within;
        upto = old.upto;
        along = old.along;
        refused = All-push (λ (x : Refusal). (x.version ≤ v) × (x.index ≤ n + 1)) rs r (λ k d inside. let x = old.refused k d inside in (x.0, omega (arith, x.1))) (omega (arith, is.version), omega (arith, is.index));
        mixed = λ k d inside. All-push (IsApart (get_or es k d)) rs r (old.mixed k d inside) (record {
          after = λ less j c within. omega (arith, old.upto k d inside j c within, is.version);
          before = λ less. absurd (omega (arith, less, is.index, serves_indexes source places first start calls before k d inside));
        });
        due = All-push (WasDue (moves es)) rs r old.due (record {
          need = is.need ∙ sym (allocs_same source calls n r.caller r.index call there is.caller is.index);
          found = ap (λ (w : ℕ). level base (take w (moves es))) is.version ∙ ap (level base) (take_all v (moves es) (omega (arith, numbers.count))) ∙ now.left ∙ omega (arith, ints, is.found);
          short = omega (arith, is.found, is.need, short);
        });
      }

  -- the free places at a version are those that so many of the moves leave
  free_taken : (ms : List Move) (w : ℕ) → IsNumbered 1 ms → free_at places start ms w ≡ level base (take w ms)
  free_taken ms w numbered =
      let same : w - 0 ≡ w = omega arith in ap (level base) (up_to w 0 ms numbered ∙ ap (λ (n : ℕ). take n ms) same)

  -- of an entry and a refusal that are there
  apart_at : (es : List Entry) (rs : List Refusal) → All (λ (e : Entry). All (IsApart e) rs) es → (e : Entry) (r : Refusal) → Contains es e → Contains rs r → IsApart e r
  apart_at es rs mixed e r there among =
      subst (λ (x : Entry). IsApart x r) there.2 (subst (λ (y : Refusal). IsApart (get_or es there.0 e) y) among.2 (mixed there.0 e there.1 among.0 r among.1))

  -- of two entries that are there, the one of the lesser index
  below_in_order : (es : List Entry) → AllPairs (λ (a b : Entry). AreBelow (versions a) (versions b)) es → AllPairs (λ (a b : Entry). a.caller ≡ b.caller → a.index < b.index) es
      → (a b : Entry) → Contains es a → Contains es b → a.caller ≡ b.caller → a.index < b.index → AreBelow (versions a) (versions b)
  below_in_order es along rises a b first second same less =
      let at_first : (d : Entry) → get_or es first.0 d ≡ a = λ d. get_or_same es first.0 d a first.1 ∙ first.2 in
      let at_second : (d : Entry) → get_or es second.0 d ≡ b = λ d. get_or_same es second.0 d b second.1 ∙ second.2 in
      elim (three first.0 second.0) [
        | inl sooner ↦ subst (λ (x : Entry). AreBelow (versions x) (versions b)) (at_first a) (subst (λ (y : Entry). AreBelow (versions (get_or es first.0 a)) (versions y)) (at_second a) (along first.0 second.0 a sooner second.1))
        | inr other ↦ elim other [
          | inl one ↦
              let alike : a ≡ b = sym (at_first a) ∙ ap (λ (k : ℕ). get_or es k a) one ∙ at_second a in
              absurd (omega (arith, less, ap (λ (x : Entry). x.index) alike))
          | inr later ↦
              let risen = rises second.0 first.0 a later first.1 (ap (λ (x : Entry). x.caller) (at_second a) ∙ sym same ∙ sym (ap (λ (x : Entry). x.caller) (at_first a))) in
              absurd (omega (arith, less, risen, ap (λ (x : Entry). x.index) (at_first a), ap (λ (x : Entry). x.index) (at_second a)))
        ]
      ]

  pub serves_lawful : {n version : ℕ} {es : List Entry} {rs : List Refusal} {heap : Objects} → hidden_count start ≤ places → Serves source places first start calls n es rs heap version
      → IsLawfulPool places source (calls ∷ []) start es rs
  serves_lawful {es = es} {rs = rs} small served =
      let numbers = serves_numbered source places first start calls served in
      let ordered = serves_ordered small served in
      let rises = serves_in_order source places first start calls served in
      record {
        in_range = numbered_range (moves es) numbers.numbered;
        each_once = λ w low high. numbered_once w 1 (moves es) numbers.numbered low (omega arith);
        never_negative = λ w high. rw (free_taken (moves es) w numbers.numbered) (stays_take base (moves es) w (serves_level source places first start calls small served).stays);
        returns = serves_returns source places first start calls served;
        due = λ k d inside. let r = ordered.due k d inside in record {
          need = r.need;
          found = sym (free_taken (moves es) (get_or rs k d).version numbers.numbered ∙ r.found);
          short = r.short;
          seen = omega (arith, (ordered.refused k d inside).0, numbers.count);
        };
        within = ordered.within;
        along = λ a b ina inb same less. below_in_order es ordered.along rises a b ina inb same less;
        not_before = λ e r ine inr same less. let apart = apart_at es rs ordered.mixed e r ine inr in apart.after less;
        before = λ e r ine inr same less. let apart = apart_at es rs ordered.mixed e r ine inr in apart.before less;
      }
