-- The log of the pool, with one move more.
use Rattle.std.proofs.Common.{◌≡◌, ◌⊎◌, inl, inr, ℕ, ℤ, zero, suc, ◌+◌, ◌<◌, ◌≤◌, Bool, true, false, cond, List, [], ◌∷◌, ◌++◌, length, refl, sym, ap, subst, ◌∙◌, arith}
use Rattle.std.specs.Prelude.{◌+ℤ◌, ◌-ℤ◌, ◌≤ℤ◌, ◌==◌, pos, count_by, fold, filter, nat_le, All}
use Rattle.std.proofs.lemmas.Bool.{cases_lt}
use Rattle.std.proofs.lemmas.Bool.Decides.{nat_tests}
use Rattle.std.proofs.lemmas.List.Elements.{All-weaker}
use Rattle.std.proofs.lemmas.List.Sums.{sum_by-cons}
use Rattle.std.proofs.Math.IntN.{+ℤ_comm, +ℤ_assoc}
use Rattle.dl_ir.specs.declared.moves.Move.{Move}
use Rattle.dl_ir.specs.Heap.{hidden_count}
use Rattle.dl_shape.specs.Pool.{free_at, IsDue}
use Rattle.dl_core.specs.Plans.{Plan, source_of}
use Rattle.dl_core.specs.Core.{Core, refusals_of}
use Rattle.dl_core.specs.Reached.{Calls}
use Rattle.dl_core.specs.Sound.{HasLog, moves_in}

-- a list with one move more
pub data Inserted (m : Move) : List Move → List Move → Type 0 where
  here : {xs : List Move} → Inserted m xs (m ∷ xs)
  there : {x : Move} {xs ys : List Move} → Inserted m xs ys → Inserted m (x ∷ xs) (x ∷ ys)

pub insert_after : (m : Move) (zs xs ys : List Move) → Inserted m xs ys → Inserted m (zs ++ xs) (zs ++ ys)
insert_after m [] xs ys i = i
insert_after m (z ∷ zs) xs ys i = there (insert_after m zs xs ys i)

pub insert_before : (m : Move) (zs xs ys : List Move) → Inserted m xs ys → Inserted m (xs ++ zs) (ys ++ zs)
insert_before m zs xs ys here = here
insert_before m zs xs ys (there i) = there (insert_before m zs _ _ i)

abbrev freed : ℤ → List Move → ℤ
freed from xs = fold (λ free (move : Move). free +ℤ move.change) from xs

free_step : (version : ℕ) (from : ℤ) (x : Move) (xs : List Move)
    → freed from (filter (λ (move : Move). nat_le move.version version) (x ∷ xs)) ≡ freed (cond (nat_le x.version version) (from +ℤ x.change) from) (filter (λ (move : Move). nat_le move.version version) xs)
free_step version from x xs =
    elim (nat_le x.version version) as (λ b. freed from (cond b (x ∷ filter (λ (move : Move). nat_le move.version version) xs) (filter (λ (move : Move). nat_le move.version version) xs))
    ≡ freed (cond b (from +ℤ x.change) from) (filter (λ (move : Move). nat_le move.version version) xs)) [
      | true ↦ refl
      | false ↦ refl
    ]

swap : (a b c : ℤ) → (a +ℤ b) +ℤ c ≡ (a +ℤ c) +ℤ b
swap a b c = +ℤ_assoc a b c ∙ ap (λ z. a +ℤ z) (+ℤ_comm b c) ∙ sym (+ℤ_assoc a c b)

freed_more : (from change : ℤ) (xs : List Move) → freed (from +ℤ change) xs ≡ freed from xs +ℤ change
freed_more from change [] = refl
freed_more from change (x ∷ xs) = ap (λ z. freed z xs) (swap from change x.change) ∙ freed_more (from +ℤ x.change) change xs

freed_insert : (version : ℕ) (m : Move) (xs ys : List Move) → Inserted m xs ys → (from : ℤ)
    → freed from (filter (λ (move : Move). nat_le move.version version) ys) ≡ cond (nat_le m.version version) (freed from (filter (λ (move : Move). nat_le move.version version) xs) +ℤ m.change) (freed from (filter (λ (move : Move). nat_le move.version version) xs))
freed_insert version m xs ys (here {xs = zs}) from = free_step version from m zs ∙ by (nat_le m.version version)
  where
    by : (b : Bool) → freed (cond b (from +ℤ m.change) from) (filter (λ (move : Move). nat_le move.version version) zs) ≡ cond b (freed from (filter (λ (move : Move). nat_le move.version version) zs) +ℤ m.change) (freed from (filter (λ (move : Move). nat_le move.version version) zs))
    by true = freed_more from m.change (filter (λ (move : Move). nat_le move.version version) zs)
    by false = refl
freed_insert version m xs ys (there {x = x} {xs = as'} {ys = bs'} i) from =
    free_step version from x bs'
    ∙ freed_insert version m as' bs' i (cond (nat_le x.version version) (from +ℤ x.change) from)
    ∙ ap (λ z. cond (nat_le m.version version) (z +ℤ m.change) z) (sym (free_step version from x as'))

insert_length : (m : Move) (xs ys : List Move) → Inserted m xs ys → length ys ≡ length xs + 1
insert_length m xs ys here = omega arith
insert_length m xs ys (there i) = omega (arith, insert_length m _ _ i)

insert_count : (p : Move → Bool) (m : Move) (xs ys : List Move) → Inserted m xs ys → count_by p ys ≡ count_by p xs + cond (p m) 1 0
insert_count p m xs ys (here {xs = zs}) = omega (arith, sum_by-cons (λ x. cond (p x) 1 0) m zs)
insert_count p m xs ys (there {x = x} {xs = as'} {ys = bs'} i) = omega (arith, sum_by-cons (λ y. cond (p y) 1 0) x as', sum_by-cons (λ y. cond (p y) 1 0) x bs', insert_count p m as' bs' i)

insert_all : (P : Move → Type 0) (m : Move) (xs ys : List Move) → Inserted m xs ys → P m → All P xs → All P ys
insert_all P m xs ys here p a zero d lt = p
insert_all P m xs ys here p a (suc k) d lt = a k d (omega (arith, lt))
insert_all P m xs ys (there i) p a zero d lt = a zero d (omega arith)
insert_all P m xs ys (there i) p a (suc k) d lt = insert_all P m _ _ i p (λ k' d' lt'. a (suc k') d' (omega (arith, lt'))) k d (omega (arith, lt))

-- where all moves are at most at a version, more versions free no more
all_before : (version : ℕ) (xs : List Move) → All (λ (move : Move). move.version ≤ version) xs → filter (λ (move : Move). nat_le move.version version) xs ≡ xs
all_before version [] a = refl
all_before version (x ∷ xs) a =
    let yes : nat_le x.version version ≡ true = grind (arith, nat_tests, a 0 x (omega arith)) in
    ap (λ b. cond b (x ∷ filter (λ (move : Move). nat_le move.version version) xs) (filter (λ (move : Move). nat_le move.version version) xs)) yes
    ∙ ap (λ zs. x ∷ zs) (all_before version xs (λ k d lt. a (suc k) d (omega (arith, lt))))

none_one : (version : ℕ) (xs : List Move) → All (λ (move : Move). move.version < version) xs → count_by (λ (move : Move). move.version == version) xs ≡ 0
none_one version [] a = refl
none_one version (x ∷ xs) a =
    let no_eq : (x.version == version) ≡ false = grind (arith, nat_tests, a 0 x (omega arith)) in
    let one : ◌≡◌ {A = ℕ} (cond (x.version == version) 1 0) 0 = ap {B = ℕ} (λ b. cond b 1 0) no_eq in
    omega (arith, sum_by-cons (λ (move : Move). cond (move.version == version) 1 0) x xs, one, none_one version xs (λ k d lt. a (suc k) d (omega (arith, lt))))

-- the log with one move more
pub log_more : (plan : Plan) (core next : Core) (calls : Calls) (m : Move) → Inserted m (moves_in plan core calls) (moves_in plan next calls) → m.version ≡ core.pool.version + 1 → next.pool.version ≡ core.pool.version + 1
    → pos next.pool.free ≡ pos core.pool.free +ℤ m.change → ((d : ℕ) → refusals_of next d ≡ refusals_of core d) → HasLog plan core calls → HasLog plan next calls
log_more plan core next calls m i m_is version free refusals log = record {
  count = omega (arith, insert_length m ms ms' i, log.count, version);
  in_range = insert_all (λ (move : Move). (1 ≤ move.version) × (move.version ≤ next.pool.version)) m ms ms' i (omega (arith, m_is), omega (arith, m_is, version))
      (λ k d lt. let r = log.in_range k d lt in (r.0, omega (arith, r.1, version)));
  each_once = λ v low high. once v low (omega (arith, high, version)) (cases_lt v (core.pool.version + 1));
  free = free ∙ sym (at_new ∙ ap (λ z. z +ℤ m.change) (sym log.free)) ∙ ap (free_at plan.places plan.heap ms') (sym version);
  never_negative = λ v low. by_version v (omega (arith, low, version)) (cases_lt v (core.pool.version + 1));
  due = λ d. subst (All (IsDue (source_of plan) calls plan.places plan.heap ms')) (sym (refusals d))
      (All-weaker (IsDue (source_of plan) calls plan.places plan.heap ms) (IsDue (source_of plan) calls plan.places plan.heap ms')
      (λ r is. record { need = is.need; found = is.found ∙ sym (at_old r.version (omega (arith, is.seen, log.count))); short = is.short; seen = omega (arith, is.seen, insert_length m ms ms' i) }) (refusals_of core d) (log.due d));
}
  where
    ms : List Move
    ms = moves_in plan core calls

    ms' : List Move
    ms' = moves_in plan next calls

    base : ℤ
    base = pos plan.places -ℤ pos (hidden_count plan.heap)

    at_old : (v : ℕ) → v ≤ core.pool.version → free_at plan.places plan.heap (moves_in plan next calls) v ≡ free_at plan.places plan.heap (moves_in plan core calls) v
    at_old v low =
        let later : nat_le m.version v ≡ false = grind (arith, nat_tests, m_is, low) in
        freed_insert v m ms ms' i base ∙ ap (λ b. cond b (free_at plan.places plan.heap ms v +ℤ m.change) (free_at plan.places plan.heap ms v)) later

    same_filter : (v : ℕ) → core.pool.version ≤ v → free_at plan.places plan.heap ms v ≡ freed base ms
    same_filter v high = ap (freed base) (all_before v ms (λ k d lt. omega (arith, (log.in_range k d lt).1, high)))

    at_new : free_at plan.places plan.heap (moves_in plan next calls) (core.pool.version + 1) ≡ free_at plan.places plan.heap (moves_in plan core calls) core.pool.version +ℤ m.change
    at_new =
        let now : nat_le m.version (core.pool.version + 1) ≡ true = grind (arith, nat_tests, m_is) in
        freed_insert (core.pool.version + 1) m ms ms' i base
        ∙ ap (λ b. cond b (free_at plan.places plan.heap ms (core.pool.version + 1) +ℤ m.change) (free_at plan.places plan.heap ms (core.pool.version + 1))) now
        ∙ ap (λ z. z +ℤ m.change) (same_filter (core.pool.version + 1) (omega arith) ∙ sym (same_filter core.pool.version (omega arith)))

    once : (v : ℕ) → 1 ≤ v → v ≤ core.pool.version + 1 → (v < core.pool.version + 1) ⊎ (core.pool.version + 1 ≤ v) → count_by (λ (move : Move). move.version == v) (moves_in plan next calls) ≡ 1
    once v low high (inl less) =
        let other : (m.version == v) ≡ false = grind (arith, nat_tests, m_is, less) in
        let none : ◌≡◌ {A = ℕ} (cond (m.version == v) 1 0) 0 = ap {B = ℕ} (λ b. cond b 1 0) other in
        omega (arith, insert_count (λ (move : Move). move.version == v) m ms ms' i, none, log.each_once v low (omega (arith, less)))
    once v low high (inr more) =
        let same : (m.version == v) ≡ true = grind (arith, nat_tests, m_is, high, more) in
        let one : ◌≡◌ {A = ℕ} (cond (m.version == v) 1 0) 1 = ap {B = ℕ} (λ b. cond b 1 0) same in
        omega (arith, insert_count (λ (move : Move). move.version == v) m ms ms' i, one, none_one v ms (λ k d lt. omega (arith, (log.in_range k d lt).1, more)))

    by_version : (v : ℕ) → v ≤ core.pool.version + 1 → (v < core.pool.version + 1) ⊎ (core.pool.version + 1 ≤ v) → pos 0 ≤ℤ free_at plan.places plan.heap (moves_in plan next calls) v
    by_version v high (inl less) = subst (λ z. pos 0 ≤ℤ z) (sym (at_old v (omega (arith, less)))) (log.never_negative v (omega (arith, less)))
    by_version v high (inr more) =
        let v_is : core.pool.version + 1 ≡ v = omega (arith, high, more) in
        subst (λ z. pos 0 ≤ℤ z) (free ∙ ap (λ z. z +ℤ m.change) log.free ∙ sym at_new ∙ ap (free_at plan.places plan.heap ms') v_is) (grind arith)
