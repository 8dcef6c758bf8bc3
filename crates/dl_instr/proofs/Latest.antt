-- Plain steps that have places have latest places.
use Rattle.std.proofs.Common.{◌≡◌, ℕ, zero, suc, ◌+◌, ◌-◌, ◌<◌, ◌≤◌, List, length, sym, ap, subst, ◌∙◌, Some, arith, inl, inr, slice_get, add-one}
use Rattle.std.proofs.lemmas.Bool.{cases_lt, cases_order}
use Rattle.std.proofs.lemmas.Option.{slice_get_within}
use Rattle.dl_lemmas.proofs.Places.{one_at}
use Rattle.dl_ir.specs.declared.modules.OpDecl.{OpDecl}
use Rattle.dl_instr.specs.declared.steps.Step.{Step}
use Rattle.dl_instr.specs.declared.steps.Step.TheVariants.{Drop}
use Rattle.dl_instr.specs.Drops.{IsWithDrops, front, moved}
use Rattle.dl_instr.specs.Jumps.{JumpsLand}
use Rattle.dl_instr.specs.Matching.{IsTarget, Fits, IsNearest, IsLate, opened}
use Rattle.dl_instr.proofs.Rising.{not_falling, taken_once, not_behind, front_next}
use Rattle.dl_instr.proofs.Moved.{jump_on, moved_twice, drop_is}
use Rattle.dl_instr.proofs.CodesOf.{from_plain}

-- a drop stands there
pub record IsDropAt (steps : List Step) (y : ℕ) : Type 0 where
  pub local : ℕ
  pub is : slice_get steps y ≡ Some (Drop local)

module _ (op : OpDecl) (plain steps : List Step) (w : IsWithDrops op plain steps) (lands : JumpsLand plain) where
  pub inside : (i : ℕ) → i < length plain → w.at i < length steps
  inside i h = let s = one_at plain i h in slice_get_within steps (w.at i) (moved (front w.at) s.0) (w.kept i s.0 s.1)

  -- a place that jumps go to is in front of a plain step that jumps go to
  pub in_front : (z : ℕ) → IsTarget steps z → (t : ℕ) × (t < length plain) × IsTarget plain t × (front w.at t ≡ z)
  in_front z target =
      let from = from_plain op plain steps w lands target.from z target.step target.there target.jumps in
      (from.1, from.5, record { from = from.0; step = from.2; there = from.3; jumps = from.4 }, from.6)

  behind_one : (t x : ℕ) → t < length plain → front w.at t ≡ x + 1 → (u : ℕ) × (t ≡ u + 1) × (w.at u ≡ x)
  behind_one zero x h is = absurd (omega (arith, is))
  behind_one (suc u) x h is = (u, sym (add-one u), omega (arith, is))

  -- each plain step may stand where it stands
  pub fits_here : (i : ℕ) → i < length plain → Fits plain steps i (w.at i)
  fits_here i h =
      let s = one_at plain i h in
      record {
        step = s.0;
        other = moved (front w.at) s.0;
        here = s.1;
        there = w.kept i s.0 s.1;
        same = sym (moved_twice (λ n. 0) (front w.at) s.0);
        targets = (
          λ (t : IsTarget plain (i + 1)). record {
            from = w.at t.from;
            step = moved (front w.at) t.step;
            there = w.kept t.from t.step t.there;
            jumps = jump_on (front w.at) t.step (i + 1) t.jumps ∙ ap Some (front_next w.at i);
          },
          λ (t : IsTarget steps (w.at i + 1)).
              let from = in_front (w.at i + 1) t in
              let one = behind_one from.0 (w.at i) from.1 from.3 in
              let same : one.0 ≡ i = taken_once w.at (length plain) one.0 i w.rises (omega (arith, from.1, one.1)) h one.2 in
              let is : from.0 ≡ i + 1 = omega (arith, one.1, same) in
              subst (λ n. IsTarget plain n) is from.2,
        );
      }

  -- between two plain steps stand drops
  gap : (i y : ℕ) → i + 1 < length plain → w.at i < y → y < w.at (i + 1) → IsDropAt steps y
  gap i y h from to =
      let within = inside (i + 1) h in
      elim (w.added y (omega (arith, within, to))) [
        | inl (j, k, same) ↦ elim (cases_lt i j) [
          | inl less ↦ let up = not_falling w.at (length plain) (i + 1) j w.rises (omega (arith, less)) k in absurd (omega (arith, up, same, to))
          | inr more ↦ let up = not_falling w.at (length plain) j i w.rises more (omega (arith, h)) in absurd (omega (arith, up, same, from))
        ]
        | inr added ↦ record { local = added.local; is = added.is_drop }
      ]

  -- what is known of a latest place
  pub record Stands (i x : ℕ) : Type 0 where
    pub not_before : w.at i ≤ x
    pub drops : (y : ℕ) → w.at i < y → y ≤ x → IsDropAt steps y
    pub fits : Fits plain steps i x
    pub free : (u : ℕ) → i ≤ u → u < length plain → w.at u < x → IsTarget plain (u + 1) → ⊥

  stands : (i b x : ℕ) → i < length plain → w.at i < b → ((y : ℕ) → w.at i < y → y < b → IsDropAt steps y)
      → ((u : ℕ) → i < u → u < length plain → w.at u < b → IsTarget plain (u + 1) → ⊥) → IsNearest plain steps i b x → Stands i x
  stands i b x h room drops free near =
      let le : w.at i ≤ x = elim (cases_lt x (w.at i)) [ inl less ↦ absurd (near.last (w.at i) less room (fits_here i h)) | inr more ↦ more ] in
      record {
        not_before = le;
        drops = λ y from to. drops y from (omega (arith, to, near.below));
        fits = near.fits;
        free = λ u more k before target. elim (cases_lt i u) [
          | inl less ↦ free u less k (omega (arith, before, near.below)) target
          | inr eq ↦
              let is : u ≡ i = omega (arith, more, eq) in
              let there = in_front (x + 1) (near.fits.targets.0 (subst (λ n. IsTarget plain (n + 1)) is target)) in
              let one = behind_one there.0 x there.1 there.3 in
              let below : one.0 < length plain = omega (arith, there.1, one.1) in
              let not_less : i ≤ one.0 = not_behind w.at (length plain) i one.0 w.rises h (omega (arith, le, one.2)) in
              elim (cases_lt i one.0) [
                | inl less ↦ free one.0 less below (omega (arith, one.2, near.below)) (subst (λ n. IsTarget plain n) one.1 there.2)
                | inr not_more ↦
                    let same : one.0 ≡ u = omega (arith, not_less, not_more, is) in
                    omega (arith, ap w.at same, one.2, before)
              ]
        ];
      }

  -- the last plain step, and one before a step whose latest place is known
  stands_last : (i b x : ℕ) → i + 1 ≡ length plain → b ≡ length steps → IsNearest plain steps i b x → Stands i x
  stands_last i b x last end near =
      let ends : length steps ≡ w.at i + 1 = w.ends ∙ ap (front w.at) (sym last) ∙ front_next w.at i in
      stands i b x (omega (arith, last)) (omega (arith, end, ends)) (λ y from to. absurd (omega (arith, from, to, end, ends)))
      (λ u more k before target. omega (arith, more, k, last)) near

  stands_before : (i b x : ℕ) → i + 1 < length plain → Stands (i + 1) b → IsNearest plain steps i b x → Stands i x
  stands_before i b x h next near =
      let up = w.rises i h in
      stands i b x (omega (arith, h)) (let le = next.not_before in omega (arith, up, le))
      (λ y from to. elim (cases_order y (w.at (i + 1))) [
        | inl same ↦
            let drop = next.drops b (omega (arith, same, to)) (omega arith) in
            let f = next.fits in
            let is_drop : f.other ≡ Drop drop.local = let a = f.there in let d = drop.is in cc in
            let plain_drop : f.step ≡ Drop drop.local = drop_is f.step drop.local (f.same ∙ ap opened is_drop) in
            record {
              local = drop.local;
              is = ap (slice_get steps) same ∙ w.kept (i + 1) f.step f.here ∙ ap (λ s. Some (moved (front w.at) s)) plain_drop;
            }
        | inr (inl before) ↦ gap i y h from before
        | inr (inr behind) ↦ next.drops y behind (omega (arith, to))
      ])
      (λ u more k before target. next.free u (omega (arith, more)) k before target) near

  pub all_stand : (d i x : ℕ) → i + suc d ≡ length plain → IsLate plain steps (suc d) x → Stands i x
  all_stand zero i x at (next, late, near) =
      let is : length plain - 1 ≡ i = omega (arith, at) in
      stands_last i next x (omega (arith, at)) late (subst (λ n. IsNearest plain steps n next x) is near)
  all_stand (suc d) i x at (next, late, near) =
      let is : length plain - suc (suc d) ≡ i = omega (arith, at) in
      stands_before i next x (omega (arith, at)) (all_stand d (i + 1) next (omega (arith, at)) late) (subst (λ n. IsNearest plain steps n next x) is near)

  -- there is room for each step before the latest place of the next
  pub room : (d i x : ℕ) → i + suc d ≡ length plain → IsLate plain steps d x → w.at i < x
  room zero i x at late = let there = inside i (omega (arith, at)) in omega (arith, there, late)
  room (suc d) i x at late =
      let next = all_stand d (i + 1) x (omega (arith, at)) late in
      let up = w.rises i (omega (arith, at)) in
      let le = next.not_before in
      omega (arith, up, le)
