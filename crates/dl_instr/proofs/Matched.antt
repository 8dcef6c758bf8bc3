-- Where the latest places pass each check, the steps are the plain ones with steps added.
use Rattle.std.proofs.Common.{◌≡◌, ℕ, zero, suc, ◌+◌, ◌-◌, ◌<◌, ◌≤◌, List, length, refl, sym, ap, subst, ◌∙◌, Some, None, Option, arith, ◌⊎◌, inl, inr, slice_get}
use Rattle.std.proofs.lemmas.Bool.{cases_lt, cases_eq}
use Rattle.std.proofs.lemmas.Option.{slice_get_within}
use Rattle.dl_ir.specs.declared.modules.OpDecl.{OpDecl}
use Rattle.dl_instr.specs.declared.steps.Step.{Step}
use Rattle.dl_instr.specs.Drops.{IsWithDrops, IsAddedDrop, front, moved}
use Rattle.dl_instr.specs.Jumps.{jump_of}
use Rattle.dl_instr.specs.Matching.{IsNearest, IsLate, IsFront, IsJumpMoved, AllAdded, IsMatched, opened}
use Rattle.dl_instr.proofs.Rising.{front_next}
use Rattle.dl_instr.proofs.Moved.{both_jump, same_jump, no_jumps}
use Rattle.dl_instr.proofs.Late.{one_late}

jump_cases : (o : Option ℕ) → (o ≡ None) ⊎ ((t : ℕ) × (o ≡ Some t))
jump_cases None = inl refl
jump_cases (Some t) = inr (t, refl)

module _ (op : OpDecl) (plain steps : List Step) where
  pub matched_late : (d x : ℕ) → IsMatched op plain steps d x → IsLate plain steps d x
  matched_late zero x matched = matched
  matched_late (suc d) x matched = (matched.0, matched_late d matched.0 matched.1, matched.2)

  matched_at : (d e x : ℕ) → e ≤ d → IsMatched op plain steps d x → (y : ℕ) × IsMatched op plain steps e y
  matched_at zero e x h matched = (x, let same : 0 ≡ e = omega (arith, h) in subst (λ n. IsMatched op plain steps n x) same matched)
  matched_at (suc d) e x h matched = elim (cases_lt d e) [
    | inl less ↦ (x, let same : suc d ≡ e = omega (arith, h, less) in subst (λ n. IsMatched op plain steps n x) same matched)
    | inr more ↦ matched_at d e matched.0 more matched.1
  ]

  module _ (first : ℕ) (matched : IsMatched op plain steps (length plain) first) (before : AllAdded op steps 0 first) (some : 0 < length plain) where
    -- the latest place of each plain step
    place : ℕ → ℕ
    place i = elim (cases_lt (length plain) (length plain - i)) [
      | inl less ↦ 0
      | inr more ↦ (matched_at (length plain) (length plain - i) first more matched).0
    ]

    placed : (i : ℕ) → IsMatched op plain steps (length plain - i) (place i)
    unfolding place
    placed i = elim (cases_lt (length plain) (length plain - i)) as (λ (e : (length plain < length plain - i) ⊎ (length plain - i ≤ length plain)).
        IsMatched op plain steps (length plain - i) (elim e [ inl less ↦ 0 | inr more ↦ (matched_at (length plain) (length plain - i) first more matched).0 ])) [
          | inl less ↦ absurd (omega (arith, less))
          | inr more ↦ (matched_at (length plain) (length plain - i) first more matched).1
        ]

    -- what the checks tell of a plain step
    record Known (i : ℕ) : Type 0 where
      next : ℕ
      late : IsLate plain steps (length plain - (i + 1)) next
      near : IsNearest plain steps i next (place i)
      added : AllAdded op steps (place i + 1) next
      jump : IsJumpMoved plain steps i (place i)
      last : i + 1 ≡ length plain → place i + 1 ≡ next

    known : (i : ℕ) → i < length plain → Known i
    known i h =
        let d = length plain - (i + 1) in
        let two : length plain - i ≡ suc d = omega (arith, h) in
        let m : IsMatched op plain steps (suc d) (place i) = subst (λ n. IsMatched op plain steps n (place i)) two (placed i) in
        let is : length plain - suc d ≡ i = omega (arith, h) in
        record {
          next = m.0;
          late = matched_late d m.0 m.1;
          near = subst (λ n. IsNearest plain steps n m.0 (place i)) is m.2;
          added = m.3;
          jump = subst (λ n. IsJumpMoved plain steps n (place i)) is m.4;
          last = λ end. m.5 (omega (arith, end));
        }

    late_at : (i x : ℕ) → IsLate plain steps (length plain - i) x → x ≡ place i
    late_at i x late = one_late plain steps (length plain - i) x (place i) late (matched_late (length plain - i) (place i) (placed i))

    front_at : (t z : ℕ) → IsFront plain steps t z → front place t ≡ z
    front_at zero z is = sym is
    front_at (suc u) z (x, late, is) = let same = late_at u x late in omega (arith, same, is)

    kept_at : (i : ℕ) (step : Step) → slice_get plain i ≡ Some step → i < length plain → slice_get steps (place i) ≡ Some (moved (front place) step)
    kept_at i step is h =
        let k = known i h in
        let f = k.near.fits in
        let one : f.step ≡ step = let a = f.here in cc in
        let alike : opened step ≡ opened f.other = ap opened (sym one) ∙ f.same in
        f.there ∙ ap Some (elim (jump_cases (jump_of step)) [
          | inl none ↦ no_jumps (front place) step f.other alike none (elim (jump_cases (jump_of f.other)) [
            | inl also ↦ also
            | inr (z, to) ↦ let back = both_jump f.other step z (sym alike) to in let b = back.1 in absurd cc
          ])
          | inr (t, from) ↦
              let there = both_jump step f.other t alike from in
              same_jump (front place) step f.other t there.0 alike from there.1 (front_at t there.0 (k.jump step f.other t there.0 is f.there from there.1))
        ])

    -- a place at or behind the place of a step is one of a later step, or of a step that may have been added
    covered : (d x y : ℕ) → IsMatched op plain steps d x → d ≤ length plain → x ≤ y → y < length steps → ((i : ℕ) × (i < length plain) × (place i ≡ y)) ⊎ IsAddedDrop op steps y
    covered zero x y m h from to = absurd (omega (arith, m, from, to))
    covered (suc d) x y m h from to =
        let next = m.0 in
        let behind = m.1 in
        let all = m.3 in
        elim (cases_lt y next) [
          | inl less ↦ elim (cases_eq x y) [
            | inl same ↦
                let i = length plain - suc d in
                let two : length plain - i ≡ suc d = omega (arith, h) in
                let here = late_at i x (subst (λ n. IsLate plain steps n x) (sym two) (matched_late (suc d) x m)) in
                inl (record { 0 = i; 1 = omega (arith, h); 2 = sym here ∙ same })
            | inr differs ↦ inr (all y (above x y from differs) less)
          ]
          | inr more ↦ covered d next y behind (omega (arith, h)) more to
        ]
      where
        above : (x y : ℕ) → x ≤ y → (x ≡ y → ⊥) → x + 1 ≤ y
        above x y from differs = elim (cases_lt x y) [ inl less ↦ omega (arith, less) | inr more ↦ absurd (differs (omega (arith, from, more))) ]

    ends_at : (m : ℕ) → m + 1 ≡ length plain → length steps ≡ front place (length plain)
    ends_at m end =
        let k = known m (omega (arith, end)) in
        let none : length plain - (m + 1) ≡ 0 = omega (arith, end) in
        let last = k.last end in
        let is : k.next ≡ length steps = subst (λ n. IsLate plain steps n k.next) none k.late in
        let on : front place (length plain) ≡ place m + 1 = ap (front place) (sym end) ∙ front_next place m in
        omega (arith, last, is, on)

    pub is_with_drops : IsWithDrops op plain steps
    is_with_drops = record {
      at = place;
      rises = λ i h.
          let k = known i (omega (arith, h)) in
          let same = late_at (i + 1) k.next k.late in
          let below = k.near.below in
          omega (arith, below, same);
      kept = λ i step is. kept_at i step is (slice_get_within plain i step is);
      ends = ends_at (length plain - 1) (omega (arith, some));
      added = λ y h. elim (cases_lt y first) [
        | inl less ↦ inr (before y (omega arith) less)
        | inr more ↦ covered (length plain) first y matched (omega arith) more h
      ];
    }
