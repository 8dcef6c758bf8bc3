-- Where the steps are the plain ones with steps added, the latest places pass each check.
use Rattle.std.proofs.Common.{◌≡◌, ◌==◌, ℕ, zero, suc, ◌+◌, ◌-◌, ◌<◌, ◌≤◌, true, false, List, ◌++◌, length, refl, sym, ap, subst, ◌∙◌, Some, None, arith, ◌⊎◌, inl, inr, slice_get, add-one}
use Rattle.std.proofs.lemmas.Bool.{cases_lt, eq-eqb}
use Rattle.std.proofs.lemmas.Option.{slice_get_within}
use Rattle.dl_ir.specs.declared.modules.OpDecl.{OpDecl}
use Rattle.dl_instr.specs.declared.steps.Step.{Step}
use Rattle.dl_instr.specs.declared.steps.Step.TheVariants.{Drop}
use Rattle.dl_instr.specs.Drops.{IsWithDrops, IsAddedDrop, IsReadFrom, GoesOn, front, moved, reads, sets, is_use, is_reference}
use Rattle.dl_instr.specs.Jumps.{JumpsLand, jump_of}
use Rattle.dl_instr.specs.Matching.{IsTarget, IsNearest, IsLate, IsFront, IsStuck, IsJumpWrong, AllAdded, opened}
use Rattle.dl_instr.proofs.Rising.{not_falling, front_next}
use Rattle.dl_instr.proofs.Moved.{jump_on, drop_is}
use Rattle.dl_instr.proofs.Late.{later_of, later_above, late_within}
use Rattle.dl_instr.proofs.Latest.{IsDropAt, Stands, all_stand, room, fits_here}

-- how a path that reads a local begins
record Begins (steps : List Step) (p y : ℕ) : Type 0 where
  step : Step
  there : slice_get steps y ≡ Some step
  how : (reads p step ≡ true) ⊎ ((sets p step ≡ false) × ((next : ℕ) × GoesOn step y next × IsReadFrom steps p next))

begins : (steps : List Step) (p y : ℕ) → IsReadFrom steps p y → Begins steps p y
begins steps p y (IsReadFrom.here {step = s} there read) = record { step = s; there = there; how = inl read }
begins steps p y (IsReadFrom.later {next = n} {step = s} there unset on rest) = record { step = s; there = there; how = inr (unset, (n, on, rest)) }

past_drop : (steps : List Step) (p q y : ℕ) → IsReadFrom steps p y → slice_get steps y ≡ Some (Drop q) → ((q == p) ≡ false) × IsReadFrom steps p (y + 1)
past_drop steps p q y path is =
    let b = begins steps p y path in
    let there = b.there in
    let same : b.step ≡ Drop q = cc in
    elim (b.how) [
      | inl read ↦ let none : false ≡ true = ap (reads p) (sym same) ∙ read in absurd cc
      | inr (unset, (next, on, rest)) ↦
          let here : next ≡ y + 1 = subst (λ (s : Step). GoesOn s y next) same on in
          (ap (sets p) (sym same) ∙ unset, subst (λ n. IsReadFrom steps p n) here rest)
    ]

-- along drops, up to one of the local, the local is not read
dead_run : (steps : List Step) (p k y z : ℕ) → y + k ≡ z → slice_get steps z ≡ Some (Drop p) → ((v : ℕ) → y ≤ v → v ≤ z → IsDropAt steps v) → IsReadFrom steps p y → ⊥
dead_run steps p zero y z at last drops path =
    let same : z ≡ y = omega (arith, at) in
    let on = past_drop steps p p y path (ap (slice_get steps) (sym same) ∙ last) in
    let set = eq-eqb p p refl in
    let unset = on.0 in
    absurd cc
dead_run steps p (suc k) y z at last drops path =
    let drop = drops y (omega arith) (omega (arith, at)) in
    let on = past_drop steps p drop.local y path drop.is in
    dead_run steps p k (y + 1) z (omega (arith, at)) last (λ v from to. drops v (omega (arith, from)) to) on.1

module _ (op : OpDecl) (plain steps : List Step) (w : IsWithDrops op plain steps) (lands : JumpsLand plain) where
  -- a plain drop that may stand later stands where one may have been added
  moved_later : (k d j x : ℕ) → d < k → j + suc d ≡ length plain → IsLate plain steps (suc d) x → w.at j < x → IsAddedDrop op steps (w.at j)
  moved_later zero d j x less at late before = absurd (omega (arith, less))
  moved_later (suc k) d j x less at late before =
      let st = all_stand op plain steps w lands d j x at late in
      let drop = st.drops x before (omega arith) in
      let f = st.fits in
      let is_drop : f.other ≡ Drop drop.local = let a = f.there in let b = drop.is in cc in
      let plain_drop : f.step ≡ Drop drop.local = drop_is f.step drop.local (f.same ∙ ap opened is_drop) in
      let next = st.drops (w.at j + 1) (omega arith) (omega (arith, before)) in
      record {
        local = drop.local;
        is_drop = w.kept j f.step f.here ∙ ap (λ s. Some (moved (front w.at) s)) plain_drop;
        refers = elim (w.added x (slice_get_within steps x (Drop drop.local) drop.is)) [
          | inl (i, h, same) ↦
              let behind : j < i = elim (cases_lt j i) [
                | inl is ↦ is
                | inr is ↦ let le = not_falling w.at (length plain) i j w.rises is (omega (arith, at)) in absurd (omega (arith, le, same, before))
              ] in
              let e = length plain - suc i in
              let few : suc e < suc d = omega (arith, h, behind, at) in
              let there = later_of plain steps (suc d) (suc e) x (omega (arith, few)) late in
              let up = later_above plain steps (suc d) (suc e) x there.0 few late there.1 in
              let added = moved_later k e i there.0 (omega (arith, few, less)) (omega (arith, h)) there.1 (omega (arith, up, same)) in
              let one : added.local ≡ drop.local = let a = added.is_drop in let b = drop.is in let c = ap (slice_get steps) same in cc in
              subst (λ p. is_reference (slice_get (op.params ++ op.vars) p) ≡ true) one added.refers
          | inr added ↦
              let one : added.local ≡ drop.local = let a = added.is_drop in let b = drop.is in cc in
              subst (λ p. is_reference (slice_get (op.params ++ op.vars) p) ≡ true) one added.refers
        ];
        is_dead = dead_run steps drop.local (x - (w.at j + 1)) (w.at j + 1) x (omega (arith, before)) drop.is (λ v from to. st.drops v (omega (arith, from)) to);
        is_apart = λ step there. let is : step ≡ Drop next.local = let a = next.is in cc in ap is_use is;
      }

  -- where no plain step up to a number stands, a step may have been added
  unplaced : (d next y : ℕ) → IsLate plain steps d next → y < next → ((j : ℕ) → j < length plain → w.at j ≡ y → length plain ≤ j + d) → IsAddedDrop op steps y
  unplaced d next y late below later =
      let within = late_within plain steps d next late in
      elim (w.added y (omega (arith, within, below))) [
        | inl (j, h, same) ↦
            let e = length plain - suc j in
            let enough = later j h same in
            let there = later_of plain steps d (suc e) next (omega (arith, h, enough)) late in
            let added = moved_later (suc e) e j there.0 (omega arith) (omega (arith, h)) there.1 (omega (arith, same, below, there.2)) in
            subst (λ n. IsAddedDrop op steps n) same added
        | inr added ↦ added
      ]

  pub gap_holds : (d i x next : ℕ) → i + suc d ≡ length plain → IsLate plain steps d next → IsNearest plain steps i next x → Stands op plain steps w lands i x → AllAdded op steps (x + 1) next
  gap_holds d i x next at late near st y from to = unplaced d next y late to
      (λ j h same. elim (cases_lt i j) [
        | inl less ↦ omega (arith, less, at)
        | inr more ↦
            let le = not_falling w.at (length plain) j i w.rises more (omega (arith, at)) in
            let low = st.not_before in
            absurd (omega (arith, le, low, same, from))
      ])

  pub front_holds : (x : ℕ) → IsLate plain steps (length plain) x → AllAdded op steps 0 x
  front_holds x late y from to = unplaced (length plain) x y late to (λ j h same. omega arith)

  pub last_holds : (i x next : ℕ) → i + 1 ≡ length plain → next ≡ length steps → IsNearest plain steps i next x → Stands op plain steps w lands i x → x + 1 ≡ next
  last_holds i x next at end near st =
      let ends : length steps ≡ w.at i + 1 = w.ends ∙ ap (front w.at) (sym at) ∙ front_next w.at i in
      let low = st.not_before in
      omega (arith, ends, end, near.below, low)

  pub never_stuck : IsStuck plain steps → ⊥
  never_stuck stuck =
      let i = length plain - suc stuck.behind in
      let at : i + suc stuck.behind ≡ length plain = let h = stuck.few in omega (arith, h) in
      stuck.none (w.at i) (room op plain steps w lands stuck.behind i stuck.next at stuck.late) (fits_here op plain steps w lands i (omega (arith, at)))

  -- jumps go where the definition says
  front_is : (t z : ℕ) → t < length plain → IsTarget plain t → IsFront plain steps t z → front w.at t ≡ z
  front_is zero z h target is = sym is
  front_is (suc u) z h target (x, late, is) =
      let d = length plain - suc u in
      let two : length plain - u ≡ suc d = omega (arith, h) in
      let st = all_stand op plain steps w lands d u x (omega (arith, h)) (subst (λ n. IsLate plain steps n x) two late) in
      let low = st.not_before in
      elim (cases_lt (w.at u) x) [
        | inl before ↦ absurd (st.free u (omega arith) (omega (arith, h)) before (subst (λ n. IsTarget plain n) (sym (add-one u)) target))
        | inr not_before ↦ omega (arith, low, not_before, is)
      ]

  pub never_wrong : (d i x : ℕ) → i + suc d ≡ length plain → IsLate plain steps (suc d) x → IsJumpWrong plain steps i x → ⊥
  never_wrong d i x at late jump =
      let st = all_stand op plain steps w lands d i x at late in
      let low = st.not_before in
      let j_from = jump.from in
      let f = st.fits in
      let one : f.step ≡ jump.step = let a = f.here in let b = jump.here in cc in
      let here : x ≡ w.at i = elim (cases_lt (w.at i) x) [
        | inl before ↦
            let drop = st.drops x before (omega arith) in
            let is_drop : f.other ≡ Drop drop.local = let a = f.there in let b = drop.is in cc in
            let plain_drop : f.step ≡ Drop drop.local = drop_is f.step drop.local (f.same ∙ ap opened is_drop) in
            let none : None ≡ Some jump.t = ap jump_of (sym plain_drop ∙ one) ∙ j_from in
            absurd cc
        | inr not_before ↦ omega (arith, low, not_before)
      ] in
      let stands = w.kept i jump.step jump.here in
      let is : moved (front w.at) jump.step ≡ jump.other = let a = jump.there in let b = ap (slice_get steps) here in cc in
      let goes : Some (front w.at jump.t) ≡ Some jump.z = sym (jump_on (front w.at) jump.step jump.t j_from) ∙ ap jump_of is ∙ jump.to in
      let target : IsTarget plain jump.t = record { from = i; step = jump.step; there = jump.here; jumps = j_from } in
      elim (jump.wrong) [
        | inl stuck ↦ never_stuck stuck
        | inr (z, is_front, differs) ↦
            let same = front_is jump.t z (lands i jump.t jump.step jump.here j_from) target is_front in
            differs (let a : front w.at jump.t ≡ jump.z = cc in sym a ∙ same)
      ]
