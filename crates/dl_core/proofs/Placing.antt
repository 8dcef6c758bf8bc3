-- Where the steps of plain code stand in a code with drops.
use Rattle.std.proofs.Common.{◌≡◌, inl, inr, ℕ, zero, suc, ◌+◌, ◌-◌, ◌<◌, ◌≤◌, true, false, List, [], ◌∷◌, ◌++◌, length, map, Some, refl, sym, ap, subst, ◌∙◌, arith, slice_get, add-one}
use Rattle.std.proofs.lemmas.Bool.{cases_lt}
use Rattle.std.proofs.lemmas.Option.{slice_get_within}
use Rattle.dl_ir.specs.declared.modules.LocalDecl.{LocalDecl}
use Rattle.dl_ir.specs.declared.modules.OpDecl.{OpDecl}
use Rattle.dl_ir.specs.declared.modules.Ty.{Ty}
use Rattle.dl_ir.specs.declared.modules.Ty.TheVariants as types
use Rattle.dl_ir.specs.Meaning.{Context, State}
use Rattle.dl_ir.specs.Typed.{types_of}
use Rattle.dl_meaning.specs.Fitting.{Fits}
use Rattle.dl_meaning.proofs.Kept.{Refers, reference_at}
use Rattle.dl_instr.specs.declared.steps.Step.{Step}
use Rattle.dl_instr.specs.declared.steps.Step.TheVariants.{Read, Want, Set, Drop, Make, Eval, Write, Emit, Test, Jump, Give}
use Rattle.dl_instr.specs.Code.{op_code}
use Rattle.dl_instr.specs.Drops.{is_use, is_kind, is_reference, front, moved, IsWithDrops, IsAddedDrop}
use Rattle.dl_instr.proofs.PlainSteps.{in_front_part, in_back_part}
use Rattle.dl_core.specs.Frames.{Frame}
use Rattle.dl_core.proofs.Lone.{Lone}
use Rattle.dl_core.proofs.Body.{code, From, added_on}

-- the steps of a part stand in the plain code from a place on
module _ (plain : List Step) where
  abbrev pub HasCode : ℕ → List Step → Type 0
  HasCode first part = (k : ℕ) (step : Step) → slice_get part k ≡ Some step → slice_get plain (first + k) ≡ Some step

  pub code_head : (first : ℕ) (step : Step) (rest : List Step) → HasCode first (step ∷ rest) → slice_get plain first ≡ Some step
  code_head first step rest has = ap (slice_get plain) (let same : first ≡ first + 0 = omega arith in same) ∙ has 0 step refl

  pub code_rest : (first : ℕ) (step : Step) (rest : List Step) → HasCode first (step ∷ rest) → HasCode (first + 1) rest
  code_rest first step rest has k s is = ap (slice_get plain) (let same : first + 1 + k ≡ first + suc k = omega arith in same) ∙ has (suc k) s is

  pub code_front : (first : ℕ) (xs ys : List Step) → HasCode first (xs ++ ys) → HasCode first xs
  code_front first xs ys has k s is = has k s (in_front_part xs ys k (slice_get_within xs k s is) ∙ is)

  pub code_back : (first : ℕ) (xs ys : List Step) → HasCode first (xs ++ ys) → HasCode (first + length xs) ys
  code_back first xs ys has k s is = ap (slice_get plain) (let same : first + length xs + k ≡ first + (length xs + k) = omega arith in same) ∙ has (length xs + k) s (in_back_part xs ys (length xs + k) k refl ∙ is)

moved_use : (to : ℕ → ℕ) (step : Step) → is_use (moved to step) ≡ is_use step
moved_use to (Read local field) = refl
moved_use to Want = refl
moved_use to (Set local from) = refl
moved_use to (Drop local) = refl
moved_use to (Make kind) = refl
moved_use to (Eval value) = refl
moved_use to (Write local field content) = refl
moved_use to Emit = refl
moved_use to (Test c is_turn place) = refl
moved_use to (Jump place) = refl
moved_use to (Give value) = refl

module _ (op : OpDecl) (steps : List Step) (drops : IsWithDrops op (op_code op) steps) where
  abbrev pub Front : ℕ → ℕ
  Front i = front drops.at i

  pub front_next : (i : ℕ) → Front (i + 1) ≡ drops.at i + 1
  front_next i = ap Front (add-one i)

  rise : (i k : ℕ) → i + suc k < length (op_code op) → drops.at i < drops.at (i + suc k)
  rise i zero within = let e : i + 1 ≡ i + suc zero = omega arith in subst (λ n. drops.at i < drops.at n) e (drops.rises i (omega (arith, within)))
  rise i (suc k) within =
      let e : i + suc k + 1 ≡ i + suc (suc k) = omega arith in
      let last = drops.rises (i + suc k) (omega (arith, within)) in
      let more : drops.at (i + suc k) < drops.at (i + suc (suc k)) = subst (λ n. drops.at (i + suc k) < drops.at n) e last in
      omega (arith, rise i k (omega (arith, within)), more)

  pub rises : (i j : ℕ) → i < j → j < length (op_code op) → drops.at i < drops.at j
  rises i j less within = let e : i + suc (j - i - 1) ≡ j = omega (arith, less) in subst (λ n. drops.at i < drops.at n) e (rise i (j - i - 1) (omega (arith, less, within)))

  -- the plain step between two places that follow each other there is none
  between : (i j : ℕ) → drops.at i < drops.at j → drops.at j < drops.at (i + 1) → j < length (op_code op) → i + 1 < length (op_code op) → ⊥
  between i j low high within next = elim (cases_lt j (i + 1)) [
    | inl less ↦ elim (cases_lt j i) [
      | inl lesser ↦ absurd (omega (arith, rises j i lesser (omega (arith, next)), low))
      | inr more ↦ let same : j ≡ i = omega (arith, less, more) in absurd (omega (arith, ap drops.at same, low))
    ]
    | inr more ↦ elim (cases_lt (i + 1) j) [
      | inl greater ↦ absurd (omega (arith, rises (i + 1) j greater within, high))
      | inr equal ↦ let same : j ≡ i + 1 = omega (arith, more, equal) in absurd (omega (arith, ap drops.at same, high))
    ]
  ]

  -- a step that uses what the hand holds stands directly behind the one that is before it
  pub use_next : (i : ℕ) (step : Step) → slice_get (op_code op) (i + 1) ≡ Some step → is_use step ≡ true → drops.at (i + 1) ≡ drops.at i + 1
  use_next i step is use_is =
      let within = slice_get_within (op_code op) (i + 1) step is in
      let up = drops.rises i within in
      elim (cases_lt (drops.at i + 1) (drops.at (i + 1))) [
        | inr le ↦ omega (arith, le, up)
        | inl gap ↦
            let there = drops.kept (i + 1) step is in
            let low = slice_get_within steps (drops.at (i + 1)) (moved (front drops.at) step) there in
            let y = drops.at (i + 1) - 1 in
            elim (drops.added y (omega (arith, low))) [
              | inl kept ↦ absurd (between i kept.0 (omega (arith, kept.2, gap)) (omega (arith, kept.2, gap)) kept.1 within)
              | inr added ↦
                  let e : y + 1 ≡ drops.at (i + 1) = omega (arith, gap) in
                  let none = added.is_apart (moved (front drops.at) step) (ap (slice_get steps) e ∙ there) in
                  absurd (let clash : true ≡ false = sym use_is ∙ sym (moved_use (front drops.at) step) ∙ none in cc)
            ]
      ]

  -- before a plain step stand only drops that were added
  added_before : (i y : ℕ) → i < length (op_code op) → Front i ≤ y → y < drops.at i → y < length steps → IsAddedDrop op steps y
  added_before i y within low high long = elim (drops.added y long) [
    | inr added ↦ added
    | inl kept ↦ absurd (by i within low high kept.0 kept.1 kept.2)
  ]
    where
      by : (i : ℕ) → i < length (op_code op) → Front i ≤ y → y < drops.at i → (j : ℕ) → j < length (op_code op) → drops.at j ≡ y → ⊥
      by zero within low high zero j_within at = absurd (omega (arith, high, at))
      by zero within low high (suc j) j_within at = absurd (omega (arith, rises zero (suc j) (omega arith) j_within, high, at))
      by (suc i) within low high j j_within at = elim (cases_lt j (suc i)) [
        | inr more ↦ elim (cases_lt (suc i) j) [
          | inl greater ↦ absurd (omega (arith, rises (suc i) j greater j_within, high, at))
          | inr equal ↦ let same : j ≡ suc i = omega (arith, more, equal) in absurd (omega (arith, ap drops.at same, high, at))
        ]
        | inl less ↦ elim (cases_lt j i) [
          | inl lesser ↦ absurd (omega (arith, rises j i lesser (omega (arith, within)), low, at))
          | inr equal ↦ let same : j ≡ i = omega (arith, less, equal) in absurd (omega (arith, ap drops.at same, low, at))
        ]
      ]

  front_at : (i : ℕ) → i < length (op_code op) → Front i ≤ drops.at i
  front_at zero within = omega arith
  front_at (suc i) within = omega (arith, rises i (suc i) (omega arith) within)

-- a local that was declared with a kind is one of its type
declared_kind : (locals : List LocalDecl) (x : ℕ) → is_reference (slice_get locals x) ≡ true → (kind : ℕ) × (slice_get (map (λ (local : LocalDecl). local.ty) locals) x ≡ Some (types.Of kind))
declared_kind [] x is = absurd (cc)
declared_kind (d ∷ ds) zero is = by d.ty is
  where
    by : (ty : Ty) → is_kind ty ≡ true → (kind : ℕ) × (Some ty ≡ Some (types.Of kind))
    by types.Int e = absurd (cc)
    by (types.Of kind) e = (kind, refl)
declared_kind (d ∷ ds) (suc x) is = declared_kind ds x is

module _ (l : Lone) (base : Frame) (op : OpDecl) (drops : IsWithDrops op (op_code op) (code l base)) (cx : Context) where
  -- from a place before a plain step, over the drops that were added there
  over_drops : (count i y : ℕ) (s : State) → i < length (op_code op) → drops.at i < length (code l base) → Front op (code l base) drops i ≤ y → y + count ≡ drops.at i → Fits cx (types_of op) s → From l base (drops.at i) s → From l base y s
  over_drops zero i y s within long low at fits on = subst (λ n. From l base n s) (let e : drops.at i ≡ y = omega (arith, at) in e) on
  over_drops (suc count) i y s within long low at fits on =
      let added = added_before op (code l base) drops i y within low (omega (arith, at)) (omega (arith, at, long)) in
      let kind = declared_kind (op.params ++ op.vars) added.local added.refers in
      let found : Refers s added.local kind.0 = reference_at fits kind.1 in
      added_on l base y added.local found.target s added.is_drop added.is_dead found.refers
      (over_drops count i (y + 1) s within long (omega (arith, low)) (omega (arith, at)) fits on)

  -- a plain step comes after the drops before it
  pub arrive : (i : ℕ) (step : Step) (s : State) → slice_get (op_code op) i ≡ Some step → Fits cx (types_of op) s → (slice_get (code l base) (drops.at i) ≡ Some (moved (front drops.at) step) → From l base (drops.at i) s) → From l base (Front op (code l base) drops i) s
  arrive i step s is fits on =
      let within = slice_get_within (op_code op) i step is in
      let there = drops.kept i step is in
      let first = front_at op (code l base) drops i within in
      over_drops (drops.at i - Front op (code l base) drops i) i (Front op (code l base) drops i) s within (slice_get_within (code l base) (drops.at i) (moved (front drops.at) step) there) (omega arith) (omega (arith, first)) fits (on there)
