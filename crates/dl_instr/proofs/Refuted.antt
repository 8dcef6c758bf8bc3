-- What each check of the places of plain steps tells.
use Rattle.std.proofs.Common.{◌≡◌, ℕ, zero, suc, ◌+◌, ◌-◌, ◌<◌, ◌≤◌, ◌∷◌, [], Bool, true, false, not, cond, List, length, refl, sym, ap, subst, ◌∙◌, Option, Some, None, arith, ◌⊎◌, inl, inr, slice_get, MatchBool, add-one, length-append, get_or}
use Rattle.std.specs.Prelude.{pos, IsTrue, ◌↔◌, nat_eq}
use Rattle.std.proofs.lemmas.Bool.Decides.{eqb_tells}
use Rattle.std.proofs.lemmas.Option.{slice_get_read}
use Rattle.dl_ir.specs.declared.expressions.Expr.TheVariants.{Num}
use Rattle.dl_ir.specs.declared.modules.OpDecl.{OpDecl}
use Rattle.dl_instr.specs.declared.steps.Step.{Step}
use Rattle.dl_instr.specs.declared.steps.Step.TheVariants.{Give}
use Rattle.dl_instr.specs.Code.{op_code, block_code}
use Rattle.dl_instr.specs.Drops.{IsWithDrops}
use Rattle.dl_instr.specs.Jumps.{jump_of}
use Rattle.dl_instr.specs.Matching.{IsTarget, Fits, IsNearest, IsLate, IsFront, IsStuck, IsJumpMoved, IsJumpWrong, AllAdded, IsMatched, jump_in, opened}
use Rattle.dl_instr.proofs.Checked.{gap_holds, front_holds, last_holds, never_stuck, never_wrong}
use Rattle.dl_instr.proofs.Latest.{all_stand, inside}
use Rattle.dl_instr.proofs.Matched.{is_with_drops, matched_late}
use Rattle.dl_instr.proofs.PlainJumps.{plain_lands}
use Rattle.dl_instr.proofs.Rising.{rising}

pub some_plain : (op : OpDecl) → 0 < length (op_code op)
some_plain op = let all = length-append (block_code op.body 0) (Give (Num (pos 0)) ∷ []) in omega (arith, all)

module _ (op : OpDecl) (steps : List Step) (d i next : ℕ) (at : i + suc d ≡ length (op_code op)) where
  index : length (op_code op) - suc d ≡ i
  index = omega (arith, at)

  pub nearest_at : (x : ℕ) → IsNearest (op_code op) steps i next x → IsNearest (op_code op) steps (length (op_code op) - suc d) next x
  nearest_at x near = subst (λ n. IsNearest (op_code op) steps n next x) (sym index) near

  pub stuck_at : IsLate (op_code op) steps d next → ((y : ℕ) → y < next → Fits (op_code op) steps i y → ⊥) → IsStuck (op_code op) steps
  stuck_at late none = record {
    behind = d;
    next = next;
    few = omega (arith, at);
    late = late;
    none = λ y less fits. none y less (subst (λ n. Fits (op_code op) steps n y) index fits);
  }

  pub refuted_none : IsLate (op_code op) steps d next → ((y : ℕ) → y < next → Fits (op_code op) steps i y → ⊥) → IsWithDrops op (op_code op) steps → ⊥
  refuted_none late none w = never_stuck op (op_code op) steps w (plain_lands op) (stuck_at late none)

  module _ (x : ℕ) (late : IsLate (op_code op) steps d next) (near : IsNearest (op_code op) steps i next x) where
    pub latest_at : IsLate (op_code op) steps (suc d) x
    latest_at = (next, late, nearest_at x near)

    pub refuted_end : (d ≡ 0) × (x + 1 ≡ next → ⊥) → IsWithDrops op (op_code op) steps → ⊥
    refuted_end (none, wrong) w =
        let end : next ≡ length steps = subst (λ n. IsLate (op_code op) steps n next) none late in
        wrong (last_holds op (op_code op) steps w (plain_lands op) i x next (omega (arith, at, none)) end near (all_stand op (op_code op) steps w (plain_lands op) d i x at latest_at))

    pub refuted_gap : (AllAdded op steps (x + 1) next → ⊥) → IsWithDrops op (op_code op) steps → ⊥
    refuted_gap wrong w =
        wrong (gap_holds op (op_code op) steps w (plain_lands op) d i x next at late near (all_stand op (op_code op) steps w (plain_lands op) d i x at latest_at))

    pub refuted_jump : IsJumpWrong (op_code op) steps i x → IsWithDrops op (op_code op) steps → ⊥
    refuted_jump wrong w = never_wrong op (op_code op) steps w (plain_lands op) d i x at latest_at wrong

  pub matched_more : (x : ℕ) → IsMatched op (op_code op) steps d next → IsNearest (op_code op) steps i next x → AllAdded op steps (x + 1) next → IsJumpMoved (op_code op) steps i x
      → (d ≡ 0 → x + 1 ≡ next) → IsMatched op (op_code op) steps (d + 1) x
  matched_more x matched near added jump end =
      subst (λ n. IsMatched op (op_code op) steps n x) (sym (add-one d))
      (next, matched, nearest_at x near, added, subst (λ n. IsJumpMoved (op_code op) steps n x) (sym index) jump, end)

  pub late_more : (x : ℕ) → IsLate (op_code op) steps d next → IsNearest (op_code op) steps i next x → IsLate (op_code op) steps (d + 1) x
  late_more x late near = subst (λ n. IsLate (op_code op) steps n x) (sym (add-one d)) (latest_at x late near)

pub all_matched : (op : OpDecl) (steps : List Step) (d first : ℕ) (holds : Bool) → d ≡ length (op_code op) → IsMatched op (op_code op) steps d first
    → MatchBool holds (AllAdded op steps 0 first) (AllAdded op steps 0 first → ⊥) → MatchBool holds (IsWithDrops op (op_code op) steps) (IsWithDrops op (op_code op) steps → ⊥)
all_matched op steps d first true all matched added =
    is_with_drops op (op_code op) steps first (subst (λ n. IsMatched op (op_code op) steps n first) all matched) added (some_plain op)
all_matched op steps d first false all matched wrong = λ w.
    wrong (front_holds op (op_code op) steps w (plain_lands op) first (matched_late op (op_code op) steps (length (op_code op)) first (subst (λ n. IsMatched op (op_code op) steps n first) all matched)))

-- steps with steps added are as many at least
pub as_long : (op : OpDecl) (steps : List Step) → IsWithDrops op (op_code op) steps → length (op_code op) ≤ length steps
as_long op steps w =
    let last = length (op_code op) - 1 in
    let some = some_plain op in
    let low = above last (omega (arith, some)) in
    let high = inside op (op_code op) steps w (plain_lands op) last (omega (arith, some)) in
    omega (arith, low, high, some)
  where
    above : (i : ℕ) → i < length (op_code op) → i ≤ w.at i
    above zero h = omega arith
    above (suc i) h =
        let low = above i (omega (arith, h)) in
        let up = rising w.at (length (op_code op)) i (suc i) w.rises (omega arith) h in
        omega (arith, low, up)

-- whether a plain step may stand at a place
pub fits_where : (op : OpDecl) (steps : List Step) (i y : ℕ) (plain other : Step) (before after : Bool) → slice_get (op_code op) i ≡ Some plain → slice_get steps y ≡ Some other
    → opened plain ≡ opened other → MatchBool before (IsTarget (op_code op) (i + 1)) (IsTarget (op_code op) (i + 1) → ⊥) → MatchBool after (IsTarget steps (y + 1)) (IsTarget steps (y + 1) → ⊥)
    → MatchBool (cond before after (not after)) (Fits (op_code op) steps i y) (Fits (op_code op) steps i y → ⊥)
fits_where op steps i y plain other true true here there same a b =
    record { step = plain; other = other; here = here; there = there; same = same; targets = (λ t. b, λ t. a) }
fits_where op steps i y plain other true false here there same a b = λ fits. b (fits.targets.0 a)
fits_where op steps i y plain other false true here there same a b = λ fits. a (fits.targets.1 b)
fits_where op steps i y plain other false false here there same a b =
    record { step = plain; other = other; here = here; there = there; same = same; targets = (λ t. absurd (a t), λ t. absurd (b t)) }

pub fits_not : (op : OpDecl) (steps : List Step) (i y : ℕ) (plain other : Step) (same : Bool) → slice_get (op_code op) i ≡ Some plain → slice_get steps y ≡ Some other
    → IsTrue same ↔ (opened plain ≡ opened other) → same ≡ false → Fits (op_code op) steps i y → ⊥
fits_not op steps i y plain other same here there tells is fits =
    let one : fits.step ≡ plain = let a = fits.here in cc in
    let two : fits.other ≡ other = let a = fits.there in cc in
    let yes_same : same ≡ true = tells.1 (ap opened (sym one) ∙ fits.same ∙ ap opened two) in
    absurd cc

-- where a jump that is there comes from
pub jump_in_is : (o : Option Step) (t : ℕ) → Some t ≡ jump_in o → (s : Step) × (o ≡ Some s) × (jump_of s ≡ Some t)
jump_in_is None t is = absurd cc
jump_in_is (Some s) t is = (s, refl, sym is)

pub jump_below : (op : OpDecl) (i t : ℕ) → Some t ≡ jump_in (slice_get (op_code op) i) → t < length (op_code op)
jump_below op i t is = let from = jump_in_is (slice_get (op_code op) i) t is in plain_lands op i t from.0 from.1 from.2

pub read_at : (steps : List Step) (y : ℕ) (s : Step) → y < length steps → s ≡ get_or steps y s → slice_get steps y ≡ Some s
read_at steps y s h is = slice_get_read steps (length steps) y s refl h is

module _ (op : OpDecl) (steps : List Step) (i x t : ℕ) (other : Step) (here : Some t ≡ jump_in (slice_get (op_code op) i)) (there : slice_get steps x ≡ Some other) where
  pub not_moved : None ≡ jump_of other → IsJumpMoved (op_code op) steps i x
  not_moved none step o u z at_i at_x from to = let one : other ≡ o = cc in let wrong : None ≡ Some z = none ∙ ap jump_of one ∙ to in absurd cc

  module _ (z : ℕ) (goes : Some z ≡ jump_of other) where
    wrong_with : IsStuck (op_code op) steps ⊎ ((place : ℕ) × IsFront (op_code op) steps t place × (z ≡ place → ⊥)) → IsJumpWrong (op_code op) steps i x
    wrong_with wrong =
        let from = jump_in_is (slice_get (op_code op) i) t here in
        record { step = from.0; other = other; t = t; z = z; here = from.1; there = there; from = from.2; to = sym goes; wrong = wrong }

    pub moved_nowhere : IsStuck (op_code op) steps → IsJumpWrong (op_code op) steps i x
    moved_nowhere stuck = wrong_with (inl stuck)

    pub moved_where : (place : ℕ) → IsFront (op_code op) steps t place → MatchBool (nat_eq place z) (IsJumpMoved (op_code op) steps i x) (IsJumpWrong (op_code op) steps i x)
    moved_where place is_front = elim (eqb_tells place z) [
      | inl (is_true, same) ↦ subst (λ b. MatchBool b (IsJumpMoved (op_code op) steps i x) (IsJumpWrong (op_code op) steps i x)) (sym is_true)
          (λ step o u v at_i at_x from to.
          let origin = jump_in_is (slice_get (op_code op) i) t here in
          let one : origin.0 ≡ step = let a = origin.1 in cc in
          let two : other ≡ o = cc in
          let t_is : Some t ≡ Some u = sym origin.2 ∙ ap jump_of one ∙ from in
          let z_is : Some z ≡ Some v = goes ∙ ap jump_of two ∙ to in
          let t_same : t ≡ u = cc in
          let v_same : place ≡ v = cc in
          subst (λ n. IsFront (op_code op) steps n v) t_same (subst (λ n. IsFront (op_code op) steps t n) v_same is_front))
      | inr (is_false, differs) ↦ subst (λ b. MatchBool b (IsJumpMoved (op_code op) steps i x) (IsJumpWrong (op_code op) steps i x)) (sym is_false)
          (wrong_with (inr (place, is_front, λ same. differs (sym same))))
    ]
