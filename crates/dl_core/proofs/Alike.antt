-- The locals of a run, and those of the serial meaning: they are the same but where a step that was added has dropped one that is not read again.
use Rattle.std.proofs.Common.{Ok, ◌≡◌, ◌≢◌, ◌⊎◌, inl, inr, ℕ, zero, suc, Bool, true, false, ◌||◌, List, [], ◌∷◌, Option, Some, None, refl, sym, ap, subst, ◌∙◌, arith, slice_get, slice_set}
use Rattle.std.specs.Prelude.{◌==◌}
use Rattle.std.specs.Option.{option_map}
use Rattle.std.proofs.lemmas.Bool.Decides.{nat_tests}
use Rattle.dl_ir.specs.declared.expressions.Cond.{Cond}
use Rattle.dl_ir.specs.declared.expressions.Expr.{Expr, Expr-F, out-Expr}
use Rattle.dl_ir.specs.declared.expressions.Expr.TheFolds.{fold_out-Expr, map-Expr}
use Rattle.dl_ir.specs.declared.expressions.Expr.TheVariants.{outs-Num, outs-Local, outs-Neg, outs-Bin}
use Rattle.dl_ir.specs.declared.modules.Ty.{Ty}
use Rattle.dl_ir.specs.declared.names.Name.{Name}
use Rattle.dl_ir.specs.declared.names.Value.{Value}
use Rattle.dl_ir.specs.declared.names.Value.TheVariants.{Ref}
use Rattle.dl_ir.specs.Evaluation.{Number, number_of, value_step, value_of, holds_of}
use Rattle.dl_ir.specs.Typed as typed
use Rattle.dl_ir.specs.Typed.{IsTypedExpr, IsTypedCond}
use Rattle.dl_instr.specs.declared.steps.Step.{Step}
use Rattle.dl_instr.specs.declared.steps.Step.TheVariants.{Test}
use Rattle.dl_instr.specs.Drops as drops
use Rattle.dl_instr.specs.Drops.{reads, sets, is_side, GoesOn, IsReadFrom}
use Rattle.dl_core.proofs.Names.{same_number}
use Rattle.std.proofs.Math.Bool.{or-true}

-- what a run's local holds, and what the serial one holds
pub data IsAlike (is_dead : Type 0) (mine serial : Option Value) : Type 0 where
  is_same_value : mine ≡ serial → IsAlike is_dead mine serial
  was_dropped : (target : Option Name) → is_dead → mine ≡ Some (Ref None) → serial ≡ Some (Ref target) → IsAlike is_dead mine serial

set_at : {A : Type 0} (xs : List A) (i j : ℕ) (v : A) → ((j ≡ i) × (slice_get (slice_set xs i v) j ≡ option_map (λ (_ : A). v) (slice_get xs i))) ⊎ ((j ≢ i) × (slice_get (slice_set xs i v) j ≡ slice_get xs j))
set_at {A} [] i j v = elim (same_number j i) [ inl same ↦ inl (same, refl) | inr other ↦ inr (other, refl) ]
set_at {A} (x ∷ xs) zero zero v = inl (refl, refl)
set_at {A} (x ∷ xs) zero (suc j) v = inr (λ e. omega (arith, e), refl)
set_at {A} (x ∷ xs) (suc i) zero v = inr (λ e. omega (arith, e), refl)
set_at {A} (x ∷ xs) (suc i) (suc j) v = elim (set_at xs i j v) [ inl same ↦ inl (ap suc same.0, same.1) | inr other ↦ inr (λ e. other.0 (omega (arith, e)), other.1) ]

module _ (steps : List Step) where
  -- no path from the place reads the local before it is set
  abbrev pub IsDead : ℕ → ℕ → Type 0
  IsDead place local = IsReadFrom steps local place → ⊥

  -- all locals are alike, at a place
  abbrev pub Alike : ℕ → List Value → List Value → Type 0
  Alike place mine serial = (x : ℕ) → IsAlike (IsDead place x) (slice_get mine x) (slice_get serial x)

  -- a step that sets none
  pub alike_on : (place to : ℕ) (step : Step) (mine serial : List Value) → slice_get steps place ≡ Some step → GoesOn step place to → ((x : ℕ) → sets x step ≡ false) → Alike place mine serial → Alike to mine serial
  alike_on place to step mine serial is goes none alike x = by (alike x)
    where
      by : IsAlike (IsDead place x) (slice_get mine x) (slice_get serial x) → IsAlike (IsDead to x) (slice_get mine x) (slice_get serial x)
      by (is_same_value e) = is_same_value e
      by (was_dropped target dead e f) = was_dropped target (λ r. dead (drops.later is (none x) goes r)) e f

  -- a step that sets one to the same value
  pub alike_set : (place to : ℕ) (step : Step) (local : ℕ) (value : Value) (mine serial : List Value) → slice_get steps place ≡ Some step → GoesOn step place to → ((x : ℕ) → x ≢ local → sets x step ≡ false)
      → Alike place mine serial → Alike to (slice_set mine local value) (slice_set serial local value)
  alike_set place to step local value mine serial is goes others alike x = by (set_at mine local x value) (set_at serial local x value) (alike x) (alike local)
    where
      by : ((x ≡ local) × (slice_get (slice_set mine local value) x ≡ option_map (λ (_ : Value). value) (slice_get mine local))) ⊎ ((x ≢ local) × (slice_get (slice_set mine local value) x ≡ slice_get mine x))
          → ((x ≡ local) × (slice_get (slice_set serial local value) x ≡ option_map (λ (_ : Value). value) (slice_get serial local))) ⊎ ((x ≢ local) × (slice_get (slice_set serial local value) x ≡ slice_get serial x))
          → IsAlike (IsDead place x) (slice_get mine x) (slice_get serial x) → IsAlike (IsDead place local) (slice_get mine local) (slice_get serial local)
          → IsAlike (IsDead to x) (slice_get (slice_set mine local value) x) (slice_get (slice_set serial local value) x)
      by (inl a) (inl b) here (is_same_value e) = is_same_value (a.1 ∙ ap (option_map (λ (_ : Value). value)) e ∙ sym b.1)
      by (inl a) (inl b) here (was_dropped target dead e f) = is_same_value (a.1 ∙ ap (option_map (λ (_ : Value). value)) e ∙ sym (b.1 ∙ ap (option_map (λ (_ : Value). value)) f))
      by (inl a) (inr b) here there = absurd (b.0 a.0)
      by (inr a) (inl b) here there = absurd (a.0 b.0)
      by (inr a) (inr b) (is_same_value e) there = is_same_value (a.1 ∙ e ∙ sym b.1)
      by (inr a) (inr b) (was_dropped target dead e f) there = was_dropped target (λ r. dead (drops.later is (others x a.0) goes r)) (a.1 ∙ e) (b.1 ∙ f)

  -- a step that was added drops one that refers, and is not read again
  pub alike_drop : (place to : ℕ) (step : Step) (local : ℕ) (target : Option Name) (mine serial : List Value) → slice_get steps place ≡ Some step → GoesOn step place to → ((x : ℕ) → x ≢ local → sets x step ≡ false)
      → IsDead to local → slice_get serial local ≡ Some (Ref target) → Alike place mine serial → Alike to (slice_set mine local (Ref None)) serial
  alike_drop place to step local target mine serial is goes others dead refers alike x = by (set_at mine local x (Ref None)) (alike x) (alike local)
    where
      by : ((x ≡ local) × (slice_get (slice_set mine local (Ref None)) x ≡ option_map (λ (_ : Value). Ref None) (slice_get mine local))) ⊎ ((x ≢ local) × (slice_get (slice_set mine local (Ref None)) x ≡ slice_get mine x))
          → IsAlike (IsDead place x) (slice_get mine x) (slice_get serial x) → IsAlike (IsDead place local) (slice_get mine local) (slice_get serial local)
          → IsAlike (IsDead to x) (slice_get (slice_set mine local (Ref None)) x) (slice_get serial x)
      by (inl a) here (is_same_value e) = was_dropped target (subst (IsDead to) (sym a.0) dead) (a.1 ∙ ap (option_map (λ (_ : Value). Ref None)) (e ∙ refers)) (ap (slice_get serial) a.0 ∙ refers)
      by (inl a) here (was_dropped t d e f) = was_dropped target (subst (IsDead to) (sym a.0) dead) (a.1 ∙ ap (option_map (λ (_ : Value). Ref None)) e) (ap (slice_get serial) a.0 ∙ refers)
      by (inr a) (is_same_value e) there = is_same_value (a.1 ∙ e)
      by (inr a) (was_dropped t d e f) there = was_dropped t (λ r. d (drops.later is (others x a.0) goes r)) (a.1 ∙ e) f

  -- a local that the step at the place reads is the same
  pub alike_read : (place local : ℕ) (step : Step) (mine serial : List Value) → slice_get steps place ≡ Some step → reads local step ≡ true → Alike place mine serial → slice_get mine local ≡ slice_get serial local
  alike_read place local step mine serial is read alike = by (alike local)
    where
      by : IsAlike (IsDead place local) (slice_get mine local) (slice_get serial local) → slice_get mine local ≡ slice_get serial local
      by (is_same_value e) = e
      by (was_dropped target dead e f) = absurd (dead (drops.here is read))

  -- the numbers are the same
  pub alike_number : (place : ℕ) (mine serial : List Value) → Alike place mine serial → (x : ℕ) → number_of (slice_get mine x) ≡ number_of (slice_get serial x)
  alike_number place mine serial alike x = by (alike x)
    where
      by : IsAlike (IsDead place x) (slice_get mine x) (slice_get serial x) → number_of (slice_get mine x) ≡ number_of (slice_get serial x)
      by (is_same_value e) = ap number_of e
      by (was_dropped target dead e f) = ap number_of e ∙ sym (ap number_of f)

pub level : (locals : List Value) (e : Expr) (l : Expr-F Expr) → out-Expr e ≡ l → value_of e locals ≡ value_step (map-Expr Expr (List Value → Number) value_of l) locals
level locals e l is = ap (λ (r : List Value → Number). r locals) (fold_out-Expr (List Value → Number) value_step e) ∙ ap (λ (m : Expr-F Expr). value_step (map-Expr Expr (List Value → Number) value_of m) locals) is

module _ (types : List Ty) (mine serial : List Value) (same : (x : ℕ) → number_of (slice_get mine x) ≡ number_of (slice_get serial x)) where
  -- and so are the values of expressions
  pub same_value : {e : Expr} → IsTypedExpr types e → value_of e mine ≡ value_of e serial
  same_value (typed.num n) = level mine _ _ (outs-Num _) ∙ sym (level serial _ _ (outs-Num _))
  same_value (typed.local {x} is) = level mine _ _ (outs-Local _) ∙ ap (λ n. Ok n) (same x) ∙ sym (level serial _ _ (outs-Local _))
  same_value (typed.neg is) = level mine _ _ (outs-Neg _) ∙ rw (same_value is) (sym (level serial _ _ (outs-Neg _)))
  same_value (typed.bin op left right) = level mine _ _ (outs-Bin _ _ _) ∙ rw (same_value left, same_value right) (sym (level serial _ _ (outs-Bin _ _ _)))

  -- and the truths of conditions, where the sides that are compared as references are the same
  pub same_truth : {c : Cond} → IsTypedCond types c → ((p : ℕ) → reads p (Test c false 0) ≡ true → slice_get mine p ≡ slice_get serial p) → holds_of c mine ≡ holds_of c serial
  same_truth (typed.numbers rel left right) sides_are = rw (same_value left, same_value right) refl
  same_truth (typed.references eq {p} {q} p_is q_is) sides_are = rw (sides_are p (or_left p (q == p)), sides_are q (or_right q (p == q))) refl
    where
      itself : (n : ℕ) → (n == n) ≡ true
      itself n = grind (arith, nat_tests)

      or_left : (n : ℕ) (b : Bool) → ((n == n) || b) ≡ true
      or_left n b = ap (λ c. c || b) (itself n)

      or_right : (n : ℕ) (b : Bool) → (b || (n == n)) ≡ true
      or_right n b = ap (λ c. b || c) (itself n) ∙ or-true b
  same_truth (typed.null_left eq {p} p_is) sides_are = rw (sides_are p (grind (arith, nat_tests))) refl
  same_truth (typed.null_right eq {p} p_is) sides_are = rw (sides_are p (grind (arith, nat_tests))) refl
