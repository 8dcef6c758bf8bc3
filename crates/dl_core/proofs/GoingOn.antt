-- Steps that go on until none is left, for a step under which a measure falls.
use Rattle.std.proofs.Common.{ℕ, zero, suc, ◌≡◌, ◌<◌, ◌≤◌, Option, Some, None, refl, sym, ap, ◌∙◌, subst, arith}
use Rattle.dl_core.specs.GoingOn.{go_on}

module _ {A : Type 0} (micro : A → Option A) where
  pub stays : (k : ℕ) (a : A) → micro a ≡ None → go_on micro k a ≡ a
  stays zero a e = refl
  stays (suc k) a e = ap (λ o. elim o as (λ _. A) [ None ↦ a | Some b ↦ go_on micro k b ]) e

  one : (k : ℕ) (a b : A) → micro a ≡ Some b → go_on micro (suc k) a ≡ go_on micro k b
  one k a b e = ap (λ o. elim o as (λ _. A) [ None ↦ a | Some b ↦ go_on micro k b ]) e

  -- what each step keeps is there at the end
  pub keeps : (Holds : A → Type 0) → ((a b : A) → Holds a → micro a ≡ Some b → Holds b) → (k : ℕ) (a : A) → Holds a → Holds (go_on micro k a)
  keeps Holds kept zero a h = h
  keeps Holds kept (suc k) a h =
      elim (micro a) as (λ o. micro a ≡ o → Holds (go_on micro (suc k) a)) [
        | None ↦ λ e. subst Holds (sym (stays (suc k) a e)) h
        | Some b ↦ λ e. subst Holds (sym (one k a b e)) (keeps Holds kept k b (kept a b h e))
      ] refl

-- what each step keeps, and under which a measure falls
module _ {A : Type 0} (micro : A → Option A) (measure : A → ℕ) (Holds : A → Type 0) (kept : (a b : A) → Holds a → micro a ≡ Some b → Holds b) (falls : (a b : A) → Holds a → micro a ≡ Some b → measure b < measure a) where
  -- with enough steps nothing is left to do, and more change nothing
  pub stops : (k : ℕ) (a : A) → Holds a → measure a ≤ k → micro (go_on micro k a) ≡ None
  stops zero a h l =
      elim (micro a) as (λ o. micro a ≡ o → micro a ≡ None) [
        | None ↦ λ e. e
        | Some b ↦ λ e. absurd (omega (arith, falls a b h e))
      ] refl
  stops (suc k) a h l =
      elim (micro a) as (λ o. micro a ≡ o → micro (go_on micro (suc k) a) ≡ None) [
        | None ↦ λ e. ap micro (stays micro (suc k) a e) ∙ e
        | Some b ↦ λ e. let f : measure b < measure a = falls a b h e in ap micro (one micro k a b e) ∙ stops k b (kept a b h e) (omega arith)
      ] refl

  pub enough : (k j : ℕ) (a : A) → Holds a → measure a ≤ k → measure a ≤ j → go_on micro k a ≡ go_on micro j a
  enough zero j a h l m = by (micro a) refl
    where
      by : (o : Option A) → micro a ≡ o → a ≡ go_on micro j a
      by None e = sym (stays micro j a e)
      by (Some b) e = absurd (omega (arith, falls a b h e))
  enough (suc k) zero a h l m = by (micro a) refl
    where
      by : (o : Option A) → micro a ≡ o → go_on micro (suc k) a ≡ a
      by None e = stays micro (suc k) a e
      by (Some b) e = absurd (omega (arith, falls a b h e))
  enough (suc k) (suc j) a h l m =
      elim (micro a) as (λ o. micro a ≡ o → go_on micro (suc k) a ≡ go_on micro (suc j) a) [
        | None ↦ λ e. stays micro (suc k) a e ∙ sym (stays micro (suc j) a e)
        | Some b ↦ λ e. let f : measure b < measure a = falls a b h e in one micro k a b e ∙ enough k j b (kept a b h e) (omega arith) (omega arith) ∙ sym (one micro j a b e)
      ] refl

  -- a step leads to the same end
  pub same_stop : (a b : A) → Holds a → micro a ≡ Some b → go_on micro (measure a) a ≡ go_on micro (measure b) b
  same_stop a b h e =
      let f : measure b < measure a = falls a b h e in
      enough (measure a) (suc (measure a)) a h (omega arith) (omega arith) ∙ one micro (measure a) a b e ∙ enough (measure a) (measure b) b (kept a b h e) (omega arith) (omega arith)
