-- Paths that are followed to their ends.
use Rattle.std.proofs.Common.{◌≡◌, ◌==◌, ◌||◌, ℕ, zero, suc, ◌+◌, ◌<◌, ◌≤◌, Bool, true, false, cond, List, [], ◌∷◌, length, refl, sym, ap, subst, ◌∙◌, Option, Some, None, arith, ◌⊎◌, inl, inr, MatchOption, MatchBool}
use Rattle.std.proofs.lemmas.Bool.{cases_lt, cases_eq, or_cases, or_right, eqb-true, eq-eqb}
use Rattle.std.proofs.lemmas.Option.{slice_get_within}
use Rattle.std.specs.Borrow.{Bor}
use Rattle.dl_instr.specs.declared.liveness.Reached.{Reached}
use Rattle.dl_instr.specs.declared.liveness.Reached.TheFolds.{fold_out-Reached, map-Reached}
use Rattle.dl_instr.specs.declared.liveness.Reached.TheVariants.{At, Nowhere, outs-At, outs-Nowhere}
use Rattle.dl_instr.specs.declared.steps.Step.{Step}
use Rattle.dl_instr.specs.Drops.{IsReadFrom}
use Rattle.dl_instr.specs.Paths.{place_of, places_of, is_among, IsClosed, AllClosed, SomeNew, SomeReads, NoneReads, IsReadFromSome, IsReadFromNone}

-- how many numbers below a bound are not in the list
abbrev pub missing : ℕ → List ℕ → ℕ
missing zero xs = 0
missing (suc n) xs = cond (is_among n xs) 0 1 + missing n xs

falls : (a b : Bool) → cond (a || b) 0 1 ≤ cond b 0 1
falls true true = omega arith
falls true false = omega arith
falls false b = omega arith

not_more : (n to : ℕ) (xs : List ℕ) → missing n (to ∷ xs) ≤ missing n xs
not_more zero to xs = omega arith
not_more (suc n) to xs = omega (arith, falls (to == n) (is_among n xs), not_more n to xs)

pub fewer : (n to : ℕ) (xs : List ℕ) → to < n → is_among to xs ≡ false → missing n (to ∷ xs) < missing n xs
fewer zero to xs h new = absurd (omega (arith, h))
fewer (suc n) to xs h new = elim (cases_eq to n) [
  | inl same ↦
      let here : ◌≡◌ {A = ℕ} (cond (to == n || is_among n xs) 0 1) 0 = ap (λ b. cond {A = ℕ} (b || is_among n xs) 0 1) (eq-eqb to n same) in
      let there : ◌≡◌ {A = ℕ} (cond (is_among n xs) 0 1) 1 = ap (λ b. cond {A = ℕ} b 0 1) (ap (λ m. is_among m xs) (sym same) ∙ new) in
      omega (arith, here, there, not_more n to xs)
  | inr differs ↦
      let rest = fewer n to xs (below to n h differs) new in
      omega (arith, falls (to == n) (is_among n xs), rest)
]
  where
    below : (a n : ℕ) → a < suc n → (a ≡ n → ⊥) → a < n
    below a n h differs = elim (cases_lt a n) [ inl less ↦ less | inr more ↦ absurd (differs (omega (arith, h, more))) ]

read_within : (steps : List Step) (local at : ℕ) → IsReadFrom steps local at → at < length steps
read_within steps local at (IsReadFrom.here {step = s} there read) = slice_get_within steps at s there
read_within steps local at (IsReadFrom.later {step = s} there unset on rest) = slice_get_within steps at s there

-- where the paths go no further and nothing is read, nothing is read later
pub none_later : (steps : List Step) (local : ℕ) (reached : List ℕ) → AllClosed steps local reached reached → NoneReads steps local reached
    → (at : ℕ) → is_among at reached ≡ true → IsReadFrom steps local at → ⊥
none_later steps local reached closed none at among (IsReadFrom.here {step = s} there read) = let unread = none at among s there in absurd cc
none_later steps local reached closed none at among (IsReadFrom.later {next = n} {step = s} there unset on rest) =
    none_later steps local reached closed none n
    (closed at among n (record { step = s; there = there; unset = unset; on = on }) (read_within steps local n rest)) rest

-- what is read from a place to which paths go on is read from where they come from
pub some_before : (steps : List Step) (local to : ℕ) (reached : List ℕ) → SomeNew steps local reached reached to → IsReadFromSome steps local (to ∷ reached)
    → IsReadFromSome steps local reached
some_before steps local to reached (from, among, new) (at, is, path) = elim (or_cases (to == at) (is_among at reached) is) [
  | inl same ↦
      let go = new.goes in
      (from, among, IsReadFrom.later {step = go.step} go.there go.unset go.on (subst (λ n. IsReadFrom steps local n) (sym (eqb-true to at same)) path))
  | inr there ↦ (at, there, path)
]

pub none_before : (steps : List Step) (local to : ℕ) (reached : List ℕ) → IsReadFromNone steps local (to ∷ reached) → IsReadFromNone steps local reached
none_before steps local to reached none at among path = none at (or_right (to == at) (is_among at reached) among) path

pub reads_some : (steps : List Step) (local : ℕ) (reached : List ℕ) → SomeReads steps local reached → IsReadFromSome steps local reached
reads_some steps local reached (at, among, (step, there, read)) = (at, among, IsReadFrom.here {step = step} there read)

among_cases : (place at : ℕ) (xs rest : List ℕ) → xs ≡ place ∷ rest → is_among at xs ≡ true → (place ≡ at) ⊎ (is_among at rest ≡ true)
among_cases place at xs rest is among = elim (or_cases (place == at) (is_among at rest) (ap (is_among at) (sym is) ∙ among)) [
  | inl same ↦ inl (eqb-true place at same)
  | inr there ↦ inr there
]

among_more : (place at : ℕ) (xs rest : List ℕ) → xs ≡ place ∷ rest → is_among at rest ≡ true → is_among at xs ≡ true
among_more place at xs rest is among = ap (is_among at) is ∙ or_right (place == at) (is_among at rest) among

-- one more place from which the paths go no further
pub next_more : (steps : List Step) (local place : ℕ) (some rest reached : List ℕ) (found : Option ℕ) → some ≡ place ∷ rest → IsClosed steps local reached place
    → MatchOption found (AllClosed steps local rest reached) (SomeNew steps local rest reached)
    → MatchOption found (AllClosed steps local some reached) (SomeNew steps local some reached)
next_more steps local place some rest reached None is closed all = λ at among. elim (among_cases place at some rest is among) [
  | inl same ↦ subst (λ n. IsClosed steps local reached n) same closed
  | inr there ↦ all at there
]
next_more steps local place some rest reached (Some to) is closed (from, among, new) = (from, among_more place from some rest is among, new)

pub places_at : (place : ℕ) (rest : Bor Reached) → places_of (At place rest) ≡ place ∷ places_of rest.now
places_at place rest =
    fold_out-Reached (List ℕ) place_of (At place rest) ∙ ap (λ l. place_of (map-Reached Reached (List ℕ) places_of l)) (outs-At place rest)

-- from some places and one to which paths go on from them, the same is read as from those places
pub one_more_place : (steps : List Step) (local to : ℕ) (reached more : List ℕ) (found : Bool) → more ≡ to ∷ reached → SomeNew steps local reached reached to
    → MatchBool found (IsReadFromSome steps local more) (IsReadFromNone steps local more) → MatchBool found (IsReadFromSome steps local reached) (IsReadFromNone steps local reached)
one_more_place steps local to reached more true is new some = some_before steps local to reached new (subst (λ xs. IsReadFromSome steps local xs) is some)
one_more_place steps local to reached more false is new none = none_before steps local to reached (subst (λ xs. IsReadFromNone steps local xs) is none)

-- a path from one place alone
pub from_one : (steps : List Step) (local at : ℕ) (places : List ℕ) (found : Bool) → places ≡ at ∷ []
    → MatchBool found (IsReadFromSome steps local places) (IsReadFromNone steps local places) → MatchBool found (IsReadFrom steps local at) (IsReadFrom steps local at → ⊥)
from_one steps local at places true is (from, among, path) = elim (among_cases at from places [] is among) [
  | inl same ↦ subst (λ n. IsReadFrom steps local n) (sym same) path
  | inr none ↦ absurd cc
]
from_one steps local at places false is none = λ path. none at (ap (is_among at) is ∙ ap (λ b. b || false) (eq-eqb at at refl)) path

pub places_none : places_of Nowhere ≡ []
places_none = fold_out-Reached (List ℕ) place_of Nowhere ∙ ap (λ l. place_of (map-Reached Reached (List ℕ) places_of l)) outs-Nowhere
