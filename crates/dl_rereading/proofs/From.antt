-- What holds of each value that a rule spells out of lexemes of which something holds.
use Rattle.std.proofs.Common.{◌≡◌, List, [], ◌∷◌, ◌++◌, Option, Some, None, inl, inr}
use Rattle.std.specs.List.{AllByRecursion}
use Rattle.dl_grammar.specs.declared.lexeme.Lexeme.{Lexeme}
use Rattle.dl_grammar.specs.declared.fault.Bound.{Bound}
use Rattle.dl_grammar.specs.Grammar.{Ending, Read, Passed, Rule, One, Within, Beyond, Nothing, Empty, Then, Both, Cut, Or, Many, NoMore, OneMore, CutShort}
use Rattle.dl_grammar.proofs.Always.{Keeps}

pub all_left : {X : Type 0} (P : X → Type 0) (xs ys : List X) → AllByRecursion P (xs ++ ys) → AllByRecursion P xs
all_left P [] ys h = tt
all_left P (x ∷ xs) ys h = (h.0, all_left P xs ys h.1)

pub all_right : {X : Type 0} (P : X → Type 0) (xs ys : List X) → AllByRecursion P (xs ++ ys) → AllByRecursion P ys
all_right P [] ys h = h
all_right P (x ∷ xs) ys h = all_right P xs ys h.1

pub all_append : {X : Type 0} (P : X → Type 0) (xs ys : List X) → AllByRecursion P xs → AllByRecursion P ys → AllByRecursion P (xs ++ ys)
all_append P [] ys h k = k
all_append P (x ∷ xs) ys h k = (h.0, all_append P xs ys h.1 k)

pub record From {A : Type 0} (Q : Lexeme → Type 0) (P : A → Type 0) (L : Rule A) : Type 0 where
  pub kept : (e : Ending A) (ws : List Lexeme) → L e ws → AllByRecursion Q ws → Keeps P e

any_kept : {A : Type 0} (e : Ending A) → Keeps (λ (a : A). Unit {0}) e
any_kept (Read a) = tt
any_kept (Passed b t) = tt

pub from_any : {A : Type 0} {Q : Lexeme → Type 0} {L : Rule A} → From Q (λ (a : A). Unit {0}) L
from_any {A} {Q} {L} = record { kept = λ e ws is all. any_kept e }

pub from_one : {A : Type 0} {Q : Lexeme → Type 0} (P : A → Type 0) (value : Lexeme → Option A) (limit : A → Option Bound)
    → ((t : Lexeme) (a : A) → Q t → value t ≡ Some a → limit a ≡ None → P a) → From Q P (One value limit)
from_one {A} {Q} P value limit h = record { kept = go }
  where
    go : (e : Ending A) (ws : List Lexeme) → One value limit e ws → AllByRecursion Q ws → Keeps P e
    go _ _ (Within t a is free) all = h t a all.0 is free
    go _ _ (Beyond t a b is over) all = tt

pub from_nothing : {A : Type 0} {Q : Lexeme → Type 0} {P : A → Type 0} {a : A} → P a → From Q P (Nothing a)
from_nothing {A} {Q} {P} {a} h = record { kept = go }
  where
    go : (e : Ending A) (ws : List Lexeme) → Nothing a e ws → AllByRecursion Q ws → Keeps P e
    go _ _ (Empty) all = h

pub from_then : {A B : Type 0} {Q : Lexeme → Type 0} {P : A → Type 0} {R : B → Type 0} {L : Rule A} {M : A → Rule B} → From Q P L → ((a : A) → P a → From Q R (M a)) → From Q R (Then L M)
from_then {A} {B} {Q} {P} {R} {L} {M} first second = record { kept = go }
  where
    go : (e : Ending B) (ws : List Lexeme) → Then L M e ws → AllByRecursion Q ws → Keeps R e
    go e _ (Both {xs = xs} {ys = ys} a is next) all = (second a (first.kept (Read a) xs is (all_left Q xs ys all))).kept e ys next (all_right Q xs ys all)
    go _ ws (Cut is) all = tt

-- behind a rule whose values do not matter
pub from_behind : {A B : Type 0} {Q : Lexeme → Type 0} {R : B → Type 0} {L : Rule A} {M : A → Rule B} → ((a : A) → From Q R (M a)) → From Q R (Then L M)
from_behind {A} {B} {Q} {R} {L} {M} second = from_then (from_any {L = L}) (λ a h. second a)

weakened : {A : Type 0} {P R : A → Type 0} → ((a : A) → P a → R a) → (e : Ending A) → Keeps P e → Keeps R e
weakened h (Read a) k = h a k
weakened h (Passed b t) k = tt

pub from_weaken : {A : Type 0} {Q : Lexeme → Type 0} {P R : A → Type 0} {L : Rule A} → ((a : A) → P a → R a) → From Q P L → From Q R L
from_weaken h all = record { kept = λ e ws is good. weakened h e (all.kept e ws is good) }

pub from_or : {A : Type 0} {Q : Lexeme → Type 0} {P : A → Type 0} {L M : Rule A} → From Q P L → From Q P M → From Q P (Or L M)
from_or {A} {Q} {P} {L} {M} left right = record { kept = go }
  where
    go : (e : Ending A) (ws : List Lexeme) → Or L M e ws → AllByRecursion Q ws → Keeps P e
    go e ws (inl is) all = left.kept e ws is all
    go e ws (inr is) all = right.kept e ws is all

pub from_many : {A : Type 0} {Q : Lexeme → Type 0} {P : A → Type 0} {N : A → Rule A} → ((a : A) → P a → From Q P (N a)) → (a : A) → P a → From Q P (Many N a)
from_many {A} {Q} {P} {N} turn a start = record { kept = λ e ws is all. go a start e ws is all }
  where
    go : (a : A) → P a → (e : Ending A) (ws : List Lexeme) → Many N a e ws → AllByRecursion Q ws → Keeps P e
    go a h _ _ (NoMore) all = h
    go a h e _ (OneMore {xs = xs} {ys = ys} b is next) all = go b ((turn a h).kept (Read b) xs is (all_left Q xs ys all)) e ys next (all_right Q xs ys all)
    go a h _ ws (CutShort is) all = tt
