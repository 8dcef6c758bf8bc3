-- What holds of each value that a rule spells.
use Rattle.std.proofs.Common.{◌≡◌, List, Option, Some, None, inl, inr}
use Rattle.dl_grammar.specs.declared.lexeme.Lexeme.{Lexeme}
use Rattle.dl_grammar.specs.declared.fault.Bound.{Bound}
use Rattle.dl_grammar.specs.Grammar.{Ending, Read, Passed, Rule, One, Within, Beyond, Nothing, Empty, Then, Both, Cut, Or, Many, NoMore, OneMore, CutShort}

-- the value at the end, if there is one, has the property
abbrev pub Keeps : {A : Type 0} → (A → Type 0) → Ending A → Type 0
Keeps P (Read a) = P a
Keeps P (Passed b t) = Unit {0}

pub record Always {A : Type 0} (P : A → Type 0) (L : Rule A) : Type 0 where
  pub kept : (e : Ending A) (ws : List Lexeme) → L e ws → Keeps P e

any_kept : {A : Type 0} (e : Ending A) → Keeps (λ (a : A). Unit {0}) e
any_kept (Read a) = tt
any_kept (Passed b t) = tt

pub always_any : {A : Type 0} (L : Rule A) → Always (λ (a : A). Unit {0}) L
always_any L = record { kept = λ e ws is. any_kept e }

pub always_one : {A : Type 0} (P : A → Type 0) (value : Lexeme → Option A) (limit : A → Option Bound) → ((t : Lexeme) (a : A) → value t ≡ Some a → limit a ≡ None → P a) → Always P (One value limit)
always_one {A} P value limit h = record { kept = go }
  where
    go : (e : Ending A) (ws : List Lexeme) → One value limit e ws → Keeps P e
    go _ _ (Within t a is free) = h t a is free
    go _ _ (Beyond t a b is over) = tt

pub always_nothing : {A : Type 0} (P : A → Type 0) (a : A) → P a → Always P (Nothing a)
always_nothing {A} P a h = record { kept = go }
  where
    go : (e : Ending A) (ws : List Lexeme) → Nothing a e ws → Keeps P e
    go _ _ (Empty) = h

pub always_then : {A B : Type 0} {P : A → Type 0} {Q : B → Type 0} {L : Rule A} {M : A → Rule B} → Always P L → ((a : A) → P a → Always Q (M a)) → Always Q (Then L M)
always_then {A} {B} {P} {Q} {L} {M} first second = record { kept = go }
  where
    go : (e : Ending B) (ws : List Lexeme) → Then L M e ws → Keeps Q e
    go e _ (Both {xs = xs} {ys = ys} a is next) = (second a (first.kept (Read a) xs is)).kept e ys next
    go _ ws (Cut is) = tt

-- behind a rule whose values do not matter
pub always_behind : {A B : Type 0} {Q : B → Type 0} {L : Rule A} {M : A → Rule B} → ((a : A) → Always Q (M a)) → Always Q (Then L M)
always_behind {A} {B} {Q} {L} {M} second = always_then (always_any L) (λ a h. second a)

weakened : {A : Type 0} {P Q : A → Type 0} → ((a : A) → P a → Q a) → (e : Ending A) → Keeps P e → Keeps Q e
weakened h (Read a) k = h a k
weakened h (Passed b t) k = tt

pub always_weaken : {A : Type 0} {P Q : A → Type 0} {L : Rule A} → ((a : A) → P a → Q a) → Always P L → Always Q L
always_weaken h all = record { kept = λ e ws is. weakened h e (all.kept e ws is) }

pub always_or : {A : Type 0} {P : A → Type 0} {L M : Rule A} → Always P L → Always P M → Always P (Or L M)
always_or {A} {P} {L} {M} left right = record { kept = go }
  where
    go : (e : Ending A) (ws : List Lexeme) → Or L M e ws → Keeps P e
    go e ws (inl is) = left.kept e ws is
    go e ws (inr is) = right.kept e ws is

pub always_many : {A : Type 0} {P : A → Type 0} {N : A → Rule A} → ((a : A) → P a → Always P (N a)) → (a : A) → P a → Always P (Many N a)
always_many {A} {P} {N} turn a start = record { kept = λ e ws is. go a start e ws is }
  where
    go : (a : A) → P a → (e : Ending A) (ws : List Lexeme) → Many N a e ws → Keeps P e
    go a h _ _ (NoMore) = h
    go a h e _ (OneMore {xs = xs} {ys = ys} b is next) = go b ((turn a h).kept (Read b) xs is) e ys next
    go a h _ ws (CutShort is) = tt
