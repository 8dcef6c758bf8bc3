-- What a check that gave a value says of its parts.
use Rattle.std.proofs.Common.{append_assoc, ◌≡◌, ◌+◌, Bool, true, false, ◌&&◌, List, [], ◌∷◌, ◌++◌, length, map, refl, sym, ap, subst, ◌∙◌, Option, Some, None, Result, Ok, Err, arith, ◌⊎◌, inl, inr, All, if◌then◌else◌}
use Rattle.std.specs.List.{AllByRecursion}
use Rattle.std.proofs.lemmas.List.Elements.{All-push}
use Rattle.dl_types.specs.declared.fault.TypeFault.{TypeFault}
use Rattle.dl_types.specs.Checks.{◌>>=◌, or_fault, each}
use Rattle.dl_types.specs.Names.{or_else}
use Rattle.std.proofs.lemmas.List.{append-nil, length_push, map_push}

pub bind_ok : {A B : Type 0} (r : Result A TypeFault) (next : A → Result B TypeFault) (b : B) → (r >>= next) ≡ Ok b → (a : A) × (r ≡ Ok a) × (next a ≡ Ok b)
bind_ok (Ok a) next b e = (a, refl, e)
bind_ok (Err fault) next b e = cc

pub unless_ok : {A : Type 0} (test : Bool) (fault : TypeFault) (r : Result A TypeFault) (a : A) → (if test then Err fault else r) ≡ Ok a → (test ≡ false) × (r ≡ Ok a)
unless_ok true fault r a e = cc
unless_ok false fault r a e = (refl, e)

pub where_ok : {A : Type 0} (test : Bool) (fault : TypeFault) (r : Result A TypeFault) (a : A) → (if test then r else Err fault) ≡ Ok a → (test ≡ true) × (r ≡ Ok a)
where_ok true fault r a e = (refl, e)
where_ok false fault r a e = cc

pub first_or_rest : {A : Type 0} (test : Bool) (x : A) (rest : Option A) (a : A) → (if test then Some x else rest) ≡ Some a → (x ≡ a) ⊎ (rest ≡ Some a)
first_or_rest true x rest a e = let same : x ≡ a = cc in inl same
first_or_rest false x rest a e = inr e

pub fault_or_some : {A : Type 0} (o : Option A) (fault : TypeFault) (a : A) → or_fault o fault ≡ Ok a → o ≡ Some a
fault_or_some None fault a e = cc
fault_or_some (Some x) fault a e = let same : x ≡ a = cc in ap (λ y. Some y) same

pub one_or_other : {A : Type 0} (o other : Option A) (a : A) → or_else o other ≡ Some a → (o ≡ Some a) ⊎ (other ≡ Some a)
one_or_other None other a e = inr e
one_or_other (Some x) other a e = inl e

-- the value, and no fault
abbrev pub given : {A : Type 0} → A → Result A TypeFault
given a = Ok a

pub same_ok : {A : Type 0} (x a : A) → given x ≡ Ok a → x ≡ a
same_ok x a e = cc

pub and_true : (a : Bool) → (a && true) ≡ false → a ≡ false
and_true true e = e
and_true false e = refl

-- what holds of each value that a check gives, holds of all that the checks of a list give
pub each_all : {A B : Type 0} (P : B → Type 0) (Q : A → Type 0) (check : List B → A → Result B TypeFault)
    → ((before : List B) (a : A) (b : B) → Q a → check before a ≡ Ok b → P b)
    → (done : List B) (xs : List A) (ys : List B) → All P done → AllByRecursion Q xs → each check done xs ≡ Ok ys → All P ys
each_all P Q check holds done [] ys all q e = subst (All P) (same_ok done ys e) all
each_all P Q check holds done (a ∷ more) ys all q e =
    let first = bind_ok (check done a) _ ys e in
    each_all P Q check holds (done ++ first.0 ∷ []) more ys (All-push P done first.0 all (holds done a first.0 q.0 first.1)) q.1 first.2

-- what each value has of what it was made of, all have
pub each_map : {A B C : Type 0} (f : B → C) (g : A → C) (check : List B → A → Result B TypeFault)
    → ((before : List B) (a : A) (b : B) → check before a ≡ Ok b → f b ≡ g a)
    → (done : List B) (xs : List A) (ys : List B) → each check done xs ≡ Ok ys → map f ys ≡ map f done ++ map g xs
each_map f g check same done [] ys e = ap (map f) (sym (same_ok done ys e)) ∙ sym (append-nil (map f done))
each_map f g check same done (a ∷ more) ys e =
    let first = bind_ok (check done a) _ ys e in
    each_map f g check same (done ++ first.0 ∷ []) more ys first.2
    ∙ ap (λ l. l ++ map g more) (map_push f done first.0 ∙ ap (λ c. map f done ++ c ∷ []) (same done a first.0 first.1))
    ∙ append_assoc (map f done) (g a ∷ []) (map g more)

-- there are as many values as there were elements
pub each_length : {A B : Type 0} (check : List B → A → Result B TypeFault) (done : List B) (xs : List A) (ys : List B) → each check done xs ≡ Ok ys → length ys ≡ length done + length xs
each_length check done [] ys e = let same = ap length (same_ok done ys e) in omega (arith, same)
each_length check done (a ∷ more) ys e =
    let first = bind_ok (check done a) _ ys e in
    omega (arith, each_length check (done ++ first.0 ∷ []) more ys first.2, length_push done first.0)
