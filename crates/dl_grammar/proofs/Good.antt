-- A reader that reads the texts of a rule, and nothing else.
use Rattle.std.proofs.Common.{◌≡◌, Bool, true, List, [], ◌∷◌, ◌++◌, Option, Some, None, Ok, Err, refl, ap, ◌∙◌}
use Rattle.dl_grammar.specs.declared.lexeme.Lexeme.{Lexeme}
use Rattle.dl_grammar.specs.declared.fault.Bound.{Bound}
use Rattle.dl_grammar.specs.declared.fault.Fault.{Fault}
use Rattle.dl_grammar.specs.declared.fault.Fault.TheVariants as fault
use Rattle.dl_grammar.specs.Grammar.{Ending, Read, Passed, Rule, One, Within, Beyond, Nothing, Empty, Ahead, ahead, Outcome, Reader, pure, checked, valued, one}

-- what a reader has to make of a text, and the lexemes with what follows
abbrev pub answer : {A : Type 0} → Ending A → List Lexeme → Outcome A
answer (Read a) rest = Ok (a, rest)
answer (Passed b t) rest = Err (fault.Passed b, t ∷ rest)

abbrev pub tail : {A : Type 0} → Ending A → List Lexeme → List Lexeme
tail (Read a) rest = rest
tail (Passed b t) rest = t ∷ rest

-- what may follow a text
abbrev pub Follows : {A : Type 0} → (Ahead → Bool) → Ending A → List Lexeme → Type 0
Follows may (Read a) rest = may (ahead rest) ≡ true
Follows may (Passed b t) rest = Unit {0}

-- why a reader stops behind some lexemes
pub data Stopped {A : Type 0} (L : Rule A) : Fault → List Lexeme → List Lexeme → Type 0 where
  Unexpected : {ws rest : List Lexeme} (e : Ending A) (vs more : List Lexeme) → L e vs → vs ≡ ws ++ more → Stopped L fault.Expected ws rest
  AtLimit : {ws rest : List Lexeme} (b : Bound) (t : Lexeme) → L (Passed b t) ws → Stopped L (fault.Passed b) ws (t ∷ rest)

-- what was read, and that it would be read so whatever follows behind the next lexeme
pub record ReadAt {A : Type 0} (p : Reader A) (L : Rule A) (ts : List Lexeme) (a : A) (rest : List Lexeme) : Type 0 where
  pub ws : List Lexeme
  pub splits : ts ≡ ws ++ rest
  pub text : L (Read a) ws
  pub again : (more : List Lexeme) → ahead more ≡ ahead rest → p (ws ++ more) ≡ Ok (a, more)

pub record StopAt {A : Type 0} (p : Reader A) (L : Rule A) (ts : List Lexeme) (f : Fault) (rest : List Lexeme) : Type 0 where
  pub ws : List Lexeme
  pub splits : ts ≡ ws ++ rest
  pub stops : Stopped L f ws rest
  pub again : (more : List Lexeme) → ahead more ≡ ahead rest → p (ws ++ more) ≡ Err (f, more)

abbrev pub ReadsAt : {A : Type 0} → Reader A → Rule A → List Lexeme → Outcome A → Type 0
ReadsAt p L ts (Ok r) = ReadAt p L ts r.0 r.1
ReadsAt p L ts (Err e) = StopAt p L ts e.0 e.1

pub record Text {A : Type 0} (L : Rule A) : Type 0 where
  pub ending : Ending A
  pub words : List Lexeme
  pub is : L ending words

pub record Good {A : Type 0} (p : Reader A) (L : Rule A) (may : Ahead → Bool) : Type 0 where
  pub some : Text L
  pub reads : (ts : List Lexeme) → ReadsAt p L ts (p ts)
  pub complete : (e : Ending A) (ws : List Lexeme) → L e ws → (rest : List Lexeme) → Follows may e rest → p (ws ++ tail e rest) ≡ answer e rest

-- anything may follow
abbrev pub any : Ahead → Bool
any o = true

pub ahead-append : (ws more rest : List Lexeme) → ahead more ≡ ahead rest → ahead (ws ++ more) ≡ ahead (ws ++ rest)
ahead-append [] more rest h = h
ahead-append (w ∷ ws) more rest h = refl

-- ---- nothing
pub good_pure : {A : Type 0} (a : A) → Good (pure a) (Nothing a) any
good_pure a = record {
  some = record { ending = Read a; words = []; is = Empty };
  reads = λ ts. record { ws = []; splits = refl; text = Empty; again = λ more h. refl };
  complete = complete a;
}
  where
    complete : {A : Type 0} (a : A) (e : Ending A) (ws : List Lexeme) → Nothing a e ws → (rest : List Lexeme) → Follows any e rest → pure a (ws ++ tail e rest) ≡ answer e rest
    complete a _ _ (Empty) rest h = refl

-- ---- one lexeme
module _ {A : Type 0} (value : Lexeme → Option A) (limit : A → Option Bound) where
  one_within : (t : Lexeme) (a : A) (rest : List Lexeme) → value t ≡ Some a → limit a ≡ None → one value limit (t ∷ rest) ≡ Ok (a, rest)
  one_within t a rest v l = ap (λ o. valued limit o t rest) v ∙ ap (λ o. checked a o t rest) l

  one_beyond : (t : Lexeme) (a : A) (b : Bound) (rest : List Lexeme) → value t ≡ Some a → limit a ≡ Some b → one value limit (t ∷ rest) ≡ Err (fault.Passed b, t ∷ rest)
  one_beyond t a b rest v l = ap (λ o. valued limit o t rest) v ∙ ap (λ o. checked a o t rest) l

  one_complete : (e : Ending A) (ws : List Lexeme) → One value limit e ws → (rest : List Lexeme) → Follows any e rest → one value limit (ws ++ tail e rest) ≡ answer e rest
  one_complete _ _ (Within t a v l) rest h = one_within t a rest v l
  one_complete _ _ (Beyond t a b v l) rest h = one_beyond t a b rest v l

  -- a lexeme whose value is known has a text
  some_by : (t : Lexeme) (a : A) → value t ≡ Some a → (o : Option Bound) → limit a ≡ o → Text (One value limit)
  some_by t a v None l = record { ending = Read a; words = t ∷ []; is = Within t a v l }
  some_by t a v (Some b) l = record { ending = Passed b t; words = []; is = Beyond t a b v l }

  module _ (sample : Lexeme) (known : A) (is : value sample ≡ Some known) where
    some_one : Text (One value limit)
    some_one = some_by sample known is (limit known) refl

    front : (rest : List Lexeme) → Stopped (One value limit) fault.Expected [] rest
    front rest = Unexpected some_one.ending some_one.words some_one.words some_one.is refl

    reads_none : (t : Lexeme) → value t ≡ None → (more rest : List Lexeme) → ahead more ≡ ahead (t ∷ rest) → one value limit more ≡ Err (fault.Expected, more)
    reads_none t v [] rest h = absurd (cc)
    reads_none t v (u ∷ more) rest h = let same : u ≡ t = cc in ap (λ x. valued limit (value x) u more) same ∙ ap (λ o. valued limit o u more) v

    reads_beyond : (t : Lexeme) (a : A) (b : Bound) → value t ≡ Some a → limit a ≡ Some b → (more rest : List Lexeme) → ahead more ≡ ahead (t ∷ rest) → one value limit more ≡ Err (fault.Passed b, more)
    reads_beyond t a b v l [] rest h = absurd (cc)
    reads_beyond t a b v l (u ∷ more) rest h =
        let same : u ≡ t = cc in one_beyond u a b more (ap value same ∙ v) l

    reads_checked : (t : Lexeme) (rest : List Lexeme) (a : A) → value t ≡ Some a → (o : Option Bound) → limit a ≡ o → ReadsAt (one value limit) (One value limit) (t ∷ rest) (checked a o t rest)
    reads_checked t rest a v None l = record { ws = t ∷ []; splits = refl; text = Within t a v l; again = λ more h. one_within t a more v l }
    reads_checked t rest a v (Some b) l = record { ws = []; splits = refl; stops = AtLimit b t (Beyond t a b v l); again = λ more h. reads_beyond t a b v l more rest h }

    reads_valued : (t : Lexeme) (rest : List Lexeme) (o : Option A) → value t ≡ o → ReadsAt (one value limit) (One value limit) (t ∷ rest) (valued limit o t rest)
    reads_valued t rest None v = record { ws = []; splits = refl; stops = front (t ∷ rest); again = λ more h. reads_none t v more rest h }
    reads_valued t rest (Some a) v = reads_checked t rest a v (limit a) refl

    reads_end : (more : List Lexeme) → ahead more ≡ ahead [] → one value limit more ≡ Err (fault.Expected, more)
    reads_end [] h = refl
    reads_end (t ∷ more) h = absurd (cc)

    reads_one : (ts : List Lexeme) → ReadsAt (one value limit) (One value limit) ts (one value limit ts)
    reads_one [] = record { ws = []; splits = refl; stops = front []; again = reads_end }
    reads_one (t ∷ rest) = reads_valued t rest (value t) refl

    pub good_one : Good (one value limit) (One value limit) any
    good_one = record { some = some_one; reads = reads_one; complete = one_complete }
