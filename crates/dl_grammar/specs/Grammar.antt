-- Grammars as relations between values and lists of lexemes, and readers of such lists.
use Rattle.std.specs.Prelude.{◌≡◌, ℕ, Bool, if◌then◌else◌, List, [], ◌∷◌, ◌++◌, length, zero, suc, Option, Some, None, Result, Ok, Err, ◌⊎◌}
use Rattle.dl_grammar.specs.declared.lexeme.Lexeme.{Lexeme}
use Rattle.dl_grammar.specs.declared.fault.Bound.{Bound}
use Rattle.dl_grammar.specs.declared.fault.Fault.{Fault}
use Rattle.dl_grammar.specs.declared.fault.Fault.TheVariants as fault

-- How a text ends: it is read whole and has a value, or it stops before the token at which a limit is passed. Behind
-- that token anything may follow.
pub data Ending (A : Type 0) : Type 0 where
  Read : A → Ending A
  Passed : Bound → Lexeme → Ending A

-- a rule of a grammar: which lexemes are its texts, with their endings
abbrev pub Rule : Type 0 → Type 1
Rule A = Ending A → List Lexeme → Type 0

-- one lexeme that has a value, where it passes no limit
pub data One {A : Type 0} (value : Lexeme → Option A) (limit : A → Option Bound) : Ending A → List Lexeme → Type 0 where
  Within : (t : Lexeme) (a : A) → value t ≡ Some a → limit a ≡ None → One value limit (Read a) (t ∷ [])
  Beyond : (t : Lexeme) (a : A) (b : Bound) → value t ≡ Some a → limit a ≡ Some b → One value limit (Passed b t) []

-- nothing, with a value
pub data Nothing {A : Type 0} (a : A) : Ending A → List Lexeme → Type 0 where
  Empty : Nothing a (Read a) []

-- a text of the first rule, and then one of the second, which may depend on the value of the first
pub data Then {A B : Type 0} (L : Rule A) (M : A → Rule B) : Ending B → List Lexeme → Type 0 where
  Both : {e : Ending B} {xs ys : List Lexeme} (a : A) → L (Read a) xs → M a e ys → Then L M e (xs ++ ys)
  Cut : {b : Bound} {t : Lexeme} {xs : List Lexeme} → L (Passed b t) xs → Then L M (Passed b t) xs

-- a text of one rule or of the other
abbrev pub Or : {A : Type 0} → Rule A → Rule A → Rule A
Or L M e ws = L e ws ⊎ M e ws

-- any number of texts of a rule, each of which makes of the value before it the next one
pub data Many {A : Type 0} (N : A → Rule A) : A → Ending A → List Lexeme → Type 0 where
  NoMore : {a : A} → Many N a (Read a) []
  OneMore : {a : A} {e : Ending A} {xs ys : List Lexeme} (b : A) → N a (Read b) xs → Many N b e ys → Many N a e (xs ++ ys)
  CutShort : {a : A} {b : Bound} {t : Lexeme} {xs : List Lexeme} → N a (Passed b t) xs → Many N a (Passed b t) xs

-- the lexemes of a text, with the one that passes a limit
abbrev pub whole : {A : Type 0} → Ending A → List Lexeme → List Lexeme
whole (Read a) ws = ws
whole (Passed b t) ws = ws ++ t ∷ []

-- some text begins with these lexemes, and none of them passes a limit
abbrev pub Begins : {A : Type 0} → Rule A → List Lexeme → Type 0
Begins {A} L before = (e : Ending A) × (vs : List Lexeme) × (more : List Lexeme) × L e vs × (vs ≡ before ++ more)

-- No text goes on, behind the lexemes before, with the first of the rest. Where there is no rest, none ends there.
abbrev pub NoneGoesOn : {A : Type 0} → Rule A → List Lexeme → List Lexeme → Type 0
NoneGoesOn {A} L before [] = (a : A) → L (Read a) before → ⊥
NoneGoesOn {A} L before (t ∷ rest) = (e : Ending A) (vs more : List Lexeme) → L e vs → whole e vs ≡ before ++ t ∷ more → ⊥

-- the fault stands at the first lexeme of the rest
abbrev pub StandsAt : {A : Type 0} → Rule A → Fault → List Lexeme → List Lexeme → Type 0
StandsAt L fault.Expected before rest = Begins L before × NoneGoesOn L before rest
StandsAt L (fault.Passed b) before [] = ⊥
StandsAt L (fault.Passed b) before (t ∷ rest) = L (Passed b t) before
StandsAt L fault.Memory before rest = ⊥

-- what comes next
abbrev pub Ahead : Type 0
Ahead = Option Lexeme

-- the next lexeme of a list
abbrev pub ahead : List Lexeme → Ahead
ahead [] = None
ahead (t ∷ ts) = Some t

-- what a reader makes of some lexemes: a value and what is left, or a fault and what stands there
abbrev pub Outcome : Type 0 → Type 0
Outcome A = Result (A × List Lexeme) (Fault × List Lexeme)

-- a function from lexemes to an outcome
abbrev pub Reader : Type 0 → Type 0
Reader A = List Lexeme → Outcome A

-- what is made of the value and of what is left, if there is a value
abbrev pub and_then : {A B : Type 0} → Outcome A → (A → Reader B) → Outcome B
and_then (Ok x) f = f x.0 x.1
and_then (Err e) f = Err e

-- reads by the first, and then by what its value says
infixl 10 ◌>>=◌
abbrev pub ◌>>=◌ : {A B : Type 0} → Reader A → (A → Reader B) → Reader B
(p >>= f) ts = and_then (p ts) f

-- takes nothing, and answers the value
abbrev pub pure : {A : Type 0} → A → Reader A
pure a ts = Ok (a, ts)

-- the value of a lexeme that was tested for a limit
abbrev pub checked : {A : Type 0} → A → Option Bound → Lexeme → List Lexeme → Outcome A
checked a None t rest = Ok (a, rest)
checked a (Some b) t rest = Err (fault.Passed b, t ∷ rest)

-- the value of a lexeme, if it has one
abbrev pub valued : {A : Type 0} → (A → Option Bound) → Option A → Lexeme → List Lexeme → Outcome A
valued limit None t rest = Err (fault.Expected, t ∷ rest)
valued limit (Some a) t rest = checked a (limit a) t rest

-- reads one lexeme
abbrev pub one : {A : Type 0} → (Lexeme → Option A) → (A → Option Bound) → Reader A
one value limit [] = Err (fault.Expected, [])
one value limit (t ∷ rest) = valued limit (value t) t rest

-- reads by the first or by the second, as what comes next says
abbrev pub choose : {A : Type 0} → (Ahead → Bool) → Reader A → Reader A → Reader A
choose test p q ts = if test (ahead ts) then p ts else q ts

-- reads again and again while what comes next says so, so many times at most
abbrev pub repeat_from : {A : Type 0} → (Ahead → Bool) → (A → Reader A) → ℕ → A → Reader A
repeat_from test step zero a ts = Ok (a, ts)
repeat_from test step (suc n) a ts = if test (ahead ts) then and_then (step a ts) (repeat_from test step n) else Ok (a, ts)

-- the same, as often as there are lexemes, since each turn takes one
unfoldable pub repeat : {A : Type 0} → (Ahead → Bool) → (A → Reader A) → A → Reader A
repeat test step a ts = repeat_from test step (length ts) a ts

-- what a reader makes of a whole text: behind it nothing may be left
abbrev pub nothing_left : {A : Type 0} → A → List Lexeme → Result A (Fault × List Lexeme)
nothing_left a [] = Ok a
nothing_left a (t ∷ rest) = Err (fault.Expected, t ∷ rest)

-- what a reader makes of a whole text
abbrev pub finish : {A : Type 0} → Outcome A → Result A (Fault × List Lexeme)
finish (Ok x) = nothing_left x.0 x.1
finish (Err e) = Err e

-- what a function answers is what the reader makes of the lexemes, unless memory runs out
abbrev pub Gives : {A : Type 0} → Outcome A → Result A Fault → List Lexeme → Type 0
Gives outcome (Ok a) new = outcome ≡ Ok (a, new)
Gives outcome (Err fault.Memory) new = Unit {0}
Gives outcome (Err fault.Expected) new = outcome ≡ Err (fault.Expected, new)
Gives outcome (Err (fault.Passed b)) new = outcome ≡ Err (fault.Passed b, new)

-- the same, for a function that also counts
abbrev pub Counts : {A : Type 0} → Outcome (A × ℕ) → Result A Fault → ℕ → List Lexeme → Type 0
Counts outcome (Ok a) n new = outcome ≡ Ok ((a, n), new)
Counts outcome (Err fault.Memory) n new = Unit {0}
Counts outcome (Err fault.Expected) n new = outcome ≡ Err (fault.Expected, new)
Counts outcome (Err (fault.Passed b)) n new = outcome ≡ Err (fault.Passed b, new)
