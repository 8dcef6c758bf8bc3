-- What a lexeme is shows what it is not, and readers of one lexeme are good.
use Rattle.std.proofs.Common.{◌≡◌, ℕ, Bool, true, false, cond, List, ◌++◌, Option, Some, None, refl, sym, ap, ◌∙◌}
use Rattle.std.specs.Prelude.{is_some}
use denote.Enum.Bare.{sameb, same_true}
use Rattle.dl_ir.specs.declared.expressions.Op.{Op}
use Rattle.dl_ir.specs.declared.expressions.Rel.{Rel}
use Rattle.dl_grammar.specs.declared.tree.Word.{Word}
use Rattle.dl_grammar.specs.contracts.lexeme.Fixed.{the_type}
use Rattle.dl_grammar.specs.declared.lexeme.Fixed.{Fixed}
use Rattle.dl_grammar.specs.declared.lexeme.Fixed.TheVariants as f
use Rattle.dl_grammar.specs.declared.lexeme.Lexis.{Lexis}
use Rattle.dl_grammar.specs.declared.lexeme.Lexis.TheVariants as lexis
use Rattle.dl_grammar.specs.declared.lexeme.Lexeme.{Lexeme}
use Rattle.dl_grammar.specs.declared.fault.Bound.{Bound}
use Rattle.dl_grammar.specs.Grammar.{Ending, Rule, One, Nothing, Empty, Then, Ahead, ahead, Reader, ◌>>=◌, pure, one}
use Rattle.dl_grammar.specs.Rules.{fixed_in, fixed, name_in, name, number_in, number, adding_in, adding, scaling_in, scaling, relation_in, relation, free}
use Rattle.dl_grammar.proofs.Good.{tail, Follows, Good, any, good_pure, good_one}
use Rattle.dl_grammar.proofs.Rules.{Starts, starts_one, good_narrow, good_follow}

abbrev pub sample : Lexis → Lexeme
sample x = record { lexis = x; line = 1 }

-- a reserved word or a symbol, whatever its limit
pub good_fixed : (g : Fixed) (limit : ℕ → Option Bound) → fixed g (sample (lexis.Fixed g)) ≡ Some 1 → Good (one (fixed g) limit) (One (fixed g) limit) any
good_fixed g limit is = good_one (fixed g) limit (sample (lexis.Fixed g)) 1 is

pub good_word : (g : Fixed) → fixed g (sample (lexis.Fixed g)) ≡ Some 1 → Good (one (fixed g) free) (One (fixed g) free) any
good_word g is = good_fixed g free is

pub fixed_is_in : (g : Fixed) (x : Lexis) (line l : ℕ) → fixed_in g x line ≡ Some l → x ≡ lexis.Fixed g
fixed_is_in g (lexis.Fixed h) line l is = same (sameb the_type g h) refl is
  where
    same : (b : Bool) → sameb the_type g h ≡ b → cond b (Some line) None ≡ Some l → lexis.Fixed h ≡ lexis.Fixed g
    same true eq k = ap lexis.Fixed (sym (same_true the_type (search) g h eq))
    same false eq k = absurd (cc)
fixed_is_in g (lexis.Name text) line l is = absurd (cc)
fixed_is_in g lexis.One line l is = absurd (cc)
fixed_is_in g lexis.Two line l is = absurd (cc)
fixed_is_in g (lexis.Number n) line l is = absurd (cc)

name_is_in : (x : Lexis) (line : ℕ) (w : Word) → name_in x line ≡ Some w → x ≡ lexis.Name w.text
name_is_in (lexis.Name text) line w is = let same : record { text = text; line = line } ≡ w = cc in ap (λ (v : Word). lexis.Name v.text) same
name_is_in (lexis.Fixed h) line w is = absurd (cc)
name_is_in lexis.One line w is = absurd (cc)
name_is_in lexis.Two line w is = absurd (cc)
name_is_in (lexis.Number n) line w is = absurd (cc)

-- ---- what a text that begins with a lexeme shows to a test
abbrev pub seen : (Ahead → Bool) → Lexis → ℕ → Bool
seen test x line = test (Some (record { lexis = x; line = line }))

pub starts_fixed : (g : Fixed) (limit : ℕ → Option Bound) (test : Ahead → Bool) (b : Bool) → ((line : ℕ) → seen test (lexis.Fixed g) line ≡ b) → Starts (One (fixed g) limit) test b
starts_fixed g limit test b h = starts_one (fixed g) limit test b (λ t l v. ap (λ x. seen test x t.line) (fixed_is_in g t.lexis t.line l v) ∙ h t.line)

pub starts_name : (limit : Word → Option Bound) (test : Ahead → Bool) (b : Bool) → ((text : List ℕ) (line : ℕ) → seen test (lexis.Name text) line ≡ b) → Starts (One name limit) test b
starts_name limit test b h = starts_one name limit test b (λ t w v. ap (λ x. seen test x t.line) (name_is_in t.lexis t.line w v) ∙ h w.text t.line)

number_shows : (test : Ahead → Bool) (b : Bool) → ((line : ℕ) → seen test lexis.One line ≡ b) → ((line : ℕ) → seen test lexis.Two line ≡ b) → ((n line : ℕ) → seen test (lexis.Number n) line ≡ b) → (x : Lexis) (line n : ℕ) → number_in x ≡ Some n → seen test x line ≡ b
number_shows test b one two many lexis.One line n v = one line
number_shows test b one two many lexis.Two line n v = two line
number_shows test b one two many (lexis.Number m) line n v = many m line
number_shows test b one two many (lexis.Fixed h) line n v = absurd (cc)
number_shows test b one two many (lexis.Name text) line n v = absurd (cc)

pub starts_number : (limit : ℕ → Option Bound) (test : Ahead → Bool) (b : Bool) → ((line : ℕ) → seen test lexis.One line ≡ b) → ((line : ℕ) → seen test lexis.Two line ≡ b) → ((n line : ℕ) → seen test (lexis.Number n) line ≡ b) → Starts (One number limit) test b
starts_number limit test b one two many = starts_one number limit test b (λ t n v. number_shows test b one two many t.lexis t.line n v)

adding_shows : (test : Ahead → Bool) (b : Bool) → ((line : ℕ) → seen test (lexis.Fixed f.Plus) line ≡ b) → ((line : ℕ) → seen test (lexis.Fixed f.Minus) line ≡ b) → (x : Lexis) (line : ℕ) (o : Op) → adding_in x ≡ Some o → seen test x line ≡ b
adding_shows test b plus minus (lexis.Fixed f.Plus) line o v = plus line
adding_shows test b plus minus (lexis.Fixed f.Minus) line o v = minus line
adding_shows test b plus minus (lexis.Fixed h) line o v = absurd (cc)
adding_shows test b plus minus lexis.One line o v = absurd (cc)
adding_shows test b plus minus lexis.Two line o v = absurd (cc)
adding_shows test b plus minus (lexis.Number n) line o v = absurd (cc)
adding_shows test b plus minus (lexis.Name text) line o v = absurd (cc)

pub starts_adding : (limit : Op → Option Bound) (test : Ahead → Bool) (b : Bool) → ((line : ℕ) → seen test (lexis.Fixed f.Plus) line ≡ b) → ((line : ℕ) → seen test (lexis.Fixed f.Minus) line ≡ b) → Starts (One adding limit) test b
starts_adding limit test b plus minus = starts_one adding limit test b (λ t o v. adding_shows test b plus minus t.lexis t.line o v)

scaling_shows : (test : Ahead → Bool) (b : Bool) → ((g : Fixed) (line : ℕ) → is_some (scaling_in (lexis.Fixed g)) ≡ true → seen test (lexis.Fixed g) line ≡ b) → (x : Lexis) (line : ℕ) (o : Op) → scaling_in x ≡ Some o → seen test x line ≡ b
scaling_shows test b h (lexis.Fixed g) line o v = h g line (ap is_some v)
scaling_shows test b h lexis.One line o v = absurd (cc)
scaling_shows test b h lexis.Two line o v = absurd (cc)
scaling_shows test b h (lexis.Number n) line o v = absurd (cc)
scaling_shows test b h (lexis.Name text) line o v = absurd (cc)

pub starts_scaling : (limit : Op → Option Bound) (test : Ahead → Bool) (b : Bool) → ((g : Fixed) (line : ℕ) → is_some (scaling_in (lexis.Fixed g)) ≡ true → seen test (lexis.Fixed g) line ≡ b) → Starts (One scaling limit) test b
starts_scaling limit test b h = starts_one scaling limit test b (λ t o v. scaling_shows test b h t.lexis t.line o v)

relation_shows : (test : Ahead → Bool) (b : Bool) → ((g : Fixed) (line : ℕ) → is_some (relation_in (lexis.Fixed g)) ≡ true → seen test (lexis.Fixed g) line ≡ b) → (x : Lexis) (line : ℕ) (r : Rel) → relation_in x ≡ Some r → seen test x line ≡ b
relation_shows test b h (lexis.Fixed g) line o v = h g line (ap is_some v)
relation_shows test b h lexis.One line o v = absurd (cc)
relation_shows test b h lexis.Two line o v = absurd (cc)
relation_shows test b h (lexis.Number n) line o v = absurd (cc)
relation_shows test b h (lexis.Name text) line o v = absurd (cc)

pub starts_relation : (limit : Rel → Option Bound) (test : Ahead → Bool) (b : Bool) → ((g : Fixed) (line : ℕ) → is_some (relation_in (lexis.Fixed g)) ≡ true → seen test (lexis.Fixed g) line ≡ b) → Starts (One relation limit) test b
starts_relation limit test b h = starts_one relation limit test b (λ t r v. relation_shows test b h t.lexis t.line r v)

-- ---- a value that is made of another
pub good_map : {A B : Type 0} {p : Reader A} {L : Rule A} {may : Ahead → Bool} (g : A → B) → Good p L may → Good (p >>= λ x. pure (g x)) (Then L (λ x. Nothing (g x))) may
good_map {may = may} g good = good_follow good (λ a. good_narrow (good_pure (g a)) may (λ o h. refl)) follow
  where
    follow : (a : _) (e : Ending _) (ws rest : List Lexeme) → Nothing (g a) e ws → Follows may e rest → may (ahead (ws ++ tail e rest)) ≡ true
    follow a _ _ rest (Empty) h = h

-- what follows begins with a text that may stand there
pub good_before : {A B : Type 0} {p : Reader A} {L : Rule A} {may : Ahead → Bool} → Good p L may → {f : A → Reader B} {M : A → Rule B} {end : Ahead → Bool} → ((a : A) → Starts (M a) may true) → ((a : A) → Good (f a) (M a) end) → Good (p >>= f) (Then L M) end
good_before first starts second = good_follow first second (λ a e ws rest is h. starts a e ws rest is)
