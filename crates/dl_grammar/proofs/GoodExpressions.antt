-- The readers of expressions read the texts of their rules.
use Rattle.std.proofs.Common.{◌≡◌, ℕ, zero, suc, ◌+◌, Bool, true, false, List, [], ◌++◌, Some, None, refl}
use Rattle.std.specs.Prelude.{not, is_some, ◌&&◌, pos}
use Rattle.std.proofs.lemmas.Bool.{and_parts, not-true}
use Rattle.dl_ir.specs.declared.expressions.Op.TheVariants as op
use Rattle.dl_grammar.specs.declared.lexeme.Fixed.TheVariants as f
use Rattle.dl_grammar.specs.declared.lexeme.Lexis.{Lexis}
use Rattle.dl_grammar.specs.declared.lexeme.Lexis.TheVariants as lexis
use Rattle.dl_grammar.specs.declared.lexeme.Lexeme.{Lexeme}
use Rattle.dl_grammar.specs.declared.fault.Bound.TheVariants.{Limit}
use Rattle.dl_grammar.specs.declared.fault.Which.TheVariants as which
use Rattle.dl_grammar.specs.declared.tree.TreeExpr.TheVariants as e
use Rattle.dl_grammar.specs.Grammar.{Ending, Rule, Or, Many, Ahead, ahead, Reader, one, choose}
use Rattle.dl_grammar.specs.Rules as rule
use Rattle.dl_grammar.specs.Rules.{fixed, name, number, adding_in, adding, scaling_in, scaling, free, level, one_more, at_most, Counted}
use Rattle.dl_grammar.specs.Readers as read
use Rattle.dl_grammar.specs.Readers.{comes}
use Rattle.dl_grammar.proofs.Good.{tail, Follows, Good, any, good_one}
use Rattle.dl_grammar.proofs.Rules.{Starts, starts_then, starts_or, good_then, good_follow, good_choose}
use Rattle.dl_grammar.proofs.Repeats.{good_many, follow}
use Rattle.dl_grammar.proofs.GoodLexemes.{sample, seen, good_fixed, good_word, good_map, good_before, starts_fixed, starts_name, starts_number, starts_adding, starts_scaling}

-- no operator of a term comes next, and none of a sum
abbrev pub ends_term : Ahead → Bool
ends_term o = not (comes scaling o)

abbrev pub ends_sum : Ahead → Bool
ends_sum o = ends_term o && not (comes adding o)

pub sum_ends_term : (o : Ahead) → ends_sum o ≡ true → ends_term o ≡ true
sum_ends_term o h = (and_parts (ends_term o) (not (comes adding o)) h).0

pub sum_ends_adding : (o : Ahead) → ends_sum o ≡ true → comes adding o ≡ false
sum_ends_adding o h = not-true (comes adding o) (and_parts (ends_term o) (not (comes adding o)) h).1

adding_ends_in : (x : Lexis) → is_some (adding_in x) ≡ true → not (is_some (scaling_in x)) ≡ true
adding_ends_in (lexis.Fixed f.Plus) h = refl
adding_ends_in (lexis.Fixed f.Minus) h = refl
adding_ends_in (lexis.Fixed g) h = absurd (cc)
adding_ends_in lexis.One h = absurd (cc)
adding_ends_in lexis.Two h = absurd (cc)
adding_ends_in (lexis.Number n) h = absurd (cc)
adding_ends_in (lexis.Name text) h = absurd (cc)

adding_ends : (o : Ahead) → comes adding o ≡ true → ends_term o ≡ true
adding_ends None h = absurd (cc)
adding_ends (Some t) h = adding_ends_in t.lexis h

-- ---- leaves
pub good_literal : (used : ℕ) → Good (read.literal used) (rule.literal used) any
unfolding read.literal
good_literal used = good_map (λ (n : ℕ). let x : Counted = (e.Num (pos n), used) in x) (good_one number (at_most 9223372036854775807 (Limit which.Literal)) (sample lexis.One) 1 refl)

pub good_variable : (used : ℕ) → Good (read.variable used) (rule.variable used) any
unfolding read.variable
good_variable used = good_map (λ w. let x : Counted = (e.Name w, used) in x) (good_one name free (sample (lexis.Name [])) (record { text = []; line = 1 }) refl)

-- ---- operations, over good readers of factors
module _ {reader : ℕ → Reader Counted} {factor : ℕ → Rule Counted} (good : (used : ℕ) → Good (reader used) (factor used) any) where
  pub scaled : (left : Counted) → Good (read.operation scaling reader left) (rule.operation scaling factor left) any
  unfolding read.operation
  scaled left = good_then (good_one scaling (one_more 256 left.1 (Limit which.Operators)) (sample (lexis.Fixed f.Star)) op.Mul refl)
      (λ o. good_map (λ (x : Counted). let y : Counted = (e.Bin o left.0 x.0, x.1) in y) (good (left.1 + 1)))

  pub scaled_starts : (left : Counted) → Starts (rule.operation scaling factor left) (comes scaling) true
  scaled_starts left = starts_then _ _ (comes scaling) true (starts_scaling (one_more 256 left.1 (Limit which.Operators)) (comes scaling) true (λ g line h. h))

  always : (o : Ahead) → ends_term o ≡ true → any o ≡ true
  always o h = refl

  always' : (o : Ahead) → comes scaling o ≡ true → any o ≡ true
  always' o h = refl

  pub good_term_behind : (x : Counted) → Good (read.term_behind reader x) (Many (rule.operation scaling factor) x) ends_term
  unfolding read.term_behind
  good_term_behind x = good_many (comes scaling) scaled scaled_starts refl ends_term (λ o h. not-true (comes scaling o) h) always always' x

  pub good_term : (used : ℕ) → Good (read.term reader used) (rule.term factor used) ends_term
  unfolding read.term
  good_term used = good_then (good used) good_term_behind

  pub added : (left : Counted) → Good (read.operation adding (read.term reader) left) (rule.operation adding (rule.term factor) left) ends_term
  unfolding read.operation
  added left = good_then (good_one adding (one_more 256 left.1 (Limit which.Operators)) (sample (lexis.Fixed f.Plus)) op.Add refl)
      (λ o. good_map (λ (x : Counted). let y : Counted = (e.Bin o left.0 x.0, x.1) in y) (good_term (left.1 + 1)))

  pub added_starts : (left : Counted) → Starts (rule.operation adding (rule.term factor) left) (comes adding) true
  added_starts left = starts_then _ _ (comes adding) true (starts_adding (one_more 256 left.1 (Limit which.Operators)) (comes adding) true (λ line. refl) (λ line. refl))

  pub good_sum_behind : (x : Counted) → Good (read.sum_behind reader x) (Many (rule.operation adding (rule.term factor)) x) ends_sum
  unfolding read.sum_behind
  good_sum_behind x = good_many (comes adding) added added_starts refl ends_sum sum_ends_adding sum_ends_term adding_ends x

  pub behind_term : (x : Counted) (e : Ending Counted) (ws rest : List Lexeme) → Many (rule.operation adding (rule.term factor)) x e ws → Follows ends_sum e rest → ends_term (ahead (ws ++ tail e rest)) ≡ true
  behind_term x e ws rest is h = follow (comes adding) added added_starts refl ends_sum sum_ends_adding sum_ends_term adding_ends x e ws rest is h

  pub good_sum : (used : ℕ) → Good (read.sum reader used) (rule.sum factor used) ends_sum
  unfolding read.sum
  good_sum used = good_follow (good_term used) good_sum_behind behind_term

-- ---- factors
module _ (room : ℕ) {reader : ℕ → Reader Counted} {inner : ℕ → Rule Counted} (good : (used : ℕ) → Good (reader used) (inner used) any) where
  pub good_negation : (used : ℕ) → Good (read.negation room reader used) (rule.negation room inner used) any
  unfolding read.negation
  good_negation used = good_then (good_fixed f.Minus (level room) refl) (λ l. good_map (λ (x : Counted). let y : Counted = (e.Neg x.0, x.1) in y) (good used))

  pub good_bracket : (used : ℕ) → Good (read.bracket room reader used) (rule.bracket room inner used) any
  unfolding read.bracket
  good_bracket used = good_then (good_fixed f.LParen (level room) refl) (λ l. good_before (good_sum good used)
      (λ x. starts_then _ _ ends_sum true (starts_fixed f.RParen free ends_sum true (λ line. refl)))
      (λ x. good_map (λ (m : ℕ). x) (good_word f.RParen refl)))

  pub good_factor_over : (used : ℕ) → Good (read.factor_over room reader used) (rule.factor_over room inner used) any
  unfolding read.factor_over
  good_factor_over used =
      good_choose (comes (fixed f.Minus)) (good_negation used)
      (good_choose (comes (fixed f.LParen)) (good_bracket used)
      (good_choose (comes number) (good_literal used) (good_variable used)
      (literal_shows (comes number) true (λ line. refl) (λ line. refl) (λ n line. refl))
      (λ e ws rest is h. variable_shows (comes number) false (λ text line. refl) e ws rest is))
      (starts_then _ _ (comes (fixed f.LParen)) true (starts_fixed f.LParen (level room) (comes (fixed f.LParen)) true (λ line. refl)))
      (λ e ws rest is h. starts_or (rule.literal used) (rule.variable used) (comes (fixed f.LParen)) false (literal_shows (comes (fixed f.LParen)) false (λ line. refl) (λ line. refl) (λ n line. refl)) (variable_shows (comes (fixed f.LParen)) false (λ text line. refl)) e ws rest is))
      (starts_then _ _ (comes (fixed f.Minus)) true (starts_fixed f.Minus (level room) (comes (fixed f.Minus)) true (λ line. refl)))
      (λ e ws rest is h. starts_or (rule.bracket room inner used) (Or (rule.literal used) (rule.variable used)) (comes (fixed f.Minus)) false
      (starts_then _ _ (comes (fixed f.Minus)) false (starts_fixed f.LParen (level room) (comes (fixed f.Minus)) false (λ line. refl)))
      (starts_or (rule.literal used) (rule.variable used) (comes (fixed f.Minus)) false (literal_shows (comes (fixed f.Minus)) false (λ line. refl) (λ line. refl) (λ n line. refl)) (variable_shows (comes (fixed f.Minus)) false (λ text line. refl))) e ws rest is)
    where
      literal_shows : (test : Ahead → Bool) (b : Bool) → ((line : ℕ) → seen test lexis.One line ≡ b) → ((line : ℕ) → seen test lexis.Two line ≡ b) → ((n line : ℕ) → seen test (lexis.Number n) line ≡ b) → Starts (rule.literal used) test b
      literal_shows test b one two many = starts_then _ _ test b (starts_number (at_most 9223372036854775807 (Limit which.Literal)) test b one two many)

      variable_shows : (test : Ahead → Bool) (b : Bool) → ((text : List ℕ) (line : ℕ) → seen test (lexis.Name text) line ≡ b) → Starts (rule.variable used) test b
      variable_shows test b h = starts_then _ _ test b (starts_name free test b h)

-- ---- what a factor, and so an expression, begins with
pub record Shows (test : Ahead → Bool) (b : Bool) : Type 0 where
  pub minus : (line : ℕ) → seen test (lexis.Fixed f.Minus) line ≡ b
  pub bracket : (line : ℕ) → seen test (lexis.Fixed f.LParen) line ≡ b
  pub one_is : (line : ℕ) → seen test lexis.One line ≡ b
  pub two_is : (line : ℕ) → seen test lexis.Two line ≡ b
  pub number_is : (n line : ℕ) → seen test (lexis.Number n) line ≡ b
  pub name_is : (text : List ℕ) (line : ℕ) → seen test (lexis.Name text) line ≡ b

leaf_starts : (used : ℕ) (test : Ahead → Bool) (b : Bool) → Shows test b → Starts (Or (rule.literal used) (rule.variable used)) test b
leaf_starts used test b s =
    starts_or (rule.literal used) (rule.variable used) test b (starts_then _ _ test b (starts_number (at_most 9223372036854775807 (Limit which.Literal)) test b s.one_is s.two_is s.number_is))
    (starts_then _ _ test b (starts_name free test b s.name_is))

over_starts : (room : ℕ) (inner : ℕ → Rule Counted) (used : ℕ) (test : Ahead → Bool) (b : Bool) → Shows test b → Starts (rule.factor_over room inner used) test b
over_starts room inner used test b s =
    starts_or (rule.negation room inner used) (Or (rule.bracket room inner used) (Or (rule.literal used) (rule.variable used))) test b
    (starts_then _ _ test b (starts_fixed f.Minus (level room) test b s.minus))
    (starts_or (rule.bracket room inner used) (Or (rule.literal used) (rule.variable used)) test b (starts_then _ _ test b (starts_fixed f.LParen (level room) test b s.bracket)) (leaf_starts used test b s))

pub factor_starts : (room used : ℕ) (test : Ahead → Bool) (b : Bool) → Shows test b → Starts (rule.factor room used) test b
factor_starts zero used test b s = over_starts zero (λ x. Or (rule.literal x) (rule.variable x)) used test b s
factor_starts (suc room) used test b s = over_starts (suc room) (rule.factor room) used test b s

pub expression_starts : (room : ℕ) (test : Ahead → Bool) (b : Bool) → Shows test b → Starts (rule.expression room) test b
expression_starts room test b s = starts_then _ _ test b (starts_then _ _ test b (starts_then _ _ test b (factor_starts room 0 test b s)))

good_leaf : (used : ℕ) → Good (choose (comes number) (read.literal used) (read.variable used)) (Or (rule.literal used) (rule.variable used)) any
good_leaf used =
    good_choose (comes number) (good_literal used) (good_variable used)
    (starts_then _ _ (comes number) true (starts_number (at_most 9223372036854775807 (Limit which.Literal)) (comes number) true (λ line. refl) (λ line. refl) (λ n line. refl)))
    (λ e ws rest is h. starts_then _ _ (comes number) false (starts_name free (comes number) false (λ text line. refl)) e ws rest is)

pub good_factor : (room used : ℕ) → Good (read.factor room used) (rule.factor room used) any
good_factor zero used = good_factor_over zero good_leaf used
good_factor (suc room) used = good_factor_over (suc room) (good_factor room) used

pub good_expression : (room : ℕ) → Good (read.expression room) (rule.expression room) ends_sum
unfolding read.expression
good_expression room = good_map (λ (x : Counted). x.0) (good_sum (good_factor room) 0)
