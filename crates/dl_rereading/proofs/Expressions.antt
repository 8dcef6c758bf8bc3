-- An expression that is spelled is spelled by its pieces, where as many levels are left or more.
use Rattle.std.proofs.Common.{◌≡◌, ℕ, zero, suc, ◌+◌, ◌≤◌, List, [], ◌∷◌, Option, Some, None, refl, sym, ap, ◌∙◌, subst, arith}
use Rattle.std.specs.Prelude.{pos}
use Rattle.std.proofs.lemmas.Bool.{ne_eqb}
use Rattle.dl_ir.specs.declared.expressions.Op.{Op}
use Rattle.dl_ir.specs.declared.expressions.Op.TheVariants as op
use Rattle.dl_grammar.specs.declared.lexeme.Fixed.{Fixed}
use Rattle.dl_grammar.specs.declared.lexeme.Fixed.TheVariants as f
use Rattle.dl_grammar.specs.declared.lexeme.Lexis.{Lexis}
use Rattle.dl_grammar.specs.declared.lexeme.Lexis.TheVariants as lexis
use Rattle.dl_grammar.specs.declared.lexeme.Lexeme.{Lexeme}
use Rattle.dl_grammar.specs.declared.fault.Bound.{Bound}
use Rattle.dl_grammar.specs.declared.fault.Bound.TheVariants.{Levels, Limit}
use Rattle.dl_grammar.specs.declared.fault.Which.TheVariants as which
use Rattle.dl_grammar.specs.declared.tree.Word.{Word as Words}
use Rattle.dl_grammar.specs.declared.tree.TreeExpr.{TreeExpr}
use Rattle.dl_grammar.specs.declared.tree.TreeExpr.TheVariants as e
use Rattle.dl_grammar.specs.Grammar.{Rule, One, Or}
use Rattle.dl_grammar.specs.Rules as rule
use Rattle.dl_grammar.specs.Rules.{fixed, level, passes, free, one_more, at_most, adding, adding_in, scaling, scaling_in, Counted}
use Rattle.dl_grammar.proofs.Always.{Always, always_one, always_nothing, always_then, always_behind, always_or, always_many}
use Rattle.dl_print.specs.Canonical.{Piece, Word, Name, Number, Space, Rank, Factor, Term, Sum, Shown, bracketed, factor_of, term_of, as_factor, as_term, between, shown, sum_pieces}
use Rattle.dl_rereading.specs.Lines.{unlined_expr}
use Rattle.dl_rereading.proofs.Prints.{Prints, prints_then, prints_last, prints_lead, prints_nothing, prints_one, prints_fixed, prints_word, prints_free_name, prints_number, prints_once, prints_turn, spaced, in_first, in_second}
use Rattle.dl_rereading.proofs.Equations.{shown_num, shown_name, shown_neg, shown_bin, same_name, same_neg, same_bin}

-- the same expression but for its lines, with as many operators so far
abbrev pub SameCounted : TreeExpr → ℕ → Counted → Type 0
SameCounted x n y = (unlined_expr y.0 ≡ unlined_expr x) × (y.1 ≡ n)

-- ---- pieces that are a factor, a term or a sum, where so many levels are left or more

abbrev pub FactorText : ℕ → ℕ → List Piece → (Counted → Type 0) → Type 0
FactorText room used pieces P = (r : ℕ) → room ≤ r → Prints (rule.factor r used) pieces P

abbrev pub TermText : ℕ → ℕ → List Piece → (Counted → Type 0) → Type 0
TermText room used pieces P = (r : ℕ) → room ≤ r → Prints (rule.term (rule.factor r) used) pieces P

abbrev pub SumText : ℕ → ℕ → List Piece → (Counted → Type 0) → Type 0
SumText room used pieces P = (r : ℕ) → room ≤ r → Prints (rule.sum (rule.factor r) used) pieces P

-- what a rank says of them
abbrev pub Text : Rank → ℕ → ℕ → List Piece → (Counted → Type 0) → Type 0
Text Factor room used pieces P = FactorText room used pieces P
Text Term room used pieces P = TermText room used pieces P
Text Sum room used pieces P = SumText room used pieces P

factor_term : (room used : ℕ) (pieces : List Piece) (P : Counted → Type 0) → FactorText room used pieces P → TermText room used pieces P
factor_term room used pieces P h = λ r more. prints_once (h r more)

term_sum : (room used : ℕ) (pieces : List Piece) (P : Counted → Type 0) → TermText room used pieces P → SumText room used pieces P
term_sum room used pieces P h = λ r more. prints_once (h r more)

pub text_sum : (rank : Rank) (room used : ℕ) (pieces : List Piece) (P : Counted → Type 0) → Text rank room used pieces P → SumText room used pieces P
text_sum Factor room used pieces P h = term_sum room used pieces P (factor_term room used pieces P h)
text_sum Term room used pieces P h = term_sum room used pieces P h
text_sum Sum room used pieces P h = h

-- some level is left
level_left : (r line : ℕ) → level (suc r) line ≡ None
level_left r line = ap (λ b. passes b Levels) (ne_eqb (suc r) 0 (λ h. omega (arith, h)))

bracket_text : (room used : ℕ) (pieces : List Piece) (P : Counted → Type 0) → SumText room used pieces P → FactorText (suc room) used (bracketed pieces) P
bracket_text room used pieces P h zero more = absurd (omega (arith, more))
bracket_text room used pieces P h (suc r) more =
    in_second (in_first (prints_lead (prints_fixed f.LParen (level (suc r)) refl (level_left r)) (λ l t.
    prints_then (h r (omega (arith, more))) (λ x so. prints_word f.RParen refl (λ m. prints_nothing so)))))

deeper : (rank : Rank) (room used : ℕ) (pieces : List Piece) (P : Counted → Type 0) → Text rank room used pieces P → Text rank (suc room) used pieces P
deeper Factor room used pieces P h = λ r more. h r (omega (arith, more))
deeper Term room used pieces P h = λ r more. h r (omega (arith, more))
deeper Sum room used pieces P h = λ r more. h r (omega (arith, more))

in_term : (rank : Rank) (room used : ℕ) (pieces : List Piece) (P : Counted → Type 0) → Text rank room used pieces P → TermText (suc room) used (term_of rank pieces) P
in_term Factor room used pieces P h = factor_term (suc room) used pieces P (deeper Factor room used pieces P h)
in_term Term room used pieces P h = deeper Term room used pieces P h
in_term Sum room used pieces P h = factor_term (suc room) used (bracketed pieces) P (bracket_text room used pieces P h)

in_factor : (rank : Rank) (room used : ℕ) (pieces : List Piece) (P : Counted → Type 0) → Text rank room used pieces P → FactorText (suc room) used (factor_of rank pieces) P
in_factor Factor room used pieces P h = deeper Factor room used pieces P h
in_factor Term room used pieces P h = bracket_text room used pieces P (term_sum room used pieces P h)
in_factor Sum room used pieces P h = bracket_text room used pieces P h

-- ---- what holds of each sum, term and factor that is spelled

pub record AtSum (room used : ℕ) (x : Counted) : Type 0 where
  pub own : Text (shown x.0).rank room used (shown x.0).pieces (SameCounted x.0 x.1)

record AtTerm (room used : ℕ) (x : Counted) : Type 0 where
  own : Text (shown x.0).rank room used (shown x.0).pieces (SameCounted x.0 x.1)
  term : TermText room used (as_term (shown x.0)) (SameCounted x.0 x.1)

record AtFactor (room used : ℕ) (x : Counted) : Type 0 where
  own : Text (shown x.0).rank room used (shown x.0).pieces (SameCounted x.0 x.1)
  term : TermText room used (as_term (shown x.0)) (SameCounted x.0 x.1)
  factor : FactorText room used (as_factor (shown x.0)) (SameCounted x.0 x.1)

-- pieces that are a sum
sum_at : (room used : ℕ) (x : TreeExpr) (n : ℕ) (pieces : List Piece) → shown x ≡ record { rank = Sum; pieces = pieces } → SumText room used pieces (SameCounted x n) → AtSum room used (x, n)
sum_at room used x n pieces is h = record { own = subst (λ (s : Shown). Text s.rank room used s.pieces (SameCounted x n)) (sym is) h }

term_at : (room used : ℕ) (x : TreeExpr) (n : ℕ) (pieces : List Piece) → shown x ≡ record { rank = Term; pieces = pieces } → TermText room used pieces (SameCounted x n) → AtTerm room used (x, n)
term_at room used x n pieces is h = record {
  own = subst (λ (s : Shown). Text s.rank room used s.pieces (SameCounted x n)) (sym is) h;
  term = subst (λ (s : Shown). TermText room used (as_term s) (SameCounted x n)) (sym is) h;
}

factor_at : (room used : ℕ) (x : TreeExpr) (n : ℕ) (pieces : List Piece) → shown x ≡ record { rank = Factor; pieces = pieces } → FactorText room used pieces (SameCounted x n) → AtFactor room used (x, n)
factor_at room used x n pieces is h = record {
  own = subst (λ (s : Shown). Text s.rank room used s.pieces (SameCounted x n)) (sym is) h;
  term = subst (λ (s : Shown). TermText room used (as_term s) (SameCounted x n)) (sym is) (factor_term room used pieces (SameCounted x n) h);
  factor = subst (λ (s : Shown). FactorText room used (as_factor s) (SameCounted x n)) (sym is) h;
}

-- ---- operators

data IsScaling : Op → Fixed → Type 0 where
  times : IsScaling op.Mul f.Star
  divided : IsScaling op.Div f.Slash
  remainder : IsScaling op.Rem f.Percent

data IsAdding : Op → Fixed → Type 0 where
  plus : IsAdding op.Add f.Plus
  minus : IsAdding op.Sub f.Minus

-- the symbol of an operator, behind so many others
record Operator (Is : Op → Fixed → Type 0) (used : ℕ) (o : Op) : Type 0 where
  symbol : Fixed
  is : Is o symbol
  free : one_more 256 used (Limit which.Operators) o ≡ None

record Sign (Is : Op → Fixed → Type 0) (o : Op) : Type 0 where
  symbol : Fixed
  is : Is o symbol

scaling_sign : (x : Lexis) (o : Op) → scaling_in x ≡ Some o → Sign IsScaling o
scaling_sign (lexis.Fixed f.Star) o h = let same : op.Mul ≡ o = cc in subst (Sign IsScaling) same (record { symbol = f.Star; is = times })
scaling_sign (lexis.Fixed f.Slash) o h = let same : op.Div ≡ o = cc in subst (Sign IsScaling) same (record { symbol = f.Slash; is = divided })
scaling_sign (lexis.Fixed f.Percent) o h = let same : op.Rem ≡ o = cc in subst (Sign IsScaling) same (record { symbol = f.Percent; is = remainder })
scaling_sign (lexis.Fixed g) o h = absurd (cc)
scaling_sign lexis.One o h = absurd (cc)
scaling_sign lexis.Two o h = absurd (cc)
scaling_sign (lexis.Number n) o h = absurd (cc)
scaling_sign (lexis.Name text) o h = absurd (cc)

adding_sign : (x : Lexis) (o : Op) → adding_in x ≡ Some o → Sign IsAdding o
adding_sign (lexis.Fixed f.Plus) o h = let same : op.Add ≡ o = cc in subst (Sign IsAdding) same (record { symbol = f.Plus; is = plus })
adding_sign (lexis.Fixed f.Minus) o h = let same : op.Sub ≡ o = cc in subst (Sign IsAdding) same (record { symbol = f.Minus; is = minus })
adding_sign (lexis.Fixed g) o h = absurd (cc)
adding_sign lexis.One o h = absurd (cc)
adding_sign lexis.Two o h = absurd (cc)
adding_sign (lexis.Number n) o h = absurd (cc)
adding_sign (lexis.Name text) o h = absurd (cc)

always_scaling : (used : ℕ) → Always (Operator IsScaling used) (One scaling (one_more 256 used (Limit which.Operators)))
always_scaling used = always_one _ _ _ (λ t o is free. let sign = scaling_sign t.lexis o is in record { symbol = sign.symbol; is = sign.is; free = free })

always_adding : (used : ℕ) → Always (Operator IsAdding used) (One adding (one_more 256 used (Limit which.Operators)))
always_adding used = always_one _ _ _ (λ t o is free. let sign = adding_sign t.lexis o is in record { symbol = sign.symbol; is = sign.is; free = free })

prints_scaling : (o : Op) (g : Fixed) → IsScaling o g → (limit : Op → Option Bound) → limit o ≡ None → Prints (One scaling limit) (Word g ∷ []) (λ p. p ≡ o)
prints_scaling _ _ (times) limit h = prints_one (Word f.Star) (lexis.Fixed f.Star) refl (λ line. record { is = op.Mul; valued = refl; free = h; so = refl })
prints_scaling _ _ (divided) limit h = prints_one (Word f.Slash) (lexis.Fixed f.Slash) refl (λ line. record { is = op.Div; valued = refl; free = h; so = refl })
prints_scaling _ _ (remainder) limit h = prints_one (Word f.Percent) (lexis.Fixed f.Percent) refl (λ line. record { is = op.Rem; valued = refl; free = h; so = refl })

prints_adding : (o : Op) (g : Fixed) → IsAdding o g → (limit : Op → Option Bound) → limit o ≡ None → Prints (One adding limit) (Word g ∷ []) (λ p. p ≡ o)
prints_adding _ _ (plus) limit h = prints_one (Word f.Plus) (lexis.Fixed f.Plus) refl (λ line. record { is = op.Add; valued = refl; free = h; so = refl })
prints_adding _ _ (minus) limit h = prints_one (Word f.Minus) (lexis.Fixed f.Minus) refl (λ line. record { is = op.Sub; valued = refl; free = h; so = refl })

shown_scaled : (o : Op) (g : Fixed) → IsScaling o g → (a b : TreeExpr) → shown (e.Bin o a b) ≡ record { rank = Term; pieces = between (as_term (shown a)) g (as_factor (shown b)) }
shown_scaled _ _ (times) a b = shown_bin op.Mul a b
shown_scaled _ _ (divided) a b = shown_bin op.Div a b
shown_scaled _ _ (remainder) a b = shown_bin op.Rem a b

shown_added : (o : Op) (g : Fixed) → IsAdding o g → (a b : TreeExpr) → shown (e.Bin o a b) ≡ record { rank = Sum; pieces = between (shown a).pieces g (as_term (shown b)) }
shown_added _ _ (plus) a b = shown_bin op.Add a b
shown_added _ _ (minus) a b = shown_bin op.Sub a b

-- an operator and what stands on its right, behind what stands on its left
prints_operation : (operator : Lexeme → Option Op) (right : ℕ → Rule Counted) (g : Fixed) (o : Op) (a b : TreeExpr) (m n : ℕ) (pieces : List Piece)
    → ((limit : Op → Option Bound) → limit o ≡ None → Prints (One operator limit) (Word g ∷ []) (λ p. p ≡ o))
    → one_more 256 m (Limit which.Operators) o ≡ None → Prints (right (m + 1)) pieces (SameCounted b n)
    → (y : Counted) → SameCounted a m y → Prints (rule.operation operator right y) (Space ∷ Word g ∷ Space ∷ pieces) (SameCounted (e.Bin o a b) n)
prints_operation operator right g o a b m n pieces signs free h y same =
    spaced (prints_lead (signs (one_more 256 y.1 (Limit which.Operators)) (ap (λ k. one_more 256 k (Limit which.Operators) o) same.1 ∙ free)) (λ p is.
    spaced (prints_last (subst (λ k. Prints (right (k + 1)) pieces (SameCounted b n)) (sym same.1) h) (λ z so.
    prints_nothing (same_bin p o y.0 z.0 a b is same.0 so.0, so.1)))))

-- ---- terms and sums

scaled : (room used : ℕ) (a : Counted) → AtTerm room used a → (o : Op) → Operator IsScaling a.1 o → (x : Counted) → AtFactor room (a.1 + 1) x → AtTerm room used (e.Bin o a.0 x.0, x.1)
scaled room used a left o sign x right = term_at room used (e.Bin o a.0 x.0) x.1 _ (shown_scaled o sign.symbol sign.is a.0 x.0) (λ r more.
    prints_turn (left.term r more) (λ y same. prints_operation scaling (rule.factor r) sign.symbol o a.0 x.0 a.1 x.1 (as_factor (shown x.0)) (prints_scaling o sign.symbol sign.is) sign.free (right.factor r more) y same))

added : (room used : ℕ) (a : Counted) → AtSum room used a → (o : Op) → Operator IsAdding a.1 o → (x : Counted) → AtTerm room (a.1 + 1) x → AtSum room used (e.Bin o a.0 x.0, x.1)
added room used a left o sign x right = sum_at room used (e.Bin o a.0 x.0) x.1 _ (shown_added o sign.symbol sign.is a.0 x.0) (λ r more.
    prints_turn (text_sum (shown a.0).rank room used (shown a.0).pieces (SameCounted a.0 a.1) left.own r more)
    (λ y same. prints_operation adding (rule.term (rule.factor r)) sign.symbol o a.0 x.0 a.1 x.1 (as_term (shown x.0)) (prints_adding o sign.symbol sign.is) sign.free (right.term r more) y same))

module _ (room : ℕ) (factors : (used : ℕ) → Always (AtFactor room used) (rule.factor room used)) where
  always_term : (used : ℕ) → Always (AtTerm room used) (rule.term (rule.factor room) used)
  always_term used = always_then (factors used) (λ x at. always_many
      (λ a left. always_then (always_scaling a.1) (λ o sign. always_then (factors (a.1 + 1)) (λ y right. always_nothing _ _ (scaled room used a left o sign y right))))
      x (record { own = at.own; term = at.term }))

  always_sum : (used : ℕ) → Always (AtSum room used) (rule.sum (rule.factor room) used)
  always_sum used = always_then (always_term used) (λ x at. always_many
      (λ a left. always_then (always_adding a.1) (λ o sign. always_then (always_term (a.1 + 1)) (λ y right. always_nothing _ _ (added room used a left o sign y right))))
      x (record { own = at.own }))

-- ---- factors

negated : (room used : ℕ) (x : Counted) → AtFactor room used x → AtFactor (suc room) used (e.Neg x.0, x.1)
negated room used x at = factor_at (suc room) used (e.Neg x.0) x.1 _ (shown_neg x.0) go
  where
    go : FactorText (suc room) used (Word f.Minus ∷ as_factor (shown x.0)) (SameCounted (e.Neg x.0) x.1)
    go zero more = absurd (omega (arith, more))
    go (suc r) more = in_first (prints_lead (prints_fixed f.Minus (level (suc r)) refl (level_left r)) (λ l t.
        prints_last (at.factor r (omega (arith, more))) (λ y same. prints_nothing (same_neg y.0 x.0 same.0, same.1))))

in_brackets : (room used : ℕ) (x : Counted) → AtSum room used x → AtFactor (suc room) used x
in_brackets room used x at = record {
  own = deeper (shown x.0).rank room used (shown x.0).pieces (SameCounted x.0 x.1) at.own;
  term = in_term (shown x.0).rank room used (shown x.0).pieces (SameCounted x.0 x.1) at.own;
  factor = in_factor (shown x.0).rank room used (shown x.0).pieces (SameCounted x.0 x.1) at.own;
}

leaf : (r used : ℕ) (pieces : List Piece) (P : Counted → Type 0) → Prints (Or (rule.literal used) (rule.variable used)) pieces P → Prints (rule.factor r used) pieces P
leaf zero used pieces P h = in_second (in_second h)
leaf (suc r) used pieces P h = in_second (in_second h)

literal_at : (room used n : ℕ) → at_most 9223372036854775807 (Limit which.Literal) n ≡ None → AtFactor room used (e.Num (pos n), used)
literal_at room used n free = factor_at room used (e.Num (pos n)) used _ (shown_num (pos n)) (λ r more. leaf r used (Number n ∷ []) (SameCounted (e.Num (pos n)) used)
    (in_first (prints_last (prints_number (at_most 9223372036854775807 (Limit which.Literal)) n free) (λ m is. prints_nothing (ap (λ k. unlined_expr (e.Num (pos k))) is, refl)))))

variable_at : (room used : ℕ) (w : Words) → AtFactor room used (e.Name w, used)
variable_at room used w = factor_at room used (e.Name w) used _ (shown_name w) (λ r more. leaf r used (Name w.text ∷ []) (SameCounted (e.Name w) used)
    (in_second (prints_free_name w.text (λ v is. prints_nothing (same_name v w is, refl)))))

always_leaf : (room used : ℕ) → Always (AtFactor room used) (Or (rule.literal used) (rule.variable used))
always_leaf room used = always_or
    (always_then (always_one (λ n. at_most 9223372036854775807 (Limit which.Literal) n ≡ None) _ _ (λ t n is free. free)) (λ n free. always_nothing _ _ (literal_at room used n free)))
    (always_behind (λ w. always_nothing _ _ (variable_at room used w)))

-- where no level is left, none is opened
always_none : (g : Fixed) → Always (λ l. ⊥) (One (fixed g) (level zero))
always_none g = always_one (λ l. ⊥) _ _ (λ t l is free. absurd (cc))

always_factor : (room used : ℕ) → Always (AtFactor room used) (rule.factor room used)
always_factor zero used = always_or (always_then (always_none f.Minus) (λ l h. absurd h)) (always_or (always_then (always_none f.LParen) (λ l h. absurd h)) (always_leaf zero used))
always_factor (suc room) used =
    always_or (always_behind (λ l. always_then (always_factor room used) (λ x at. always_nothing _ _ (negated room used x at))))
    (always_or (always_behind (λ l. always_then (always_sum room (always_factor room) used) (λ x at. always_behind (λ m. always_nothing _ _ (in_brackets room used x at)))))
    (always_leaf (suc room) used))

-- ---- whole expressions

abbrev pub SameExpr : TreeExpr → TreeExpr → Type 0
SameExpr x y = unlined_expr y ≡ unlined_expr x

abbrev pub ExpressionAt : ℕ → TreeExpr → Type 0
ExpressionAt room x = Prints (rule.expression room) (sum_pieces x) (SameExpr x)

pub always_expression : (room : ℕ) → Always (ExpressionAt room) (rule.expression room)
always_expression room = always_then (always_sum room (always_factor room) 0) (λ x at. always_nothing _ _
    (prints_last (text_sum (shown x.0).rank room 0 (shown x.0).pieces (SameCounted x.0 x.1) at.own room (omega arith)) (λ y same. prints_nothing same.0)))
