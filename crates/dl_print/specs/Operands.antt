-- The parts of an operation: its symbol and its operands.
use Rattle.std.specs.Prelude.{List}
use Rattle.dl_ir.specs.declared.expressions.Op.{Op}
use Rattle.dl_ir.specs.declared.expressions.Op.TheVariants as op
use Rattle.dl_grammar.specs.declared.lexeme.Fixed.{Fixed}
use Rattle.dl_grammar.specs.declared.lexeme.Fixed.TheVariants as f
use Rattle.dl_print.specs.Canonical.{Piece, Shown, as_term, as_factor}

-- the symbol of an operator
abbrev pub operator_fixed : Op → Fixed
operator_fixed op.Add = f.Plus
operator_fixed op.Sub = f.Minus
operator_fixed op.Mul = f.Star
operator_fixed op.Div = f.Slash
operator_fixed op.Rem = f.Percent

-- the left operand: a sum or a term
abbrev pub left_of : Op → Shown → List Piece
left_of op.Add a = a.pieces
left_of op.Sub a = a.pieces
left_of op.Mul a = as_term a
left_of op.Div a = as_term a
left_of op.Rem a = as_term a

-- the right operand: a term or a factor
abbrev pub right_of : Op → Shown → List Piece
right_of op.Add a = as_term a
right_of op.Sub a = as_term a
right_of op.Mul a = as_factor a
right_of op.Div a = as_factor a
right_of op.Rem a = as_factor a
