-- The canonical text of a module: the tokens of its tree, with the white space between them.
use Rattle.std.specs.Prelude.{ℕ, ℤ, pos, negsuc, zero, suc, ◌+◌, ◌==◌, if◌then◌else◌, List, [], ◌∷◌, ◌++◌, map, codes, decimal}
use Rattle.std.specs.List.{flat_map}
use Rattle.std.specs.Str.{bytes_eq}
use Rattle.dl_ir.specs.declared.expressions.Op.{Op}
use Rattle.dl_ir.specs.declared.expressions.Op.TheVariants as op
use Rattle.dl_ir.specs.declared.expressions.Rel.{Rel}
use Rattle.dl_ir.specs.declared.expressions.Rel.TheVariants as rel
use Rattle.dl_grammar.specs.declared.lexeme.Fixed.{Fixed}
use Rattle.dl_grammar.specs.declared.lexeme.Fixed.TheVariants as f
use Rattle.dl_grammar.specs.declared.lexeme.Lexis.{Lexis}
use Rattle.dl_grammar.specs.declared.lexeme.Lexis.TheVariants as lexis
use Rattle.dl_grammar.specs.declared.tree.Tree.{Tree}
use Rattle.dl_grammar.specs.declared.tree.Word.{Word as WordOf}
use Rattle.dl_grammar.specs.declared.tree.TreeField.{TreeField}
use Rattle.dl_grammar.specs.declared.tree.TreeKind.{TreeKind}
use Rattle.dl_grammar.specs.declared.tree.TreeOp.{TreeOp}
use Rattle.dl_grammar.specs.declared.tree.TreeStmt.{TreeStmt, TreeStmt-F}
use Rattle.dl_grammar.specs.declared.tree.What.{What-F}
use Rattle.dl_grammar.specs.declared.tree.What.TheFolds.{fold-TreeStmt}
use Rattle.dl_grammar.specs.declared.tree.Rhs.{Rhs}
use Rattle.dl_grammar.specs.declared.tree.Rhs.TheVariants as rhs
use Rattle.dl_grammar.specs.declared.tree.Side.{Side}
use Rattle.dl_grammar.specs.declared.tree.Side.TheVariants as side
use Rattle.dl_grammar.specs.declared.tree.TreeCond.{TreeCond}
use Rattle.dl_grammar.specs.declared.tree.TreeExpr.{TreeExpr, TreeExpr-F}
use Rattle.dl_grammar.specs.declared.tree.TreeExpr.TheFolds.{fold-TreeExpr}

-- ---- pieces

-- a piece of a text: a reserved word or a symbol, a name, a number, a space, the indentation of a line by so many levels, or the end of a line
pub data Piece : Type 0 where
  Word : Fixed → Piece
  Name : List ℕ → Piece
  Number : ℕ → Piece
  Space : Piece
  Indent : ℕ → Piece
  Feed : Piece

-- the text of a reserved word or a symbol
abbrev pub fixed_text : Fixed → List ℕ
fixed_text f.Domlock = codes "domlock"
fixed_text f.Root = codes "root"
fixed_text f.Node = codes "node"
fixed_text f.Op = codes "op"
fixed_text f.Allocs = codes "allocs"
fixed_text f.Fuel = codes "fuel"
fixed_text f.Var = codes "var"
fixed_text f.Int = codes "int"
fixed_text f.New = codes "new"
fixed_text f.Null = codes "null"
fixed_text f.If = codes "if"
fixed_text f.Else = codes "else"
fixed_text f.While = codes "while"
fixed_text f.Return = codes "return"
fixed_text f.Emit = codes "emit"
fixed_text f.LBrace = codes "{"
fixed_text f.RBrace = codes "}"
fixed_text f.LParen = codes "("
fixed_text f.RParen = codes ")"
fixed_text f.Comma = codes ","
fixed_text f.Colon = codes ":"
fixed_text f.Semicolon = codes ";"
fixed_text f.Assign = codes "="
fixed_text f.Dot = codes "."
fixed_text f.Plus = codes "+"
fixed_text f.Minus = codes "-"
fixed_text f.Star = codes "*"
fixed_text f.Slash = codes "/"
fixed_text f.Percent = codes "%"
fixed_text f.Less = codes "<"
fixed_text f.LessEq = codes "<="
fixed_text f.Equal = codes "=="
fixed_text f.NotEqual = codes "!="

-- two spaces for each level
abbrev pub indentation : ℕ → List ℕ
indentation zero = []
indentation (suc level) = codes "  " ++ indentation level

-- the bytes of a piece
abbrev pub piece_text : Piece → List ℕ
piece_text (Word g) = fixed_text g
piece_text (Name text) = text
piece_text (Number n) = decimal n
piece_text Space = codes " "
piece_text (Indent level) = indentation level
piece_text Feed = codes "\n"

-- the bytes of some pieces
abbrev pub text_of : List Piece → List ℕ
text_of = flat_map piece_text

-- what a number says to the grammar
abbrev pub number_lexis : ℕ → Lexis
number_lexis n = if n == 1 then lexis.One else (if n == 2 then lexis.Two else lexis.Number n)

-- what a piece says to the grammar; white space says nothing
abbrev pub piece_lexes : Piece → List Lexis
piece_lexes (Word g) = lexis.Fixed g ∷ []
piece_lexes (Name text) = lexis.Name text ∷ []
piece_lexes (Number n) = number_lexis n ∷ []
piece_lexes Space = []
piece_lexes (Indent level) = []
piece_lexes Feed = []

-- what some pieces say to the grammar
abbrev pub lexes_of : List Piece → List Lexis
lexes_of = flat_map piece_lexes

-- ---- expressions

-- where an expression stands without brackets: wherever a factor may stand, where a term may stand, or only where a sum may stand
pub data Rank : Type 0 where
  Factor : Rank
  Term : Rank
  Sum : Rank

-- the pieces of an expression, without brackets round the whole, and its rank
pub record Shown : Type 0 where
  pub rank : Rank
  pub pieces : List Piece

-- in brackets
abbrev pub bracketed : List Piece → List Piece
bracketed pieces = Word f.LParen ∷ (pieces ++ Word f.RParen ∷ [])

-- pieces of a rank where a factor has to stand: in brackets, unless they are a factor
abbrev pub factor_of : Rank → List Piece → List Piece
factor_of Factor pieces = pieces
factor_of Term pieces = bracketed pieces
factor_of Sum pieces = bracketed pieces

-- pieces of a rank where a term has to stand: in brackets, if they are a sum
abbrev pub term_of : Rank → List Piece → List Piece
term_of Factor pieces = pieces
term_of Term pieces = pieces
term_of Sum pieces = bracketed pieces

-- an operand where a factor has to stand
abbrev pub as_factor : Shown → List Piece
as_factor a = factor_of a.rank a.pieces

-- an operand where a term has to stand
abbrev pub as_term : Shown → List Piece
as_term a = term_of a.rank a.pieces

-- a number; a negative one, which no text spells, as a minus before a number
abbrev pub number_pieces : ℤ → List Piece
number_pieces (pos n) = Number n ∷ []
number_pieces (negsuc n) = Word f.Minus ∷ Number (suc n) ∷ []

-- a symbol between two operands, with one space on each side
abbrev pub between : List Piece → Fixed → List Piece → List Piece
between left g right = left ++ (Space ∷ Word g ∷ Space ∷ right)

-- an operator and its operands: sums and terms group to the left
abbrev pub operation_shown : Op → Shown → Shown → Shown
operation_shown op.Add a b = record { rank = Sum; pieces = between a.pieces f.Plus (as_term b) }
operation_shown op.Sub a b = record { rank = Sum; pieces = between a.pieces f.Minus (as_term b) }
operation_shown op.Mul a b = record { rank = Term; pieces = between (as_term a) f.Star (as_factor b) }
operation_shown op.Div a b = record { rank = Term; pieces = between (as_term a) f.Slash (as_factor b) }
operation_shown op.Rem a b = record { rank = Term; pieces = between (as_term a) f.Percent (as_factor b) }

-- one level of an expression
abbrev pub expression_step : TreeExpr-F Shown → Shown
expression_step (TreeExpr-F.Num n) = record { rank = Factor; pieces = number_pieces n }
expression_step (TreeExpr-F.Name word) = record { rank = Factor; pieces = Name word.text ∷ [] }
expression_step (TreeExpr-F.Neg a) = record { rank = Factor; pieces = Word f.Minus ∷ as_factor a }
expression_step (TreeExpr-F.Bin o a b) = operation_shown o a b

-- an expression
abbrev pub shown : TreeExpr → Shown
shown = fold-TreeExpr Shown expression_step

-- a whole expression
abbrev pub sum_pieces : TreeExpr → List Piece
sum_pieces e = (shown e).pieces

-- what is stored, or a side of a condition
abbrev pub side_pieces : Side → List Piece
side_pieces side.Null = Word f.Null ∷ []
side_pieces (side.Sum e) = sum_pieces e

-- the symbol of a relation
abbrev pub relation_fixed : Rel → Fixed
relation_fixed rel.Less = f.Less
relation_fixed rel.LessEq = f.LessEq
relation_fixed rel.Equal = f.Equal
relation_fixed rel.NotEqual = f.NotEqual

-- a condition
abbrev pub condition_pieces : TreeCond → List Piece
condition_pieces c = between (side_pieces c.left) (relation_fixed c.rel) (side_pieces c.right)

-- ---- statements

-- the right side of an assignment
abbrev pub rhs_pieces : Rhs → List Piece
rhs_pieces rhs.Null = Word f.Null ∷ []
rhs_pieces (rhs.New kind) = Word f.New ∷ Space ∷ Name kind.text ∷ []
rhs_pieces (rhs.Field p g) = Name p.text ∷ Word f.Dot ∷ Name g.text ∷ []
rhs_pieces (rhs.Sum e) = sum_pieces e

-- the pieces of lines, when they are to stand at a level
abbrev pub Lines : Type 0
Lines = ℕ → List Piece

-- a line of its own, with a semicolon behind it
abbrev pub simple_line : List Piece → Lines
simple_line pieces level = Indent level ∷ (pieces ++ Word f.Semicolon ∷ Feed ∷ [])

-- the lines of some statements, one behind the other
abbrev pub lines_at : List Lines → Lines
lines_at statements level = flat_map (λ (lines : Lines). lines level) statements

-- a block of statements: its lines stand one level further in
abbrev pub block_pieces : List Lines → Lines
block_pieces statements level = Word f.LBrace ∷ Feed ∷ (lines_at statements (level + 1) ++ Indent level ∷ Word f.RBrace ∷ [])

-- a condition in brackets, between a reserved word and a block
abbrev pub test_pieces : TreeCond → List Piece
test_pieces c = Space ∷ Word f.LParen ∷ (condition_pieces c ++ Word f.RParen ∷ Space ∷ [])

-- an else block, where it is not empty
abbrev pub otherwise_pieces : List Lines → Lines
otherwise_pieces [] level = []
otherwise_pieces (first ∷ more) level = Space ∷ Word f.Else ∷ Space ∷ block_pieces (first ∷ more) level

-- an assignment to a local
abbrev pub assign_line : WordOf → Rhs → Lines
assign_line x right = simple_line (Name x.text ∷ Space ∷ Word f.Assign ∷ Space ∷ rhs_pieces right)

-- an assignment to a field
abbrev pub store_line : WordOf → WordOf → Side → Lines
store_line p g right = simple_line (Name p.text ∷ Word f.Dot ∷ Name g.text ∷ Space ∷ Word f.Assign ∷ Space ∷ side_pieces right)

-- a return
abbrev pub return_line : TreeExpr → Lines
return_line e = simple_line (Word f.Return ∷ Space ∷ sum_pieces e)

-- a number that is emitted
abbrev pub emit_line : TreeExpr → Lines
emit_line e = simple_line (Word f.Emit ∷ Space ∷ sum_pieces e)

-- a branch
abbrev pub if_lines : TreeCond → List Lines → List Lines → Lines
if_lines c yes_block no_block level = Indent level ∷ Word f.If ∷ (test_pieces c ++ (block_pieces yes_block level ++ (otherwise_pieces no_block level ++ Feed ∷ [])))

-- a loop
abbrev pub while_lines : TreeCond → List Lines → Lines
while_lines c body level = Indent level ∷ Word f.While ∷ (test_pieces c ++ (block_pieces body level ++ Feed ∷ []))

-- one level of a statement
abbrev pub statement_step : What-F Lines Lines → Lines
statement_step (What-F.Assign x right) = assign_line x right
statement_step (What-F.Store p g right) = store_line p g right
statement_step (What-F.If c yes_block no_block) = if_lines c yes_block no_block
statement_step (What-F.While c body) = while_lines c body
statement_step (What-F.Return e) = return_line e
statement_step (What-F.Emit e) = emit_line e

-- a statement
abbrev pub statement_lines : TreeStmt → Lines
statement_lines = fold-TreeStmt Lines Lines statement_step (λ (s : TreeStmt-F Lines Lines). s.what)

-- ---- declarations

-- a type: the word int, or the name of a kind
abbrev pub type_piece : List ℕ → Piece
type_piece text = if bytes_eq text (codes "int") then Word f.Int else Name text

-- a field, a parameter or a var, with its type
abbrev pub field_pieces : TreeField → List Piece
field_pieces field = Name field.name.text ∷ Word f.Colon ∷ Space ∷ type_piece field.ty.text ∷ []

-- a further field, behind a comma
abbrev pub next_field : TreeField → List Piece
next_field field = Word f.Comma ∷ Space ∷ field_pieces field

-- some fields, with commas between them
abbrev pub fields_pieces : List TreeField → List Piece
fields_pieces [] = []
fields_pieces (first ∷ more) = field_pieces first ++ flat_map next_field more

-- the fields of a kind
abbrev pub kind_fields : List TreeField → List Piece
kind_fields [] = Word f.LBrace ∷ Space ∷ Word f.RBrace ∷ []
kind_fields (first ∷ more) = Word f.LBrace ∷ Space ∷ (fields_pieces (first ∷ more) ++ Space ∷ Word f.RBrace ∷ [])

-- a root kind before its fields, with the number of its roots
abbrev pub root_head : TreeKind → List Piece
root_head kind = Word f.Root ∷ Space ∷ Name kind.name.text ∷ Space ∷ Number kind.count ∷ Space ∷ []

-- a node kind before its fields
abbrev pub node_head : TreeKind → List Piece
node_head kind = Word f.Node ∷ Space ∷ Name kind.name.text ∷ Space ∷ []

-- a kind before its fields
abbrev pub kind_head : TreeKind → List Piece
kind_head kind = if kind.is_root then root_head kind else node_head kind

-- the line of a kind
abbrev pub kind_line : TreeKind → List Piece
kind_line kind = kind_head kind ++ (kind_fields kind.fields ++ Feed ∷ [])

-- the name of an operation and its parameters
abbrev pub signature_pieces : TreeOp → List Piece
signature_pieces o = Word f.Op ∷ Space ∷ Name o.name.text ∷ Word f.LParen ∷ (fields_pieces o.params ++ Word f.RParen ∷ [])

-- what an operation may make and how many turns it may take
abbrev pub quota_pieces : TreeOp → List Piece
quota_pieces o = Space ∷ Word f.Allocs ∷ Space ∷ Number o.allocs ∷ Space ∷ Word f.Fuel ∷ Space ∷ Number o.fuel ∷ []

-- the line of the vars, where there are any
abbrev pub vars_line : List TreeField → List Piece
vars_line [] = []
vars_line (first ∷ more) = simple_line (Word f.Var ∷ Space ∷ fields_pieces (first ∷ more)) 1

-- the lines of an operation: its statements stand one level in
abbrev pub op_lines : TreeOp → List Piece
op_lines o =
    signature_pieces o ++ (quota_pieces o ++ (Space ∷ Word f.LBrace ∷ Feed
    ∷ (vars_line o.vars ++ (lines_at (map statement_lines o.body) 1 ++ Word f.RBrace ∷ Feed ∷ []))))

-- ---- modules

-- the pieces of a module: its first line with the version, its kinds and its operations
abbrev pub pieces_of : Tree → List Piece
pieces_of tree = Word f.Domlock ∷ Space ∷ Number tree.version ∷ Feed ∷ (flat_map kind_line tree.kinds ++ flat_map op_lines tree.ops)

-- the canonical text of a module
abbrev pub canonical : Tree → List ℕ
canonical tree = text_of (pieces_of tree)
