-- The grammar of module texts, with its limits.
use Rattle.std.specs.Prelude.{ℕ, zero, suc, ◌+◌, Bool, true, false, ◌==◌, nat_le, nat_lt, if◌then◌else◌, List, [], ◌∷◌, ◌++◌, length, Option, Some, None, pos, codes}
use denote.Enum.Bare.{sameb}
use Rattle.dl_ir.specs.declared.expressions.Op.{Op}
use Rattle.dl_ir.specs.declared.expressions.Op.TheVariants as op
use Rattle.dl_ir.specs.declared.expressions.Rel.{Rel}
use Rattle.dl_ir.specs.declared.expressions.Rel.TheVariants as rel
use Rattle.dl_grammar.specs.contracts.lexeme.Fixed.{the_type}
use Rattle.dl_grammar.specs.declared.lexeme.Fixed.{Fixed}
use Rattle.dl_grammar.specs.declared.lexeme.Fixed.TheVariants as f
use Rattle.dl_grammar.specs.declared.lexeme.Lexis.{Lexis}
use Rattle.dl_grammar.specs.declared.lexeme.Lexis.TheVariants as lexis
use Rattle.dl_grammar.specs.declared.lexeme.Lexeme.{Lexeme}
use Rattle.dl_grammar.specs.declared.fault.Bound.{Bound}
use Rattle.dl_grammar.specs.declared.fault.Bound.TheVariants.{Levels, Limit}
use Rattle.dl_grammar.specs.declared.fault.Which.TheVariants as which
use Rattle.dl_grammar.specs.declared.tree.Word.{Word}
use Rattle.dl_grammar.specs.declared.tree.TreeField.{TreeField}
use Rattle.dl_grammar.specs.declared.tree.TreeKind.{TreeKind}
use Rattle.dl_grammar.specs.declared.tree.TreeOp.{TreeOp}
use Rattle.dl_grammar.specs.declared.tree.TreeStmt.{TreeStmt, roll-TreeStmt}
use Rattle.dl_grammar.specs.declared.tree.What.TheVariants as what
use Rattle.dl_grammar.specs.declared.tree.Rhs.{Rhs}
use Rattle.dl_grammar.specs.declared.tree.Rhs.TheVariants as rhs
use Rattle.dl_grammar.specs.declared.tree.Side.{Side}
use Rattle.dl_grammar.specs.declared.tree.Side.TheVariants as side
use Rattle.dl_grammar.specs.declared.tree.TreeCond.{TreeCond}
use Rattle.dl_grammar.specs.declared.tree.TreeExpr.{TreeExpr}
use Rattle.dl_grammar.specs.declared.tree.TreeExpr.TheVariants as e
use Rattle.dl_grammar.specs.declared.declarations.Declared.{Declared}
use Rattle.dl_grammar.specs.Grammar.{Rule, One, Nothing, Then, Or, Many}

-- ---- lexemes

abbrev pub fixed_in : Fixed → Lexis → ℕ → Option ℕ
fixed_in g (lexis.Fixed h) line = if sameb the_type g h then Some line else None
fixed_in g (lexis.Name text) line = None
fixed_in g lexis.One line = None
fixed_in g lexis.Two line = None
fixed_in g (lexis.Number n) line = None

-- a reserved word or a symbol: its value is its line
abbrev pub fixed : Fixed → Lexeme → Option ℕ
fixed g t = fixed_in g t.lexis t.line

-- a name with its line
abbrev pub name_in : Lexis → ℕ → Option Word
name_in (lexis.Name text) line = Some (record { text = text; line = line })
name_in (lexis.Fixed h) line = None
name_in lexis.One line = None
name_in lexis.Two line = None
name_in (lexis.Number n) line = None

-- a name
abbrev pub name : Lexeme → Option Word
name t = name_in t.lexis t.line

-- a name or the word int, with its line
abbrev pub type_in : Lexis → ℕ → Option Word
type_in (lexis.Name text) line = Some (record { text = text; line = line })
type_in (lexis.Fixed f.Int) line = Some (record { text = codes "int"; line = line })
type_in (lexis.Fixed h) line = None
type_in lexis.One line = None
type_in lexis.Two line = None
type_in (lexis.Number n) line = None

-- a type: a name, or the word int
abbrev pub type_name : Lexeme → Option Word
type_name t = type_in t.lexis t.line

-- the value of a number
abbrev pub number_in : Lexis → Option ℕ
number_in lexis.One = Some 1
number_in lexis.Two = Some 2
number_in (lexis.Number n) = Some n
number_in (lexis.Fixed h) = None
number_in (lexis.Name text) = None

-- a number
abbrev pub number : Lexeme → Option ℕ
number t = number_in t.lexis

-- 1 or 2, where the text of the number is that digit
abbrev pub version_in : Lexis → Option ℕ
version_in lexis.One = Some 1
version_in lexis.Two = Some 2
version_in (lexis.Number n) = None
version_in (lexis.Fixed h) = None
version_in (lexis.Name text) = None

-- the version: the number whose text is 1 or 2
abbrev pub version : Lexeme → Option ℕ
version t = version_in t.lexis

-- + and -
abbrev pub adding_in : Lexis → Option Op
adding_in (lexis.Fixed f.Plus) = Some op.Add
adding_in (lexis.Fixed f.Minus) = Some op.Sub
adding_in (lexis.Fixed h) = None
adding_in lexis.One = None
adding_in lexis.Two = None
adding_in (lexis.Number n) = None
adding_in (lexis.Name text) = None

-- an operator of sums
abbrev pub adding : Lexeme → Option Op
adding t = adding_in t.lexis

-- * / and %
abbrev pub scaling_in : Lexis → Option Op
scaling_in (lexis.Fixed f.Star) = Some op.Mul
scaling_in (lexis.Fixed f.Slash) = Some op.Div
scaling_in (lexis.Fixed f.Percent) = Some op.Rem
scaling_in (lexis.Fixed h) = None
scaling_in lexis.One = None
scaling_in lexis.Two = None
scaling_in (lexis.Number n) = None
scaling_in (lexis.Name text) = None

-- an operator of terms
abbrev pub scaling : Lexeme → Option Op
scaling t = scaling_in t.lexis

-- < <= == and !=
abbrev pub relation_in : Lexis → Option Rel
relation_in (lexis.Fixed f.Less) = Some rel.Less
relation_in (lexis.Fixed f.LessEq) = Some rel.LessEq
relation_in (lexis.Fixed f.Equal) = Some rel.Equal
relation_in (lexis.Fixed f.NotEqual) = Some rel.NotEqual
relation_in (lexis.Fixed h) = None
relation_in lexis.One = None
relation_in lexis.Two = None
relation_in (lexis.Number n) = None
relation_in (lexis.Name text) = None

-- a relation
abbrev pub relation : Lexeme → Option Rel
relation t = relation_in t.lexis

-- ---- limits

-- no limit is tested
abbrev pub free : {A : Type 0} → A → Option Bound
free a = None

-- the limit is passed where the test holds
abbrev pub passes : Bool → Bound → Option Bound
passes over bound = if over then Some bound else None

-- where no level is left, what opens one passes the limit of levels
abbrev pub level : ℕ → {A : Type 0} → A → Option Bound
level room a = passes (room == 0) Levels

-- one more where so many stand, of which there may be so many
abbrev pub one_more : ℕ → ℕ → Bound → {A : Type 0} → A → Option Bound
one_more most stand bound a = passes (nat_le most stand) bound

-- a number that may be so great at most
abbrev pub at_most : ℕ → Bound → ℕ → Option Bound
at_most most bound n = passes (nat_lt most n) bound

-- roots beside so many others
abbrev pub more_roots : ℕ → ℕ → Option Bound
more_roots roots n = if n == 0 then Some (Limit which.Roots) else passes (nat_lt 1024 (roots + n)) (Limit which.Roots)

-- ---- expressions: their value is the tree, with the number of operators so far

abbrev pub Counted : Type 0
Counted = TreeExpr × ℕ

-- a reserved word or a symbol
abbrev pub word : Fixed → Rule ℕ
word g = One (fixed g) free

-- literal = NUM
abbrev pub literal : ℕ → Rule Counted
literal used = Then (One number (at_most 9223372036854775807 (Limit which.Literal))) (λ n. Nothing (e.Num (pos n), used))

-- variable = NAME
abbrev pub variable : ℕ → Rule Counted
variable used = Then (One name free) (λ w. Nothing (e.Name w, used))

-- an operator and what stands on its right, behind what stands on its left
abbrev pub operation : (Lexeme → Option Op) → (ℕ → Rule Counted) → Counted → Rule Counted
operation operator right left =
    Then (One operator (one_more 256 left.1 (Limit which.Operators))) (λ o. Then (right (left.1 + 1)) (λ x. Nothing (e.Bin o left.0 x.0, x.1)))

-- term = factor { ( "*" | "/" | "%" ) factor }
abbrev pub term : (ℕ → Rule Counted) → ℕ → Rule Counted
term factor used = Then (factor used) (Many (operation scaling factor))

-- sum = term { ( "+" | "-" ) term }
abbrev pub sum : (ℕ → Rule Counted) → ℕ → Rule Counted
sum factor used = Then (term factor used) (Many (operation adding (term factor)))

-- negation = "-" factor
abbrev pub negation : ℕ → (ℕ → Rule Counted) → ℕ → Rule Counted
negation room inner used = Then (One (fixed f.Minus) (level room)) (λ l. Then (inner used) (λ x. Nothing (e.Neg x.0, x.1)))

-- bracket = "(" sum ")"
abbrev pub bracket : ℕ → (ℕ → Rule Counted) → ℕ → Rule Counted
bracket room inner used = Then (One (fixed f.LParen) (level room)) (λ l. Then (sum inner used) (λ x. Then (word f.RParen) (λ m. Nothing x)))

-- factor = negation | bracket | literal | variable, where so many levels are left, over the factors one level below
abbrev pub factor_over : ℕ → (ℕ → Rule Counted) → ℕ → Rule Counted
factor_over room inner used = Or (negation room inner used) (Or (bracket room inner used) (Or (literal used) (variable used)))

-- a factor where so many levels are left. Where none is, nothing stands below.
abbrev pub factor : ℕ → ℕ → Rule Counted
factor zero = factor_over zero (λ used. Or (literal used) (variable used))
factor (suc room) = factor_over (suc room) (factor room)

-- a whole expression
abbrev pub expression : ℕ → Rule TreeExpr
expression room = Then (sum (factor room) 0) (λ x. Nothing x.0)

-- ---- statements

-- side = "null" | sum
abbrev pub side_of : ℕ → Rule Side
side_of room = Or (Then (word f.Null) (λ l. Nothing side.Null)) (Then (expression room) (λ x. Nothing (side.Sum x)))

-- cond = side ( "<" | "<=" | "==" | "!=" ) side
abbrev pub condition : ℕ → Rule TreeCond
condition room = Then (side_of room) (λ a. Then (One relation free) (λ r. Then (side_of room) (λ b. Nothing (record { rel = r; left = a; right = b }))))

-- NAME "." NAME
abbrev pub followed : Rule Rhs
followed = Then (One name free) (λ p. Then (word f.Dot) (λ l. Then (One name free) (λ g. Nothing (rhs.Field p g))))

-- rhs = "null" | "new" NAME | NAME "." NAME | sum
abbrev pub right_side : ℕ → Rule Rhs
right_side room =
    Or (Then (word f.Null) (λ l. Nothing rhs.Null)) (Or (Then (word f.New) (λ l. Then (One name free) (λ k. Nothing (rhs.New k))))
    (Or followed (Then (expression room) (λ x. Nothing (rhs.Sum x)))))

-- NAME ( "=" rhs | "." NAME "=" side ) ";"
abbrev pub setting : ℕ → Rule TreeStmt
setting room = Then (One name free) (λ x. Or
    (Then (word f.Assign) (λ l. Then (right_side room) (λ r. Then (word f.Semicolon) (λ m. Nothing (roll-TreeStmt (record { line = x.line; what = what.Assign x r }))))))
    (Then (word f.Dot) (λ l. Then (One name free) (λ g. Then (word f.Assign) (λ m. Then (side_of room) (λ r. Then (word f.Semicolon) (λ n. Nothing (roll-TreeStmt (record { line = x.line; what = what.Store x g r })))))))))

-- "return" sum ";"
abbrev pub returning : ℕ → Rule TreeStmt
returning room = Then (word f.Return) (λ l. Then (expression room) (λ x. Then (word f.Semicolon) (λ m. Nothing (roll-TreeStmt (record { line = l; what = what.Return x })))))

-- "emit" sum ";": a reserved word stands first, so no text of version 1 has one
abbrev pub emitting : ℕ → Rule TreeStmt
emitting room = Then (word f.Emit) (λ l. Then (expression room) (λ x. Then (word f.Semicolon) (λ m. Nothing (roll-TreeStmt (record { line = l; what = what.Emit x })))))

-- statements, one behind the other
abbrev pub statements : Rule TreeStmt → Rule (List TreeStmt)
statements statement = Many (λ before. Then statement (λ s. Nothing (before ++ s ∷ []))) []

-- block = "{" stmt* "}"
abbrev pub block : ℕ → Rule TreeStmt → Rule (List TreeStmt)
block room inner = Then (One (fixed f.LBrace) (level room)) (λ l. Then (statements inner) (λ body. Then (word f.RBrace) (λ m. Nothing body)))

-- "while" "(" cond ")" block
abbrev pub loop : ℕ → Rule TreeStmt → Rule TreeStmt
loop room inner = Then (word f.While) (λ l. Then (word f.LParen) (λ m. Then (condition room) (λ c. Then (word f.RParen) (λ n. Then (block room inner) (λ body.
    Nothing (roll-TreeStmt (record { line = l; what = what.While c body })))))))

-- [ "else" block ]
abbrev pub otherwise : ℕ → Rule TreeStmt → Rule (List TreeStmt)
otherwise room inner = Or (Then (word f.Else) (λ l. block room inner)) (Nothing [])

-- "if" "(" cond ")" block [ "else" block ]
abbrev pub branch : ℕ → Rule TreeStmt → Rule TreeStmt
branch room inner = Then (word f.If) (λ l. Then (word f.LParen) (λ m. Then (condition room) (λ c. Then (word f.RParen) (λ n. Then (block room inner) (λ yes. Then (otherwise room inner) (λ no_block.
    Nothing (roll-TreeStmt (record { line = l; what = what.If c yes no_block }))))))))

-- stmt, where so many levels are left, over the statements one level below
abbrev pub statement_over : ℕ → Rule TreeStmt → Rule TreeStmt
statement_over room inner = Or (branch room inner) (Or (loop room inner) (Or (returning room) (Or (emitting room) (setting room))))

-- a statement where so many levels are left. Where none is, nothing stands below.
abbrev pub statement : ℕ → Rule TreeStmt
statement zero = statement_over zero (returning zero)
statement (suc room) = statement_over (suc room) (statement room)

-- ---- declarations

-- field = NAME ":" ty, behind so many others
abbrev pub field : ℕ → Bound → ℕ → Rule TreeField
field most bound stand = Then (One name (one_more most stand bound)) (λ w. Then (word f.Colon) (λ l. Then (One type_name free) (λ t. Nothing (record { name = w; ty = t }))))

-- field { "," field }, behind so many others
abbrev pub fields_behind : ℕ → Bound → ℕ → Rule (List TreeField)
fields_behind most bound stand = Then (field most bound stand) (λ first. Many (λ before. Then (word f.Comma) (λ l. Then (field most bound (stand + length before)) (λ x. Nothing (before ++ x ∷ [])))) (first ∷ []))

-- fields = "{" [ field { "," field } ] "}"
abbrev pub fields : Rule (List TreeField)
fields = Then (word f.LBrace) (λ l. Then (Or (fields_behind 16 (Limit which.Fields) 0) (Nothing [])) (λ all. Then (word f.RBrace) (λ m. Nothing all)))

-- the kinds so far, and the number of their roots
abbrev pub Kinds : Type 0
Kinds = List TreeKind × ℕ

-- "root" NAME NUM fields
abbrev pub root_kind : Kinds → Rule Kinds
root_kind before = Then (word f.Root) (λ l. Then (One name (one_more 16 (length before.0) (Limit which.Kinds))) (λ w. Then (One number (more_roots before.1)) (λ n. Then fields (λ all.
    Nothing (before.0 ++ record { name = w; is_root = true; count = n; fields = all } ∷ [], before.1 + n)))))

-- "node" NAME fields
abbrev pub node_kind : Kinds → Rule Kinds
node_kind before = Then (word f.Node) (λ l. Then (One name (one_more 16 (length before.0) (Limit which.Kinds))) (λ w. Then fields (λ all.
    Nothing (before.0 ++ record { name = w; is_root = false; count = 0; fields = all } ∷ [], before.1))))

-- kind = "root" NAME NUM fields | "node" NAME fields
abbrev pub kind : Kinds → Rule Kinds
kind before = Or (root_kind before) (node_kind before)

-- [ "var" field { "," field } ";" ], behind so many parameters
abbrev pub vars : ℕ → Rule (List TreeField)
vars params = Or (Then (word f.Var) (λ l. Then (fields_behind 32 (Limit which.Locals) params) (λ all. Then (word f.Semicolon) (λ m. Nothing all)))) (Nothing [])

-- "{" vars stmt* "}", with the heading before it
abbrev pub body : Word → List TreeField → ℕ → ℕ → Rule TreeOp
body w params allocs fuel = Then (word f.LBrace) (λ l. Then (vars (length params)) (λ locals. Then (statements (statement 32)) (λ stmts. Then (word f.RBrace) (λ m.
    Nothing (record { name = w; params = params; vars = locals; allocs = allocs; fuel = fuel; body = stmts })))))

-- "allocs" NUM "fuel" NUM
abbrev pub quotas : Rule (ℕ × ℕ)
quotas = Then (word f.Allocs) (λ l. Then (One number (at_most 64 (Limit which.Allocs))) (λ a. Then (word f.Fuel) (λ m. Then (One number (at_most 1000000 (Limit which.Fuel))) (λ n. Nothing (a, n)))))

-- op = "op" NAME "(" field { "," field } ")" "allocs" NUM "fuel" NUM body
abbrev pub op_behind : List TreeOp → Rule (List TreeOp)
op_behind before = Then (word f.Op) (λ l. Then (One name (one_more 64 (length before) (Limit which.Ops))) (λ w. Then (word f.LParen) (λ m. Then (fields_behind 32 (Limit which.Locals) 0) (λ params. Then (word f.RParen) (λ n.
    Then quotas (λ q. Then (body w params q.0 q.1) (λ o. Nothing (before ++ o ∷ []))))))))

-- module = "domlock" ( "1" | "2" ) kind* op*
abbrev pub module_text : Rule Declared
module_text = Then (word f.Domlock) (λ l. Then (One version free) (λ v. Then (Many kind ([], 0)) (λ ks. Then (Many op_behind []) (λ os. Nothing (record { version = v; kinds = ks.0; ops = os })))))
