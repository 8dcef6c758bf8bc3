-- How module texts are read: for each rule of the grammar what its reader does, token by token.
use Rattle.std.specs.Prelude.{ℕ, zero, suc, ◌+◌, Bool, true, false, ◌||◌, is_some, List, [], ◌∷◌, ◌++◌, length, Option, Some, None, pos}
use Rattle.dl_ir.specs.declared.expressions.Op.{Op}
use Rattle.dl_grammar.specs.declared.lexeme.Fixed.{Fixed}
use Rattle.dl_grammar.specs.declared.lexeme.Fixed.TheVariants as f
use Rattle.dl_grammar.specs.declared.lexeme.Lexeme.{Lexeme}
use Rattle.dl_grammar.specs.declared.fault.Bound.{Bound}
use Rattle.dl_grammar.specs.declared.fault.Bound.TheVariants.{Limit}
use Rattle.dl_grammar.specs.declared.fault.Which.TheVariants as which
use Rattle.dl_grammar.specs.declared.tree.Word.{Word}
use Rattle.dl_grammar.specs.declared.tree.TreeField.{TreeField}
use Rattle.dl_grammar.specs.declared.tree.TreeOp.{TreeOp}
use Rattle.dl_grammar.specs.declared.tree.TreeStmt.{TreeStmt, roll-TreeStmt}
use Rattle.dl_grammar.specs.declared.tree.What.TheVariants as what
use Rattle.dl_grammar.specs.declared.tree.Rhs.{Rhs}
use Rattle.dl_grammar.specs.declared.tree.Rhs.TheVariants as rhs
use Rattle.dl_grammar.specs.declared.tree.Side.{Side}
use Rattle.dl_grammar.specs.declared.tree.Side.TheVariants as side
use Rattle.dl_grammar.specs.declared.tree.TreeCond.{TreeCond}
use Rattle.dl_grammar.specs.declared.tree.TreeExpr.{TreeExpr}
use Rattle.dl_grammar.specs.declared.tree.TreeExpr.TheVariants as e
use Rattle.dl_grammar.specs.Grammar.{Ahead, Reader, ◌>>=◌, pure, one, choose, repeat}
use Rattle.dl_grammar.specs.Rules.{fixed, name, type_name, number, version, adding, scaling, relation, free, level, one_more, at_most, more_roots, Counted, Kinds}
use Rattle.dl_grammar.specs.declared.declarations.Declared.{Declared}

-- a lexeme with a value comes next
abbrev pub comes : {A : Type 0} → (Lexeme → Option A) → Ahead → Bool
comes value None = false
comes value (Some t) = is_some (value t)

-- a reserved word or a symbol
abbrev pub word : Fixed → Reader ℕ
word g = one (fixed g) free

-- ---- expressions

unfoldable pub literal : ℕ → Reader Counted
literal used = one number (at_most 9223372036854775807 (Limit which.Literal)) >>= λ n. pure (e.Num (pos n), used)

unfoldable pub variable : ℕ → Reader Counted
variable used = one name free >>= λ w. pure (e.Name w, used)

unfoldable pub operation : (Lexeme → Option Op) → (ℕ → Reader Counted) → Counted → Reader Counted
operation operator right left = one operator (one_more 256 left.1 (Limit which.Operators)) >>= λ o. right (left.1 + 1) >>= λ x. pure (e.Bin o left.0 x.0, x.1)

-- what follows the first factor of a term
unfoldable pub term_behind : (ℕ → Reader Counted) → Counted → Reader Counted
term_behind factor = repeat (comes scaling) (operation scaling factor)

unfoldable pub term : (ℕ → Reader Counted) → ℕ → Reader Counted
term factor used = factor used >>= term_behind factor

-- what follows the first term of a sum
unfoldable pub sum_behind : (ℕ → Reader Counted) → Counted → Reader Counted
sum_behind factor = repeat (comes adding) (operation adding (term factor))

unfoldable pub sum : (ℕ → Reader Counted) → ℕ → Reader Counted
sum factor used = term factor used >>= sum_behind factor

unfoldable pub negation : ℕ → (ℕ → Reader Counted) → ℕ → Reader Counted
negation room inner used = one (fixed f.Minus) (level room) >>= λ l. inner used >>= λ x. pure (e.Neg x.0, x.1)

unfoldable pub bracket : ℕ → (ℕ → Reader Counted) → ℕ → Reader Counted
bracket room inner used = one (fixed f.LParen) (level room) >>= λ l. sum inner used >>= λ x. word f.RParen >>= λ m. pure x

unfoldable pub factor_over : ℕ → (ℕ → Reader Counted) → ℕ → Reader Counted
factor_over room inner used =
    choose (comes (fixed f.Minus)) (negation room inner used) (choose (comes (fixed f.LParen)) (bracket room inner used) (choose (comes number) (literal used) (variable used)))

abbrev pub factor : ℕ → ℕ → Reader Counted
factor zero = factor_over zero (λ used. choose (comes number) (literal used) (variable used))
factor (suc room) = factor_over (suc room) (factor room)

unfoldable pub expression : ℕ → Reader TreeExpr
expression room = sum (factor room) 0 >>= λ x. pure x.0

-- ---- statements

unfoldable pub side_of : ℕ → Reader Side
side_of room = choose (comes (fixed f.Null)) (word f.Null >>= λ l. pure side.Null) (expression room >>= λ x. pure (side.Sum x))

unfoldable pub condition : ℕ → Reader TreeCond
condition room = side_of room >>= λ a. one relation free >>= λ r. side_of room >>= λ b. pure (record { rel = r; left = a; right = b })

-- a sum whose first factor, a name, has been read
unfoldable pub sum_from : ℕ → Word → Reader Rhs
sum_from room w = term_behind (factor room) (e.Name w, 0) >>= λ t. sum_behind (factor room) t >>= λ x. pure (rhs.Sum x.0)

-- a followed field, whose local has been read
unfoldable pub followed_from : Word → Reader Rhs
followed_from p = word f.Dot >>= λ l. one name free >>= λ g. pure (rhs.Field p g)

-- a right side that begins with a name
unfoldable pub named_side : ℕ → Reader Rhs
named_side room = one name free >>= λ w. choose (comes (fixed f.Dot)) (followed_from w) (sum_from room w)

unfoldable pub right_side : ℕ → Reader Rhs
right_side room =
    choose (comes (fixed f.Null)) (word f.Null >>= λ l. pure rhs.Null) (choose (comes (fixed f.New)) (word f.New >>= λ l. one name free >>= λ k. pure (rhs.New k))
    (choose (comes name) (named_side room) (expression room >>= λ x. pure (rhs.Sum x))))

-- a local is set, behind its name
unfoldable pub assignment : ℕ → Word → Reader TreeStmt
assignment room x = word f.Assign >>= λ l. right_side room >>= λ r. word f.Semicolon >>= λ m. pure (roll-TreeStmt (record { line = x.line; what = what.Assign x r }))

-- a field is set, behind the name of the local
unfoldable pub store : ℕ → Word → Reader TreeStmt
store room x = word f.Dot >>= λ l. one name free >>= λ g. word f.Assign >>= λ m. side_of room >>= λ r. word f.Semicolon >>= λ n. pure (roll-TreeStmt (record { line = x.line; what = what.Store x g r }))

unfoldable pub setting : ℕ → Reader TreeStmt
setting room = one name free >>= λ x. choose (comes (fixed f.Assign)) (assignment room x) (store room x)

unfoldable pub returning : ℕ → Reader TreeStmt
returning room = word f.Return >>= λ l. expression room >>= λ x. word f.Semicolon >>= λ m. pure (roll-TreeStmt (record { line = l; what = what.Return x }))

unfoldable pub emitting : ℕ → Reader TreeStmt
emitting room = word f.Emit >>= λ l. expression room >>= λ x. word f.Semicolon >>= λ m. pure (roll-TreeStmt (record { line = l; what = what.Emit x }))

-- a statement comes next
abbrev pub starts_statement : Ahead → Bool
starts_statement o = comes (fixed f.If) o || comes (fixed f.While) o || comes (fixed f.Return) o || comes (fixed f.Emit) o || comes name o

-- statements behind others
unfoldable pub statements_from : Reader TreeStmt → List TreeStmt → Reader (List TreeStmt)
statements_from statement = repeat starts_statement (λ before. statement >>= λ s. pure (before ++ s ∷ []))

unfoldable pub statements : Reader TreeStmt → Reader (List TreeStmt)
statements statement = statements_from statement []

unfoldable pub block : ℕ → Reader TreeStmt → Reader (List TreeStmt)
block room inner = one (fixed f.LBrace) (level room) >>= λ l. statements inner >>= λ body. word f.RBrace >>= λ m. pure body

unfoldable pub repetition : ℕ → Reader TreeStmt → Reader TreeStmt
repetition room inner =
    word f.While >>= λ l. word f.LParen >>= λ m. condition room >>= λ c. word f.RParen >>= λ n. block room inner >>= λ body. pure (roll-TreeStmt (record { line = l; what = what.While c body }))

unfoldable pub otherwise : ℕ → Reader TreeStmt → Reader (List TreeStmt)
otherwise room inner = choose (comes (fixed f.Else)) (word f.Else >>= λ l. block room inner) (pure [])

unfoldable pub branch : ℕ → Reader TreeStmt → Reader TreeStmt
branch room inner =
    word f.If >>= λ l. word f.LParen >>= λ m. condition room >>= λ c. word f.RParen >>= λ n. block room inner >>= λ yes. otherwise room inner >>= λ no_block. pure (roll-TreeStmt (record { line = l; what = what.If c yes no_block }))

unfoldable pub statement_over : ℕ → Reader TreeStmt → Reader TreeStmt
statement_over room inner = choose (comes (fixed f.If)) (branch room inner) (choose (comes (fixed f.While)) (repetition room inner) (choose (comes (fixed f.Return)) (returning room)
    (choose (comes (fixed f.Emit)) (emitting room) (setting room))))

abbrev pub statement : ℕ → Reader TreeStmt
statement zero = statement_over zero (returning zero)
statement (suc room) = statement_over (suc room) (statement room)

-- ---- declarations

unfoldable pub field : ℕ → Bound → ℕ → Reader TreeField
field most bound stand = one name (one_more most stand bound) >>= λ w. word f.Colon >>= λ l. one type_name free >>= λ t. pure (record { name = w; ty = t })

-- fields behind others, each with a comma before it
unfoldable pub fields_more : ℕ → Bound → ℕ → List TreeField → Reader (List TreeField)
fields_more most bound stand = repeat (comes (fixed f.Comma)) (λ before. word f.Comma >>= λ l. field most bound (stand + length before) >>= λ x. pure (before ++ x ∷ []))

unfoldable pub fields_behind : ℕ → Bound → ℕ → Reader (List TreeField)
fields_behind most bound stand = field most bound stand >>= λ first. fields_more most bound stand (first ∷ [])

unfoldable pub fields : Reader (List TreeField)
fields = word f.LBrace >>= λ l. choose (comes name) (fields_behind 16 (Limit which.Fields) 0) (pure []) >>= λ all. word f.RBrace >>= λ m. pure all

unfoldable pub root_kind : Kinds → Reader Kinds
root_kind before =
    word f.Root >>= λ l. one name (one_more 16 (length before.0) (Limit which.Kinds)) >>= λ w. one number (more_roots before.1) >>= λ n. fields >>= λ all.
    pure (before.0 ++ record { name = w; is_root = true; count = n; fields = all } ∷ [], before.1 + n)

unfoldable pub node_kind : Kinds → Reader Kinds
node_kind before =
    word f.Node >>= λ l. one name (one_more 16 (length before.0) (Limit which.Kinds)) >>= λ w. fields >>= λ all. pure (before.0 ++ record { name = w; is_root = false; count = 0; fields = all } ∷ [], before.1)

unfoldable pub kind : Kinds → Reader Kinds
kind before = choose (comes (fixed f.Root)) (root_kind before) (node_kind before)

-- a kind comes next
abbrev pub starts_kind : Ahead → Bool
starts_kind o = comes (fixed f.Root) o || comes (fixed f.Node) o

-- kinds behind others
unfoldable pub kinds_from : Kinds → Reader Kinds
kinds_from = repeat starts_kind kind

unfoldable pub kinds : Reader Kinds
kinds = kinds_from ([], 0)

unfoldable pub vars : ℕ → Reader (List TreeField)
vars params = choose (comes (fixed f.Var)) (word f.Var >>= λ l. fields_behind 32 (Limit which.Locals) params >>= λ all. word f.Semicolon >>= λ m. pure all) (pure [])

unfoldable pub body : Word → List TreeField → ℕ → ℕ → Reader TreeOp
body w params allocs fuel =
    word f.LBrace >>= λ l. vars (length params) >>= λ locals. statements (statement 32) >>= λ stmts. word f.RBrace >>= λ m.
    pure (record { name = w; params = params; vars = locals; allocs = allocs; fuel = fuel; body = stmts })

unfoldable pub quotas : Reader (ℕ × ℕ)
quotas = word f.Allocs >>= λ l. one number (at_most 64 (Limit which.Allocs)) >>= λ a. word f.Fuel >>= λ m. one number (at_most 1000000 (Limit which.Fuel)) >>= λ n. pure (a, n)

unfoldable pub op_behind : List TreeOp → Reader (List TreeOp)
op_behind before =
    word f.Op >>= λ l. one name (one_more 64 (length before) (Limit which.Ops)) >>= λ w. word f.LParen >>= λ m. fields_behind 32 (Limit which.Locals) 0 >>= λ params. word f.RParen >>= λ n.
    quotas >>= λ q. body w params q.0 q.1 >>= λ o. pure (before ++ o ∷ [])

-- operations behind others
unfoldable pub ops_from : List TreeOp → Reader (List TreeOp)
ops_from = repeat (comes (fixed f.Op)) op_behind

unfoldable pub ops : Reader (List TreeOp)
ops = ops_from []

unfoldable pub module_text : Reader Declared
module_text = word f.Domlock >>= λ l. one version free >>= λ v. kinds >>= λ ks. ops >>= λ os. pure (record { version = v; kinds = ks.0; ops = os })

-- ---- the levels below

-- a factor one level below
unfoldable pub below : ℕ → ℕ → Reader Counted
below zero = λ used. choose (comes number) (literal used) (variable used)
below (suc room) = factor room

-- a statement one level below
unfoldable pub statement_below : ℕ → Reader TreeStmt
statement_below zero = returning zero
statement_below (suc room) = statement room
