-- What the statements of a tree are in a module, or the first fault in them.
use Rattle.std.specs.Prelude.{ℕ, Bool, true, false, ◌==◌, ◌&&◌, not, if◌then◌else◌, List, [], map, Option, Some, None, Result, Ok, Err}
use Rattle.dl_ir.specs.declared.modules.Ty.{Ty}
use Rattle.dl_ir.specs.declared.modules.Ty.TheVariants.{Int, Of}
use Rattle.dl_ir.specs.declared.modules.KindDecl.{KindDecl}
use Rattle.dl_ir.specs.declared.modules.LocalDecl.{LocalDecl}
use Rattle.dl_ir.specs.declared.expressions.Op.{Op}
use Rattle.dl_ir.specs.declared.expressions.Expr.{Expr}
use Rattle.dl_ir.specs.declared.expressions.Expr.TheVariants as expr
use Rattle.dl_ir.specs.declared.expressions.Rel.{Rel}
use Rattle.dl_ir.specs.declared.expressions.Rel.TheVariants as rel
use Rattle.dl_ir.specs.declared.expressions.RefSide.TheVariants as ref_side
use Rattle.dl_ir.specs.declared.expressions.Cond.{Cond}
use Rattle.dl_ir.specs.declared.expressions.Cond.TheVariants as cond
use Rattle.dl_ir.specs.declared.statements.Stmt.{Stmt}
use Rattle.dl_ir.specs.declared.statements.Stmt.TheVariants as stmt
use Rattle.dl_grammar.specs.declared.tree.Word.{Word}
use Rattle.dl_grammar.specs.declared.tree.Rhs.{Rhs}
use Rattle.dl_grammar.specs.declared.tree.Rhs.TheVariants as rhs
use Rattle.dl_grammar.specs.declared.tree.Side.{Side}
use Rattle.dl_grammar.specs.declared.tree.Side.TheVariants as side
use Rattle.dl_grammar.specs.declared.tree.TreeCond.{TreeCond}
use Rattle.dl_grammar.specs.declared.tree.TreeExpr.{TreeExpr, TreeExpr-F, out-TreeExpr}
use Rattle.dl_grammar.specs.declared.tree.TreeExpr.TheFolds.{fold-TreeExpr}
use Rattle.dl_grammar.specs.declared.tree.TreeStmt.{TreeStmt, TreeStmt-F}
use Rattle.dl_grammar.specs.declared.tree.What.{What-F}
use Rattle.dl_grammar.specs.declared.tree.What.TheFolds.{fold-TreeStmt}
use Rattle.dl_types.specs.declared.fault.TypeFault.{TypeFault}
use Rattle.dl_types.specs.declared.fault.TypeFault.TheVariants.{Unknown, KindClash, NewRoot, AssignRoot}
use Rattle.dl_types.specs.declared.operands.Given.{Given}
use Rattle.dl_types.specs.declared.operands.Given.TheVariants as given
use Rattle.dl_types.specs.Checks.{◌>>=◌, or_fault, each}
use Rattle.dl_types.specs.Names.{local_of, kind_named, field_named, fields_of, is_root_kind}

-- the local that a word names, with its type
abbrev pub local_typed : List LocalDecl → List LocalDecl → Word → Result (ℕ × Ty) TypeFault
local_typed params vars word = or_fault (local_of params vars word.text) (Unknown word.line)

-- a local as an operand of numbers, if it holds one
abbrev pub number_local : ℕ → Ty → Option Expr
number_local x Int = Some (expr.Local x)
number_local x (Of kind) = None

-- both operands, if both are of numbers
abbrev pub both : Op → Option Expr → Option Expr → Option Expr
both op (Some a) (Some b) = Some (expr.Bin op a b)
both op (Some a) None = None
both op None b = None

-- the negated operand, if it is of numbers
abbrev pub negated : Option Expr → Option Expr
negated (Some a) = Some (expr.Neg a)
negated None = None

-- what an expression of a tree is: an expression of numbers, none where a local in it holds a reference, or the fault of the first unknown name
abbrev pub Numbers : Type 0
Numbers = Result (Option Expr) TypeFault

-- one level of an expression
abbrev pub number_step : List LocalDecl → List LocalDecl → TreeExpr-F Numbers → Numbers
number_step params vars (TreeExpr-F.Num n) = Ok (Some (expr.Num n))
number_step params vars (TreeExpr-F.Name word) = local_typed params vars word >>= λ local. Ok (number_local local.0 local.1)
number_step params vars (TreeExpr-F.Neg e) = e >>= λ a. Ok (negated a)
number_step params vars (TreeExpr-F.Bin op left right) = left >>= λ a. right >>= λ b. Ok (both op a b)

-- an expression of numbers
abbrev pub number_typed : List LocalDecl → List LocalDecl → TreeExpr → Numbers
number_typed params vars = fold-TreeExpr Numbers (number_step params vars)

-- what stands where an object may be named: what fits, or the fault of the first unknown name
abbrev pub Operand : Type 0
Operand = Result Given TypeFault

-- a local alone
abbrev pub local_given : ℕ → Ty → Given
local_given x Int = given.Number (expr.Local x)
local_given p (Of kind) = given.Reference p kind

-- an expression of numbers, if it is one
abbrev pub number_given : Option Expr → Given
number_given (Some e) = given.Number e
number_given None = given.Unfit

-- an expression: a local alone may refer to an object
abbrev pub sum_in : List LocalDecl → List LocalDecl → Numbers → TreeExpr-F TreeExpr → Operand
sum_in params vars numbers (TreeExpr-F.Name word) = local_typed params vars word >>= λ local. Ok (local_given local.0 local.1)
sum_in params vars numbers other = numbers >>= λ e. Ok (number_given e)

-- an expression: a local alone may refer to an object
abbrev pub sum_given : List LocalDecl → List LocalDecl → TreeExpr → Operand
sum_given params vars e = sum_in params vars (number_typed params vars e) (out-TreeExpr e)

-- what is stored, or a side of a condition
abbrev pub side_given : List LocalDecl → List LocalDecl → Side → Operand
side_given params vars side.Null = Ok given.Null
side_given params vars (side.Sum e) = sum_given params vars e

-- the field of what a local refers to; the local's kind has the fields
abbrev pub field_given : List KindDecl → ℕ → Ty → Word → Operand
field_given kinds p Int word = Ok given.Unfit
field_given kinds p (Of kind) word =
    or_fault (field_named 0 (fields_of kinds kind) word.text) (Unknown word.line) >>= λ field. Ok (given.Field p field.0 field.1)

-- the field of a local
abbrev pub place_given : List KindDecl → List LocalDecl → List LocalDecl → Word → Word → Operand
place_given kinds params vars p f = local_typed params vars p >>= λ local. field_given kinds local.0 local.1 f

-- the right side of an assignment
abbrev pub rhs_given : List KindDecl → List LocalDecl → List LocalDecl → Rhs → Operand
rhs_given kinds params vars rhs.Null = Ok given.Null
rhs_given kinds params vars (rhs.New word) = or_fault (kind_named 0 kinds word.text) (Unknown word.line) >>= λ kind. Ok (given.New kind.0)
rhs_given kinds params vars (rhs.Field p f) = place_given kinds params vars p f
rhs_given kinds params vars (rhs.Sum e) = sum_given params vars e

-- null is given
abbrev pub is_null : Given → Bool
is_null given.Null = true
is_null _ = false

-- a new object of a root kind is given
abbrev pub is_new_root : List KindDecl → Given → Bool
is_new_root kinds (given.New kind) = is_root_kind kinds kind
is_new_root kinds _ = false

-- a local of this type refers to a root
abbrev pub refers_to_root : List KindDecl → Ty → Bool
refers_to_root kinds Int = false
refers_to_root kinds (Of kind) = is_root_kind kinds kind

-- a field is followed or loaded, as its type says
abbrev pub field_assigned : ℕ → Ty → ℕ → ℕ → Ty → Option Stmt
field_assigned x Int p f Int = Some (stmt.Load x p f)
field_assigned x Int p f (Of kind) = None
field_assigned x (Of kind) p f Int = None
field_assigned x (Of kind) p f (Of other) = if kind == other then Some (stmt.Follow x p f) else None

-- a local that holds a number gets a number
abbrev pub number_assigned : ℕ → Ty → Expr → Option Stmt
number_assigned x Int e = Some (stmt.SetInt x e)
number_assigned x (Of kind) e = None

-- a type is that of references to objects of a kind
abbrev pub is_of_kind : Ty → ℕ → Bool
is_of_kind Int kind = false
is_of_kind (Of other) kind = other == kind

-- a local that refers to objects gets null
abbrev pub null_assigned : ℕ → Ty → Option Stmt
null_assigned p Int = None
null_assigned p (Of kind) = Some (stmt.Null p)

-- the assignment to a local of a type, if the types fit
abbrev pub assigned : ℕ → Ty → Given → Option Stmt
assigned x ty given.Null = null_assigned x ty
assigned x ty (given.New kind) = if is_of_kind ty kind then Some (stmt.New x kind) else None
assigned x ty (given.Field p f of) = field_assigned x ty p f of
assigned x ty (given.Number e) = number_assigned x ty e
assigned x ty (given.Reference p kind) = if is_of_kind ty kind then Some (stmt.Copy x p) else None
assigned x ty given.Unfit = None

-- an assignment in a line: first the unknown names, then a root parameter that is set, then a root that is made, then types that do not fit
abbrev pub assign_checked : List KindDecl → ℕ → ℕ × Ty → Given → Result Stmt TypeFault
assign_checked kinds line x what =
    if refers_to_root kinds x.1 && not (is_null what) then Err (AssignRoot line)
    else (if is_new_root kinds what then Err (NewRoot line)
    else or_fault (assigned x.0 x.1 what) (KindClash line))

-- an assignment
abbrev pub assign_typed : List KindDecl → List LocalDecl → List LocalDecl → ℕ → Word → Rhs → Result Stmt TypeFault
assign_typed kinds params vars line x right =
    local_typed params vars x >>= λ local. rhs_given kinds params vars right >>= λ what. assign_checked kinds line local what

-- what is stored into a field of a type, if it fits
abbrev pub stored_as : ℕ → ℕ → Ty → Given → Option Stmt
stored_as q f Int (given.Number e) = Some (stmt.Store q f e)
stored_as q f (Of kind) given.Null = Some (stmt.Cut q f)
stored_as q f (Of kind) (given.Reference p other) = if kind == other then Some (stmt.Link q f p) else None
stored_as q f _ _ = None

-- what is stored into a place, if it fits
abbrev pub stored : Given → Given → Option Stmt
stored (given.Field q f ty) what = stored_as q f ty what
stored _ what = None

-- a store
abbrev pub store_typed : List KindDecl → List LocalDecl → List LocalDecl → ℕ → Word → Word → Side → Result Stmt TypeFault
store_typed kinds params vars line p f right =
    place_given kinds params vars p f >>= λ place. side_given params vars right >>= λ what. or_fault (stored place what) (KindClash line)

-- whether references are to be the same or not, if they are compared so
abbrev pub sameness : Rel → Option Bool
sameness rel.Less = None
sameness rel.LessEq = None
sameness rel.Equal = Some true
sameness rel.NotEqual = Some false

-- a comparison of references, if they may be compared so
abbrev pub refs_compared : Bool → Given → Given → Option Cond
refs_compared same (given.Reference p kind) (given.Reference q other) =
    if kind == other then Some (cond.Refs same (ref_side.Local p) (ref_side.Local q)) else None
refs_compared same (given.Reference p kind) given.Null = Some (cond.Refs same (ref_side.Local p) ref_side.Null)
refs_compared same given.Null (given.Reference q kind) = Some (cond.Refs same ref_side.Null (ref_side.Local q))
refs_compared same _ _ = None

-- a comparison of references, by a relation that they may have
abbrev pub refs_related : Option Bool → Given → Given → Option Cond
refs_related (Some same) a b = refs_compared same a b
refs_related None a b = None

-- a comparison, if its sides fit
abbrev pub compared : Rel → Given → Given → Option Cond
compared r (given.Number a) (given.Number b) = Some (cond.Ints r a b)
compared r a b = refs_related (sameness r) a b

-- a condition of a statement that begins in this line
abbrev pub cond_typed : List LocalDecl → List LocalDecl → ℕ → TreeCond → Result Cond TypeFault
cond_typed params vars line c =
    side_given params vars c.left >>= λ a. side_given params vars c.right >>= λ b. or_fault (compared c.rel a b) (KindClash line)

-- a number is returned
abbrev pub return_typed : List LocalDecl → List LocalDecl → ℕ → TreeExpr → Result Stmt TypeFault
return_typed params vars line e = number_typed params vars e >>= λ number. or_fault number (KindClash line) >>= λ value. Ok (stmt.Return value)

-- a number is emitted
abbrev pub emit_typed : List LocalDecl → List LocalDecl → ℕ → TreeExpr → Result Stmt TypeFault
emit_typed params vars line e = number_typed params vars e >>= λ number. or_fault number (KindClash line) >>= λ value. Ok (stmt.Emit value)

-- what a statement of a tree is
abbrev pub Typed : Type 0
Typed = Result Stmt TypeFault

-- the statements of a block, whose statements were typed
abbrev pub in_turn : List Typed → Result (List Stmt) TypeFault
in_turn = each (λ before one. one) []

-- one level of a statement that begins in this line
abbrev pub what_step : List KindDecl → List LocalDecl → List LocalDecl → What-F (ℕ → Typed) Typed → ℕ → Typed
what_step kinds params vars (What-F.Assign x right) line = assign_typed kinds params vars line x right
what_step kinds params vars (What-F.Store p f right) line = store_typed kinds params vars line p f right
what_step kinds params vars (What-F.If c yes_block no_block) line =
    cond_typed params vars line c >>= λ test. in_turn yes_block >>= λ yes. in_turn no_block >>= λ no. Ok (stmt.If test yes no)
what_step kinds params vars (What-F.While c body) line =
    cond_typed params vars line c >>= λ test. in_turn body >>= λ block. Ok (stmt.While test block)
what_step kinds params vars (What-F.Return e) line = return_typed params vars line e
what_step kinds params vars (What-F.Emit e) line = emit_typed params vars line e

-- a statement
abbrev pub stmt_typed : List KindDecl → List LocalDecl → List LocalDecl → TreeStmt → Typed
stmt_typed kinds params vars = fold-TreeStmt (ℕ → Typed) Typed (what_step kinds params vars) (λ (s : TreeStmt-F (ℕ → Typed) Typed). s.what s.line)

-- a block
abbrev pub block_typed : List KindDecl → List LocalDecl → List LocalDecl → List TreeStmt → Result (List Stmt) TypeFault
block_typed kinds params vars block = in_turn (map (stmt_typed kinds params vars) block)
