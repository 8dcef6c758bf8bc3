-- Which locals, fields and kinds fit where in the statements of an operation.
use Rattle.std.specs.Prelude.{◌≡◌, ℕ, ℤ, Bool, Some, List, [], ◌∷◌, ◌++◌, map, slice_get}
use Rattle.dl_ir.specs.declared.expressions.Op.{Op}
use Rattle.dl_ir.specs.declared.expressions.Rel.{Rel}
use Rattle.dl_ir.specs.declared.expressions.Expr.{Expr}
use Rattle.dl_ir.specs.declared.expressions.Expr.TheVariants.{Num, Local, Neg, Bin}
use Rattle.dl_ir.specs.declared.expressions.RefSide.TheVariants as sides
use Rattle.dl_ir.specs.declared.expressions.Cond.{Cond}
use Rattle.dl_ir.specs.declared.expressions.Cond.TheVariants.{Ints, Refs}
use Rattle.dl_ir.specs.declared.modules.FieldDecl.{FieldDecl}
use Rattle.dl_ir.specs.declared.modules.KindDecl.{KindDecl}
use Rattle.dl_ir.specs.declared.modules.LocalDecl.{LocalDecl}
use Rattle.dl_ir.specs.declared.modules.Module.{Module}
use Rattle.dl_ir.specs.declared.modules.OpDecl.{OpDecl}
use Rattle.dl_ir.specs.declared.modules.Ty.{Ty}
use Rattle.dl_ir.specs.declared.modules.Ty.TheVariants.{Int, Of}
use Rattle.dl_ir.specs.declared.statements.Stmt.{Stmt}
use Rattle.dl_ir.specs.declared.statements.Stmt.TheVariants.{SetInt, Load, Store, Copy, Null, Follow, New, Link, Cut, If, While, Emit, Return}
use Rattle.dl_ir.specs.Heap.{IsNodeKind}

-- the types of an operation's locals: its parameters, then its vars
abbrev pub types_of : OpDecl → List Ty
types_of op = map (λ (local : LocalDecl). local.ty) (op.params ++ op.vars)

-- the local is declared, and holds a number
abbrev pub IsNumberLocal : List Ty → ℕ → Type 0
IsNumberLocal types x = slice_get types x ≡ Some Int

-- the local is declared, and holds a reference to an object of this kind
abbrev pub IsLocalOf : List Ty → ℕ → ℕ → Type 0
IsLocalOf types p kind = slice_get types p ≡ Some (Of kind)

-- the kind is declared, and has a field of this number and of this type
pub record HasFieldOf (source : Module) (kind f : ℕ) (type_of_field : Ty) : Type 0 where
  pub declared : KindDecl
  pub is_there : slice_get source.kinds kind ≡ Some declared
  pub field : FieldDecl
  pub is_its_field : slice_get declared.fields f ≡ Some field
  pub of_type : field.ty ≡ type_of_field

-- an expression has number locals alone
pub data IsTypedExpr (types : List Ty) : Expr → Type 0 where
  num : (n : ℤ) → IsTypedExpr types (Num n)
  local : {x : ℕ} → IsNumberLocal types x → IsTypedExpr types (Local x)
  neg : {e : Expr} → IsTypedExpr types e → IsTypedExpr types (Neg e)
  bin : (op : Op) {left right : Expr} → IsTypedExpr types left → IsTypedExpr types right → IsTypedExpr types (Bin op left right)

-- a condition compares numbers, or references of one kind, or a reference and null
pub data IsTypedCond (types : List Ty) : Cond → Type 0 where
  numbers : (rel : Rel) {left right : Expr} → IsTypedExpr types left → IsTypedExpr types right → IsTypedCond types (Ints rel left right)
  references : (same : Bool) {p q kind : ℕ} → IsLocalOf types p kind → IsLocalOf types q kind → IsTypedCond types (Refs same (sides.Local p) (sides.Local q))
  null_left : (same : Bool) {p kind : ℕ} → IsLocalOf types p kind → IsTypedCond types (Refs same sides.Null (sides.Local p))
  null_right : (same : Bool) {p kind : ℕ} → IsLocalOf types p kind → IsTypedCond types (Refs same (sides.Local p) sides.Null)

mutual
  -- a statement is typed: one case for each form. A root local may be set to null, and to nothing else
  pub data IsTyped (source : Module) (types : List Ty) : Stmt → Type 0 where
    -- x = e;
    set_int : {x : ℕ} {e : Expr} → IsNumberLocal types x → IsTypedExpr types e → IsTyped source types (SetInt x e)
    -- x = p.f; where the field is a number
    load : {x p f kind : ℕ} → IsNumberLocal types x → IsLocalOf types p kind → HasFieldOf source kind f Int → IsTyped source types (Load x p f)
    -- p.f = e; where the field is a number
    store : {p f kind : ℕ} {e : Expr} → IsLocalOf types p kind → HasFieldOf source kind f Int → IsTypedExpr types e → IsTyped source types (Store p f e)
    -- p = q; where both refer to nodes of one kind
    copy : {p q kind : ℕ} → IsLocalOf types p kind → IsLocalOf types q kind → IsNodeKind source kind → IsTyped source types (Copy p q)
    -- p = null;
    null : {p kind : ℕ} → IsLocalOf types p kind → IsTyped source types (Null p)
    -- p = q.f; where the field refers to nodes of p's kind
    follow : {p q f kind other : ℕ} → IsLocalOf types p kind → IsNodeKind source kind → IsLocalOf types q other → HasFieldOf source other f (Of kind)
        → IsTyped source types (Follow p q f)
    -- p = new K; where p refers to nodes of this kind
    new : {p kind : ℕ} → IsLocalOf types p kind → IsNodeKind source kind → IsTyped source types (New p kind)
    -- q.f = p; where the field refers to nodes of p's kind
    link : {q f p kind other : ℕ} → IsLocalOf types q other → HasFieldOf source other f (Of kind) → IsLocalOf types p kind → IsTyped source types (Link q f p)
    -- q.f = null; where the field is a reference
    cut : {q f kind other : ℕ} → IsLocalOf types q other → HasFieldOf source other f (Of kind) → IsTyped source types (Cut q f)
    -- if (c) {..} else {..}
    choose : {c : Cond} {first second : List Stmt} → IsTypedCond types c → IsTypedBlock source types first → IsTypedBlock source types second
        → IsTyped source types (If c first second)
    -- while (c) {..}
    while : {c : Cond} {body : List Stmt} → IsTypedCond types c → IsTypedBlock source types body → IsTyped source types (While c body)
    -- emit e;
    emit : {e : Expr} → IsTypedExpr types e → IsTyped source types (Emit e)
    -- return e;
    return : {e : Expr} → IsTypedExpr types e → IsTyped source types (Return e)

  -- each statement of a block is typed
  pub data IsTypedBlock (source : Module) (types : List Ty) : List Stmt → Type 0 where
    nothing : IsTypedBlock source types []
    more : {d : Stmt} {ds : List Stmt} → IsTyped source types d → IsTypedBlock source types ds → IsTypedBlock source types (d ∷ ds)

-- a field that is a reference refers to nodes
abbrev pub FieldsReferToNodes : Module → Type 0
FieldsReferToNodes source = (kind f target : ℕ) → HasFieldOf source kind f (Of target) → IsNodeKind source target
