-- The values of expressions and conditions as relations by cases, in which every local that is read is there and holds what is asked of it.
use Rattle.std.specs.Prelude.{◌≡◌, ℕ, ℤ, neg_ℤ, Bool, not, Option, Some, None, Ok, Err, List, slice_get, if◌then◌else◌}
use Rattle.dl_ir.specs.declared.answers.Fault.{Fault}
use Rattle.dl_ir.specs.declared.expressions.Cond.{Cond}
use Rattle.dl_ir.specs.declared.expressions.Cond.TheVariants.{Ints, Refs}
use Rattle.dl_ir.specs.declared.expressions.Expr.{Expr}
use Rattle.dl_ir.specs.declared.expressions.Expr.TheVariants.{Num, Local, Neg, Bin}
use Rattle.dl_ir.specs.declared.expressions.Op.{Op}
use Rattle.dl_ir.specs.declared.expressions.RefSide.{RefSide}
use Rattle.dl_ir.specs.declared.expressions.RefSide.TheVariants as sides
use Rattle.dl_ir.specs.declared.expressions.Rel.{Rel}
use Rattle.dl_ir.specs.declared.modules.Ty.{Ty}
use Rattle.dl_ir.specs.declared.names.Name.{Name}
use Rattle.dl_ir.specs.declared.names.Value.{Value}
use Rattle.dl_ir.specs.declared.names.Value.TheVariants.{Int, Ref}
use Rattle.dl_ir.specs.Evaluation.{Number, Truth, value_of, holds_of, in_range, applied, relates, is_same}
use Rattle.dl_ir.specs.Meaning.{Context, State}
use Rattle.dl_meaning.specs.Fitting.{Fits}
use Rattle.dl_ir.specs.Typed.{IsTypedExpr, IsTypedCond}

-- an expression has this value at these locals, or this first fault
pub data HasValue (locals : List Value) : Expr → Number → Type 0 where
  num : (n : ℤ) → HasValue locals (Num n) (Ok n)
  local : {x : ℕ} {n : ℤ} → slice_get locals x ≡ Some (Int n) → HasValue locals (Local x) (Ok n)
  neg : {e : Expr} {n : ℤ} → HasValue locals e (Ok n) → HasValue locals (Neg e) (in_range (neg_ℤ n))
  neg_fault : {e : Expr} {fault : Fault} → HasValue locals e (Err fault) → HasValue locals (Neg e) (Err fault)
  bin : (op : Op) {left right : Expr} {x y : ℤ} → HasValue locals left (Ok x) → HasValue locals right (Ok y) → HasValue locals (Bin op left right) (applied op x y)
  left_fault : (op : Op) {left : Expr} (right : Expr) {fault : Fault} → HasValue locals left (Err fault) → HasValue locals (Bin op left right) (Err fault)
  right_fault : (op : Op) {left right : Expr} {x : ℤ} {fault : Fault} → HasValue locals left (Ok x) → HasValue locals right (Err fault)
      → HasValue locals (Bin op left right) (Err fault)

-- a side of a comparison of references refers to this
pub data SideRefersTo (locals : List Value) : RefSide → Option Name → Type 0 where
  null : SideRefersTo locals sides.Null None
  local : {p : ℕ} {target : Option Name} → slice_get locals p ≡ Some (Ref target) → SideRefersTo locals (sides.Local p) target

-- a condition has this truth at these locals, or this first fault
pub data HasTruth (locals : List Value) : Cond → Truth → Type 0 where
  numbers : (rel : Rel) {left right : Expr} {x y : ℤ} → HasValue locals left (Ok x) → HasValue locals right (Ok y) → HasTruth locals (Ints rel left right) (Ok (relates rel x y))
  left_fault : (rel : Rel) {left : Expr} (right : Expr) {fault : Fault} → HasValue locals left (Err fault) → HasTruth locals (Ints rel left right) (Err fault)
  right_fault : (rel : Rel) {left right : Expr} {x : ℤ} {fault : Fault} → HasValue locals left (Ok x) → HasValue locals right (Err fault)
      → HasTruth locals (Ints rel left right) (Err fault)
  references : (same : Bool) {left right : RefSide} {a b : Option Name} → SideRefersTo locals left a → SideRefersTo locals right b
      → HasTruth locals (Refs same left right) (Ok (if same then is_same a b else not (is_same a b)))

-- a typed expression has one value at a state that fits, which is what the function gives
abbrev pub TypedHasOneValue : Type 0
TypedHasOneValue = (cx : Context) (types : List Ty) (e : Expr) (s : State) → IsTypedExpr types e → Fits cx types s
    → HasValue s.locals e (value_of e s.locals) × ((v : Number) → HasValue s.locals e v → v ≡ value_of e s.locals)

-- a typed condition has one truth at a state that fits, which is what the function gives
abbrev pub TypedHasOneTruth : Type 0
TypedHasOneTruth = (cx : Context) (types : List Ty) (c : Cond) (s : State) → IsTypedCond types c → Fits cx types s
    → HasTruth s.locals c (holds_of c s.locals) × ((v : Truth) → HasTruth s.locals c v → v ≡ holds_of c s.locals)
