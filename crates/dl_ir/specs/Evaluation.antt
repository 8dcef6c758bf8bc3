-- The values of expressions and of conditions.
use Rattle.std.specs.Prelude.{◌^◌, Bool, true, false, not, ◌&&◌, ℤ, pos, negsuc, ◌+ℤ◌, ◌-ℤ◌, ◌*ℤ◌, neg_ℤ, int_div, int_rem, int_lt, int_le, nat_eq, nat_lt, Option, Some, None, Result, Ok, Err, List, slice_get, if◌then◌else◌}
use Rattle.std.specs.Ordering.{int_eq}
use Rattle.dl_ir.specs.declared.answers.Fault.{Fault}
use Rattle.dl_ir.specs.declared.answers.Fault.TheVariants.{Overflow, DivZero}
use Rattle.dl_ir.specs.declared.expressions.Op.{Op}
use Rattle.dl_ir.specs.declared.expressions.Op.TheVariants.{Add, Sub, Mul, Div, Rem}
use Rattle.dl_ir.specs.declared.expressions.Rel.{Rel}
use Rattle.dl_ir.specs.declared.expressions.Rel.TheVariants.{Less, LessEq, Equal, NotEqual}
use Rattle.dl_ir.specs.declared.expressions.RefSide.{RefSide}
use Rattle.dl_ir.specs.declared.expressions.RefSide.TheVariants as sides
use Rattle.dl_ir.specs.declared.expressions.Cond.{Cond}
use Rattle.dl_ir.specs.declared.expressions.Cond.TheVariants.{Ints, Refs}
use Rattle.dl_ir.specs.declared.expressions.Expr.{Expr, Expr-F}
use Rattle.dl_ir.specs.declared.expressions.Expr.TheFolds.{fold-Expr}
use Rattle.dl_ir.specs.declared.names.Name.{Name}
use Rattle.dl_ir.specs.declared.names.Value.{Value}
use Rattle.dl_ir.specs.declared.names.Value.TheVariants.{Int, Ref}

-- the value of an expression: a number, or the first fault
abbrev pub Number : Type 0
Number = Result ℤ Fault

-- the value of a condition: true, false, or the first fault
abbrev pub Truth : Type 0
Truth = Result Bool Fault

-- the number that a local or a field holds; 0 where it holds none
abbrev pub number_of : Option Value → ℤ
number_of (Some (Int n)) = n
number_of _ = pos 0

-- what a local or a field refers to; null where it holds no reference
abbrev pub target_of : Option Value → Option Name
target_of (Some (Ref target)) = target
target_of _ = None

-- a number fits signed 64 bits
abbrev pub is_in_range : ℤ → Bool
is_in_range (pos n) = nat_lt n (2 ^ 63)
is_in_range (negsuc n) = nat_lt n (2 ^ 63)

-- a result outside signed 64 bits is an overflow
abbrev pub in_range : ℤ → Number
in_range z = if is_in_range z then Ok z else Err Overflow

-- a zero divisor is a fault of its own
abbrev pub by_nonzero : ℤ → Number → Number
by_nonzero divisor result = if int_eq divisor (pos 0) then Err DivZero else result

-- what an operator gives. Division truncates toward zero; a remainder has the sign of the dividend
abbrev pub applied : Op → ℤ → ℤ → Number
applied Add x y = in_range (x +ℤ y)
applied Sub x y = in_range (x -ℤ y)
applied Mul x y = in_range (x *ℤ y)
applied Div x y = by_nonzero y (in_range (int_div x y))
applied Rem x y = by_nonzero y (Ok (int_rem x y))

-- goes on with the number, or keeps the fault
abbrev pub with_number : {T : Type 0} → Number → (ℤ → Result T Fault) → Result T Fault
with_number (Ok x) next = next x
with_number (Err fault) next = Err fault

-- one level of an expression, its parts being evaluated from left to right
abbrev pub value_step : Expr-F (List Value → Number) → List Value → Number
value_step (Expr-F.Num n) locals = Ok n
value_step (Expr-F.Local x) locals = Ok (number_of (slice_get locals x))
value_step (Expr-F.Neg e) locals = with_number (e locals) (λ x. in_range (neg_ℤ x))
value_step (Expr-F.Bin op left right) locals =
    with_number (left locals) (λ x. with_number (right locals) (λ y. applied op x y))

-- the value of an expression at these locals
abbrev pub value_of : Expr → List Value → Number
value_of = fold-Expr (List Value → Number) value_step

-- whether two numbers stand in a relation
abbrev pub relates : Rel → ℤ → ℤ → Bool
relates Less x y = int_lt x y
relates LessEq x y = int_le x y
relates Equal x y = int_eq x y
relates NotEqual x y = not (int_eq x y)

-- two references are equal where both are null or both name the same object
abbrev pub is_same : Option Name → Option Name → Bool
is_same None None = true
is_same (Some a) (Some b) = nat_eq a.ticket b.ticket && nat_eq a.index b.index
is_same _ _ = false

-- what a side of a comparison of references refers to
abbrev pub side_of : RefSide → List Value → Option Name
side_of sides.Null locals = None
side_of (sides.Local p) locals = target_of (slice_get locals p)

-- the value of a condition at these locals. The left side is evaluated first
abbrev pub holds_of : Cond → List Value → Truth
holds_of (Ints rel left right) locals =
    with_number (value_of left locals) (λ x. with_number (value_of right locals) (λ y. Ok (relates rel x y)))
holds_of (Refs same left right) locals =
    let equal = is_same (side_of left locals) (side_of right locals) in Ok (if same then equal else not equal)
