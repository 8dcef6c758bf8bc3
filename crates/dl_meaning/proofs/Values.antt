-- A typed expression or condition has a value by the cases, and it is what the function gives.
use Rattle.std.proofs.Common.{◌≡◌, ℕ, ℤ, neg_ℤ, Bool, not, List, refl, sym, ap, subst, ◌∙◌, Option, Some, None, Ok, Err, slice_get, if◌then◌else◌}
use Rattle.dl_ir.specs.declared.expressions.Cond.{Cond}
use Rattle.dl_ir.specs.declared.expressions.Cond.TheVariants.{Ints, Refs}
use Rattle.dl_ir.specs.declared.expressions.Expr.{Expr, Expr-F, out-Expr}
use Rattle.dl_ir.specs.declared.expressions.Expr.TheFolds.{fold_out-Expr, map-Expr}
use Rattle.dl_ir.specs.declared.expressions.Expr.TheVariants.{Neg, Bin, outs-Num, outs-Local, outs-Neg, outs-Bin}
use Rattle.dl_ir.specs.declared.expressions.Op.{Op}
use Rattle.dl_ir.specs.declared.expressions.RefSide.{RefSide}
use Rattle.dl_ir.specs.declared.expressions.RefSide.TheVariants as sides
use Rattle.dl_ir.specs.declared.expressions.Rel.{Rel}
use Rattle.dl_ir.specs.declared.modules.Ty.{Ty}
use Rattle.dl_ir.specs.declared.modules.Ty.TheVariants as types
use Rattle.dl_ir.specs.declared.names.Name.{Name}
use Rattle.dl_ir.specs.declared.names.Value.{Value}
use Rattle.dl_ir.specs.declared.names.Value.TheVariants as values
use Rattle.dl_ir.specs.Evaluation.{Number, Truth, value_step, value_of, holds_of, side_of, in_range, applied, relates, is_same}
use Rattle.dl_ir.specs.Meaning.{Context, State}
use Rattle.dl_meaning.specs.Fitting.{Fits, HoldsType}
use Rattle.dl_ir.specs.Typed as typed
use Rattle.dl_ir.specs.Typed.{IsTypedExpr, IsTypedCond, IsLocalOf}
use Rattle.dl_meaning.specs.Values as by_cases
use Rattle.dl_meaning.specs.Values.{HasValue, SideRefersTo, HasTruth, TypedHasOneValue, TypedHasOneTruth}
use Rattle.dl_meaning.proofs.Kept.{Refers, reference_at}
use Rattle.dl_lemmas.proofs.Places.{same_place}

-- the value of an expression, by its form
level : (locals : List Value) (e : Expr) (l : Expr-F Expr) → out-Expr e ≡ l → value_of e locals ≡ value_step (map-Expr Expr (List Value → Number) value_of l) locals
level locals e l is = ap (λ (r : List Value → Number). r locals) (fold_out-Expr (List Value → Number) value_step e) ∙ ap (λ (m : Expr-F Expr). value_step (map-Expr Expr (List Value → Number) value_of m) locals) is

-- the value by the cases is what the function gives
sound_value : {locals : List Value} {e : Expr} {v : Number} → HasValue locals e v → value_of e locals ≡ v
sound_value (by_cases.num n) = level _ _ _ (outs-Num _)
sound_value (by_cases.local is) = level _ _ _ (outs-Local _) ∙ rw is
sound_value (by_cases.neg has) = level _ _ _ (outs-Neg _) ∙ rw (sound_value has)
sound_value (by_cases.neg_fault has) = level _ _ _ (outs-Neg _) ∙ rw (sound_value has)
sound_value (by_cases.bin op left right) = level _ _ _ (outs-Bin _ _ _) ∙ rw (sound_value left, sound_value right)
sound_value (by_cases.left_fault op right left) = level _ _ _ (outs-Bin _ _ _) ∙ rw (sound_value left)
sound_value (by_cases.right_fault op left right) = level _ _ _ (outs-Bin _ _ _) ∙ rw (sound_value left, sound_value right)

sound_side : {locals : List Value} {side : RefSide} {target : Option Name} → SideRefersTo locals side target → side_of side locals ≡ target
sound_side by_cases.null = refl
sound_side (by_cases.local is) = rw is

sound_truth : {locals : List Value} {c : Cond} {v : Truth} → HasTruth locals c v → holds_of c locals ≡ v
sound_truth (by_cases.numbers rel left right) = rw (sound_value left, sound_value right)
sound_truth (by_cases.left_fault rel right left) = rw (sound_value left)
sound_truth (by_cases.right_fault rel left right) = rw (sound_value left, sound_value right)
sound_truth (by_cases.references same left right) = rw (sound_side left, sound_side right)

-- there is a value
record SomeValue (locals : List Value) (e : Expr) : Type 0 where
  value : Number
  has : HasValue locals e value

record SomeTruth (locals : List Value) (c : Cond) : Type 0 where
  value : Truth
  has : HasTruth locals c value

record SomeTarget (locals : List Value) (side : RefSide) : Type 0 where
  target : Option Name
  refers : SideRefersTo locals side target

negated : (locals : List Value) (e : Expr) (v : Number) → HasValue locals e v → SomeValue locals (Neg e)
negated locals e (Ok n) has = record { value = in_range (neg_ℤ n); has = by_cases.neg has }
negated locals e (Err fault) has = record { value = Err fault; has = by_cases.neg_fault has }

combined : (locals : List Value) (op : Op) (left right : Expr) (v w : Number) → HasValue locals left v → HasValue locals right w → SomeValue locals (Bin op left right)
combined locals op left right (Ok x) (Ok y) first second = record { value = applied op x y; has = by_cases.bin op first second }
combined locals op left right (Ok x) (Err fault) first second = record { value = Err fault; has = by_cases.right_fault op first second }
combined locals op left right (Err fault) w first second = record { value = Err fault; has = by_cases.left_fault op right first }

compared : (locals : List Value) (rel : Rel) (left right : Expr) (v w : Number) → HasValue locals left v → HasValue locals right w → SomeTruth locals (Ints rel left right)
compared locals rel left right (Ok x) (Ok y) first second = record { value = Ok (relates rel x y); has = by_cases.numbers rel first second }
compared locals rel left right (Ok x) (Err fault) first second = record { value = Err fault; has = by_cases.right_fault rel first second }
compared locals rel left right (Err fault) w first second = record { value = Err fault; has = by_cases.left_fault rel right first }

both_sides : (locals : List Value) (same : Bool) (left right : RefSide) → SomeTarget locals left → SomeTarget locals right → SomeTruth locals (Refs same left right)
both_sides locals same left right first second = record {
  value = Ok (if same then is_same first.target second.target else not (is_same first.target second.target));
  has = by_cases.references same first.refers second.refers;
}

-- what is of a number's type is a number
number_of_type : (s : State) (x : ℕ) (value : Value) → slice_get s.locals x ≡ Some value → HoldsType s.objects types.Int value → (n : ℤ) × (slice_get s.locals x ≡ Some (values.Int n))
number_of_type s x (values.Int n) is has = (n, is)
number_of_type s x (values.Ref target) is has = absurd has

some_value : (cx : Context) (locals : List Ty) (s : State) → Fits cx locals s → {e : Expr} → IsTypedExpr locals e → SomeValue s.locals e
some_value cx locals s fits (typed.num n) = record { value = Ok n; has = by_cases.num n }
some_value cx locals s fits (typed.local {x} is) =
    let place = same_place locals s.locals x types.Int (sym fits.one_each) is in
    let number = number_of_type s x place.0 place.1 (fits.typed x types.Int place.0 is place.1) in
    record { value = Ok number.0; has = by_cases.local number.1 }
some_value cx locals s fits (typed.neg {e} is) = let part = some_value cx locals s fits is in negated s.locals e part.value part.has
some_value cx locals s fits (typed.bin op {left} {right} left_is right_is) =
    let first = some_value cx locals s fits left_is in
    let second = some_value cx locals s fits right_is in
    combined s.locals op left right first.value second.value first.has second.has

no_target : (s : State) → SomeTarget s.locals sides.Null
no_target s = record { target = None; refers = by_cases.null }

some_target : (cx : Context) (locals : List Ty) (s : State) (p kind : ℕ) → Fits cx locals s → IsLocalOf locals p kind → SomeTarget s.locals (sides.Local p)
some_target cx locals s p kind fits is = let found : Refers s p kind = reference_at fits is in record { target = found.target; refers = by_cases.local found.refers }

some_truth : (cx : Context) (locals : List Ty) (s : State) → Fits cx locals s → {c : Cond} → IsTypedCond locals c → SomeTruth s.locals c
some_truth cx locals s fits (typed.numbers rel {left} {right} left_is right_is) =
    let first = some_value cx locals s fits left_is in
    let second = some_value cx locals s fits right_is in
    compared s.locals rel left right first.value second.value first.has second.has
some_truth cx locals s fits (typed.references same {p} {q} {kind} p_is q_is) =
    both_sides s.locals same (sides.Local p) (sides.Local q) (some_target cx locals s p kind fits p_is) (some_target cx locals s q kind fits q_is)
some_truth cx locals s fits (typed.null_left same {p} {kind} p_is) = both_sides s.locals same sides.Null (sides.Local p) (no_target s) (some_target cx locals s p kind fits p_is)
some_truth cx locals s fits (typed.null_right same {p} {kind} p_is) = both_sides s.locals same (sides.Local p) sides.Null (some_target cx locals s p kind fits p_is) (no_target s)

pub one_value : TypedHasOneValue
one_value cx locals e s is fits =
    let some = some_value cx locals s fits is in
    (subst (HasValue s.locals e) (sym (sound_value some.has)) some.has, λ v has. sym (sound_value has))

pub one_truth : TypedHasOneTruth
one_truth cx locals c s is fits =
    let some = some_truth cx locals s fits is in
    (subst (HasTruth s.locals c) (sym (sound_truth some.has)) some.has, λ v has. sym (sound_truth has))
