-- how many objects a heap has after a write and after an addition
use Rattle.std.proofs.Common.{◌≡◌, ℕ, ◌+◌, ◌≤◌, Bool, true, false, cond, refl, ap, ◌∙◌, Option, Some, None, is_some, arith}
use Rattle.std.specs.FinMap as finite
use Rattle.std.specs.FinMap.{len-insert}
use Rattle.dl_ir.specs.declared.names.Name.{Name}
use Rattle.dl_ir.specs.declared.names.Value.{Value}
use Rattle.dl_ir.specs.declared.objects.Obj.{Obj}
use Rattle.dl_ir.specs.Heap.{Objects, View, with_field, with_field_of}
use Rattle.dl_ir.proofs.NameOrder.{names_total}

pub len-with_field : (h : Objects) (name : Name) (field : ℕ) (value : Value) → finite.len (with_field h name field value) ≡ finite.len h
len-with_field h name field value =
    elim (finite.get h name) as (λ r. finite.get h name ≡ r → finite.len (with_field_of h name field value r) ≡ finite.len h) [
      | None ↦ λ e. refl
      | Some object ↦ λ e. len-insert names_total h name _ ∙ ap (λ (r : Option Obj). cond (is_some r) (finite.len h) (finite.len h + 1)) e
    ] refl

at_most_one : (b : Bool) (n : ℕ) → cond b n (n + 1) ≤ n + 1
at_most_one true n = omega arith
at_most_one false n = omega arith

pub len-put : (h : Objects) (name : Name) (object : Obj) → finite.len (finite.insert h name object) ≤ finite.len h + 1
len-put h name object = rw (len-insert names_total h name object) (at_most_one _ _)

-- an addition takes one of the places that the operation has left
pub room_left : (h v : View) (name : Name) (object : Obj) (allocs made : ℕ) → v ≡ record { objects = finite.insert h.objects name object; room = h.room }
    → finite.len h.objects + allocs ≤ h.room + made → finite.len v.objects + allocs ≤ v.room + (made + 1)
room_left h v name object allocs made e room = rw e (omega (arith, len-put h.objects name object, room))
