-- What events that touch an object leave alone of their caller's frame.
use Rattle.std.proofs.Common.{◌≡◌, ◌≤◌, arith, sym, ℕ, ◌+◌, ◌-◌, List, [], ◌∷◌, Option, Some, None, refl, ap, subst, ◌∙◌}
use Rattle.dl_ir.specs.declared.names.Name.{Name}
use Rattle.dl_ir.specs.declared.names.Value.{Value}
use Rattle.dl_ir.specs.declared.names.Value.TheVariants.{Ref}
use Rattle.dl_core.specs.declared.objects.Mark.{Mark}
use Rattle.dl_core.specs.declared.objects.Mark.TheVariants as marks
use Rattle.dl_core.specs.declared.objects.Object.{Object}
use Rattle.dl_core.specs.Plans.{Plan}
use Rattle.dl_core.specs.Frames.{Frame, loosened, raised, lowered, with_booked, without_booked, advanced, with_hand, target_in_hand, behind}
use Rattle.dl_core.specs.Heaps.{field_of}
use Rattle.dl_ir.specs.References.{target_in}
use Rattle.dl_core.specs.declared.dues.Due.{Due}
use Rattle.dl_core.specs.declared.dues.Due.TheVariants.{Nothing, Reserves, TakesRoot, Enters, Reads, Writes, Takes, LetsGo, GivesUp, Seals, Makes, Finishes}
use Rattle.dl_core.specs.Events.{Acted, act, take, take_root, moved_on, moved_past, has_read, wrote, seen_by, let_go, gave_up, sealed, made, or_first}
use Rattle.dl_core.specs.LocalSteps.{ready}
use Rattle.dl_core.proofs.Kept.{ready_same, same_loosened}
use Rattle.dl_core.proofs.Names.{same_some, no_some}

-- the frame has the ticket, the finished operations and the index of the other, and has made no less
abbrev pub IsOne : Frame → Frame → Type 0
IsOne before after = (after.ticket ≡ before.ticket) × (after.finished ≡ before.finished) × (after.index ≡ before.index) × (before.made ≤ after.made)

module _ (plan : Plan) (caller : ℕ) (frame : Frame) where
  ready_one : (f : Frame) → IsOne frame f → IsOne frame (ready plan f)
  ready_one f one = let same = ready_same plan f in (same.3 ∙ one.0, same.9 ∙ one.1, same.1 ∙ one.2, subst (λ n. frame.made ≤ n) (sym same.4) one.3)

  loosened_one : (target : Option Name) (f : Frame) → IsOne frame f → IsOne frame (loosened target f)
  loosened_one target f one = let same = same_loosened target f in (same.3 ∙ one.0, same.9 ∙ one.1, same.1 ∙ one.2, subst (λ n. frame.made ≤ n) (sym same.4) one.3)

  moved_on_one : (loose : List Name) (f : Frame) → IsOne frame f → IsOne frame (moved_on loose f)
  moved_on_one [] f one = one
  moved_on_one (name ∷ names) f one = one

  moved_past_one : (loose : List Name) (field : ℕ) (f : Frame) → IsOne frame f → IsOne frame (moved_past loose field f)
  moved_past_one [] field f one = one
  moved_past_one (name ∷ names) field f one = one

  seen_one : (loose : List Name) (name : Name) → IsOne frame (seen_by loose name frame)
  seen_one [] name = (refl, refl, refl, omega arith)
  seen_one (first ∷ names) name = (refl, refl, refl, omega arith)

  itself : IsOne frame frame
  itself = (refl, refl, refl, omega arith)

  as_found : (after : Frame) (found : Option Object) (outcome : Acted) → Some (after, found) ≡ Some outcome → IsOne frame after → IsOne frame outcome.0
  as_found after found outcome e one = subst (IsOne frame) (ap (λ (o : Acted). o.0) (same_some e)) one

  root_one : (number : ℕ) (object : Object) (mark : Mark) (outcome : Acted) → take_root caller number frame object mark ≡ Some outcome → IsOne frame outcome.0
  root_one number object marks.Free outcome e = as_found _ _ outcome e (refl, refl, refl, omega arith)
  root_one number object (marks.Held other) outcome e = absurd (no_some e)
  root_one number object (marks.Sealed ticket) outcome e = absurd (no_some e)

  take_one : (name : Name) (object : Object) (mark : Mark) (outcome : Acted) → take plan caller name frame object mark ≡ Some outcome → IsOne frame outcome.0
  take_one name object marks.Free outcome e = as_found _ _ outcome e (ready_one (with_booked name object.kind 1 (moved_on frame.loose frame)) (moved_on_one frame.loose frame itself))
  take_one name object (marks.Held other) outcome e = absurd (no_some e)
  take_one name object (marks.Sealed ticket) outcome e = as_found _ _ outcome e (ready_one (seen_by frame.loose name frame) (seen_one frame.loose name))

  wrote_one : (field : ℕ) (value : Value) → IsOne frame (wrote plan field value frame)
  wrote_one field value =
      let counted = record frame { hand = None; book = raised (target_in value) (lowered (target_in_hand frame) frame.book) } in
      let past = moved_past frame.loose field counted in
      ready_one (loosened (target_in_hand frame) past) (loosened_one (target_in_hand frame) past (moved_past_one frame.loose field counted (refl, refl, refl, omega arith)))

  on_one : (d : Due) (object : Object) (outcome : Acted) → act plan caller frame d (Some object) ≡ Some outcome → IsOne frame outcome.0
  on_one Nothing object outcome e = absurd (no_some e)
  on_one (Reserves need) object outcome e = absurd (no_some e)
  on_one (TakesRoot number) object outcome e = root_one number object object.mark outcome e
  on_one Enters object outcome e = absurd (no_some e)
  on_one (Reads name field) object outcome e = as_found (has_read plan (field_of object field) frame) _ outcome e (ready_one (with_hand (Some (field_of object field)) (moved_on frame.loose frame)) (moved_on_one frame.loose frame itself))
  on_one (Writes name field value) object outcome e = as_found (wrote plan field value frame) _ outcome e (wrote_one field value)
  on_one (Takes name) object outcome e = take_one name object object.mark outcome e
  on_one (LetsGo name) object outcome e = as_found (let_go plan name frame) _ outcome e (ready_one (without_booked name (record frame { loose = behind frame.loose })) (refl, refl, refl, omega arith))
  on_one (GivesUp name) object outcome e = as_found (gave_up plan name frame) _ outcome e (ready_one (without_booked name (record frame { loose = behind frame.loose; cursor = 0; spares = frame.spares + 1 })) (refl, refl, refl, omega arith))
  on_one (Seals name) object outcome e = as_found (sealed plan name frame) _ outcome e (ready_one (without_booked name (record frame { breach = or_first frame.breach name })) (refl, refl, refl, omega arith))
  on_one (Makes name kind) object outcome e = absurd (no_some e)
  on_one (Finishes end) object outcome e = absurd (no_some e)

  at_none_one : (d : Due) (outcome : Acted) → act plan caller frame d None ≡ Some outcome → IsOne frame outcome.0
  at_none_one Nothing outcome e = absurd (no_some e)
  at_none_one (Reserves need) outcome e = absurd (no_some e)
  at_none_one (TakesRoot number) outcome e = absurd (no_some e)
  at_none_one Enters outcome e = absurd (no_some e)
  at_none_one (Reads name field) outcome e = absurd (no_some e)
  at_none_one (Writes name field value) outcome e = absurd (no_some e)
  at_none_one (Takes name) outcome e = absurd (no_some e)
  at_none_one (LetsGo name) outcome e = absurd (no_some e)
  at_none_one (GivesUp name) outcome e = absurd (no_some e)
  at_none_one (Seals name) outcome e = absurd (no_some e)
  at_none_one (Makes name kind) outcome e = as_found (made plan name kind frame) _ outcome e (ready_one (with_booked name kind 0 (with_hand (Some (Ref (Some name))) (advanced (record frame { made = frame.made + 1; spares = frame.spares - 1 })))) (refl, refl, refl, omega arith))
  at_none_one (Finishes end) outcome e = absurd (no_some e)

  -- the caller keeps its ticket and what it has finished
  pub touch_one : (d : Due) (found : Option Object) (outcome : Acted) → act plan caller frame d found ≡ Some outcome → IsOne frame outcome.0
  touch_one d None outcome e = at_none_one d outcome e
  touch_one d (Some object) outcome e = on_one d object outcome e
