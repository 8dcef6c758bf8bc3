-- How local steps lead to the next event.
use Rattle.std.proofs.Common.{◌≡◌, ℕ, ◌<◌, ◌≤◌, ◌^◌, length, Option, Some, None, refl, sym, ap, subst, ◌∙◌}
use Rattle.std.specs.FinMap as finite
use Rattle.dl_instr.specs.declared.code.Code.{Code}
use Rattle.dl_core.specs.declared.dues.Due.{Due}
use Rattle.dl_core.specs.declared.frames.Frame.{Frame as Kept}
use Rattle.dl_core.specs.Plans.{Plan, steps_of, roots_of}
use Rattle.dl_core.specs.Frames.{Frame}
use Rattle.dl_core.specs.LocalSteps.{Next, Goes, Stops, next, local_step, step_in, due, due_in, steps_left, ready, GoesBackToTurns}
use Rattle.dl_core.specs.Shown.{shown, rooms_of, Rooms, after, with_code, CanGoOn, IsTidy, HasSpace}
use Rattle.dl_core.proofs.LocalSteps.{step_less, same_ready, ready_stays}
use Rattle.dl_core.proofs.Kept.{step_same}
use Rattle.dl_core.proofs.Tidy.{has_space}

went : (n : Next) (g f : Frame) → (None, g) ≡ after n f → step_in n ≡ Some g
went (Goes h) g f e = ap (λ (p : Option Due × Frame). Some p.1) (sym e)
went (Stops d) g f e = absurd (no (ap (λ (p : Option Due × Frame). p.0) e))
  where
    no : None ≡ Some d → ⊥
    no p = cc

stopped : (n : Next) (d : Due) (g f : Frame) → (Some d, g) ≡ after n f → (step_in n ≡ None) × (d ≡ due_in n) × (g ≡ f)
stopped (Goes h) d g f e = absurd (no (ap (λ (p : Option Due × Frame). p.0) e))
  where
    no : Some d ≡ None → ⊥
    no p = cc
stopped (Stops c) d g f e = (refl, same (ap (λ (p : Option Due × Frame). p.0) e), ap (λ (p : Option Due × Frame). p.1) e)
  where
    same : Some d ≡ Some c → d ≡ c
    same p = cc

pub space : (code : Code) (kept : Kept) → CanGoOn code kept → HasSpace kept
space code kept can name there e = has_space kept.book.rows kept.loose.items kept.loose.room can.tidy can.room name there e

-- on the way from one frame to the event that comes next
pub record IsOnWay (code : Code) (first now : Kept) : Type 0 where
  pub can : CanGoOn code now
  pub rooms : rooms_of now ≡ rooms_of first
  pub leads : (plan : Plan) → plan.code ≡ code → ready plan (shown first) ≡ ready plan (shown now)

module _ (code : Code) (old new : Kept) (can : CanGoOn code old) where
  -- a local step
  module _ (e : (plan : Plan) → plan.code ≡ code → (None, shown new) ≡ after (next plan (shown old)) (shown old)) (rooms : rooms_of new ≡ rooms_of old) where
    steps : (plan : Plan) → plan.code ≡ code → local_step plan (shown old) ≡ Some (shown new)
    steps plan c = went (next plan (shown old)) (shown new) (shown old) (e plan c)

    pub steps_on : IsOnWay code old new
    steps_on =
        let same = step_same (with_code code) (shown old) (shown new) (steps (with_code code) refl) in
        record {
          can = record {
            few = can.few;
            tidy = same.11 can.tidy;
            room = subst (λ (m : ℕ × ℕ). m.0 ≤ m.1) (λ i. (finite.len (sym same.7 i), (sym rooms i).loose)) can.room;
            locals = subst (λ n. n < 2 ^ 32) (sym same.10) can.locals;
            roots = λ plan c. ap (λ (r : Rooms). r.roots.items) rooms ∙ can.roots plan c ∙ ap (roots_of plan) (sym same.0);
            turns = λ plan c. subst (λ call. GoesBackToTurns (steps_of plan call)) (sym same.0) (can.turns plan c);
          };
          rooms = rooms;
          leads = λ plan c. same_ready plan (shown old) (shown new) (can.turns plan c) (steps plan c);
        }

    pub steps_fall : steps_left (with_code code) (shown new) < steps_left (with_code code) (shown old)
    steps_fall = (step_less (with_code code) (shown old) (can.turns (with_code code) refl) (shown new) (steps (with_code code) refl)).less

pub on_way_on : (code : Code) (first mid now : Kept) → IsOnWay code first mid → IsOnWay code mid now → IsOnWay code first now
on_way_on code first mid now a b = record { can = b.can; rooms = b.rooms ∙ a.rooms; leads = λ plan c. a.leads plan c ∙ b.leads plan c }

-- the next event
pub stops_at : (plan : Plan) (d : Due) (old new : Frame) → (Some d, new) ≡ after (next plan old) old → (ready plan old ≡ new) × (d ≡ due plan new) × (new ≡ old)
stops_at plan d old new e = let s = stopped (next plan old) d new old e in (ready_stays plan old s.0 ∙ sym s.2, s.1 ∙ ap (due plan) (sym s.2), s.2)

-- memory stays where the frame does
pub can_still : (code : Code) (old new : Kept) → shown new ≡ shown old → rooms_of new ≡ rooms_of old → CanGoOn code old → CanGoOn code new
can_still code old new same rooms can = record {
  few = can.few;
  tidy = subst IsTidy (sym same) can.tidy;
  room = subst (λ (m : ℕ × ℕ). m.0 ≤ m.1) (λ i. (finite.len (sym same i).book, (sym rooms i).loose)) can.room;
  locals = subst (λ (f : Frame). length f.locals < 2 ^ 32) (sym same) can.locals;
  roots = λ plan c. ap (λ (r : Rooms). r.roots.items) rooms ∙ can.roots plan c ∙ ap (λ (f : Frame). roots_of plan f.call) (sym same);
  turns = λ plan c. subst (λ (f : Frame). GoesBackToTurns (steps_of plan f.call)) (sym same) (can.turns plan c);
}

-- the step at which the way ends
module _ (code : Code) (first old new : Kept) (d : Due) (way : IsOnWay code first old) (e : (plan : Plan) → plan.code ≡ code → (Some d, shown new) ≡ after (next plan (shown old)) (shown old)) (rooms : rooms_of new ≡ rooms_of old) where
  pub end_can : CanGoOn code new
  end_can = can_still code old new (stops_at (with_code code) d (shown old) (shown new) (e (with_code code) refl)).2 rooms way.can

  pub end_ready : (plan : Plan) → plan.code ≡ code → shown new ≡ ready plan (shown first)
  end_ready plan c = sym (way.leads plan c ∙ (stops_at plan d (shown old) (shown new) (e plan c)).0)

  pub end_due : (plan : Plan) → plan.code ≡ code → d ≡ due plan (shown new)
  end_due plan c = (stops_at plan d (shown old) (shown new) (e plan c)).1

  pub end_rooms : rooms_of new ≡ rooms_of first
  end_rooms = rooms ∙ way.rooms
