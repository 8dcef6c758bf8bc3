-- Where the lone runs of all have come to their end, each operation that ran is finished.
use Rattle.std.proofs.Common.{◌≡◌, ◌≢◌, inl, inr, arith, ℕ, ◌<◌, List, [], ◌∷◌, ◌++◌, refl, sym, ap, subst, ◌∙◌}
use Rattle.dl_ir.specs.declared.answers.End.{End}
use Rattle.dl_core.specs.Plans.{Plan, IsPlan}
use Rattle.dl_core.specs.Frames.{Frame, IsEntered}
use Rattle.dl_core.specs.LocalSteps.{due}
use Rattle.dl_core.specs.Events.{finished, finish_of}
use Rattle.dl_core.specs.Steps.{Nowhere, Alone, over, then_on, InTurn, none, next}
use Rattle.dl_core.specs.Core.{Shared, frame_of, rules_of, aim_of, finished_by}
use Rattle.dl_core.specs.Reached.{Calls}
use Rattle.dl_core.specs.Reach.{ticket_in}
use Rattle.dl_core.proofs.Diamond.{Touch, Leaves, Puts, Acts, Moves, step→moves}
use Rattle.dl_order.specs.Serial.{IsFinishedBy}
use Rattle.dl_order.proofs.Keeping.{touch_one}
use Rattle.dl_core.proofs.Elements.{Each, In, Up}
use Rattle.dl_order.proofs.Runs.{IsNone, alone_frame, turn_frame, alone_inv, last_run}
use Rattle.dl_order.proofs.Serial.{IsRow}
use Rattle.dl_order.proofs.Worlds.{IsWorldOf, IsOther, Comes, inside_is, new_frame, has_frame, nowhere_unentered, world_kept, ordered}

-- a frame that begins with what another had finished goes on from there
on_from : (before mid after : Frame) → mid.ticket ≡ before.ticket → mid.finished ≡ before.finished → mid.index ≡ before.index → IsFinishedBy mid after → IsFinishedBy before after
on_from before mid after ticket same index on =
    record { kept = on.kept; last = on.last ∙ ap (λ fs. fs ++ on.kept ∷ []) same; ticket = on.ticket ∙ ticket; index = on.index ∙ index }

-- none of these is the caller
none_of : (tickets : ℕ → ℕ) (caller : ℕ) (callers : List ℕ) → Each (λ c. tickets caller < tickets c) callers → IsNone caller callers
none_of tickets caller [] e = tt
none_of tickets caller (c ∷ cs) e = (λ same. differ (tickets caller) (tickets c) e.0 (ap tickets same), none_of tickets caller cs e.1)
  where
    differ : (a b : ℕ) → a < b → a ≡ b → ⊥
    differ a b lt same = omega (arith, lt, same)

-- each of these is apart from those behind it
abbrev AreApart : List ℕ → Type 0
AreApart [] = Unit {0}
AreApart (c ∷ cs) = IsNone c cs × AreApart cs

apart_by : (tickets : ℕ → ℕ) (callers : List ℕ) → Up tickets callers → AreApart callers
apart_by tickets [] up = tt
apart_by tickets (c ∷ cs) up = (none_of tickets c cs up.0, apart_by tickets cs up.1)

is_apart : (caller other : ℕ) (callers : List ℕ) → IsNone caller callers → In other callers → caller ≢ other
is_apart caller other [] apart there = absurd there
is_apart caller other (c ∷ cs) apart (inl same) = λ e. apart.0 (e ∙ same)
is_apart caller other (c ∷ cs) apart (inr there) = is_apart caller other cs apart.1 there

module _ (plan : Plan) (is : IsPlan plan) (calls : Calls) (clock : ℕ) where
  stuck : (world : Shared) (caller : ℕ) → IsWorldOf plan calls clock world → aim_of (due plan (frame_of world caller)) ≡ Nowhere → IsEntered (frame_of world caller) → ⊥
  stuck world caller v = subst (λ w. aim_of (due plan (frame_of w caller)) ≡ Nowhere → IsEntered (frame_of w caller) → ⊥) v.is (nowhere_unentered plan is v.core calls v.reached caller)

  -- after a finish no step comes next
  finish_over : (world mid end : Shared) (caller : ℕ) (how : End) → frame_of mid caller ≡ finished how (frame_of world caller) → Alone (rules_of plan) caller mid end → IsFinishedBy (frame_of world caller) (frame_of end caller)
  finish_over world mid end caller how new rest =
      let left : mid ≡ end = (last_run (rules_of plan) caller mid end (ap (λ (f : Frame). aim_of (due plan f)) new) _ (rest, refl)).0 in
      subst (λ w. IsFinishedBy (frame_of world caller) (frame_of w caller)) left
      (subst (IsFinishedBy (frame_of world caller)) (sym new) (record { kept = finish_of how (frame_of world caller); last = refl; ticket = refl; index = refl }))

  -- a lone run finishes its caller's operation
  lone_finishes : (caller : ℕ) (world end : Shared) → IsWorldOf plan calls clock world → IsEntered (frame_of world caller) → Alone (rules_of plan) caller world end → IsFinishedBy (frame_of world caller) (frame_of end caller)
  lone_finishes caller world end v entered (over f) = absurd (stuck world caller v f entered)
  lone_finishes caller world end v entered (then_on {mid = mid} s rest) =
      let m = step→moves (rules_of plan) world caller mid s in
      by m m.touch m.acts (λ now. lone_finishes caller mid end (world_kept plan is calls clock world mid caller v m) now rest)
    where
      by : (m : Moves (rules_of plan) world caller mid) (touch : Touch) → Acts (rules_of plan) world caller touch m.frame
          → (IsEntered (frame_of mid caller) → IsFinishedBy (frame_of mid caller) (frame_of end caller)) → IsFinishedBy (frame_of world caller) (frame_of end caller)
      by m Leaves acts further =
          let how = inside_is (due plan (frame_of world caller)) acts.0 in
          finish_over world mid end caller how.0
          (new_frame plan is world mid caller m (has_frame plan is world caller entered) ∙ sym acts.1 ∙ ap (λ d. finished_by d (frame_of world caller)) how.1) rest
      by m (Puts name found) acts further =
          let one = touch_one plan caller (frame_of world caller) (due plan (frame_of world caller)) _ (m.frame, found) acts.1 in
          let new = new_frame plan is world mid caller m (has_frame plan is world caller entered) in
          let ticket : (frame_of mid caller).ticket ≡ (frame_of world caller).ticket = ap (λ (f : Frame). f.ticket) new ∙ one.0 in
          on_from (frame_of world caller) (frame_of mid caller) (frame_of end caller) ticket (ap (λ (f : Frame). f.finished) new ∙ one.1) (ap (λ (f : Frame). f.index) new ∙ one.2)
          (further (subst (λ n. 0 < n) (sym ticket) entered))

  -- and so do the lone runs of all
  all_finish : (callers : List ℕ) (world end : Shared) → IsWorldOf plan calls clock world → AreApart callers → Each (λ c. IsEntered (frame_of world c)) callers → InTurn (rules_of plan) callers world end
      → (caller : ℕ) → In caller callers → IsFinishedBy (frame_of world caller) (frame_of end caller)
  all_finish callers world end v apart entered none caller there = absurd there
  all_finish callers world end v apart entered (next {caller = first} {callers = rest} {mid = mid} run further) caller (inl same) =
      subst (λ c. IsFinishedBy (frame_of world c) (frame_of end c)) (sym same)
      (subst (IsFinishedBy (frame_of world first)) (sym (turn_frame (rules_of plan) rest mid end further first apart.0)) (lone_finishes first world mid v entered.0 run))
  all_finish callers world end v apart entered (next {caller = first} {callers = rest} {mid = mid} run further) caller (inr there) =
      let stays : frame_of mid caller ≡ frame_of world caller = alone_frame (rules_of plan) first world mid run caller (λ e. is_apart first caller rest apart.0 there (sym e)) in
      subst (λ f. IsFinishedBy f (frame_of end caller)) stays
      (all_finish rest mid end (alone_inv (rules_of plan) (Comes plan is calls clock) IsOther (ordered plan is calls clock) first world mid run v) apart.1 (still rest entered.1 apart.0) further caller there)
    where
      still : (cs : List ℕ) → Each (λ c. IsEntered (frame_of world c)) cs → IsNone first cs → Each (λ c. IsEntered (frame_of mid c)) cs
      still [] e n = tt
      still (c ∷ cs) e n = (subst IsEntered (sym (alone_frame (rules_of plan) first world mid run c (λ same. n.0 (sym same)))) e.0, still cs e.1 n.1)

  pub row_finishes : (world end : Shared) (callers : List ℕ) → IsWorldOf plan calls clock world → IsRow world clock callers → InTurn (rules_of plan) callers world end
      → (caller : ℕ) → IsEntered (frame_of world caller) → IsFinishedBy (frame_of world caller) (frame_of end caller)
  row_finishes world end callers v row runs caller entered = all_finish callers world end v (apart_by (ticket_in world) callers row.rises) row.entered runs caller (row.all caller entered)
