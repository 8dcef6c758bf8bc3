-- How far a run is from its end.
use Rattle.std.proofs.Common.{◌≡◌, inl, inr, ℕ, ◌+◌, ◌<◌, ◌≤◌, List, [], ◌∷◌, Some, refl, sym, ap, subst, ◌∙◌, arith}
use Rattle.dl_shape.proofs.Rising.{rises_same}
use Rattle.dl_core.specs.declared.answers.Progress.{Progress}
use Rattle.dl_core.specs.Plans.{Plan, IsPlan}
use Rattle.dl_core.specs.Frames.{IsEntered}
use Rattle.dl_core.specs.Steps.{Alone, over, then_on, InTurn, next}
use Rattle.dl_core.specs.Core.{Core, Shared, frame_of, rules_of, step}
use Rattle.dl_core.specs.Reached.{Calls, IsReached}
use Rattle.dl_core.specs.Reach.{ticket_in}
use Rattle.dl_order.specs.Serial.{AreRunning, Rests}
use Rattle.dl_core.proofs.Diamond.{step→moves}
use Rattle.dl_core.proofs.Machine.{step_is}
use Rattle.dl_order.specs.Lengths.{steps_in_turn}
use Rattle.dl_order.specs.Measure.{steps_to_end, RestsAreOne, OneStepLess, OldestMoves}
use Rattle.dl_order.proofs.Always.{one_less, serial_on}
use Rattle.dl_core.proofs.Elements.{In, each_of, each_in, in_contains, contains_in, pairs_up, up_rises}
use Rattle.dl_order.proofs.Runs.{InTurnIn, turn_one}
use Rattle.dl_order.proofs.Serial.{IsRow, row_runs, IsLeft}
use Rattle.dl_order.proofs.Worlds.{nowhere_unentered, moves_step}

-- the callers that have entered, in rising tickets, are one list
running_one : (world : Shared) (xs ys : List ℕ) → AreRunning world xs → AreRunning world ys → xs ≡ ys
running_one world xs ys a b =
    rises_same (ticket_in world) xs ys (up_rises (ticket_in world) xs (pairs_up (ticket_in world) xs a.rising)) (up_rises (ticket_in world) ys (pairs_up (ticket_in world) ys b.rising))
    (λ c there. (b.all c).0 ((a.all c).1 there)) (λ c there. (a.all c).0 ((b.all c).1 there))

pub rests_are_one : RestsAreOne
rests_are_one plan core calls end other is reached rests more =
    let same = running_one core.world more.callers rests.callers more.are rests.are in
    turn_one (rules_of plan) rests.callers core.world end other rests.runs (steps_in_turn (rules_of plan) more.runs)
    (subst (λ cs. InTurnIn (rules_of plan) (steps_in_turn (rules_of plan) more.runs) cs core.world other) same (more.runs, refl))

module _ (plan : Plan) (is : IsPlan plan) where
  left_from : (core : Core) (calls : Calls) (end : Shared) → IsReached plan core calls → (rests : Rests plan core.world end) → IsLeft plan core.world core.clock end (steps_to_end rests)
  left_from core calls end reached rests =
      let serial = serial_on plan is core calls reached in
      record {
        callers = rests.callers;
        row = record {
          entered = each_of (λ c. IsEntered (frame_of core.world c)) rests.callers (λ c there. (rests.are.all c).1 (in_contains c rests.callers there));
          low = each_of (λ c. ticket_in core.world c ≤ core.clock) rests.callers
              (λ c there. each_in (λ c. ticket_in core.world c ≤ core.clock) c serial.callers serial.row.low (serial.row.all c ((rests.are.all c).1 (in_contains c rests.callers there))));
          rises = pairs_up (ticket_in core.world) rests.callers rests.are.rising;
          all = λ c e. contains_in c rests.callers ((rests.are.all c).0 e);
        };
        runs = (rests.runs, refl);
      }

  rests_left : (core : Core) (end : Shared) (count : ℕ) → IsLeft plan core.world core.clock end count → (left : Rests plan core.world end) × (steps_to_end left ≡ count)
  rests_left core end count left = (record { callers = left.callers; are = row_runs core.world core.clock left.callers left.row; runs = left.runs.0 }, left.runs.1)

  one_step_here : (core after : Core) (calls : Calls) (caller : ℕ) (answer : Progress) (end : Shared) → IsReached plan core calls → IsEntered (frame_of core.world caller)
      → step plan core caller ≡ Some (after, answer) → (rests : Rests plan core.world end) → (left : Rests plan after.world end) × (steps_to_end rests ≡ steps_to_end left + 1)
  one_step_here core after calls caller answer end reached entered steps rests =
      let on = one_less plan is core after calls caller end (steps_to_end rests) reached (left_from core calls end reached rests) entered (step_is plan core caller after answer steps) in
      let left = rests_left after end on.1.0 on.1.2 in
      (left.0, on.1.1 ∙ ap (λ n. n + 1) (sym left.1))

  -- the first of those that have entered
  first_moves : (core : Core) (calls : Calls) (caller : ℕ) (end : Shared) (callers : List ℕ) → IsReached plan core calls → IsRow core.world core.clock callers → InTurn (rules_of plan) callers core.world end
      → IsEntered (frame_of core.world caller) → ((other : ℕ) → IsEntered (frame_of core.world other) → ticket_in core.world caller ≤ ticket_in core.world other)
      → (after : Core) × (answer : Progress) × (step plan core caller ≡ Some (after, answer))
  first_moves core calls caller end [] reached row runs entered oldest = absurd (row.all caller entered)
  first_moves core calls caller end (first ∷ rest) reached row (next {mid = mid} run more) entered oldest = by (row.all caller entered)
    where
      begins : (c : ℕ) → IsEntered (frame_of core.world c) → (d : Shared) → Alone (rules_of plan) c core.world d → (after : Core) × (answer : Progress) × (step plan core c ≡ Some (after, answer))
      begins c e d (over f) = absurd (nowhere_unentered plan is core calls reached c f e)
      begins c e d (then_on {mid = on} s further) = let made = moves_step plan core c on (step→moves (rules_of plan) core.world c on s) in (made.after, made.answer, made.steps)

      by : In caller (first ∷ rest) → (after : Core) × (answer : Progress) × (step plan core caller ≡ Some (after, answer))
      by (inl same) = begins caller entered mid (subst (λ c. Alone (rules_of plan) c core.world mid) (sym same) run)
      by (inr there) =
          let lt : ticket_in core.world first < ticket_in core.world caller = each_in (λ c. ticket_in core.world first < ticket_in core.world c) caller rest row.rises.0 there in
          absurd (omega (arith, lt, oldest first row.entered.0))

pub one_step_less : OneStepLess
one_step_less plan core after calls caller answer end is reached entered steps rests = one_step_here plan is core after calls caller answer end reached entered steps rests

pub oldest_moves : OldestMoves
oldest_moves plan core calls caller is reached entered oldest =
    let serial = serial_on plan is core calls reached in
    first_moves plan is core calls caller serial.end serial.callers reached serial.row serial.runs entered oldest
