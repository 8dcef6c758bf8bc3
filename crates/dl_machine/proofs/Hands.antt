-- The call in hand, from its begin to its answer.
use Rattle.std.proofs.Common.{◌≡◌, ℕ, ◌+◌, ◌≤◌, [], ◌∷◌, ◌++◌, length, length-append, refl, sym, ap, ◌∙◌, subst, arith}
use Rattle.std.specs.Prelude.{max}
use Rattle.std.proofs.Math.Nat.{le-max_left, le-max_right}
use native.Mathlib.Decide.{ℕ_discrete}
use mathlib.Core.Logic.{dite}
use Rattle.dl_ir.specs.declared.answers.Entry.{Entry}
use Rattle.dl_ir.specs.declared.calls.Call.{Call}
use Rattle.dl_core.specs.declared.answers.Event.{Event}
use Rattle.dl_core.specs.declared.answers.Event.TheVariants as events
use Rattle.dl_core.specs.declared.stages.Stage.TheVariants as stages
use Rattle.dl_core.specs.Plans.{Plan}
use Rattle.dl_core.specs.Passes.{Manner, PassView, Look, Round, IsIdle, begun_by}
use Rattle.dl_core.specs.Advances.{Moves, IsTurnedAway, IsDone, FrontBy, KnownBy, ticket_by, reserved_by}
use Rattle.dl_machine.specs.Replies.{IsAnswered, IsRefused, IsInHand, IsNewer}

pub begins : (call : Call) (before : PassView) → IsIdle before → before.frame.ticket ≡ before.frame.ticket → IsInHand call before (begun_by call before)
begins call before idle _ = record {
  caller = refl;
  calls = refl;
  busy = λ (e : stages.Called ≡ stages.Idle). cc e;
  entries = refl;
  refusals = refl;
  front = omega arith;
  known = omega arith;
  ticket = λ some. absurd (omega arith);
  reserved = λ some. absurd (let none = idle.unreserved in omega arith);
}

front_on : (event : Event) (before now after ticket : ℕ) → before ≤ now → FrontBy event now after → IsNewer before ticket now → (before ≤ after) × IsNewer before (ticket_by event ticket) after
front_on (events.Enter drawn) before now after ticket up is newer = let a = is.above in let b = is.now in (omega arith, λ some. (omega arith, omega arith))
front_on (events.Reserve need version) before now after ticket up is newer = (omega arith, λ some. let n = newer some in (omega arith, omega arith))
front_on (events.TakeRoot root) before now after ticket up is newer = (omega arith, λ some. let n = newer some in (omega arith, omega arith))
front_on (events.Read name field) before now after ticket up is newer = (omega arith, λ some. let n = newer some in (omega arith, omega arith))
front_on (events.Write name field) before now after ticket up is newer = (omega arith, λ some. let n = newer some in (omega arith, omega arith))
front_on (events.Take name) before now after ticket up is newer = (omega arith, λ some. let n = newer some in (omega arith, omega arith))
front_on (events.SeeSealed name) before now after ticket up is newer = (omega arith, λ some. let n = newer some in (omega arith, omega arith))
front_on (events.LetGo name) before now after ticket up is newer = (omega arith, λ some. let n = newer some in (omega arith, omega arith))
front_on (events.GiveUp name) before now after ticket up is newer = (omega arith, λ some. let n = newer some in (omega arith, omega arith))
front_on (events.Seal name) before now after ticket up is newer = (omega arith, λ some. let n = newer some in (omega arith, omega arith))
front_on (events.Make name) before now after ticket up is newer = (omega arith, λ some. let n = newer some in (omega arith, omega arith))

known_on : (event : Event) (before now after version : ℕ) → before ≤ now → KnownBy event now after → IsNewer before version now → (before ≤ after) × IsNewer before (reserved_by event version) after
known_on (events.Reserve need made) before now after version up is newer = let a = is.above in let b = is.now in (omega arith, λ some. (omega arith, omega arith))
known_on (events.Enter drawn) before now after version up is newer = (omega arith, λ some. let n = newer some in (omega arith, omega arith))
known_on (events.TakeRoot root) before now after version up is newer = (omega arith, λ some. let n = newer some in (omega arith, omega arith))
known_on (events.Read name field) before now after version up is newer = (omega arith, λ some. let n = newer some in (omega arith, omega arith))
known_on (events.Write name field) before now after version up is newer = (omega arith, λ some. let n = newer some in (omega arith, omega arith))
known_on (events.Take name) before now after version up is newer = (omega arith, λ some. let n = newer some in (omega arith, omega arith))
known_on (events.SeeSealed name) before now after version up is newer = (omega arith, λ some. let n = newer some in (omega arith, omega arith))
known_on (events.LetGo name) before now after version up is newer = (omega arith, λ some. let n = newer some in (omega arith, omega arith))
known_on (events.GiveUp name) before now after version up is newer = (omega arith, λ some. let n = newer some in (omega arith, omega arith))
known_on (events.Seal name) before now after version up is newer = (omega arith, λ some. let n = newer some in (omega arith, omega arith))
known_on (events.Make name) before now after version up is newer = (omega arith, λ some. let n = newer some in (omega arith, omega arith))

module _ (manner : Manner) (plan : Plan) (call : Call) (before now after : PassView) (in_hand : IsInHand call before now) where
  pub moves : (event : Event) → Moves manner plan now event after → IsInHand call before after
  moves event moved =
      let fronts = front_on event before.front now.front after.front now.frame.ticket in_hand.front moved.front in_hand.ticket in
      let versions = known_on event before.known now.known after.known now.account.reserved_at in_hand.known moved.known in_hand.reserved in record {
        caller = moved.same.caller ∙ in_hand.caller;
        calls = moved.same.calls ∙ in_hand.calls;
        busy = moved.busy.1;
        entries = moved.entries ∙ in_hand.entries;
        refusals = moved.refusals ∙ in_hand.refusals;
        front = fronts.0;
        known = versions.0;
        ticket = subst (λ ticket. IsNewer before.front ticket after.front) (sym moved.ticket) fronts.1;
        reserved = subst (λ version. IsNewer before.known version after.known) (sym moved.reserved) versions.1;
      }

  -- what looked at shared words and found nothing changes nothing else
  pub stays : (look : Look) (round : Round) → after ≡ record now { look = look; round = round } → IsInHand call before after
  stays look round same = subst (IsInHand call before) (sym same) record {
    caller = in_hand.caller;
    calls = in_hand.calls;
    busy = in_hand.busy;
    entries = in_hand.entries;
    refusals = in_hand.refusals;
    front = in_hand.front;
    known = in_hand.known;
    ticket = in_hand.ticket;
    reserved = in_hand.reserved;
  }

  pub is_answered : (entry : Entry) → IsDone manner plan now entry after → IsAnswered call before entry after
  is_answered entry done =
      let up = in_hand.front in
      let known_up = in_hand.known in
      let f = done.front in
      let k = done.known in
      let f1 = le-max_left now.front entry.ticket in
      let f2 = le-max_right now.front entry.ticket in
      let k1 = le-max_left (max now.known entry.reserved_at) entry.returned_at in
      let k2 = le-max_right (max now.known entry.reserved_at) entry.returned_at in
      let k3 = le-max_left now.known entry.reserved_at in
      let k4 = le-max_right now.known entry.reserved_at in
      let many : length now.calls ≡ length before.calls + 1 = ap length in_hand.calls ∙ length-append before.calls (call ∷ []) in record {
        has_run = record {
          caller = done.same.caller ∙ in_hand.caller;
          calls = done.same.calls ∙ in_hand.calls;
          idle = done.idle;
          front = omega arith;
          known = omega arith;
        };
        entries = done.entries ∙ ap (λ entries. entries ++ entry ∷ []) in_hand.entries;
        refusals = done.refusals ∙ in_hand.refusals;
        caller = done.caller ∙ in_hand.caller;
        index = done.index ∙ many;
        drawn = dite (ℕ_discrete now.frame.ticket 0)
            (λ none. let above = done.ticket.drawn_now none in omega arith)
            (λ some. let is = done.ticket.drawn_before (omega (arith, some)) in let above = in_hand.ticket (omega (arith, some)) in omega arith);
        front = omega arith;
        reserved = λ made. dite (ℕ_discrete now.account.reserved_at 0)
            (λ none. let above = done.reserved.made_now none made in omega arith)
            (λ some. let is = done.reserved.made_before (omega (arith, some)) in let above = in_hand.reserved (omega (arith, some)) in omega arith);
        returned = λ made. let above = done.returned made in omega arith;
        reserved_known = omega arith;
        returned_known = omega arith;
      }

  pub is_refused : (need found version : ℕ) → IsTurnedAway manner plan now need found version after → IsRefused call before need found version after
  is_refused need found version away =
      let up = in_hand.front in
      let known_up = in_hand.known in
      let f = away.front in
      let k = away.known in
      let not_before = away.not_before in
      let many : length now.calls ≡ length before.calls + 1 = ap length in_hand.calls ∙ length-append before.calls (call ∷ []) in record {
        has_run = record {
          caller = away.same.caller ∙ in_hand.caller;
          calls = away.same.calls ∙ in_hand.calls;
          idle = away.idle;
          front = omega arith;
          known = omega arith;
        };
        entries = away.entries ∙ in_hand.entries;
        refusals = away.refusals ∙ (search (in_hand.refusals, in_hand.caller, many));
        short = away.short;
        not_before = omega arith;
        known = omega arith;
      }
