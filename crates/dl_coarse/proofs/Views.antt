-- What a pass comes to by one turn.
use Rattle.std.proofs.Common.{◌≡◌, ◌≢◌, ℕ, ◌+◌, ◌<◌, List, [], ◌∷◌, ◌++◌, length, sym, refl, ap, ◌∙◌, subst, arith, get_or-set_same, length-append, map}
use Rattle.std.specs.Prelude.{Option, Some, None, false}
use Rattle.std.specs.List.{zip}
use Rattle.atomic_table.specs.Table.{Me}
use Rattle.dl_ir.specs.declared.answers.Entry.{Entry}
use Rattle.dl_ir.specs.declared.answers.Refusal.{Refusal}
use Rattle.dl_ir.specs.declared.calls.Call.{Call}
use Rattle.dl_ir.specs.CallForms.{IsCallOf}
use Rattle.dl_core.specs.declared.answers.Progress.{Progress}
use Rattle.dl_core.specs.declared.answers.Progress.TheVariants as progress
use Rattle.dl_core.specs.declared.answers.Lock.TheVariants as locks
use Rattle.dl_core.specs.declared.stages.Stage.TheVariants as stages
use Rattle.dl_core.specs.Advances.{TakesPlace, Progresses, WaitsStill, IsDone, IsTurnedAway}
use Rattle.dl_core.specs.Core.{Account, Core, frame_of, account_of, entry_of, entries_of, with_call}
use Rattle.dl_core.specs.Events.{begun}
use Rattle.dl_core.specs.Frames.{Frame, idle}
use Rattle.dl_core.specs.declared.dues.Due.TheVariants.{Reserves}
use Rattle.dl_core.specs.LocalSteps.{due}
use Rattle.dl_core.specs.Passes.{OneTurn, Compared, Loaded, Look, looked, entries_in}
use Rattle.dl_core.specs.Plans.{Plan, source_of, size_of}
use Rattle.dl_core.specs.Reached.{with_begun, begins, MayBegin}
use Rattle.dl_core.specs.Turns.{MayRun, Leaves}
use Rattle.dl_coarse.specs.Marks.{IsMarked, MayMark, LookBy, StaysBy}
use Rattle.dl_coarse.specs.Sights.{Own, TurnTaken, Sight, IsResting, own_of, glanced, turn_with, with_turn, sight_after, view_with}
use Rattle.dl_coarse.specs.Turn.{Got, Missed, MayGive}
use Rattle.dl_coarse.proofs.Keeps.{begun_own}

-- what running an operation leaves, where the caller's number is written in two ways
pub leaves_here : {M : Type 0} (core_of : M → Core) (plan : Plan) (machine then : M) (number given : ℕ) (call : Call) (answer : Progress) → number ≡ given → MayRun plan (core_of machine) number call
    → (MayRun plan (core_of machine) given call → Leaves plan (core_of machine) given call answer (core_of then)) → Leaves plan (core_of machine) number call answer (core_of then)
leaves_here core_of plan machine then number given call answer same may leaves =
    subst (λ (n : ℕ). Leaves plan (core_of machine) n call answer (core_of then)) (sym same) (leaves (subst (λ (n : ℕ). MayRun plan (core_of machine) n call) same may))

is_called : stages.Called ≢ stages.Idle
is_called same = cc same

module _ {M : Type 0} (runs : Plan → M → Type 0) (core_of : M → Core) (plan : Plan) (before : Sight) (call : Call) (resting : IsResting before) where
  -- a try that found another caller's number
  pub waits : (found : ℕ) → Missed runs core_of plan before found
      → WaitsStill OneTurn plan (view_with (Some call) before) locks.Turn found (view_with (Some call) (glanced (Compared 0 found) before))
  waits found missed = record {
    busy = is_called;
    stays = refl;
    wanted = refl;
    count = refl;
    found = refl;
    is_caller = missed.caller_there;
    another = missed.another;
    several = missed.several;
  }

  module _ (machine : M) (got : Got runs core_of plan before machine) (room : length (own_of before).calls < size_of plan (own_of before).number) (fits : IsCallOf (source_of plan) call) where
    may_begin : MayBegin plan (core_of machine) got.calls (own_of before).number call
    may_begin = record {
      is_caller = got.is_caller;
      idle = got.idle (own_of before).number;
      room = (let same = ap length got.has_calls in omega arith);
      fits = fits;
    }

    pub may_run : MayRun plan (core_of machine) (own_of before).number call
    may_run = record { calls = got.calls; reached = got.reached; may = may_begin; rest = got.idle }

    module _ (then : M) (answer : Progress) (of_run : runs plan then) (leaves : Leaves plan (core_of machine) (own_of before).number call answer (core_of then)) where
      abbrev turn : TurnTaken
      turn = turn_with (core_of machine) false

      stays_by : (given : Progress) → Leaves plan (core_of machine) (own_of before).number call given (core_of then) → StaysBy given turn (core_of then)
      stays_by (progress.Done entry) is = tt
      stays_by (progress.Refused need found version) is = (sym is.leaves_by.clock_stays, sym is.leaves_by.version_stays)
      stays_by (progress.Moved event) is = absurd is.leaves_by
      stays_by (progress.Waiting lock by) is = absurd is.leaves_by
      stays_by progress.Idle is = absurd is.leaves_by
      stays_by (progress.Looked place) is = absurd is.leaves_by
      stays_by (progress.Raced seen now) is = absurd is.leaves_by

      pub may_mark : (sight : Sight) (old : ℕ) → sight ≡ with_turn (core_of machine) (glanced (Compared 0 0) before) → old ≡ (core_of machine).pool.version → MayMark sight old answer (core_of then)
      may_mark sight old same was = record { turn = turn; has = ap (λ (s : Sight). s.turn) same; clock = leaves.clock; version = leaves.version; was = was; stays = stays_by answer leaves }

      -- the seat as it is marked
      abbrev pub marked_sight : (look : Look) → Sight
      marked_sight look = record before { turn = Some (record turn { clock = (core_of then).clock; version = (core_of then).pool.version }); look = look }

      pub is_marked : (me_got marked : Me (Option M) Sight) → me_got.0 ≡ with_turn (core_of machine) (glanced (Compared 0 0) before) → IsMarked (core_of then).clock (core_of then).pool.version me_got marked
          → marked.0 ≡ marked_sight marked.0.look
      is_marked me_got marked same is =
          is.sight ∙ ap (λ (s : Sight). record s { turn = marked.0.turn; look = marked.0.look }) same
          ∙ ap (λ (t : Option TurnTaken). record before { turn = t; look = marked.0.look }) (is.turn_then turn (ap (λ (s : Sight). s.turn) same))

      may_give_sight : (look : Look) → MayGive runs core_of plan (marked_sight look) then call answer
      may_give_sight look = record {
        turn = record turn { clock = (core_of then).clock; version = (core_of then).pool.version };
        has = refl;
        one = resting.one;
        fits = fits;
        room = room;
        of_run = of_run;
        leaves = leaves;
        clock = refl;
        version = refl;
        front = got.front;
        known = got.known;
      }

      pub may_give : (sight : Sight) → sight ≡ marked_sight sight.look → MayGive runs core_of plan sight then call answer
      may_give sight same = subst (λ (s : Sight). MayGive runs core_of plan s then call answer) (sym same) (may_give_sight sight.look)

      abbrev own : Own
      own = own_of before

      takes_place : (given : Progress) (sight : Sight) → Leaves plan (core_of machine) own.number call given (core_of then)
          → TakesPlace OneTurn plan (view_with (Some call) before) given (view_with None (sight_after (core_of then) call given (record before { turn = sight.turn; look = sight.look })))
      takes_place given sight is =
          let few = got.is_caller.to_last in let many = got.frames in let lists = got.lists in record {
            core = with_call (core_of machine) own.number call;
            begun = with_begun got.calls own.number call;
            reached = begins own.number call got.reached may_begin;
            has_frame = get_or-set_same (core_of machine).world.frames own.number (begun call (frame_of (core_of machine).world own.number)) idle (omega arith) ∙ ap (begun call) got.has_frame;
            has_account = got.has_account;
            has_calls = begun_own got.calls own.number call got.is_caller.from_one (omega arith) ∙ ap (λ (calls : List Call). calls ++ call ∷ []) got.has_calls;
            end = core_of then;
            steps = is.runs;
            frame_after = refl;
            account_after = refl;
          }

      entries_before : entries_of (core_of machine) own.number ≡ entries_in (view_with (Some call) before)
      entries_before =
          ap (λ (f : Frame). map (entry_of own.number) (zip f.finished (account_of (core_of machine) own.number).versions)) got.has_frame
          ∙ ap (λ (a : Account). map (entry_of own.number) (zip own.frame.finished a.versions)) got.has_account

      refusals_before : (account_of (core_of machine) own.number).refusals ≡ own.account.refusals
      refusals_before = ap (λ (a : Account). a.refusals) got.has_account

      many_calls : length (own.calls ++ call ∷ []) ≡ length own.calls + 1
      many_calls = length-append own.calls (call ∷ [])

      index_is : (frame_of (core_of machine).world own.number).index + 1 ≡ length (own.calls ++ call ∷ [])
      index_is = let a = ap (λ (f : Frame). f.index) got.has_frame in let b = resting.index in let m = many_calls in omega arith

      -- the seat rests after the turn is given back
      pub rests : (sight marked : Sight) (look : Look) → marked ≡ marked_sight look → sight ≡ sight_after (core_of then) call answer marked → IsResting sight × ((own_of sight).number ≡ own.number)
      rests sight marked look marked_is is =
          let whole : sight ≡ sight_after (core_of then) call answer (marked_sight look) = is ∙ ap (sight_after (core_of then) call answer) marked_is in
          subst (λ (s : Sight). IsResting s × ((own_of s).number ≡ own.number)) (sym whole) (
            record {
              one = refl;
              no_turn = refl;
              idle = leaves.rest;
              index = leaves.index ∙ index_is;
              unreserved = leaves.unreserved;
            },
            refl,
          )

      is_done : (entry : Entry) (sight : Sight) → Leaves plan (core_of machine) own.number call (progress.Done entry) (core_of then)
          → IsDone OneTurn plan (view_with (Some call) before) entry (view_with None (sight_after (core_of then) call (progress.Done entry) (record before { turn = sight.turn; look = sight.look })))
      is_done entry sight is =
          let by = is.leaves_by in
          let front = got.front in
          let known = got.known in
          let ticket = by.ticket in
          let nothing = resting.unreserved in record {
            takes_place = takes_place (progress.Done entry) sight is;
            same = record { caller = refl; calls = refl };
            busy = is_called;
            idle = record { stage = is.rest; unreserved = is.unreserved };
            entries = by.entries ∙ ap (λ (entries : List Entry). entries ++ entry ∷ []) entries_before;
            refusals = by.refusals ∙ refusals_before;
            caller = by.of_caller;
            index = by.index ∙ index_is;
            ticket = record { drawn_before = λ kept. absurd (omega arith); drawn_now = λ none. omega arith };
            reserved = record { made_before = λ kept. absurd (omega arith); made_now = λ none made. (let above = by.reserved made in omega arith) };
            returned = λ made. (let above = by.returned made in omega arith);
            front = refl;
            known = refl;
            round = refl;
          }

      is_turned_away : (need found version old : ℕ) (sight : Sight) → Leaves plan (core_of machine) own.number call (progress.Refused need found version) (core_of then)
          → old ≡ (core_of machine).pool.version → sight.look ≡ looked (Loaded 2 old) (looked (Compared 0 0) before.look)
          → IsTurnedAway OneTurn plan (view_with (Some call) before) need found version (view_with None (sight_after (core_of then) call (progress.Refused need found version) (record before { turn = sight.turn; look = sight.look })))
      is_turned_away need found version old sight is was look_is =
          let by = is.leaves_by in
          let known = got.known in
          let at = by.at in
          let count = ap (λ (l : Look). l.count) look_is in record {
            takes_place = takes_place (progress.Refused need found version) sight is;
            same = record { caller = refl; calls = refl };
            busy = is_called;
            idle = record { stage = is.rest; unreserved = is.unreserved };
            entries = by.entries ∙ entries_before;
            refusals = by.refusals ∙ ap (λ (refusals : List Refusal). refusals ++ record { caller = own.number; index = (frame_of (core_of machine).world own.number).index + 1; need = need; found = found; version = version } ∷ []) refusals_before
                ∙ ap (λ (index : ℕ). own.account.refusals ++ record { caller = own.number; index = index; need = need; found = found; version = version } ∷ []) index_is;
            due = subst (λ (f : Frame). due plan (begun call f) ≡ Reserves need) got.has_frame by.due;
            short = by.short;
            seen = record { count = omega arith; load = ap (λ (l : Look). l.last) look_is ∙ ap (λ (v : ℕ). Loaded 2 v) (was ∙ sym at) };
            front = refl;
            not_before = omega arith;
            known = refl;
            round = refl;
          }

      progresses_by : (given : Progress) (old : ℕ) (sight : Sight) → Leaves plan (core_of machine) own.number call given (core_of then) → old ≡ (core_of machine).pool.version
          → LookBy given old (looked (Compared 0 0) before.look) sight.look
          → Progresses OneTurn plan (view_with (Some call) before) given (view_with None (sight_after (core_of then) call given (record before { turn = sight.turn; look = sight.look })))
      progresses_by (progress.Done entry) old sight is was look = is_done entry sight is
      progresses_by (progress.Refused need found version) old sight is was look = is_turned_away need found version old sight is was look
      progresses_by (progress.Moved event) old sight is was look = absurd is.leaves_by
      progresses_by (progress.Waiting lock by) old sight is was look = absurd is.leaves_by
      progresses_by progress.Idle old sight is was look = absurd is.leaves_by
      progresses_by (progress.Looked place) old sight is was look = absurd is.leaves_by
      progresses_by (progress.Raced seen now) old sight is was look = absurd is.leaves_by

      pub progresses : (old : ℕ) (me_got marked : Me (Option M) Sight) (sight : Sight) → old ≡ (core_of machine).pool.version
          → me_got.0 ≡ with_turn (core_of machine) (glanced (Compared 0 0) before) → IsMarked (core_of then).clock (core_of then).pool.version me_got marked
          → LookBy answer old me_got.0.look marked.0.look → sight ≡ sight_after (core_of then) call answer marked.0
          → Progresses OneTurn plan (view_with (Some call) before) answer (view_with None sight)
      progresses old me_got marked sight was same is look settled_is =
          let whole : marked.0 ≡ record before { turn = marked.0.turn; look = marked.0.look } = is.sight ∙ ap (λ (s : Sight). record s { turn = marked.0.turn; look = marked.0.look }) same in
          subst (λ (s : Sight). Progresses OneTurn plan (view_with (Some call) before) answer (view_with None s)) (sym (settled_is ∙ ap (sight_after (core_of then) call answer) whole))
          (progresses_by answer old marked.0 leaves was (subst (λ (l : Look). LookBy answer old l marked.0.look) (ap (λ (s : Sight). s.look) same) look))
