-- What giving a pass a step makes of it, by what is answered.
use Rattle.std.specs.Prelude.{◌≡◌, ◌≢◌, ◌+◌, ◌%◌, ◌<◌, ◌≤◌, ℕ, max, Some, [], ◌∷◌, ◌++◌, Contains, length}
use Rattle.dl_ir.specs.declared.answers.Entry.{Entry}
use Rattle.dl_ir.specs.declared.answers.Refusal.{Refusal}
use Rattle.dl_ir.specs.declared.names.Name.{Name}
use Rattle.dl_core.specs.declared.answers.Event.{Event}
use Rattle.dl_core.specs.declared.answers.Event.TheVariants as events
use Rattle.dl_core.specs.declared.answers.Lock.{Lock}
use Rattle.dl_core.specs.declared.answers.Lock.TheVariants as locks
use Rattle.dl_core.specs.declared.answers.Progress.{Progress}
use Rattle.dl_core.specs.declared.answers.Progress.TheVariants as progress
use Rattle.dl_core.specs.Plans.{Plan, IsCaller}
use Rattle.dl_core.specs.declared.dues.Due.TheVariants.{Reserves, TakesRoot, Takes, Makes}
use Rattle.dl_core.specs.LocalSteps.{due}
use Rattle.dl_core.specs.Core.{Core, frame_of, account_of, step}
use Rattle.dl_core.specs.Reached.{Calls, calls_of, IsReached}
use Rattle.dl_core.specs.Passes.{Manner, OneTurn, OneLockEach, Loaded, Compared, Look, Round, PassView, entries_in, refusals_in, IsIdle, IsBusy, word_of, held_word, place_word, pool_word}

-- a caller goes on alone, up to a step with this answer
pub data RunsTo (plan : Plan) (caller : ℕ) (answer : Progress) : Core → Core → Type 0 where
  ends : {core end : Core} → step plan core caller ≡ Some (end, answer) → RunsTo plan caller answer core end
  goes_on : {core mid end : Core} (event : Event) → step plan core caller ≡ Some (mid, progress.Moved event) → RunsTo plan caller answer mid end → RunsTo plan caller answer core end

-- the caller's step gives the answer; under one turn for all, its steps up to the end of the operation do
abbrev pub Steps : Manner → Plan → ℕ → Progress → Core → Core → Type 0
Steps OneTurn plan caller answer core end = RunsTo plan caller answer core end
Steps OneLockEach plan caller answer core end = step plan core caller ≡ Some (end, answer)

-- on some state to which a run comes, in which the caller has the frame, the account and the calls of its pass, it is the step that gives
-- this answer, and it leaves the frame and the account that the pass has then
pub record TakesPlace (manner : Manner) (plan : Plan) (before : PassView) (answer : Progress) (after : PassView) : Type 0 where
  pub core : Core
  pub begun : Calls
  pub reached : IsReached plan core begun
  pub has_frame : frame_of core.world before.caller ≡ before.frame
  pub has_account : account_of core before.caller ≡ before.account
  pub has_calls : calls_of begun before.caller ≡ before.calls
  pub end : Core
  pub steps : Steps manner plan before.caller answer core end
  pub frame_after : frame_of end.world before.caller ≡ after.frame
  pub account_after : account_of end before.caller ≡ after.account

-- the pass is the same caller's, and no call was begun
pub record IsSamePass (before after : PassView) : Type 0 where
  pub caller : after.caller ≡ before.caller
  pub calls : after.calls ≡ before.calls

-- a new number is above those known before, and is the greatest known after
pub record IsNew (before number after : ℕ) : Type 0 where
  pub above : before < number
  pub now : after ≡ number

-- the front after an event, and the version that is known
abbrev pub FrontBy : Event → ℕ → ℕ → Type 0
FrontBy (events.Enter ticket) before after = IsNew before ticket after
FrontBy event before after = after ≡ before

abbrev pub KnownBy : Event → ℕ → ℕ → Type 0
KnownBy (events.Reserve need version) before after = IsNew before version after
KnownBy event before after = after ≡ before

-- the ticket of the call in hand after an event, and the version of its reservation
abbrev pub ticket_by : Event → ℕ → ℕ
ticket_by (events.Enter ticket) before = ticket
ticket_by event before = before

abbrev pub reserved_by : Event → ℕ → ℕ
reserved_by (events.Reserve need version) before = version
reserved_by event before = before

-- the place that is tried next, round the row of all places
abbrev pub trying : Plan → Round → ℕ
trying plan round = (round.from + round.tries) % plan.places

-- an object was made at the place tried last, and the next one is tried behind it
abbrev pub round_by : Plan → Event → Round → Round
round_by plan (events.Make name) round = record { from = (trying plan round + 1) % plan.places; tries = 0 }
round_by plan event round = round

-- the event took place
pub record Moves (manner : Manner) (plan : Plan) (before : PassView) (event : Event) (after : PassView) : Type 0 where
  pub one_event : manner ≡ OneLockEach
  pub takes_place : TakesPlace manner plan before (progress.Moved event) after
  pub same : IsSamePass before after
  pub busy : IsBusy before × IsBusy after
  pub call : after.frame.call ≡ before.frame.call
  pub entries : entries_in after ≡ entries_in before
  pub refusals : refusals_in after ≡ refusals_in before
  pub ticket : after.frame.ticket ≡ ticket_by event before.frame.ticket
  pub reserved : after.account.reserved_at ≡ reserved_by event before.account.reserved_at
  pub front : FrontBy event before.front after.front
  pub known : KnownBy event before.known after.known
  pub round : after.round ≡ round_by plan event before.round

-- the object that the next event takes stands at this place, as the pass has found
pub record TakesAt (plan : Plan) (view : PassView) (place : ℕ) : Type 0 where
  pub name : Name
  pub due : due plan view.frame ≡ Takes name
  pub stands : Contains view.places (name, place)

-- the lock is that of the object that the next event takes; under one turn for all it is the turn
abbrev pub IsDueLock : Plan → PassView → Lock → Type 0
IsDueLock plan view locks.Turn = ⊥
IsDueLock plan view (locks.Root number) = due plan view.frame ≡ TakesRoot number
IsDueLock plan view (locks.Object name) = ⊥
IsDueLock plan view (locks.Place place) = TakesAt plan view place

abbrev pub IsWanted : Manner → Plan → PassView → Lock → Type 0
IsWanted OneTurn plan view lock = lock ≡ locks.Turn
IsWanted OneLockEach plan view lock = IsDueLock plan view lock

-- another caller has what the next event takes: the one step on a shared word, a compare and exchange, found the mark of that caller
pub record WaitsStill (manner : Manner) (plan : Plan) (before : PassView) (lock : Lock) (by : ℕ) (after : PassView) : Type 0 where
  pub busy : IsBusy before
  pub stays : after ≡ record before { look = after.look }
  pub wanted : IsWanted manner plan before lock
  pub count : after.look.count ≡ before.look.count + 1
  pub found : after.look.last ≡ Compared (word_of plan lock) (held_word lock by)
  pub is_caller : IsCaller plan by
  pub another : by ≢ before.caller
  pub several : length plan.sizes ≢ 1

-- the call needs more places than the step found free, and the step that tells it: a load of the pool word; under one turn for all,
-- after the turn was taken and before it is given back, a load of the word with the version
pub record SeesPool (before : Look) (found version : ℕ) (after : Look) : Type 0 where
  pub count : after.count ≡ before.count + 1
  pub load : after.last ≡ Loaded 0 (pool_word version found)

pub record SeesVersion (before : Look) (version : ℕ) (after : Look) : Type 0 where
  pub count : after.count ≡ before.count + 3
  pub load : after.before ≡ Loaded 2 version

abbrev pub Sees : Manner → Look → ℕ → ℕ → Look → Type 0
Sees OneTurn before found version after = SeesVersion before version after
Sees OneLockEach before found version after = SeesPool before found version after

abbrev pub refusal_for : PassView → ℕ → ℕ → ℕ → Refusal
refusal_for view need found version = record { caller = view.caller; index = length view.calls; need = need; found = found; version = version }

-- the call was refused
pub record IsTurnedAway (manner : Manner) (plan : Plan) (before : PassView) (need found version : ℕ) (after : PassView) : Type 0 where
  pub takes_place : TakesPlace manner plan before (progress.Refused need found version) after
  pub same : IsSamePass before after
  pub busy : IsBusy before
  pub idle : IsIdle after
  pub entries : entries_in after ≡ entries_in before
  pub refusals : refusals_in after ≡ refusals_in before ++ refusal_for before need found version ∷ []
  pub due : due plan before.frame ≡ Reserves need
  pub short : found < need
  pub seen : Sees manner before.look found version after.look
  pub front : after.front ≡ before.front
  pub not_before : before.known ≤ version
  pub known : after.known ≡ version
  pub round : after.round ≡ before.round

-- an entry's ticket is the one kept with the call in hand; where none was kept it is drawn now, and is above the front
pub record HasTicket (kept front ticket : ℕ) : Type 0 where
  pub drawn_before : 0 < kept → ticket ≡ kept
  pub drawn_now : kept ≡ 0 → front < ticket

-- an entry's reservation has the version kept with the call in hand; where none was kept it made none, or makes it now
pub record HasVersion (kept known version : ℕ) : Type 0 where
  pub made_before : 0 < kept → version ≡ kept
  pub made_now : kept ≡ 0 → 0 < version → known < version

-- the operation is finished
pub record IsDone (manner : Manner) (plan : Plan) (before : PassView) (entry : Entry) (after : PassView) : Type 0 where
  pub takes_place : TakesPlace manner plan before (progress.Done entry) after
  pub same : IsSamePass before after
  pub busy : IsBusy before
  pub idle : IsIdle after
  pub entries : entries_in after ≡ entries_in before ++ entry ∷ []
  pub refusals : refusals_in after ≡ refusals_in before
  pub caller : entry.caller ≡ before.caller
  pub index : entry.index ≡ length before.calls
  pub ticket : HasTicket before.frame.ticket before.front entry.ticket
  pub reserved : HasVersion before.account.reserved_at before.known entry.reserved_at
  pub returned : 0 < entry.returned_at → before.known < entry.returned_at
  pub front : after.front ≡ max before.front entry.ticket
  pub known : after.known ≡ max (max before.known entry.reserved_at) entry.returned_at
  pub round : after.round ≡ before.round

-- no call is in hand, and nothing is done
pub record IsNothing (before after : PassView) : Type 0 where
  pub idle : IsIdle before
  pub stays : after ≡ before

-- the place that was tried for an object is not vacant, as a compare and exchange found
pub record FindsFilled (manner : Manner) (plan : Plan) (before : PassView) (place : ℕ) (after : PassView) : Type 0 where
  pub one_event : manner ≡ OneLockEach
  pub busy : IsBusy before
  pub name : Name
  pub kind : ℕ
  pub due : due plan before.frame ≡ Makes name kind
  pub tried : place ≡ trying plan before.round
  pub stays : after ≡ record before { look = after.look; round = record before.round { tries = before.round.tries + 1 } }
  pub count : after.look.count ≡ before.look.count + 1
  pub state : ℕ
  pub found : after.look.last ≡ Compared (place_word plan place) state
  pub filled : 0 < state
  -- a caller alone finds a vacant place before it has tried them all
  pub alone : length plan.sizes ≡ 1 → before.round.tries + 1 < plan.places

-- the pool has changed between a load of its word and a compare and exchange
pub record IsRaced (manner : Manner) (plan : Plan) (before : PassView) (seen now : ℕ) (after : PassView) : Type 0 where
  pub one_event : manner ≡ OneLockEach
  pub busy : IsBusy before
  pub need : ℕ
  pub due : due plan before.frame ≡ Reserves need
  pub stays : after ≡ record before { look = after.look }
  pub count : after.look.count ≡ before.look.count + 2
  pub free : ℕ
  pub enough : need ≤ free
  pub loaded : after.look.before ≡ Loaded 0 (pool_word seen free)
  pub free_now : ℕ
  pub found : after.look.last ≡ Compared 0 (pool_word now free_now)
  pub later : seen < now
  pub several : length plan.sizes ≢ 1

-- what giving a pass a step makes of it, by what is answered
abbrev pub Progresses : Manner → Plan → PassView → Progress → PassView → Type 0
Progresses manner plan before (progress.Moved event) after = Moves manner plan before event after
Progresses manner plan before (progress.Waiting lock by) after = WaitsStill manner plan before lock by after
Progresses manner plan before (progress.Refused need found version) after = IsTurnedAway manner plan before need found version after
Progresses manner plan before (progress.Done entry) after = IsDone manner plan before entry after
Progresses manner plan before progress.Idle after = IsNothing before after
Progresses manner plan before (progress.Looked place) after = FindsFilled manner plan before place after
Progresses manner plan before (progress.Raced seen now) after = IsRaced manner plan before seen now after
