-- The machine of all callers: its state, and what a step of a caller makes of it.
use Rattle.std.specs.Prelude.{◌+◌, ◌-◌, ◌==◌, ℕ, Option, Some, None, List, [], ◌∷◌, ◌++◌, get_or, set, length, map, replicate, nat_lt, if◌then◌else◌}
use Rattle.std.specs.List.{zip}
use Rattle.std.specs.FinMap as finite
use Rattle.dl_ir.specs.declared.answers.End.{End}
use Rattle.dl_ir.specs.declared.answers.Entry.{Entry}
use Rattle.dl_ir.specs.declared.answers.Refusal.{Refusal}
use Rattle.dl_ir.specs.declared.calls.Call.{Call}
use Rattle.dl_ir.specs.declared.names.Name.{Name}
use Rattle.dl_ir.specs.Heap.{hidden_count}
use Rattle.dl_shape.specs.Replay.{greatest_ticket}
use Rattle.dl_core.specs.declared.answers.Event.{Event}
use Rattle.dl_core.specs.declared.answers.Event.TheVariants as events
use Rattle.dl_core.specs.declared.answers.Lock.{Lock}
use Rattle.dl_core.specs.declared.answers.Lock.TheVariants as locks
use Rattle.dl_core.specs.declared.answers.Progress.{Progress}
use Rattle.dl_core.specs.declared.answers.Progress.TheVariants as progress
use Rattle.dl_core.specs.declared.objects.Mark.{Mark}
use Rattle.dl_core.specs.declared.objects.Mark.TheVariants as marks
use Rattle.dl_core.specs.declared.objects.Object.{Object}
use Rattle.dl_core.specs.declared.stages.Finished.{Finished}
use Rattle.dl_core.specs.declared.stages.Versions.{Versions}
use Rattle.dl_core.specs.Heaps.{Heap, put_at, marked}
use Rattle.dl_core.specs.Plans.{Plan}
use Rattle.dl_core.specs.Frames.{Frame, idle}
use Rattle.dl_core.specs.declared.dues.Due.{Due}
use Rattle.dl_core.specs.declared.dues.Due.TheVariants.{Reserves, Enters, Finishes}
use Rattle.dl_core.specs.LocalSteps.{due}
use Rattle.dl_core.specs.Events.{begun, reserved, refused, entered, finished, finish_of, aim, act, Acted, event_of}
use Rattle.dl_core.specs.Steps.{World, Rules, Aim, Nowhere, Inside, At}

-- the shared objects and the callers' frames
abbrev pub Shared : Type 0
Shared = World Frame

-- what the pool keeps of a caller: the version that the reservation of the call in hand made, 0 where there was none; the versions
-- of the operations that it finished, in order; and its refusals
pub record Account : Type 0 where
  pub reserved_at : ℕ
  pub versions : List Versions
  pub refusals : List Refusal

-- the pool of places: its version, the number of places that are free, and the accounts. That of caller c stands at place c
pub record Pool : Type 0 where
  pub version : ℕ
  pub free : ℕ
  pub accounts : List Account

-- the state of the machine: the world, the last ticket drawn, and the pool
pub record Core : Type 0 where
  pub world : Shared
  pub clock : ℕ
  pub pool : Pool

-- the account of a caller that has done nothing
abbrev pub no_account : Account
no_account = record { reserved_at = 0; versions = []; refusals = [] }

-- a caller's frame
abbrev pub frame_of : Shared → ℕ → Frame
frame_of world caller = get_or world.frames caller idle

-- a caller's account
abbrev pub account_of : Core → ℕ → Account
account_of core caller = get_or core.pool.accounts caller no_account

-- what an event touches where clock and pool are left aside. Reserving and entering are not decided by the world alone
abbrev pub aim_at : Option Name → Aim
aim_at None = Nowhere
aim_at (Some name) = At name

abbrev pub aim_of : Due → Aim
aim_of (Finishes end) = Inside
aim_of due = aim_at (aim due)

-- what finishing makes of a frame
abbrev pub finished_by : Due → Frame → Frame
finished_by (Finishes end) frame = finished end frame
finished_by due frame = frame

-- how callers act on the world
abbrev pub rules_of : Plan → Rules Frame
rules_of plan = record { idle = idle; aim = λ frame. aim_of (due plan frame); act = λ caller frame found. act plan caller frame (due plan frame) found; alone = λ caller frame. finished_by (due plan frame) frame }

-- the world with another frame of a caller
abbrev pub with_frame : Shared → ℕ → Frame → Shared
with_frame world caller frame = record { heap = world.heap; frames = set world.frames caller frame }

-- the pool with another account of a caller
abbrev pub with_account : Pool → ℕ → Account → Pool
with_account pool caller account = record pool { accounts = set pool.accounts caller account }

-- an entry is made of what the frame keeps of the operation and of the versions that its account keeps
abbrev pub entry_of : ℕ → Finished × Versions → Entry
entry_of caller kept = record {
  ticket = kept.0.ticket;
  caller = caller;
  index = kept.0.index;
  answer = kept.0.answer;
  reserved_at = kept.1.reserved_at;
  returned = kept.0.returned;
  returned_at = kept.1.returned_at;
}

-- a caller's entries, in order of index
abbrev pub entries_of : Core → ℕ → List Entry
entries_of core caller = map (entry_of caller) (zip (frame_of core.world caller).finished (account_of core caller).versions)

-- a caller's refusals, in order of index
abbrev pub refusals_of : Core → ℕ → List Refusal
refusals_of core caller = (account_of core caller).refusals

-- places are reserved, by one move
abbrev pub pool_reserved : ℕ → ℕ → Account → Pool → Pool
pool_reserved caller need account pool = record { version = pool.version + 1; free = pool.free - need; accounts = set pool.accounts caller (record account { reserved_at = pool.version + 1 }) }

-- a call is refused, which is no move
abbrev pub refusal_of : ℕ → ℕ → ℕ → Pool → Refusal
refusal_of caller index need pool = record { caller = caller; index = index; need = need; found = pool.free; version = pool.version }

abbrev pub pool_refused : ℕ → Refusal → Account → Pool → Pool
pool_refused caller refusal account pool = with_account pool caller (record account { refusals = account.refusals ++ refusal ∷ [] })

-- the version that returning so many places makes; returning none is no move
abbrev pub returned_at : ℕ → Pool → ℕ
returned_at count pool = if nat_lt 0 count then pool.version + 1 else 0

abbrev pub version_after : ℕ → Pool → ℕ
version_after count pool = if nat_lt 0 count then pool.version + 1 else pool.version

abbrev pub versions_made : ℕ → Account → Pool → Versions
versions_made count account pool = record { reserved_at = account.reserved_at; returned_at = returned_at count pool }

-- an operation is finished, and its spare places are returned by one move, if there are any
abbrev pub pool_returned : ℕ → ℕ → Account → Pool → Pool
pool_returned caller count account pool = record {
  version = version_after count pool;
  free = pool.free + count;
  accounts = set pool.accounts caller (record account { reserved_at = 0; versions = account.versions ++ versions_made count account pool ∷ [] });
}

-- the state and the answer after a step that does not wait
abbrev pub Stepped : Type 0
Stepped = Core × Progress

-- places are reserved
abbrev pub reserves : Core → ℕ → Frame → ℕ → Stepped
reserves core caller frame need = (
  record core { world = with_frame core.world caller (reserved need frame); pool = pool_reserved caller need (account_of core caller) core.pool },
  progress.Moved (events.Reserve need (core.pool.version + 1)),
)

-- a call is refused
abbrev pub refuses : Core → ℕ → Frame → ℕ → Stepped
refuses core caller frame need = (
  record core { world = with_frame core.world caller (refused frame); pool = pool_refused caller (refusal_of caller frame.index need core.pool) (account_of core caller) core.pool },
  progress.Refused need core.pool.free core.pool.version,
)

-- a reservation, or a refusal where fewer places are free
abbrev pub asks : Core → ℕ → Frame → ℕ → Stepped
asks core caller frame need = if nat_lt core.pool.free need then refuses core caller frame need else reserves core caller frame need

-- a ticket is drawn
abbrev pub enters : Plan → Core → ℕ → Frame → Stepped
enters plan core caller frame =
    (record core { world = with_frame core.world caller (entered plan (core.clock + 1) frame); clock = core.clock + 1 }, progress.Moved (events.Enter (core.clock + 1)))

-- an operation that ended is finished
abbrev pub finishes : Core → ℕ → Frame → End → Stepped
finishes core caller frame end = (
  record core { world = with_frame core.world caller (finished end frame); pool = pool_returned caller frame.spares (account_of core caller) core.pool },
  progress.Done (entry_of caller (finish_of end frame, versions_made frame.spares (account_of core caller) core.pool)),
)

-- the state with another frame of a caller, and with this at a name
abbrev pub acted : Core → ℕ → Name → Acted → Core
acted core caller name done = record core { world = record { heap = put_at core.world.heap name done.1; frames = set core.world.frames caller done.0 } }

abbrev pub with_event : Core → ℕ → Name → Option Event → Option Acted → Option Stepped
with_event core caller name (Some event) (Some done) = Some (acted core caller name done, progress.Moved event)
with_event core caller name event outcome = None

abbrev pub touches : Plan → Core → ℕ → Frame → Due → Name → Option Stepped
touches plan core caller frame due name =
    with_event core caller name (event_of due (finite.get core.world.heap name)) (act plan caller frame due (finite.get core.world.heap name))

abbrev pub touches_at : Plan → Core → ℕ → Frame → Due → Option Name → Option Stepped
touches_at plan core caller frame due None = None
touches_at plan core caller frame due (Some name) = touches plan core caller frame due name

abbrev pub step_due : Plan → Core → ℕ → Frame → Due → Option Stepped
step_due plan core caller frame (Reserves need) = Some (asks core caller frame need)
step_due plan core caller frame Enters = Some (enters plan core caller frame)
step_due plan core caller frame (Finishes end) = Some (finishes core caller frame end)
step_due plan core caller frame due = touches_at plan core caller frame due (aim due)

-- one step of a caller: the state and the answer after it; nothing where the caller waits, or has no call in hand
abbrev pub step : Plan → Core → ℕ → Option Stepped
step plan core caller = step_due plan core caller (frame_of core.world caller) (due plan (frame_of core.world caller))

-- the lock that an event takes
abbrev pub lock_of : Name → Lock
lock_of name = if name.ticket == 0 then locks.Root name.index else locks.Object name

-- a caller waits for the holder of the object
abbrev pub waits_at : Name → Mark → Progress
waits_at name (marks.Held other) = progress.Waiting (lock_of name) other
waits_at name mark = progress.Idle

abbrev pub waits_for : Name → Option Object → Progress
waits_for name None = progress.Idle
waits_for name (Some object) = waits_at name object.mark

-- why a caller makes no step
abbrev pub stands : Heap → Option Name → Progress
stands heap None = progress.Idle
stands heap (Some name) = waits_for name (finite.get heap name)

abbrev pub or_stands : Plan → Core → ℕ → Option Stepped → Stepped
or_stands plan core caller None = (core, stands core.world.heap (aim (due plan (frame_of core.world caller))))
or_stands plan core caller (Some stepped) = stepped

-- what giving a caller a step makes of the state, and what it answers
abbrev pub stepped : Plan → Core → ℕ → Stepped
stepped plan core caller = or_stands plan core caller (step plan core caller)

-- the state in which a run starts
abbrev pub fresh : Plan → Core
fresh plan = record {
  world = record { heap = marked plan.heap; frames = replicate (length plan.sizes + 1) idle };
  clock = greatest_ticket plan.heap;
  pool = record { version = 0; free = plan.places - hidden_count plan.heap; accounts = replicate (length plan.sizes + 1) no_account };
}

-- the state with a call in a caller's hand
abbrev pub with_call : Core → ℕ → Call → Core
with_call core caller call = record core { world = with_frame core.world caller (begun call (frame_of core.world caller)) }
