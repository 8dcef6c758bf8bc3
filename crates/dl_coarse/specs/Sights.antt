-- What a seat of the turn's table knows.
use Rattle.std.specs.Prelude.{◌≡◌, ℕ, max, length, ◌++◌, Option, Some, None, Bool, false, List, [], ◌∷◌, refl}
use Rattle.std.specs.Coded.{Coded, code_by, coded×, coded_ℕ, coded_bool, coded_list, coded_option}
use Rattle.dl_ir.specs.declared.calls.Call.{Call}
use Rattle.dl_core.specs.Frames.{Frame, idle}
use Rattle.dl_core.specs.Core.{Account, Core, no_account, frame_of, account_of}
use Rattle.dl_core.specs.Passes.{Glance, Stored, Look, looked, no_look, PassView, first_round}
use Rattle.dl_core.specs.Events.{begun}
use Rattle.dl_core.specs.declared.answers.Progress.{Progress}
use Rattle.dl_core.specs.declared.answers.Progress.TheVariants as progress
use Rattle.dl_core.specs.declared.stages.Stage.TheVariants as stages
use Rattle.dl_core.specs.Stored.{coded_call, coded_frame, coded_account, coded_core, coded_look}

-- what a caller has of its own while it has no turn: the calls that it has begun, its frame and its account
pub record Own : Type 0 where
  pub number : ℕ
  pub calls : List Call
  pub frame : Frame
  pub account : Account

-- the turn: the core that was taken with it, what the words of the ticket and of the version hold, and whether nothing was put into the
-- slot yet, as at the start
pub record TurnTaken : Type 0 where
  pub core : Core
  pub clock : ℕ
  pub version : ℕ
  pub empty : Bool

-- what a seat knows. That of a pass has one caller's own; that of a note, and one that a join leaves behind, has nobody's
pub record Sight : Type 0 where
  pub owns : List Own
  pub turn : Option TurnTaken
  pub front : ℕ
  pub known : ℕ
  pub look : Look

abbrev pub coded_own : Coded Own
coded_own = code_by (ℕ × (List Call × (Frame × Account))) (coded× coded_ℕ (coded× (coded_list coded_call) (coded× coded_frame coded_account)))
    (λ o. (o.number, (o.calls, (o.frame, o.account)))) (λ p. record { number = p.0; calls = p.1.0; frame = p.1.1.0; account = p.1.1.1 }) (λ _. refl)

abbrev pub coded_turn : Coded TurnTaken
coded_turn = code_by (Core × (ℕ × (ℕ × Bool))) (coded× coded_core (coded× coded_ℕ (coded× coded_ℕ coded_bool))) (λ t. (t.core, (t.clock, (t.version, t.empty)))) (λ p. record { core = p.0; clock = p.1.0; version = p.1.1.0; empty = p.1.1.1 }) (λ _. refl)

abbrev pub coded_sight : Coded Sight
coded_sight = code_by (List Own × (Option TurnTaken × (ℕ × (ℕ × Look)))) (coded× (coded_list coded_own) (coded× (coded_option coded_turn) (coded× coded_ℕ (coded× coded_ℕ coded_look))))
    (λ s. (s.owns, (s.turn, (s.front, (s.known, s.look))))) (λ p. record { owns = p.0; turn = p.1.0; front = p.1.1.0; known = p.1.1.1.0; look = p.1.1.1.1 }) (λ _. refl)

-- nothing is known
abbrev pub blank : Sight
blank = record { owns = []; turn = None; front = 0; known = 0; look = no_look }

-- a caller's own, where the seat has one
abbrev pub no_own : Own
no_own = record { number = 0; calls = []; frame = idle; account = no_account }

abbrev pub own_in : List Own → Own
own_in [] = no_own
own_in (own ∷ owns) = own

abbrev pub own_of : Sight → Own
own_of sight = own_in sight.owns

-- one step more
abbrev pub glanced : Glance → Sight → Sight
glanced glance sight = record sight { look = looked glance sight.look }

-- the turn with a core, whose ticket and version the words hold
abbrev pub turn_with : Core → Bool → TurnTaken
turn_with core empty = record { core = core; clock = core.clock; version = core.pool.version; empty = empty }

-- the turn was taken with a core
abbrev pub with_turn : Core → Sight → Sight
with_turn core sight = record sight { turn = Some (turn_with core false) }

-- the last ticket, and the version, were written
abbrev pub with_clock : ℕ → TurnTaken → Sight → Sight
with_clock clock turn sight = record sight { turn = Some (record turn { clock = clock }) }

abbrev pub with_version : ℕ → TurnTaken → Sight → Sight
with_version version turn sight = record sight { turn = Some (record turn { version = version }) }

-- the slot was taken, and the turn was given back
abbrev pub with_slot : TurnTaken → Sight → Sight
with_slot turn sight = record sight { turn = Some (record turn { empty = false }) }

abbrev pub without_turn : Sight → Sight
without_turn sight = record sight { turn = None }

-- what a note knows
abbrev pub note_of : Sight → Sight
note_of sight = record blank { front = sight.front; known = sight.known }

-- the first caller's own is given to a seat of its own, and what stands behind it stays
abbrev pub behind : List Own → List Own
behind [] = []
behind (own ∷ owns) = owns

abbrev pub without_first : Sight → Sight
without_first sight = record sight { owns = behind sight.owns }

abbrev pub first_alone : Sight → Sight
first_alone sight = record (note_of sight) { owns = own_of sight ∷ [] }

-- all that two seats know and have
abbrev pub together : Sight → Sight → Sight
together sight other = record sight { owns = sight.owns ++ other.owns; front = max sight.front other.front; known = max sight.known other.known }

-- what was known before an operation, and what it tells
abbrev pub front_by : Progress → ℕ → ℕ
front_by (progress.Done entry) front = max front entry.ticket
front_by answer front = front

abbrev pub known_by : Progress → ℕ → ℕ
known_by (progress.Done entry) known = max (max known entry.reserved_at) entry.returned_at
known_by (progress.Refused need found version) known = version
known_by answer known = known

-- a caller's own after one operation more
abbrev pub own_after : Core → Call → Own → Own
own_after core call own = record { number = own.number; calls = own.calls ++ call ∷ []; frame = frame_of core.world own.number; account = account_of core own.number }

-- the turn was given back after an operation
abbrev pub sight_after : Core → Call → Progress → Sight → Sight
sight_after core call answer sight = record {
  owns = own_after core call (own_of sight) ∷ [];
  turn = None;
  front = front_by answer sight.front;
  known = known_by answer sight.known;
  look = looked (Stored 0) sight.look;
}

-- the calls and the frame of a caller with this call in hand, or with none
abbrev pub calls_with : Option Call → List Call → List Call
calls_with None calls = calls
calls_with (Some call) calls = calls ++ call ∷ []

abbrev pub frame_with : Option Call → Frame → Frame
frame_with None frame = frame
frame_with (Some call) frame = begun call frame

-- what contracts see of a pass with this call in hand, or with none
abbrev pub view_with : Option Call → Sight → PassView
view_with hand sight = record {
  caller = (own_of sight).number;
  calls = calls_with hand (own_of sight).calls;
  frame = frame_with hand (own_of sight).frame;
  account = (own_of sight).account;
  front = sight.front;
  known = sight.known;
  look = sight.look;
  places = [];
  round = first_round;
}

-- one caller's own, who is idle, and no turn
pub record IsResting (sight : Sight) : Type 0 where
  pub one : sight.owns ≡ own_of sight ∷ []
  pub no_turn : sight.turn ≡ None
  pub idle : (own_of sight).frame.stage ≡ stages.Idle
  pub index : (own_of sight).frame.index ≡ length (own_of sight).calls
  pub unreserved : (own_of sight).account.reserved_at ≡ 0
