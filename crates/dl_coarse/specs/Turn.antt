-- The rule of the turn: of the word that says who has it, of the words of the last ticket and of the pool's version, and of the slot
-- with the core.
use Rattle.std.specs.Prelude.{◌≡◌, ◌≢◌, ◌+◌, ◌<◌, ◌≤◌, ℕ, Option, Some, None, true, List, [], ◌∷◌, Contains, length, get_or}
use mathlib.Core.Option.{Option as Slot, some}
use lib.ListN.{get_elem?}
use Rattle.atomic_table.specs.Table.{State, Me, Step, rest}
use Rattle.dl_ir.specs.declared.calls.Call.{Call}
use Rattle.dl_ir.specs.CallForms.{IsCallOf}
use Rattle.dl_core.specs.declared.answers.Progress.{Progress}
use Rattle.dl_core.specs.declared.stages.Stage.TheVariants as stages
use Rattle.dl_core.specs.Plans.{Plan, IsCaller, source_of, size_of}
use Rattle.dl_core.specs.Core.{Core, frame_of, account_of}
use Rattle.dl_core.specs.Reached.{Calls, calls_of, IsReached}
use Rattle.dl_core.specs.Passes.{Compared, Stored, Loaded}
use Rattle.dl_core.specs.Turns.{Leaves}
use Rattle.dl_coarse.specs.Sights.{Own, TurnTaken, Sight, blank, own_of, glanced, with_turn, with_clock, with_version, with_slot, without_turn}

-- one caller's own is that of the core shown, and this seat has it
pub record HasOwn (plan : Plan) (core : Core) (calls : Calls) (owner : ℕ → ℕ) (seat : ℕ) (own : Own) : Type 0 where
  pub at_seat : owner own.number ≡ seat
  pub is_caller : IsCaller plan own.number
  pub frame : frame_of core.world own.number ≡ own.frame
  pub account : account_of core own.number ≡ own.account
  pub begun : calls_of calls own.number ≡ own.calls

-- a seat has the turn: the word says so, it has taken the core shown, the words hold what it knows of them, and the slot has nothing
-- where nothing was put into it yet
pub record HasTurn {M : Type 0} (core : Core) (words : List ℕ) (homes : List (Slot (Option M))) (sight : Sight) (turn : TurnTaken) : Type 0 where
  pub own : Own
  pub mine : Contains sight.owns own
  pub word : get_or words 0 0 ≡ own.number
  pub same_core : turn.core ≡ core
  pub clock : get_or words 1 0 ≡ turn.clock
  pub version : get_or words 2 0 ≡ turn.version
  pub clock_up : core.clock ≤ turn.clock
  pub version_up : core.pool.version ≤ turn.version
  pub vacant : turn.empty ≡ true → get_elem? homes 0 ≡ some (some None)

module _ {M : Type 0} (runs : Plan → M → Type 0) (core_of : M → Core) where
  -- nobody has the turn: the core shown is in the slot, and the words hold its last ticket and its version
  pub record IsHome (plan : Plan) (core : Core) (s : State (Option M) Sight) : Type 0 where
    pub machine : M
    pub home : get_elem? s.homes 0 ≡ some (some (Some machine))
    pub of_run : runs plan machine
    pub same_core : core_of machine ≡ core
    pub clock : get_or s.words 1 0 ≡ core.clock
    pub version : get_or s.words 2 0 ≡ core.pool.version

  -- somebody has the turn
  pub record IsOut (s : State (Option M) Sight) : Type 0 where
    pub seat : ℕ
    pub sight : Sight
    pub turn : TurnTaken
    pub there : get_elem? s.views seat ≡ some sight
    pub has : sight.turn ≡ Some turn

  -- the rule: there is a state to which a run comes with the calls of all callers, and in which no operation runs, that words, slot and
  -- seats show
  pub record IsTurn (plan : Plan) (s : State (Option M) Sight) : Type 0 where
    pub core : Core
    pub calls : Calls
    pub owner : ℕ → ℕ
    pub reached : IsReached plan core calls
    pub idle : (caller : ℕ) → (frame_of core.world caller).stage ≡ stages.Idle
    pub lists : length calls ≡ length plan.sizes
    pub frames : length core.world.frames ≡ length plan.sizes + 1
    pub wide : length s.words ≡ 3
    pub free : get_or s.words 0 0 ≡ 0 → IsHome plan core s
    pub out : get_or s.words 0 0 ≢ 0 → IsOut s
    pub turns : (seat : ℕ) (sight : Sight) (turn : TurnTaken) → get_elem? s.views seat ≡ some sight → sight.turn ≡ Some turn → HasTurn core s.words s.homes sight turn
    pub owns : (seat : ℕ) (sight : Sight) (own : Own) → get_elem? s.views seat ≡ some sight → Contains sight.owns own → HasOwn plan core calls owner seat own
    pub known : (seat : ℕ) (sight : Sight) → get_elem? s.views seat ≡ some sight → (sight.front ≤ get_or s.words 1 0) × (sight.known ≤ get_or s.words 2 0)

  -- what a seat that got the turn knows of the core that it took
  pub record Got (plan : Plan) (before : Sight) (machine : M) : Type 0 where
    pub calls : Calls
    pub of_run : runs plan machine
    pub reached : IsReached plan (core_of machine) calls
    pub idle : (caller : ℕ) → (frame_of (core_of machine).world caller).stage ≡ stages.Idle
    pub lists : length calls ≡ length plan.sizes
    pub frames : length (core_of machine).world.frames ≡ length plan.sizes + 1
    pub is_caller : IsCaller plan (own_of before).number
    pub has_frame : frame_of (core_of machine).world (own_of before).number ≡ (own_of before).frame
    pub has_account : account_of (core_of machine) (own_of before).number ≡ (own_of before).account
    pub has_calls : calls_of calls (own_of before).number ≡ (own_of before).calls
    pub front : before.front ≤ (core_of machine).clock
    pub known : before.known ≤ (core_of machine).pool.version

  -- a try for the turn found another caller's number
  pub record Missed (plan : Plan) (before : Sight) (found : ℕ) : Type 0 where
    pub caller_there : IsCaller plan found
    pub another : found ≢ (own_of before).number
    pub several : length plan.sizes ≢ 1

  -- the seat after it got the turn, with this in the slot
  abbrev pub after_got : M → Option M → Me (Option M) Sight → Me (Option M) Sight
  after_got machine slot before = (with_turn (core_of machine) (glanced (Compared 0 0) before.0), (0, slot) ∷ before.1)

  -- what a try for the turn tells
  abbrev pub GrabTells : Plan → Me (Option M) Sight → ℕ → Me (Option M) Sight → Type 0
  GrabTells plan before found after =
      (found ≡ 0 → (machine : M) × Got plan before.0 machine × (after ≡ after_got machine (Some machine) before))
      × (found ≢ 0 → Missed plan before.0 found × (after ≡ (glanced (Compared 0 found) before.0, before.1)))

  -- the machine that comes with the turn is to be put into the slot, and the turn to be given back, with no operation in between
  pub record MayReturn (plan : Plan) (before : Sight) (machine : M) : Type 0 where
    pub turn : TurnTaken
    pub has : before.turn ≡ Some turn
    pub same_core : turn.core ≡ core_of machine
    pub of_run : runs plan machine
    pub clock : turn.clock ≡ (core_of machine).clock
    pub version : turn.version ≡ (core_of machine).pool.version

  -- an operation has run on the core that was taken, and its seat may give the core and the turn back
  pub record MayGive (plan : Plan) (before : Sight) (machine : M) (call : Call) (answer : Progress) : Type 0 where
    pub turn : TurnTaken
    pub has : before.turn ≡ Some turn
    pub one : before.owns ≡ own_of before ∷ []
    pub fits : IsCallOf (source_of plan) call
    pub room : length (own_of before).calls < size_of plan (own_of before).number
    pub of_run : runs plan machine
    pub leaves : Leaves plan turn.core (own_of before).number call answer (core_of machine)
    pub clock : turn.clock ≡ (core_of machine).clock
    pub version : turn.version ≡ (core_of machine).pool.version
    pub front : before.front ≤ turn.core.clock
    pub known : before.known ≤ turn.core.pool.version

-- a play tells nothing where the plan is not named
abbrev pub named : {A : Type 0} → Option A → (A → Type 0) → Type 0
named None told = Unit {0}
named (Some a) told = told a

module _ {M : Type 0} where
  -- what a try for the turn tells, where the plan is named
  abbrev pub grabs : (Plan → M → Type 0) → (M → Core) → Option Plan → Step (Option M) → Me (Option M) Sight → ℕ → Me (Option M) Sight → Type 0
  grabs runs core_of plan st before found after = named plan (λ p. GrabTells runs core_of p before found after)

  -- the last ticket was written, by who has the turn; and the version
  abbrev pub clocks : Step (Option M) → Me (Option M) Sight → ℕ → Me (Option M) Sight → Type 0
  clocks st before written after = (turn : TurnTaken) → before.0.turn ≡ Some turn → after ≡ (with_clock written turn (glanced (Stored 1) before.0), before.1)

  abbrev pub versions : Step (Option M) → Me (Option M) Sight → ℕ → Me (Option M) Sight → Type 0
  versions st before written after = (turn : TurnTaken) → before.0.turn ≡ Some turn → after ≡ (with_version written turn (glanced (Stored 2) before.0), before.1)

  -- the version was read
  abbrev pub sees : Step (Option M) → Me (Option M) Sight → ℕ → Me (Option M) Sight → Type 0
  sees st before found after = (turn : TurnTaken) → before.0.turn ≡ Some turn → (found ≡ turn.version) × (after ≡ (glanced (Loaded 2 turn.version) before.0, before.1))

  -- the slot was taken, in which nothing was
  abbrev pub takes_slot : Step (Option M) → Me (Option M) Sight → ℕ → Me (Option M) Sight → Type 0
  takes_slot st before found after =
      (turn : TurnTaken) → before.0.turn ≡ Some turn → turn.empty ≡ true → after ≡ (with_slot turn (glanced (Loaded 0 found) before.0), (0, None) ∷ before.1)

  -- the turn was given back, with no operation in between
  abbrev pub returns_turn : Step (Option M) → Me (Option M) Sight → ℕ → Me (Option M) Sight → Type 0
  returns_turn st before written after = after ≡ (without_turn (glanced (Stored 0) before.0), rest before.1)

  -- the turn was given back, and the seat knows this
  abbrev pub gives : Sight → Step (Option M) → Me (Option M) Sight → ℕ → Me (Option M) Sight → Type 0
  gives sight st before written after = after ≡ (sight, rest before.1)

  -- a seat came in that knows and has nothing
  abbrev pub comes_in : Step (Option M) → Me (Option M) Sight → ℕ → Me (Option M) Sight → Type 0
  comes_in st before found after = after ≡ (blank, [])
