-- Passes as they are given out at the start, and what they leave at the end.
use Rattle.std.specs.Prelude.{◌≡◌, ◌+◌, ℕ, Some, List, All, length, map, slice_get}
use Rattle.std.specs.List.{flat_map}
use Rattle.std.specs.List.Sorted.{IsNonDecreasingBy}
use Rattle.dl_ir.specs.declared.answers.Entry.{Entry}
use Rattle.dl_ir.specs.declared.answers.Refusal.{Refusal}
use Rattle.dl_ir.specs.declared.calls.Call.{Call}
use Rattle.dl_ir.specs.declared.closed.Closed.{Closed}
use Rattle.dl_ir.specs.Heap.{hidden_count}
use Rattle.dl_shape.specs.Pool.{IsLawfulPool, HasVersionsOfMovesAlone}
use Rattle.dl_shape.specs.Replay.{replayed, IsLegal}
use Rattle.dl_shape.specs.Rising.{in_rising}
use Rattle.dl_core.specs.Heaps.{plain}
use Rattle.dl_core.specs.Plans.{Plan, source_of}
use Rattle.dl_core.specs.Core.{Core, frame_of, account_of}
use Rattle.dl_core.specs.Reached.{IsReached}
use Rattle.dl_core.specs.Passes.{PassView, entries_in, refusals_in, IsIdle, fresh_pass}

-- the calls begun on passes
abbrev pub begun_on : List PassView → List (List Call)
begun_on views = map (λ (view : PassView). view.calls) views

-- the elements of all lists
abbrev pub all_of : {X : Type 0} → List (List X) → List X
all_of lists = flat_map (λ list. list) lists

-- the entries of all callers, in rising tickets
abbrev pub history_left : Closed → List Entry
history_left closed = in_rising (λ (entry : Entry). entry.ticket) (all_of closed.entries)

-- what is left is what the passes kept; and there is a state to which a run comes with their calls, that has what they kept and no
-- running operation, of which heap and free places are left
pub record EndsOn (plan : Plan) (views : List PassView) (closed : Closed) : Type 0 where
  pub entries : closed.entries ≡ map entries_in views
  pub refusals : closed.refusals ≡ map refusals_in views
  pub core : Core
  pub reached : IsReached plan core (begun_on views)
  pub frames : (at : ℕ) (view : PassView) → slice_get views at ≡ Some view → frame_of core.world view.caller ≡ view.frame
  pub accounts : (at : ℕ) (view : PassView) → slice_get views at ≡ Some view → account_of core view.caller ≡ view.account
  pub heap : closed.heap.objects ≡ plain core.world.heap
  pub free : closed.free ≡ core.pool.free

-- there is a list of refusals for each caller, in order of index
abbrev pub AreOfCallers : List (List Refusal) → Type 0
AreOfCallers lists = (at : ℕ) (list : List Refusal) → slice_get lists at ≡ Some list
    → All (λ (refusal : Refusal). refusal.caller ≡ at + 1) list × IsNonDecreasingBy (λ (refusal : Refusal). refusal.index) list

-- merged, what is left is legal and lawful over the calls, and an entry has no version but those of its moves; the refusals are those of
-- each caller in order; the heap is the replayed one, and the places that hold no object are free
pub record IsLawfulEnd (plan : Plan) (calls : List (List Call)) (closed : Closed) : Type 0 where
  pub legal : IsLegal (source_of plan) calls plan.heap (history_left closed)
  pub pool : IsLawfulPool plan.places (source_of plan) calls plan.heap (history_left closed) (all_of closed.refusals)
  pub versions : All (HasVersionsOfMovesAlone (source_of plan) calls) (history_left closed)
  pub refusals : AreOfCallers closed.refusals
  pub heap : closed.heap.objects ≡ replayed (source_of plan) calls plan.heap (history_left closed)
  pub free : closed.free + hidden_count closed.heap.objects ≡ plan.places

-- the passes are those of the callers, in order, and each is idle
abbrev pub AreDone : List PassView → Type 0
AreDone views = (at : ℕ) (view : PassView) → slice_get views at ≡ Some view → IsIdle view × (view.caller ≡ at + 1)

module _ {Pass : Type 0} (plan : Plan) (is_of : Pass → Type 0) (view : Pass → PassView) where
  -- there is a pass for each caller, in order, each fresh
  pub record AreFresh (passes : List Pass) : Type 0 where
    pub count : length passes ≡ length plan.sizes
    pub each : (at : ℕ) (pass : Pass) → slice_get passes at ≡ Some pass → is_of pass × (view pass ≡ fresh_pass plan (at + 1))

  -- there is a pass for each caller, in order, each idle
  pub record AreIdle (passes : List Pass) : Type 0 where
    pub count : length passes ≡ length plan.sizes
    pub each : (at : ℕ) (pass : Pass) → slice_get passes at ≡ Some pass → is_of pass × IsIdle (view pass) × ((view pass).caller ≡ at + 1)
