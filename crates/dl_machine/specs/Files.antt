-- What passes have come to when each has run its file.
use Rattle.std.specs.Prelude.{◌≡◌, ◌+◌, ◌<◌, ◌≤◌, ℕ, zero, suc, Option, None, List, [], ◌∷◌, All, AllPairs, length, map, slice_get}
use Rattle.dl_ir.specs.declared.answers.Entry.{Entry}
use Rattle.dl_ir.specs.declared.answers.Refusal.{Refusal}
use Rattle.dl_ir.specs.declared.calls.Call.{Call}
use Rattle.dl_ir.specs.declared.closed.Closed.{Closed}
use Rattle.dl_ir.specs.CallForms.{IsCallOf}
use Rattle.dl_ir.specs.Cover.{runs_of, refusals_of, one_if_there, Covers}
use Rattle.dl_core.specs.Plans.{Plan, source_of, size_of}
use Rattle.dl_core.specs.Passes.{PassView, entries_in, refusals_in, IsIdle}
use Rattle.dl_core.specs.Closing.{IsLawfulEnd, history_left, all_of}

-- the call of this index, counted from 1
abbrev pub call_in : List Call → ℕ → Option Call
call_in calls zero = None
call_in calls (suc place) = slice_get calls place

-- each of the calls is finished or refused, once; what is finished or refused is this caller's; and the entries rise by index and by
-- ticket, up to the front
pub record Serves (caller : ℕ) (calls : List Call) (entries : List Entry) (refusals : List Refusal) (front : ℕ) : Type 0 where
  pub once : (index : ℕ) → runs_of caller index entries + refusals_of caller index refusals ≡ one_if_there (call_in calls index)
  pub own : All (λ (entry : Entry). entry.caller ≡ caller) entries
  pub own_refusals : All (λ (refusal : Refusal). refusal.caller ≡ caller) refusals
  pub indexes : All (λ (entry : Entry). entry.index ≤ length calls) entries
  pub tickets : All (λ (entry : Entry). entry.ticket ≤ front) entries
  pub rises : AllPairs (λ (earlier later : Entry). (earlier.index < later.index) × (earlier.ticket < later.ticket)) entries

-- the pass has run all that was begun on it
pub record HasServed (view : PassView) : Type 0 where
  pub idle : IsIdle view
  pub serves : Serves view.caller view.calls (entries_in view) (refusals_in view) view.front

-- the pass has run all that was begun on it, and has room for the calls of a file
pub record IsReadyFor (plan : Plan) (file : List Call) (view : PassView) : Type 0 where
  pub served : HasServed view
  pub nothing : view.calls ≡ []
  pub room : length file ≤ size_of plan view.caller
  pub fits : All (IsCallOf (source_of plan)) file

module _ {Pass : Type 0} (plan : Plan) (is_of : Pass → Type 0) (view : Pass → PassView) where
  -- each pass is ready for its file
  abbrev pub AreReady : List (List Call) → List Pass → Type 0
  AreReady [] [] = Unit {0}
  AreReady [] (pass ∷ passes) = ⊥
  AreReady (file ∷ files) [] = ⊥
  AreReady (file ∷ files) (pass ∷ passes) = (is_of pass × IsReadyFor plan file (view pass)) × AreReady files passes

module _ {Pass : Type 0} (is_of : Pass → Type 0) (view : Pass → PassView) where
  -- each pass has run all that was begun on it
  abbrev pub HaveServed : List Pass → Type 0
  HaveServed passes = All (λ pass. is_of pass × HasServed (view pass)) passes

module _ {Pass : Type 0} (view : Pass → PassView) where
  abbrev pub calls_on : List Pass → List (List Call)
  calls_on passes = map (λ pass. (view pass).calls) passes

  abbrev pub callers_on : List Pass → List ℕ
  callers_on passes = map (λ pass. (view pass).caller) passes

-- what a run of files leaves: each operation once, in its file's order, and what is left is legal and lawful over the files
pub record RunsFiles (plan : Plan) (files : List (List Call)) (closed : Closed) : Type 0 where
  pub covers : Covers files (history_left closed) (all_of closed.refusals)
  pub lawful : IsLawfulEnd plan files closed
