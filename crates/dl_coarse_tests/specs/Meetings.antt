-- Two passes that carry out their calls, and what tickets these draw.
use Rattle.std.specs.Prelude.{◌≡◌, ◌+◌, ◌<◌, ◌≤◌, ℕ, List, [], ◌∷◌, ◌++◌, All, length}
use Rattle.dl_ir.specs.declared.answers.Entry.{Entry}
use Rattle.dl_ir.specs.declared.calls.Call.{Call}
use Rattle.dl_ir.specs.declared.modules.Module.{Module}
use Rattle.dl_ir.specs.CallForms.{AreCallsOf, IsCallOf}
use Rattle.dl_ir.specs.Checked.{IsChecked}
use Rattle.dl_instr.specs.declared.code.Code.{Code}
use Rattle.dl_instr.specs.Drops.{IsCodeOf}
use Rattle.dl_core.specs.Passes.{PassView, IsIdle, fresh_pass, first_plan}
use Rattle.dl_core.specs.Plans.{Plan, source_of, size_of}

-- the same caller's pass, with no call in hand, and it has forgotten no ticket
pub record IsRested (before after : PassView) : Type 0 where
  pub caller : after.caller ≡ before.caller
  pub idle : IsIdle after
  pub front : before.front ≤ after.front

-- the pass has no call in hand, and these calls may be put there one after the other
pub record IsReadyFor (plan : Plan) (calls : List Call) (view : PassView) : Type 0 where
  pub idle : IsIdle view
  pub room : length view.calls + length calls ≤ size_of plan view.caller
  pub fits : All (IsCallOf (source_of plan)) calls

-- a call was carried out, with a ticket above the front, which is then the front
pub record IsServed (before : PassView) (call : Call) (entry : Entry) (after : PassView) : Type 0 where
  pub rested : IsRested before after
  pub calls : after.calls ≡ before.calls ++ call ∷ []
  pub drawn : before.front < entry.ticket
  pub front : after.front ≡ entry.ticket

-- calls were carried out, with tickets above the front before and not above the front after
pub record HasServed (before : PassView) (entries : List Entry) (after : PassView) : Type 0 where
  pub rested : IsRested before after
  pub drawn : All (λ (entry : Entry). before.front < entry.ticket) entries
  pub kept : All (λ (entry : Entry). entry.ticket ≤ after.front) entries

-- the first of these drew no ticket above this front, and the second drew none that is not above it
pub record IsFresh (front : ℕ) (first second : List Entry) : Type 0 where
  pub told : All (λ (entry : Entry). entry.ticket ≤ front) first
  pub drawn : All (λ (entry : Entry). front < entry.ticket) second

-- the code is one of a module, and both files have calls of that module
pub record MayMeet (code : Code) (first second : List Call) : Type 0 where
  pub source : Module
  pub checked : IsChecked source
  pub of : IsCodeOf source code
  pub calls : AreCallsOf source first
  pub others : AreCallsOf source second

abbrev pub sizes_of : List Call → List Call → List ℕ
sizes_of first second = length first ∷ length second ∷ []

abbrev pub plan_for : Code → List Call → List Call → Plan
plan_for code first second = first_plan code 4096 (sizes_of first second)

module _ {Pass : Type 0} (plan : Plan) (is_of : Pass → Type 0) (view : Pass → PassView) where
  -- the plan is that of a run of the two files, and two passes of it are fresh
  pub record AreOpened (code : Code) (calls others : List Call) (one other : Pass) : Type 0 where
    pub plan_is : plan ≡ plan_for code calls others
    pub of : is_of one × is_of other
    pub first : view one ≡ fresh_pass plan 1
    pub second : view other ≡ fresh_pass plan 2
