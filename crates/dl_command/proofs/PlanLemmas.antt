-- A run of calls of a checked module from a heap from which it can start has a plan.
use Rattle.std.proofs.Common.{◌≤◌, ℕ, List, length, map, arith}
use Rattle.std.specs.Prelude.{All}
use Rattle.std.proofs.lemmas.List.{length-map}
use Rattle.std.proofs.lemmas.List.Elements.{All-map}
use Rattle.dl_ir.specs.declared.calls.Call.{Call}
use Rattle.dl_ir.specs.declared.modules.Module.{Module}
use Rattle.dl_ir.specs.CallForms.{AreCallsOf}
use Rattle.dl_ir.specs.Checked.{IsChecked}
use Rattle.dl_ir.specs.Heap.{Objects, start_objects}
use Rattle.dl_shape.proofs.Starting.{hidden_count-start, start_is_startable}
use Rattle.dl_instr.specs.Code.{code}
use Rattle.dl_instr.specs.DropsLaws.{PlainIsCode}
use Rattle.dl_core.specs.Passes.{plan_over}
use Rattle.dl_core.specs.Plans.{IsPlan}
use Rattle.dl_command.specs.Texts.{CanStart}

pub is_plan : PlainIsCode → (source : Module) (heap : Objects) (all : List (List Call)) (places : ℕ) → IsChecked source → CanStart source places heap → All (AreCallsOf source) all
    → 1 ≤ length all → length all ≤ 64 → places ≤ 65536 → IsPlan (plan_over (code source) heap places (map length all))
is_plan plain source heap all places checked can calls some few room = record {
  checked = checked;
  code = plain source;
  start = record { startable = can.startable; room = can.fits };
  some_callers = omega (arith, some, length-map all (λ (calls : List Call). length calls));
  few_callers = omega (arith, few, length-map all (λ (calls : List Call). length calls));
  few_calls = All-map (λ (size : ℕ). size ≤ 65536) (λ (calls : List Call). length calls) all (λ k d within. (calls k d within).short);
  few_places = room;
}

-- a run can start from the start heap
pub can_start : (source : Module) (places : ℕ) → IsChecked source → CanStart source places (start_objects source)
can_start source places checked = record { startable = start_is_startable source checked.start; fits = omega (arith, hidden_count-start source) }
