-- How a machine comes to be on the way through operation files, and what holds of it there.
use Rattle.std.proofs.Common.{◌≡◌, ℕ, zero, suc, ◌+◌, ◌-◌, ◌<◌, ◌≤◌, ◌⊎◌, inl, inr, List, [], Some, length, get_or, map, refl, sym, ap, subst, ◌∙◌, arith}
use Rattle.std.specs.Prelude.{All, slice_get}
use Rattle.std.proofs.Math.ListN.{get_or-map}
use Rattle.std.proofs.lemmas.List.{length-map, get_or_default}
use Rattle.std.proofs.lemmas.List.Elements.{All-map}
use Rattle.std.proofs.lemmas.Bool.{cases_lt}
use Rattle.std.proofs.lemmas.Option.{slice_get_within, get_or_from_slice_get}
use Rattle.dl_ir.specs.declared.calls.Call.{Call}
use Rattle.dl_ir.specs.declared.modules.Module.{Module}
use Rattle.dl_ir.specs.CallForms.{AreCallsOf, IsCallOf}
use Rattle.dl_ir.specs.Checked.{IsChecked}
use Rattle.dl_shape.proofs.Starting.{hidden_count-start, start_is_startable}
use Rattle.dl_instr.specs.declared.code.Code.{Code}
use Rattle.dl_instr.specs.Drops.{IsCodeOf}
use Rattle.dl_core.specs.declared.stages.Stage.TheVariants as stages
use Rattle.dl_core.specs.Core.{frame_of}
use Rattle.dl_core.specs.Machines.{Machine, AreAllIdle, HasCaller, IsRunning}
use Rattle.dl_core.specs.Passes.{first_plan}
use Rattle.dl_core.specs.Plans.{IsPlan, IsCaller, size_of, source_of}
use Rattle.dl_core.specs.Reached.{MayBegin, calls_of, no_calls, with_begun}
use Rattle.dl_core.proofs.LawfulAlways.{lawful_always}
use Rattle.dl_core_tests.specs.Runs.{IsUnderWay}

module _ (source : Module) (code : Code) (files : List (List Call)) (places : ℕ) (checked : IsChecked source) (of : IsCodeOf source code) (calls : All (AreCallsOf source) files) where
  back : source ≡ code.source
  back = sym of.same_source

  -- a run of the files has a plan
  pub starts_plan : 1 ≤ length files → length files ≤ 64 → places ≤ 65536 → IsPlan (first_plan code places (map length files))
  starts_plan some few room = record {
    checked = subst IsChecked back checked;
    code = subst (λ (of : Module). IsCodeOf of code) back of;
    start = record { startable = start_is_startable code.source (subst IsChecked back checked).start; room = omega (arith, hidden_count-start code.source) };
    some_callers = omega (arith, some, length-map files (λ (calls : List Call). length calls));
    few_callers = omega (arith, few, length-map files (λ (calls : List Call). length calls));
    few_calls = All-map (λ (size : ℕ). size ≤ 65536) (λ (calls : List Call). length calls) files (λ k d within. (calls k d within).short);
    few_places = room;
  }

  pub way_starts : (machine : Machine) → IsRunning (first_plan code places (map length files)) machine (no_calls (first_plan code places (map length files))) → IsUnderWay machine files
  way_starts machine running = record {
    plan = first_plan code places (map length files);
    calls = no_calls (first_plan code places (map length files));
    running = running;
    sizes = refl;
    of_module = subst (λ (of : Module). All (AreCallsOf of) files) back calls;
  }

module _ (machine : Machine) (files : List (List Call)) (way : IsUnderWay machine files) where
  pub so_many : length machine.sizes ≡ length files
  so_many = ap (λ (sizes : List ℕ). length sizes) (sym way.running.sizes ∙ way.sizes) ∙ length-map files length

  pub is_caller : (caller : ℕ) → HasCaller machine caller → IsCaller way.plan caller
  is_caller caller has = record { from_one = has.from_one; to_last = omega (arith, has.to_last, ap (λ (sizes : List ℕ). length sizes) way.running.sizes) }

  -- a caller may begin as many calls as its file has
  sized : (caller : ℕ) → size_of way.plan caller ≡ length (calls_of files caller)
  sized zero = refl
  sized (suc place) = ap (λ (sizes : List ℕ). get_or sizes place 0) way.sizes ∙ get_or-map length files place []

  of_module : (caller : ℕ) → caller ≤ length files → All (IsCallOf (source_of way.plan)) (calls_of files caller)
  of_module zero high = λ k d within. absurd (omega (arith, within))
  of_module (suc place) high = (way.of_module place [] (omega (arith, high))).each

  -- a caller with no call in hand may begin the next one of its file
  pub may_begin : (caller : ℕ) (call : Call) → HasCaller machine caller → (frame_of machine.state.world caller).stage ≡ stages.Idle
      → slice_get (calls_of files caller) (frame_of machine.state.world caller).index ≡ Some call → MayBegin way.plan machine.state way.calls caller call
  may_begin caller call has idle next =
      let index = (frame_of machine.state.world caller).index in
      let within = slice_get_within (calls_of files caller) index call next in
      let begun = ((lawful_always way.plan machine.state way.calls way.running.is way.running.reached).sound.each caller).history.begun in
      let here : get_or (calls_of files caller) index call ≡ call = get_or_from_slice_get (calls_of files caller) index call call next in
      record {
        is_caller = is_caller caller has;
        idle = idle;
        room = omega (arith, within, begun, sized caller);
        fits = subst (IsCallOf (source_of way.plan)) here (of_module caller (omega (arith, has.to_last, so_many)) index call within);
      }

  pub way_goes_on : (after : Machine) (calls : List (List Call)) → IsRunning way.plan after calls → IsUnderWay after files
  way_goes_on after calls running = record { plan = way.plan; calls = calls; running = running; sizes = way.sizes; of_module = way.of_module }

  -- no caller has a call in hand where none of those that are there has
  pub all_idle : ((place : ℕ) → place < length files → (frame_of machine.state.world (place + 1)).stage ≡ stages.Idle) → AreAllIdle machine.state
  all_idle each zero = (lawful_always way.plan machine.state way.calls way.running.is way.running.reached).sound.nobody zero (λ who. omega (arith, who.from_one))
  all_idle each (suc place) = by (cases_lt (length files) (suc place))
    where
      one_more : place + 1 ≡ suc place
      one_more = omega arith

      by : (length files < suc place) ⊎ (suc place ≤ length files) → (frame_of machine.state.world (suc place)).stage ≡ stages.Idle
      by (inl past) = (lawful_always way.plan machine.state way.calls way.running.is way.running.reached).sound.nobody (suc place)
          (λ who. omega (arith, who.to_last, past, ap (λ (sizes : List ℕ). length sizes) way.sizes, length-map files (λ (calls : List Call). length calls)))
      by (inr within) = subst (λ (caller : ℕ). (frame_of machine.state.world caller).stage ≡ stages.Idle) one_more (each place (omega (arith, within)))
