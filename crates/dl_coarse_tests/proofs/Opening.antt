-- What holds of the passes of a new ground.
use Rattle.std.proofs.Common.{◌≡◌, ℕ, zero, suc, ◌+◌, ◌<◌, ◌≤◌, List, [], ◌∷◌, Some, length, get_or, refl, sym, ap, subst, ◌∙◌, arith}
use Rattle.std.specs.Prelude.{All, slice_get}
use Rattle.dl_ir.specs.declared.modules.Module.{Module}
use Rattle.dl_ir.specs.CallForms.{IsCallOf}
use Rattle.dl_ir.specs.Checked.{IsChecked}
use Rattle.dl_shape.proofs.Starting.{hidden_count-start, start_is_startable}
use Rattle.dl_instr.specs.declared.code.Code.{Code}
use Rattle.dl_instr.specs.Drops.{IsCodeOf}
use Rattle.dl_core.specs.Closing.{AreFresh, AreIdle}
use Rattle.dl_core.specs.Passes.{PassView, IsIdle, fresh_pass}
use Rattle.dl_core.specs.Plans.{Plan, IsPlan}
use Rattle.dl_ir.specs.declared.calls.Call.{Call}
use Rattle.dl_coarse_tests.specs.Meetings.{AreOpened, IsReadyFor, IsRested, MayMeet, plan_for, sizes_of}

module _ (code : Code) (calls others : List Call) (may : MayMeet code calls others) where
  back : may.source ≡ code.source
  back = sym may.of.same_source

  few : (k d : ℕ) → k < 2 → get_or (sizes_of calls others) k d ≤ 65536
  few zero d within = may.calls.short
  few (suc zero) d within = may.others.short
  few (suc (suc k)) d within = absurd (omega arith)

  -- a run of the files has a plan
  pub starts_plan : IsPlan (plan_for code calls others)
  starts_plan =
      let some : 0 < 2 = omega arith in
      let not_many : 2 ≤ 64 = omega arith in
      let low : 4096 ≤ 65536 = omega arith in
      record {
        checked = subst IsChecked back may.checked;
        code = subst (λ (of : Module). IsCodeOf of code) back may.of;
        start = record { startable = start_is_startable code.source (subst IsChecked back may.checked).start; room = omega (arith, hidden_count-start code.source) };
        some_callers = some;
        few_callers = not_many;
        few_calls = few;
        few_places = low;
      }

  first_ready : IsReadyFor (plan_for code calls others) calls (fresh_pass (plan_for code calls others) 1)
  first_ready =
      let room : 0 + length calls ≤ length calls = omega arith in
      record { idle = record { stage = refl; unreserved = refl }; room = room; fits = subst (λ (of : Module). All (IsCallOf of) calls) back may.calls.each }

  second_ready : IsReadyFor (plan_for code calls others) others (fresh_pass (plan_for code calls others) 2)
  second_ready =
      let room : 0 + length others ≤ length others = omega arith in
      record { idle = record { stage = refl; unreserved = refl }; room = room; fits = subst (λ (of : Module). All (IsCallOf of) others) back may.others.each }

module _ {P : Type 0} (plan : Plan) (is_of : P → Type 0) (view : P → PassView) (code : Code) (calls others : List Call) where
  -- two fresh passes that are all there are
  pub are_opened : (passes : List P) (one other : P) → plan ≡ plan_for code calls others → AreFresh plan is_of view passes → passes ≡ one ∷ other ∷ [] → AreOpened plan is_of view code calls others one other
  are_opened passes one other same fresh two =
      let of_one = fresh.each 0 one (ap (λ (all : List P). slice_get all 0) two) in
      let of_other = fresh.each 1 other (ap (λ (all : List P). slice_get all 1) two) in
      record { plan_is = same; of = (of_one.0, of_other.0); first = of_one.1; second = of_other.1 }

  module _ (may : MayMeet code calls others) (one other : P) (opened : AreOpened plan is_of view code calls others one other) where
    pub one_ready : IsReadyFor plan calls (view one)
    one_ready = subst (IsReadyFor plan calls) (sym opened.first)
        (subst (λ (plan : Plan). IsReadyFor plan calls (fresh_pass plan 1)) (sym opened.plan_is) (first_ready code calls others may))

    pub other_ready : IsReadyFor plan others (view other)
    other_ready = subst (IsReadyFor plan others) (sym opened.second)
        (subst (λ (plan : Plan). IsReadyFor plan others (fresh_pass plan 2)) (sym opened.plan_is) (second_ready code calls others may))

    module _ (a b : P) (of_a : is_of a) (of_b : is_of b) (rested_a : IsRested (view one) (view a)) (rested_b : IsRested (view other) (view b)) where
      at_each : (at : ℕ) (pass : P) → slice_get (a ∷ b ∷ []) at ≡ Some pass → is_of pass × IsIdle (view pass) × ((view pass).caller ≡ at + 1)
      at_each zero pass there =
          let same : a ≡ pass = cc there in
          subst (λ (p : P). is_of p × IsIdle (view p) × ((view p).caller ≡ 1)) same (of_a, rested_a.idle, rested_a.caller ∙ ap (λ (v : PassView). v.caller) opened.first)
      at_each (suc zero) pass there =
          let same : b ≡ pass = cc there in
          subst (λ (p : P). is_of p × IsIdle (view p) × ((view p).caller ≡ 2)) same (of_b, rested_b.idle, rested_b.caller ∙ ap (λ (v : PassView). v.caller) opened.second)
      at_each (suc (suc at)) pass there = cc there

      -- both are idle at the end
      pub are_idle : (passes : List P) → passes ≡ a ∷ b ∷ [] → AreIdle plan is_of view passes
      are_idle passes two = subst (AreIdle plan is_of view) (sym two) (record { count = ap (λ (plan : Plan). length plan.sizes) (sym opened.plan_is); each = at_each })
