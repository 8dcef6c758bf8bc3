-- In every state of a run, what the begin of a call needs is there.
use Rattle.std.proofs.Common.{◌≡◌, inl, inr, ℕ, ℤ, List, [], ◌∷◌, length, refl, sym, ap, subst, ◌∙◌, arith}
use Rattle.dl_ir.specs.declared.answers.End.{End}
use Rattle.dl_ir.specs.declared.calls.Call.{Call}
use Rattle.dl_ir.specs.declared.modules.LocalDecl.{LocalDecl}
use Rattle.dl_ir.specs.declared.modules.Module.{Module}
use Rattle.dl_ir.specs.CallForms.{AllFit, IsCallOf}
use Rattle.dl_ir.specs.Rows.{Rows}
use Rattle.dl_core.specs.declared.counters.Counters.{Counters}
use Rattle.dl_core.specs.declared.frames.Frame.{Frame as Kept}
use Rattle.dl_core.specs.declared.objects.Object.{Object}
use Rattle.dl_core.specs.declared.stages.Stage.TheVariants as stages
use Rattle.dl_core.specs.Core.{frame_of}
use Rattle.dl_core.specs.Frames.{Frame, at_rest}
use Rattle.dl_core.specs.Laws.{IsKept}
use Rattle.dl_core.specs.Parts.{core_of, CanBegin, HasMemory}
use Rattle.dl_core.specs.Plans.{Plan, IsPlan}
use Rattle.dl_core.specs.Reached.{Calls}
use Rattle.dl_core.specs.Shown.{shown, CanGoOn}
use Rattle.dl_core.specs.Sound.{Stands, idles, waits, works}
use Rattle.dl_core.proofs.CallerFacts.{op_checked}
use Rattle.dl_core.proofs.RootNumbers.{all_held}
use Rattle.dl_core.proofs.RunCounts.{begun_few}

-- there is an argument for each parameter
few_args : (source : Module) (params : List LocalDecl) (args : List ℤ) → AllFit source params args → length args ≡ length params
few_args source [] [] fit = refl
few_args source [] (a ∷ args) fit = absurd fit
few_args source (p ∷ params) [] fit = absurd fit
few_args source (p ∷ params) (a ∷ args) fit = let rest = few_args source params args fit.1 in omega (arith, rest)

module _ (plan : Plan) (heap : Rows Object) (frames : List Kept) (counters : Counters) (calls : Calls) (caller : ℕ) (kept : Kept) (is : IsPlan plan) (all : IsKept plan (core_of heap frames counters) calls)
    (e : frame_of (core_of heap frames counters).world caller ≡ shown kept) (memory : HasMemory kept heap) (can : CanGoOn plan.code kept) (idle : kept.stage ≡ stages.Idle) where
  -- who has no call in hand has nothing else
  rests : shown kept ≡ at_rest kept.index (shown kept).finished
  rests = by (all.sound.each caller).stands
    where
      now : (frame_of (core_of heap frames counters).world caller).stage ≡ stages.Idle
      now = ap (λ (f : Frame). f.stage) e ∙ idle

      not_called : stages.Idle ≡ stages.Called → ⊥
      not_called p = cc

      not_running : stages.Idle ≡ stages.Running → ⊥
      not_running p = cc

      not_ended : (end : End) → stages.Idle ≡ stages.Ended end → ⊥
      not_ended end p = cc

      by : Stands plan heap.rows calls caller (frame_of (core_of heap frames counters).world caller) → shown kept ≡ at_rest kept.index (shown kept).finished
      by (idles rest) = subst (λ (f : Frame). f ≡ at_rest f.index f.finished) e rest
      by (waits call wait) = absurd (not_called (sym now ∙ ap (λ (f : Frame). f.stage) wait.is))
      by (works call entered work) = absurd (elim work.stage [ inl running ↦ not_running (sym now ∙ running) | inr ended ↦ not_ended ended.0 (sym now ∙ ended.1) ])

  -- what the begin of a call needs
  pub can_begin : (call : Call) → IsCallOf plan.code.source call → CanBegin plan.code kept call
  can_begin call fits =
      let op = op_checked plan is call.op fits.op fits.declared in
      let args = few_args plan.code.source fits.op.params call.args fits.fits in
      let index : (frame_of (core_of heap frames counters).world caller).index ≡ kept.index = ap (λ (f : Frame). f.index) e in
      record {
        idle = rests;
        can = can;
        held = record { op = fits.op; declared = fits.declared; held = all_held plan.code.source fits.op.params call.args is.checked.start fits.fits; few_locals = op.few_locals };
        index = omega (arith, (all.sound.each caller).history.begun, begun_few plan (core_of heap frames counters) calls is all caller, index);
        args = omega (arith, args, op.few_locals, memory.args);
        roots = omega (arith, args, op.few_locals, memory.roots);
      }
