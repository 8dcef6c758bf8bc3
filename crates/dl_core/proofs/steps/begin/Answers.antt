use Rattle.dl_core.specs.Turns.{call_of}
use Rattle.std.proofs.Common.{◌≡◌, inl, inr, sym, ap, subst, ◌∙◌, arith}
use Rattle.std.proofs.lemmas.List.{get_or-map}
use Rattle.std.proofs.lemmas.Option.{slice_get_cases, slice_get_within, get_or_from_slice_get}
use Rattle.dl_ir.specs.CallForms.{IsCallOf}
use Rattle.dl_instr.specs.declared.code.Code.{Code}
use Rattle.dl_core.specs.declared.frames.Frame.{Frame as Kept}
use Rattle.dl_core.specs.declared.stages.Stage.TheVariants as stages
use Rattle.dl_core.specs.Core.{Core, frame_of}
use Rattle.dl_core.specs.Frames.{Frame, idle}
use Rattle.dl_core.specs.Reached.{IsReached, begins, with_begun}
use Rattle.dl_core.specs.Parts.{CanBegin, core_of}
use Rattle.dl_core.specs.Shown.{shown, CanGoOn}
use Rattle.dl_core.proofs.LawfulAlways.{lawful_always}
use Rattle.dl_core.proofs.BeginFits.{can_begin}
use Rattle.dl_core.proofs.steps.begin.Goals as goal

pub begin_by-requires-clause-may : goal.begin_by-requires-clause-may
begin_by-requires-clause-may c frame there =
    let heap = c.requires.run.0 in
    let counters = c.requires.run.1 in
    let run = c.requires.run.2 in
    let frames = c.args.frames.now.items in
    subst (λ (code : Code). CanBegin code frame (call_of c.args.op c.args.args.now)) run.code_is
    (can_begin run.plan heap frames counters run.calls c.args.caller frame run.is (lawful_always run.plan (core_of heap frames counters) run.calls run.is run.reached)
    (get_or-map shown frames c.args.caller frame idle (slice_get_within frames c.args.caller frame there) ∙ ap shown (get_or_from_slice_get frames c.args.caller frame frame there))
    (run.memory c.args.caller frame there) (subst (λ (code : Code). CanGoOn code frame) (sym run.code_is) (run.can c.args.caller frame there)) (c.requires.idle frame there) (call_of c.args.op c.args.args.now)
    (subst (λ (code : Code). IsCallOf code.source (call_of c.args.op c.args.args.now)) (sym run.code_is) c.requires.fits))

pub begin_by-requires-clause-turns : goal.begin_by-requires-clause-turns
begin_by-requires-clause-turns c = c.requires.run.2.turns

pub returns-clause-reached : goal.returns-clause-reached
returns-clause-reached c plan heap counters calls code who room reached =
    let frames = c.args.frames.now.items in
    let before = core_of heap frames counters in
    let idle_now : (frame_of before.world c.args.caller).stage ≡ stages.Idle = elim (slice_get_cases frames c.args.caller).1 [
      | inl found ↦ ap (λ (f : Frame). f.stage) (get_or-map shown frames c.args.caller found.0 idle found.1) ∙ ap (λ (k : Kept). k.stage) found.3 ∙ c.requires.idle found.0 found.2
      | inr past ↦ absurd (omega (arith, past.0, c.requires.within))
    ] in
    subst (λ (after : Core). IsReached plan after (with_begun calls c.args.caller (call_of c.args.op c.args.args.now))) (sym (c.begin_by.ensures.core heap counters))
    (begins c.args.caller (call_of c.args.op c.args.args.now) reached (record { is_caller = who; idle = idle_now; room = room; fits = subst (λ (code : Code). IsCallOf code.source (call_of c.args.op c.args.args.now)) (sym code) c.requires.fits }))
