use Rattle.std.proofs.Common.{sym, ap, subst, ◌∙◌, arith}
use Rattle.std.proofs.lemmas.List.{get_or-map, length-map}
use Rattle.std.proofs.lemmas.Option.{slice_get_within, get_or_from_slice_get}
use Rattle.dl_instr.specs.declared.code.Code.{Code}
use Rattle.dl_core.specs.Frames.{idle}
use Rattle.dl_core.specs.Parts.{CanAdvance, core_of}
use Rattle.dl_core.specs.Shown.{shown, CanGoOn}
use Rattle.dl_core.proofs.LawfulAlways.{lawful_always}
use Rattle.dl_core.proofs.RunGoesOn.{run_goes_on}
use Rattle.dl_core.proofs.FromKept.{can_advance, heap_fits}
use Rattle.dl_core.proofs.steps.advance.Goals as goal

pub advance_by-requires-clause-may : goal.advance_by-requires-clause-may
advance_by-requires-clause-may c frame there =
    let run = c.requires.run in
    let frames = c.args.frames.now.items in
    let kept = lawful_always run.plan (core_of c.args.heap.now frames c.args.counters.now) run.calls run.is run.reached in
    let within = slice_get_within frames c.args.caller frame there in
    subst (λ (code : Code). CanAdvance code frame c.args.heap.now c.args.counters.now) run.code_is
    (can_advance run.plan c.args.heap.now frames c.args.counters.now run.calls c.args.caller frame run.is kept
    (record { from_one = c.requires.from_one; to_last = omega (arith, within, length-map frames shown, kept.sound.frames) })
    (get_or-map shown frames c.args.caller frame idle within ∙ ap shown (get_or_from_slice_get frames c.args.caller frame frame there))
    run.room (run.memory c.args.caller frame there) (subst (λ (code : Code). CanGoOn code frame) (sym run.code_is) (run.can c.args.caller frame there)))

pub advance_by-requires-clause-few : goal.advance_by-requires-clause-few
advance_by-requires-clause-few c =
    let run = c.requires.run in
    heap_fits run.plan c.args.heap.now c.args.frames.now.items c.args.counters.now run.calls run.is (lawful_always run.plan (core_of c.args.heap.now c.args.frames.now.items c.args.counters.now) run.calls run.is run.reached) run.room

pub returns-clause-reached : goal.returns-clause-reached
returns-clause-reached c plan calls code reached =
    run_goes_on plan (core_of c.args.heap.now c.args.frames.now.items c.args.counters.now) (core_of c.advance_by.new.heap c.advance_by.new.frames.items c.advance_by.new.counters) calls c.args.caller c.advance_by.result reached (c.advance_by.ensures.stepped plan code)
