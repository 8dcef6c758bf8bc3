use Rattle.std.proofs.Common.{◌≡◌, length, Some, map, refl, sym, ap, subst, ◌∙◌}
use Rattle.std.specs.Prelude.{slice_get}
use Rattle.std.proofs.lemmas.List.{map-set, get_or-map}
use Rattle.std.proofs.lemmas.Option.{slice_get_read}
use Rattle.dl_core.specs.Core.{no_account}
use Rattle.dl_core.specs.Frames.{idle}
use Rattle.dl_core.specs.Accounts.{shown_account}
use Rattle.dl_core.specs.Parts.{HasOwn, core_by}
use Rattle.dl_core.specs.Shown.{shown, memory_of}
use Rattle.dl_core.proofs.Names.{same_some}
use Rattle.dl_core.proofs.steps.advance_by.Goals as goal

pub step-requires-clause-may : goal.step-requires-clause-may
step-requires-clause-may c =
    let frames = c.args.frames.now.items in
    let frame = c.index_mut-frame.result.now in
    c.requires.may frame (slice_get_read frames (length frames) c.args.caller frame refl c.requires.within c.index_mut-frame.ensures.value)

pub returns-clause-stepped : goal.returns-clause-stepped
returns-clause-stepped c plan code =
    let frames = c.args.frames.now.items in
    let frame = c.index_mut-frame.result.now in
    let value = sym c.index_mut-frame.ensures.value in
    c.step.ensures.stepped plan (map shown frames) (map shown_account frames) code
    (get_or-map shown frames c.args.caller frame idle c.requires.within ∙ ap shown value)
    (get_or-map shown_account frames c.args.caller frame no_account c.requires.within ∙ ap shown_account value)
    ∙ (λ i. (core_by c.step.new.heap.rows (sym (map-set shown frames c.args.caller c.step.new.frame) i) (sym (map-set shown_account frames c.args.caller c.step.new.frame) i) c.step.new.counters, c.step.result))

pub returns-clause-frames : goal.returns-clause-frames
returns-clause-frames c before e =
    let frames = c.args.frames.now.items in
    let frame = c.index_mut-frame.result.now in
    let there : slice_get frames c.args.caller ≡ Some frame = slice_get_read frames (length frames) c.args.caller frame refl c.requires.within c.index_mut-frame.ensures.value in
    (c.step.new.frame, refl, c.step.ensures.can, c.step.ensures.memory ∙ ap memory_of (same_some (sym there ∙ e)), λ own. c.step.ensures.own (subst (HasOwn c.args.caller) (same_some (sym e ∙ there)) own))
