use Rattle.std.proofs.Common.{sym, ap, ◌∙◌, []}
use Rattle.std.specs.Prelude.{slice_get, get_or}
use Rattle.dl_instr.specs.declared.code.Code.{Code}
use Rattle.dl_core.specs.LocalSteps.{next_step}
use Rattle.dl_core.specs.Shown.{shown, after}
use Rattle.dl_core.proofs.going_on.go_running.Goals as goal

pub returns-in-Some-clause-next : goal.returns-in-Some-clause-next
returns-in-Some-clause-next c plan e =
    let frame = shown c.args.frame.now in
    c.go_step.ensures.next plan (c.allocs_of.ensures plan c.args.frame.now.args.items e)
    ∙ ap (λ s. after (next_step plan frame s) frame) (c.in-Some.ensures.step ∙ ap (λ (code : Code). slice_get (get_or code.ops c.args.frame.now.op []) c.args.frame.now.place) (sym e))
