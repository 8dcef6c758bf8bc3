use Rattle.std.proofs.Common.{◌≡◌, ◌∙◌, ℕ, List, ap, arith, length, subst, sym}
use Rattle.std.specs.Prelude.{All}
use Rattle.dl_ir.specs.declared.calls.Call.{Call}
use Rattle.dl_schedule.specs.Rules.{IsGiveOf}
use Rattle.dl_work.specs.declared.works.Work.{Work}
use Rattle.dl_work.specs.Works.{files_of}
use Rattle.dl_command.proofs.WorkLemmas.{work_many, works_is}
use Rattle.dl_command.proofs.work.run_work.Goals as goal

pub run_scheduled-requires-clause-some : goal.run_scheduled-requires-clause-some
run_scheduled-requires-clause-some c =
    let asked = c.args.asked in
    let made = c.in_ok-files.ensures in
    let files : c.as_slice-files.result.now ≡ files_of asked.seed asked.count asked.callers = c.as_slice-files.ensures ∙ ap (λ (w : Work). w.files) made.work in
    let many : length c.as_slice-files.result.now ≡ asked.callers = ap (λ (cs : List (List Call)). length cs) files ∙ work_many asked.seed asked.count asked.callers in
    omega (arith, many, c.requires.some.1)

pub run_scheduled-requires-clause-few : goal.run_scheduled-requires-clause-few
run_scheduled-requires-clause-few c =
    let asked = c.args.asked in
    let made = c.in_ok-files.ensures in
    let files : c.as_slice-files.result.now ≡ files_of asked.seed asked.count asked.callers = c.as_slice-files.ensures ∙ ap (λ (w : Work). w.files) made.work in
    let many : length c.as_slice-files.result.now ≡ asked.callers = ap (λ (cs : List (List Call)). length cs) files ∙ work_many asked.seed asked.count asked.callers in
    omega (arith, many, c.requires.few.1)

pub run_scheduled-requires-clause-callers : goal.run_scheduled-requires-clause-callers
run_scheduled-requires-clause-callers c =
    let asked = c.args.asked in
    let made = c.in_ok-files.ensures in
    let files : c.as_slice-files.result.now ≡ files_of asked.seed asked.count asked.callers = c.as_slice-files.ensures ∙ ap (λ (w : Work). w.files) made.work in
    let many : length c.as_slice-files.result.now ≡ asked.callers = ap (λ (cs : List (List Call)). length cs) files ∙ work_many asked.seed asked.count asked.callers in
    subst (λ (n : ℕ). All (IsGiveOf n) c.in_ok-files.field-0.schedule) (sym many) made.schedule.each

pub returns : goal.returns
returns c =
    let asked = c.args.asked in
    let made = c.in_ok-files.ensures in
    let files : c.as_slice-files.result.now ≡ files_of asked.seed asked.count asked.callers = c.as_slice-files.ensures ∙ ap (λ (w : Work). w.files) made.work in
    let ran = c.in_ok-run.ensures in
    let left = ran.1 in
    works_is asked c.args.places c.in_ok-source.source c.as_slice-files.result.now c.in_ok-files.field-0.schedule ran.0 c.in_ok-run.run'.history c.in_ok-run.run'.refusals
    _ _ _ _ c.in_ok-source.ensures.is_module files (ap (λ (w : Work). w.schedule) made.work) left.scheduled left.heap ran.2 left.refusals.0 c.in_ok-replayed.ensures
