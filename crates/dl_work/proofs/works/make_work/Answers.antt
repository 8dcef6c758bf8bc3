use Rattle.std.proofs.Common.{◌≡◌, ℕ, ◌+◌, ◌*◌, map, sym, ap, subst, ◌∙◌}
use Rattle.std.specs.Prelude.{All}
use Rattle.std.specs.List.{range_with_len}
use Rattle.dl_ir.specs.CallForms.{AreCallsOf}
use Rattle.dl_schedule.specs.Rules.{AreGivesOf}
use Rattle.dl_work.specs.Draws.{state_after, drawn}
use Rattle.dl_work.specs.Works.{give_of, files_of, schedule_of}
use Rattle.dl_work.proofs.Dealing.{same_from}
use Rattle.dl_work.proofs.Drawing.{drawn_behind}
use Rattle.dl_work.proofs.Fitting.{files_fit, schedule_fits}
use Rattle.dl_work.proofs.works.make_work.Goals as goal
use Rattle.dl_work.proofs.works.make_work.Goals.{In_ok-schedule}

-- the gives are those behind the operations
gives : (c : In_ok-schedule) → c.in_ok-schedule.schedule ≡ schedule_of c.args.seed c.args.count c.args.callers
gives c =
    let seed = c.args.seed in
    let first = 3 * c.args.count in
    let gives_from = λ (state : ℕ). map (λ at. give_of c.args.callers (drawn state at)) (range_with_len 0 (4 * c.args.count)) in
    c.in_ok-schedule.ensures ∙ ap gives_from c.in_ok-files.ensures.state
    ∙ same_from (λ at. give_of c.args.callers (drawn (state_after seed first) at)) (λ at. give_of c.args.callers (drawn seed (first + at))) 0 (4 * c.args.count)
    (λ at above. ap (give_of c.args.callers) (drawn_behind seed first at))

pub returns-clause-work : goal.returns-clause-work
returns-clause-work c =
    let d = (goal.at.returns-clause-work c).In_ok-schedule in
    ap (λ files. record { files = files; schedule = c.in_ok-schedule.schedule }) c.in_ok-files.ensures.files
    ∙ ap (λ schedule. record { files = files_of c.args.seed c.args.count c.args.callers; schedule = schedule }) (gives d)

pub returns-clause-of_module : goal.returns-clause-of_module
returns-clause-of_module c source takes =
    subst (All (AreCallsOf source)) (sym c.in_ok-files.ensures.files) (files_fit source takes c.args.seed c.args.count c.args.callers c.requires.few)

pub returns-clause-schedule : goal.returns-clause-schedule
returns-clause-schedule c =
    let d = (goal.at.returns-clause-schedule c).In_ok-schedule in
    subst (AreGivesOf c.args.callers) (sym (gives d)) (schedule_fits c.args.seed c.args.count c.args.callers c.requires.some_callers c.requires.few)
