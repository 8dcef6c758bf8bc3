use Rattle.std.proofs.Common.{◌∙◌, sym, arith}
use Rattle.dl_trace.specs.Runs.{is_done}
use Rattle.dl_trace.proofs.Goings.{so_many, all_numbers, not_all_numbers}
use Rattle.dl_trace.proofs.steps.are_done.Goals as goal

pub returns-then-not-is_done : goal.returns-then-not-is_done
returns-then-not-is_done c =
    let many = so_many c.args.core.now c.args.files.now c.requires.way in
    sym (not_all_numbers (is_done c.args.files.now c.args.core.now.state) _ c.callers.place (omega (arith, many)) (sym c.is_done.ensures ∙ c.if-not-is_done.true))

pub callers-preserved : goal.callers-preserved
callers-preserved c = all_numbers (is_done c.args.files.now c.args.core.now.state) c.callers.place c.callers.invariant (sym c.is_done.ensures ∙ c.if-not-is_done.false)
