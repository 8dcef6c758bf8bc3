use Rattle.std.proofs.Common.{ap}
use Rattle.dl_ir.specs.Heap.{start_objects}
use Rattle.dl_trace.specs.declared.tally.Counts.{Counts}
use Rattle.dl_command.proofs.PlanLemmas.{can_start}
use Rattle.dl_command.proofs.StepLemmas.{has_ended, may_run}
use Rattle.dl_command.proofs.work.run_scheduled.Goals as goal

pub make_ready-requires-clause-start : goal.make_ready-requires-clause-start
make_ready-requires-clause-start c = can_start c.args.source.now c.args.places c.requires.checked

pub run_quiet-counts-requires : goal.run_quiet-counts-requires
run_quiet-counts-requires c =
    let source = c.args.source.now in
    may_run source c.args.files.now c.requires.calls (start_objects source) c.args.places c.args.schedule.now c.requires.callers c.in_ok-core.field-0 c.in_ok-core.ensures

pub close_run-run-requires-clause-ended : goal.close_run-run-requires-clause-ended
close_run-run-requires-clause-ended c =
    let source = c.args.source.now in
    let has = c.run_quiet-counts.ensures in
    (_, has_ended source c.args.files.now c.requires.calls (start_objects source) c.args.places c.args.schedule.now c.requires.callers c.in_ok-core.field-0 c.in_ok-core.ensures has.end c.run_quiet-counts.new.core has.run has.state)

pub returns : goal.returns
returns c =
    let source = c.args.source.now in
    let has = c.run_quiet-counts.ensures in
    let ended = has_ended source c.args.files.now c.requires.calls (start_objects source) c.args.places c.args.schedule.now c.requires.callers c.in_ok-core.field-0 c.in_ok-core.ensures has.end c.run_quiet-counts.new.core has.run has.state in
    (has.end, c.close_run-run.ensures _ ended, ap (λ (counts : Counts). counts.waits) has.counts_are)
