use Rattle.std.proofs.Common.{◌≡◌, ◌∙◌, ◌++◌, ap, rules, sym}
use Rattle.dl_history.specs.Report.{report}
use Rattle.dl_command.specs.Promise.{Finishes}
use Rattle.dl_command.specs.Texts.{heap_of}
use Rattle.dl_command.proofs.StepLemmas.{has_ended, may_run, second_err}
use Rattle.dl_command.proofs.step.run_steps.Goals as goal

pub run_schedule-traced-requires-clause-may : goal.run_schedule-traced-requires-clause-may
run_schedule-traced-requires-clause-may g c =
    let input = c.args.input.now in
    let ready = c.requires.ready in
    let files : c.as_slice-files.result.now ≡ input.all.items = search rules in
    rw files (may_run input.source input.all.items c.requires.calls (heap_of input) ready.0 input.schedule c.requires.callers c.args.ready ready.1)

pub close_run-run-requires-clause-ended : goal.close_run-run-requires-clause-ended
close_run-run-requires-clause-ended g c =
    let input = c.args.input.now in
    let ready = c.requires.ready in
    let files : c.as_slice-files.result.now ≡ input.all.items = search rules in
    let has = rw files at c.run_schedule-traced.ensures in
    rw files (_, has_ended input.source input.all.items c.requires.calls (heap_of input) ready.0 input.schedule c.requires.callers c.args.ready ready.1 has.end c.run_schedule-traced.new.core has.run has.state)

pub close_run-run-requires-clause-room : goal.close_run-run-requires-clause-room
close_run-run-requires-clause-room g c =
    let files : c.as_slice-files.result.now ≡ c.args.input.now.all.items = search rules in
    rw files c.requires.ready.1.room

pub write_behind-status-requires-clause-left : goal.write_behind-status-requires-clause-left
write_behind-status-requires-clause-left g c =
    let input = c.args.input.now in
    let ready = c.requires.ready in
    let files : c.as_slice-files.result.now ≡ input.all.items = search rules in
    let has = rw files at c.run_schedule-traced.ensures in
    let ended = has_ended input.source input.all.items c.requires.calls (heap_of input) ready.0 input.schedule c.requires.callers c.args.ready ready.1 has.end c.run_schedule-traced.new.core has.run has.state in
    (_, (rw files at c.close_run-run.ensures) _ ended)

pub returns : goal.returns
returns g c = λ places is.
    let input = c.args.input.now in
    let files : c.as_slice-files.result.now ≡ input.all.items = search rules in
    let has = rw files at c.run_schedule-traced.ensures in
    let ended = has_ended input.source input.all.items c.requires.calls (heap_of input) places input.schedule c.requires.callers c.args.ready is has.end c.run_schedule-traced.new.core has.run has.state in
    let left = (rw files at c.close_run-run.ensures) _ ended in
    let run = c.close_run-run.result in
    let passes = rw c.new-out.ensures at has.ok in
    let breaks = rw c.new-out.ensures at (second_err _ _ c.run_schedule-traced.result has.err) in
    Finishes.wrote (has.end.text ++ report input.source input.all.items run.history.entries run.refusals run.closed.heap.objects)
    (record {
      end = has.end;
      scheduled = left.scheduled;
      heap_at_end = sym left.heap ∙ left.leads;
      is_text = ap (λ heap. has.end.text ++ report input.source input.all.items run.history.entries run.refusals heap) left.leads;
    })
    (c.write_behind-status.ensures (g.K.Sink.taken c.args.sink.now) has.end.text passes breaks)
