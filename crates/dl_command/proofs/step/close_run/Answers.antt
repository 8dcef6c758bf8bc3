use Rattle.std.proofs.Common.{◌∙◌, ◌++◌, ap, arith}
use Rattle.dl_history.specs.Histories.{joined}
use Rattle.dl_command.proofs.OverLemmas.{entries_few, refusals_few, tickets_apart, versions_apart}
use Rattle.dl_command.proofs.StepLemmas.{is_left, resting, runs_files}
use Rattle.dl_command.proofs.step.close_run.Goals as goal

pub close-closed-requires : goal.close-closed-requires
close-closed-requires c =
    record { idle = resting c.args.source.now c.args.files.now c.requires.calls c.scheduled_runs_are_over.ensures c.requires.ended.0 c.args.core c.requires.ended.1 }

pub merge-history-requires-clause-room : goal.merge-history-requires-clause-room
merge-history-requires-clause-room c =
    let made = c.close-closed.ensures in
    let runs = runs_files c.args.source.now c.args.files.now c.requires.calls c.scheduled_runs_are_over.ensures c.requires.ended.0 c.args.core c.requires.ended.1 c.close-closed.result made.heap made.entries made.refusals made.free in
    let few = entries_few c.args.source.now c.requires.ended.0.heap c.args.files.now c.requires.ended.0.places c.close-closed.result runs in
    omega (arith, few, c.requires.room.merging)

pub merge-history-requires-clause-tickets : goal.merge-history-requires-clause-tickets
merge-history-requires-clause-tickets c =
    let made = c.close-closed.ensures in
    let runs = runs_files c.args.source.now c.args.files.now c.requires.calls c.scheduled_runs_are_over.ensures c.requires.ended.0 c.args.core c.requires.ended.1 c.close-closed.result made.heap made.entries made.refusals made.free in
    tickets_apart c.args.source.now c.requires.ended.0.heap c.args.files.now c.requires.ended.0.places c.close-closed.result runs

pub merge-history-requires-clause-versions : goal.merge-history-requires-clause-versions
merge-history-requires-clause-versions c =
    let made = c.close-closed.ensures in
    let runs = runs_files c.args.source.now c.args.files.now c.requires.calls c.scheduled_runs_are_over.ensures c.requires.ended.0 c.args.core c.requires.ended.1 c.close-closed.result made.heap made.entries made.refusals made.free in
    versions_apart c.args.source.now c.requires.ended.0.heap c.args.files.now c.requires.ended.0.places c.close-closed.result runs

pub gather-requires : goal.gather-requires
gather-requires c =
    let made = c.close-closed.ensures in
    let runs = runs_files c.args.source.now c.args.files.now c.requires.calls c.scheduled_runs_are_over.ensures c.requires.ended.0 c.args.core c.requires.ended.1 c.close-closed.result made.heap made.entries made.refusals made.free in
    let few = refusals_few c.args.source.now c.requires.ended.0.heap c.args.files.now c.requires.ended.0.places c.close-closed.result runs in
    rw c.as_slice.ensures (omega (arith, few, c.requires.room.empty, c.requires.room.refusals))

pub returns : goal.returns
returns c = λ course ended.
    let made = c.close-closed.ensures in
    let refused = c.from_vec.ensures ∙ c.gather.ensures ∙ ap (λ list. list ++ joined c.as_slice.result.now) c.requires.room.none ∙ ap joined c.as_slice.ensures in
    is_left c.args.source.now c.args.files.now c.requires.calls c.scheduled_runs_are_over.ensures course c.args.core ended c.close-closed.result made.heap made.entries made.refusals made.free
    c.merge-history.result c.from_vec.result c.merge-history.ensures.entries c.merge-history.ensures.moves refused
