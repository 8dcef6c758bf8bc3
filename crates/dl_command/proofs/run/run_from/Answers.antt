use Rattle.std.proofs.Common.{◌≡◌, ◌∙◌, sym, ap, subst, arith}
use Rattle.std.proofs.lemmas.List.{append-nil}
use Rattle.dl_ir.specs.declared.answers.Entry.{Entry as OneEntry}
use Rattle.dl_ir.specs.Heap.{View}
use Rattle.dl_shape.proofs.Legal.{legal_rises}
use Rattle.dl_shape.proofs.Rising.{rising_is}
use Rattle.dl_history.specs.Histories.{joined, AreByCaller}
use Rattle.dl_closed.proofs.Histories.{never_seals}
use Rattle.dl_command.proofs.RunLemmas.{one_element, one_by_caller, one_in_order}
use Rattle.dl_command.proofs.run.run_from.Goals as goal

pub run_calls-requires-clause-next : goal.run_calls-requires-clause-next
run_calls-requires-clause-next c = omega (arith, c.greatest_ticket-first.ensures)

pub overflow_cast-len : goal.overflow_cast-len
overflow_cast-len c =
    let one = one_element c.args.files.now c.index-files-0.result c.requires.one c.index-files-0.is in
    let calls = rw one at c.requires.calls in
    let few = (calls 0 c.index-files-0.result (omega arith)).short in
    omega (arith, c.len.ensures, few, c.in_ok-served.ensures.short)

pub history_of-history-requires-clause-tickets : goal.history_of-history-requires-clause-tickets
history_of-history-requires-clause-tickets c = rising_is (λ (entry : OneEntry). entry.ticket) _ (legal_rises c.in_ok-served.ensures.legal.goes)

pub history_of-history-requires-clause-versions : goal.history_of-history-requires-clause-versions
history_of-history-requires-clause-versions c =
    let one = one_element c.args.files.now c.index-files-0.result c.requires.one c.index-files-0.is in
    rw one c.in_ok-served.ensures.apart

pub returns-clause-run : goal.returns-clause-run
returns-clause-run c =
    let one = one_element c.args.files.now c.index-files-0.result c.requires.one c.index-files-0.is in
    let legal = c.in_ok-served.ensures.legal in
    let lawful = c.in_ok-served.ensures.pool in
    let calls = rw one at c.requires.calls in
    let same : c.history_of-history.result.entries ≡ c.in_ok-served.served.entries = c.history_of-history.ensures.entries in
    let those : c.in_ok-refusals.refusals ≡ c.in_ok-served.served.refusals = c.in_ok-refusals.ensures ∙ c.as_slice.ensures in
    let of_one = c.in_ok-served.ensures.refusals in
    let moves = rw one at c.history_of-history.ensures.moves in
    rw (one, same, those) record {
      covers = c.in_ok-served.ensures.covers;
      in_order = one_in_order _ of_one.caller of_one.in_order;
      legal = legal;
      lawful = lawful;
      moves = moves;
      versions = c.in_ok-served.ensures.versions;
      unsealed = λ closed. never_seals _ _ _ _ calls closed legal;
    }

pub returns-clause-heap : goal.returns-clause-heap
returns-clause-heap c =
    let one = one_element c.args.files.now c.index-files-0.result c.requires.one c.index-files-0.is in
    let replay = c.in_ok-served.ensures.replay in
    let same : c.history_of-history.result.entries ≡ c.in_ok-served.served.entries = c.history_of-history.ensures.entries in
    rw (one, same) (ap (λ (h : View). h.objects) c.in_ok-closed.ensures.heap ∙ sym replay)

pub returns-clause-refusals : goal.returns-clause-refusals
returns-clause-refusals c =
    let those : c.in_ok-refusals.refusals ≡ c.in_ok-served.served.refusals = c.in_ok-refusals.ensures ∙ c.as_slice.ensures in
    let of_one = c.in_ok-served.ensures.refusals in (
      ap joined c.in_ok-closed.ensures.refusals ∙ append-nil _ ∙ sym those,
      subst AreByCaller (sym c.in_ok-closed.ensures.refusals) (one_by_caller _ of_one.caller of_one.in_order),
    )
