use Rattle.std.proofs.Common.{◌≡◌, true, false, refl}
use Rattle.std.proofs.lemmas.Result.{err_from_is_err_and}
use Rattle.dl_heapfile.specs.Faults.{Reads}
use Rattle.dl_heapfile.proofs.Whole.{no_heap_read, form_read, built_read}
use Rattle.dl_heapfile.proofs.reader.heap_of_text.Goals as goal

no : false ≡ true → ⊥
no e = cc

pub returns-in_err-line-clause-reads : goal.returns-in_err-line-clause-reads
returns-in_err-line-clause-reads c =
    let failed = err_from_is_err_and c.from_residual.result c.from_residual.ensures.1 in
    rw (failed.1, failed.2) (λ _. no_heap_read c.args.source.now c.args.places c.args.bytes.now c.in_err-line.field-0.0 c.in_err-line.ensures.found)

pub returns-in_default-clause-reads : goal.returns-in_default-clause-reads
returns-in_default-clause-reads c = λ _. Reads.bad_head c.in_ok-line.line c.in_ok-line.text.now c.in_ok-line.ensures.found c.in_default.ensures.found

pub returns-in_err-entries-clause-reads : goal.returns-in_err-entries-clause-reads
returns-in_err-entries-clause-reads c =
    let failed = err_from_is_err_and c.from_residual-in_err-entries.result c.from_residual-in_err-entries.ensures.1 in
    let head = c.in-Some.head in
    rw (failed.1, failed.2) (λ not_memory. Reads.bad_line c.in_ok-line.line c.in_ok-line.text.now head.objects.now head.hidden.now head.rest.now c.in_err-entries.field-0.0
    c.in_ok-line.ensures.found c.in-Some.ensures.found (c.in_err-entries.ensures.told not_memory))

pub returns-then-not-is_counted-clause-reads : goal.returns-then-not-is_counted-clause-reads
returns-then-not-is_counted-clause-reads c =
    let head = c.in-Some.head in
    let form = form_read c.args.source.now c.args.bytes.now c.in_ok-line.text.now head.objects.now head.hidden.now head.rest.now c.in_ok-line.line c.in_ok-entries.entries
    c.in_ok-line.ensures.found c.in-Some.ensures.found c.in_ok-entries.ensures.told in
    λ _. Reads.count form (λ is. no (c.if-not-is_counted.ensures.1 is))

pub returns-clause-reads : goal.returns-clause-reads
returns-clause-reads c =
    let head = c.in-Some.head in
    let form = form_read c.args.source.now c.args.bytes.now c.in_ok-line.text.now head.objects.now head.hidden.now head.rest.now c.in_ok-line.line c.in_ok-entries.entries
    c.in_ok-line.ensures.found c.in-Some.ensures.found c.in_ok-entries.ensures.told in
    built_read c.args.source.now c.args.places c.args.bytes.now head.objects.now head.hidden.now c.in_ok-line.line c.as_slice.result.now c.in_ok-entries.entries c.build.result
    c.as_slice.ensures form (c.if-not-is_counted.ensures.0 refl) c.build.ensures.built
