use Rattle.std.proofs.Common.{◌≡◌, ◌∙◌, ◌++◌, ◌≤◌, [], List, ap, arith, length, map, refl, rules}
use Rattle.std.specs.Prelude.{sum_by, vec_capacity, vec_len}
use Rattle.dl_ir.specs.declared.calls.Call.{Call}
use Rattle.dl_ir.specs.declared.closed.Closed.{Closed}
use Rattle.dl_history.specs.Histories.{joined}
use Rattle.dl_instr.specs.Code.{code}
use Rattle.dl_core.specs.Passes.{plan_over}
use Rattle.dl_command.specs.Texts.{heap_of}
use Rattle.dl_command.proofs.PlanLemmas.{is_plan}
use Rattle.dl_command.proofs.OverLemmas.{entries_few, is_run, refusals_few, runs_over, tickets_apart, versions_apart}
use Rattle.dl_command.proofs.run.run_over.Goals as goal

pub open_over-requires-clause-plan : goal.open_over-requires-clause-plan
open_over-requires-clause-plan g c κs within =
    let source = c.args.input.now.source in
    let heap = heap_of c.args.input.now in
    let all : List (List Call) = c.args.input.now.all.items in
    let files : c.as_slice-files.result.now ≡ all = search rules in
    let sizes : c.deref.result.now ≡ map length all = search rules in
    let is = is_plan c.codes_of_modules.ensures.plain source heap all c.args.places c.requires.checked c.requires.start c.requires.calls c.requires.some c.requires.few c.requires.places in
    rw (c.in_ok-code.ensures, sizes) is

pub run_files-closed-requires-clause-plan : goal.run_files-closed-requires-clause-plan
run_files-closed-requires-clause-plan g c κs within =
    let source = c.args.input.now.source in
    let heap = heap_of c.args.input.now in
    let all : List (List Call) = c.args.input.now.all.items in
    let files : c.as_slice-files.result.now ≡ all = search rules in
    let sizes : c.deref.result.now ≡ map length all = search rules in
    let is = is_plan c.codes_of_modules.ensures.plain source heap all c.args.places c.requires.checked c.requires.start c.requires.calls c.requires.some c.requires.few c.requires.places in
    rw (c.in_ok-all.ensures.plan, c.in_ok-code.ensures, sizes) is

pub merge-history-requires-clause-room : goal.merge-history-requires-clause-room
merge-history-requires-clause-room g c =
    let source = c.args.input.now.source in
    let heap = heap_of c.args.input.now in
    let all : List (List Call) = c.args.input.now.all.items in
    let files : c.as_slice-files.result.now ≡ all = search rules in
    let sizes : c.deref.result.now ≡ map length all = search rules in
    let closed : Closed = c.run_files-closed.result in
    let same : g.G.Ground.plan c.in_ok-all.all ≡ plan_over (code source) heap c.args.places (map length all) = rw (c.in_ok-all.ensures.plan, c.in_ok-code.ensures, sizes) refl in
    let runs = runs_over source heap all c.as_slice-files.result.now c.args.places (g.G.Ground.plan c.in_ok-all.all) closed same files c.run_files-closed.ensures in
    let total : c.total_of-total.result ≡ sum_by length all = search rules in
    let few = entries_few source heap all c.args.places closed runs in
    omega (arith, few, total, c.in_ok-room.ensures)

pub merge-history-requires-clause-tickets : goal.merge-history-requires-clause-tickets
merge-history-requires-clause-tickets g c =
    let source = c.args.input.now.source in
    let heap = heap_of c.args.input.now in
    let all : List (List Call) = c.args.input.now.all.items in
    let files : c.as_slice-files.result.now ≡ all = search rules in
    let sizes : c.deref.result.now ≡ map length all = search rules in
    let closed : Closed = c.run_files-closed.result in
    let same : g.G.Ground.plan c.in_ok-all.all ≡ plan_over (code source) heap c.args.places (map length all) = rw (c.in_ok-all.ensures.plan, c.in_ok-code.ensures, sizes) refl in
    let runs = runs_over source heap all c.as_slice-files.result.now c.args.places (g.G.Ground.plan c.in_ok-all.all) closed same files c.run_files-closed.ensures in
    tickets_apart source heap all c.args.places closed runs

pub merge-history-requires-clause-versions : goal.merge-history-requires-clause-versions
merge-history-requires-clause-versions g c =
    let source = c.args.input.now.source in
    let heap = heap_of c.args.input.now in
    let all : List (List Call) = c.args.input.now.all.items in
    let files : c.as_slice-files.result.now ≡ all = search rules in
    let sizes : c.deref.result.now ≡ map length all = search rules in
    let closed : Closed = c.run_files-closed.result in
    let same : g.G.Ground.plan c.in_ok-all.all ≡ plan_over (code source) heap c.args.places (map length all) = rw (c.in_ok-all.ensures.plan, c.in_ok-code.ensures, sizes) refl in
    let runs = runs_over source heap all c.as_slice-files.result.now c.args.places (g.G.Ground.plan c.in_ok-all.all) closed same files c.run_files-closed.ensures in
    rw files (versions_apart source heap all c.args.places closed runs)

pub gather-requires : goal.gather-requires
gather-requires g c =
    let source = c.args.input.now.source in
    let heap = heap_of c.args.input.now in
    let all : List (List Call) = c.args.input.now.all.items in
    let files : c.as_slice-files.result.now ≡ all = search rules in
    let sizes : c.deref.result.now ≡ map length all = search rules in
    let closed : Closed = c.run_files-closed.result in
    let same : g.G.Ground.plan c.in_ok-all.all ≡ plan_over (code source) heap c.args.places (map length all) = rw (c.in_ok-all.ensures.plan, c.in_ok-code.ensures, sizes) refl in
    let runs = runs_over source heap all c.as_slice-files.result.now c.args.places (g.G.Ground.plan c.in_ok-all.all) closed same files c.run_files-closed.ensures in
    let total : c.total_of-total.result ≡ sum_by length all = search rules in
    let few = refusals_few source heap all c.args.places closed runs in
    let those : c.as_slice.result.now ≡ closed.refusals = search rules in
    let empty : vec_len c.in_ok-refusals.refusals ≡ 0 = search rules in
    let large : c.total_of-total.result ≤ vec_capacity c.in_ok-refusals.refusals = search rules in
    rw those (omega (arith, few, total, empty, large))

pub returns-clause-run : goal.returns-clause-run
returns-clause-run g c =
    let source = c.args.input.now.source in
    let heap = heap_of c.args.input.now in
    let all : List (List Call) = c.args.input.now.all.items in
    let files : c.as_slice-files.result.now ≡ all = search rules in
    let sizes : c.deref.result.now ≡ map length all = search rules in
    let closed : Closed = c.run_files-closed.result in
    let same : g.G.Ground.plan c.in_ok-all.all ≡ plan_over (code source) heap c.args.places (map length all) = rw (c.in_ok-all.ensures.plan, c.in_ok-code.ensures, sizes) refl in
    let runs = runs_over source heap all c.as_slice-files.result.now c.args.places (g.G.Ground.plan c.in_ok-all.all) closed same files c.run_files-closed.ensures in
    let those : c.as_slice.result.now ≡ closed.refusals = search rules in
    let empty : c.in_ok-refusals.refusals.items ≡ [] = search rules in
    is_run source heap all c.args.places closed runs c.requires.calls c.merge-history.result c.from_vec.result c.merge-history.ensures.entries
    (rw files at c.merge-history.ensures.moves)
    (c.from_vec.ensures ∙ c.gather.ensures ∙ ap (λ list. list ++ joined c.as_slice.result.now) empty ∙ ap joined those)
