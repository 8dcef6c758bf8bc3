use Rattle.std.proofs.Common.{◌<◌, ap, sym, subst, ◌∙◌}
use Rattle.std.specs.FinMap as finite
use Rattle.dl_ir.specs.Rows.{Rows}
use Rattle.dl_core.specs.declared.objects.Object.{Object}
use Rattle.dl_core.specs.Heaps.{Heap}
use Rattle.dl_core.specs.Events.{with_mark}
use Rattle.dl_core.proofs.Replaced.{put_back, put_none, has_back, few_back}
use Rattle.dl_core.proofs.shared.set_mark.Goals as goal

pub put-requires : goal.put-requires
put-requires c _ =
    let heap = c.args.heap.now in
    subst (λ (t : Rows Object). finite.len t.rows < t.room) (sym c.remove.ensures.left) (has_back heap.rows c.args.name c.in-Some.object heap.room c.in-Some.ensures.value c.requires)

pub returns-in-Some-clause-heap : goal.returns-in-Some-clause-heap
returns-in-Some-clause-heap c =
    let heap = c.args.heap.now in
    c.put.ensures
    ∙ ap (λ (t : Rows Object). record t { rows = finite.insert t.rows c.args.name (with_mark c.args.mark c.in-Some.object) }) c.remove.ensures.left
    ∙ ap (λ (rows : Heap). record heap { rows = rows }) (put_back heap.rows c.args.name (with_mark c.args.mark) c.in-Some.object c.in-Some.ensures.value)

pub returns-in-None-clause-heap : goal.returns-in-None-clause-heap
returns-in-None-clause-heap c =
    let heap = c.args.heap.now in
    c.remove.ensures.left ∙ ap (λ (rows : Heap). record heap { rows = rows }) (put_none heap.rows c.args.name (with_mark c.args.mark) c.in-None.ensures.value)

pub returns-in-Some-clause-few : goal.returns-in-Some-clause-few
returns-in-Some-clause-few c =
    let heap = c.args.heap.now in
    few_back heap.rows c.args.name (with_mark c.args.mark) heap.room c.put.new.self (
    c.put.ensures
    ∙ ap (λ (t : Rows Object). record t { rows = finite.insert t.rows c.args.name (with_mark c.args.mark c.in-Some.object) }) c.remove.ensures.left
    ∙ ap (λ (rows : Heap). record heap { rows = rows }) (put_back heap.rows c.args.name (with_mark c.args.mark) c.in-Some.object c.in-Some.ensures.value)
    ) c.requires

pub returns-in-None-clause-few : goal.returns-in-None-clause-few
returns-in-None-clause-few c =
    let heap = c.args.heap.now in
    few_back heap.rows c.args.name (with_mark c.args.mark) heap.room c.remove.new.self (
    c.remove.ensures.left ∙ ap (λ (rows : Heap). record heap { rows = rows }) (put_none heap.rows c.args.name (with_mark c.args.mark) c.in-None.ensures.value)
    ) c.requires
