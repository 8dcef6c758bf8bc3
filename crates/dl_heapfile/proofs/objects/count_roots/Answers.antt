use Rattle.std.proofs.Common.{arith, ap, ◌∙◌}
use Rattle.std.specs.Prelude.{sum_by}
use Rattle.std.proofs.lemmas.List.{take_all}
use Rattle.std.proofs.lemmas.List.Sums.{sum_by_more, sum_by_more_le}
use Rattle.dl_ir.specs.declared.modules.KindDecl.{KindDecl}
use Rattle.dl_heapfile.proofs.Roots.{few_roots, roots_total}
use Rattle.dl_heapfile.proofs.objects.count_roots.Goals as goal

pub overflow_add-count : goal.overflow_add-count
overflow_add-count c =
    let count = λ (d : KindDecl). d.count in
    let kinds = c.args.kinds.now in
    let within = sum_by_more_le count kinds c.loop-declared.declared-index c.declared-item.result c.loop-declared-test.true in
    omega (arith, within, ap count c.declared-item.is, c.loop-declared.invariant, roots_total 0 kinds, few_roots 0 0 kinds c.requires)

pub loop-declared-preserved : goal.loop-declared-preserved
loop-declared-preserved c =
    let count = λ (d : KindDecl). d.count in
    let more = sum_by_more count c.args.kinds.now c.loop-declared.declared-index c.declared-item.result c.loop-declared-test.true in
    omega (arith, more, ap count c.declared-item.is, c.loop-declared.invariant)

pub returns : goal.returns
returns c =
    let count = λ (d : KindDecl). d.count in
    c.loop-declared.invariant ∙ ap (sum_by count) (take_all c.loop-declared.declared-index c.args.kinds.now c.loop-declared-test.false) ∙ roots_total 0 c.args.kinds.now
