use Rattle.std.proofs.Common.{◌≡◌, ◌+◌, ◌∷◌, drop, length, sym, ap, subst, ◌∙◌, arith, length-append}
use Rattle.std.proofs.lemmas.List.{drop_more}
use Rattle.dl_ir.specs.declared.modules.KindDecl.{KindDecl}
use Rattle.dl_ir.specs.Heap.{StandInRow, roots_from, roots_of, blank_object}
use Rattle.dl_ir.specs.Rows.{added}
use Rattle.dl_ir.proofs.Starts.{few_numbers, length-roots_from, added_both, len-added}
use Rattle.dl_ir.proofs.heaps.add_roots.Goals as goal

pub add_roots_of-requires-clause-numbers : goal.add_roots_of-requires-clause-numbers
add_roots_of-requires-clause-numbers c =
    let d = c.index-kinds-kind.result in
    let kinds = c.args.kinds.now in
    let kind = c.loop-kind.kind in
    let cut : drop kind kinds ≡ d ∷ drop (kind + 1) kinds = drop_more kinds kind d c.loop-kind-test.true ∙ ap (λ (x : KindDecl). x ∷ drop (kind + 1) kinds) (sym c.index-kinds-kind.is) in
    let row = c.loop-kind.invariant.row in
    omega (arith, few_numbers row.0 d (drop (kind + 1) kinds) (subst (StandInRow row.0) cut row.1))

pub add_roots_of-requires-clause-room : goal.add_roots_of-requires-clause-room
add_roots_of-requires-clause-room c =
    let d = c.index-kinds-kind.result in
    let kinds = c.args.kinds.now in
    let kind = c.loop-kind.kind in
    let cut : drop kind kinds ≡ d ∷ drop (kind + 1) kinds = drop_more kinds kind d c.loop-kind-test.true ∙ ap (λ (x : KindDecl). x ∷ drop (kind + 1) kinds) (sym c.index-kinds-kind.is) in
    let here = roots_from d.first d.count (blank_object kind d) in
    let rest = roots_of (kind + 1) (drop (kind + 1) kinds) in
    omega (arith, ap (λ l. length (roots_of kind l)) cut, length-append here rest, length-roots_from d.first d.count (blank_object kind d), c.loop-kind.invariant.few)

pub loop-kind-preserved : goal.loop-kind-preserved
loop-kind-preserved c =
    let d = c.index-kinds-kind.result in
    let kinds = c.args.kinds.now in
    let kind = c.loop-kind.kind in
    let h = c.loop-kind.heap.objects in
    let cut : drop kind kinds ≡ d ∷ drop (kind + 1) kinds = drop_more kinds kind d c.loop-kind-test.true ∙ ap (λ (x : KindDecl). x ∷ drop (kind + 1) kinds) (sym c.index-kinds-kind.is) in
    let here = roots_from d.first d.count (blank_object kind d) in
    let rest = roots_of (kind + 1) (drop (kind + 1) kinds) in
    let row = c.loop-kind.invariant.row in
    rw c.add_roots_of.ensures (record {
      objects = sym (added_both h here rest) ∙ ap (λ l. added h (roots_of kind l)) (sym cut) ∙ c.loop-kind.invariant.objects;
      room = c.loop-kind.invariant.room;
      few = omega (arith, len-added h here, ap (λ l. length (roots_of kind l)) cut, length-append here rest, length-roots_from d.first d.count (blank_object kind d), c.loop-kind.invariant.few);
      row = (row.0 + d.count, (subst (StandInRow row.0) cut row.1).1);
    })
