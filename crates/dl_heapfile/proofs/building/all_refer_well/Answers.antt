use Rattle.std.proofs.Common.{◌≡◌, length, refl, sym, ◌∙◌, arith, Some, pos, get_or}
use Rattle.std.specs.List.{slice_get}
use Rattle.std.proofs.lemmas.Option.{none-some, slice_get_read, slice_get-get_or, slice_get_within}
use Rattle.dl_ir.specs.declared.names.Value.TheVariants.{Int}
use Rattle.dl_heapfile.proofs.Filling.{holds_long, holds_at, next_typed}
use Rattle.dl_heapfile.proofs.building.all_refer_well.Goals as goal
use Rattle.dl_heapfile.proofs.building.all_refer_well.Goals.{in-Some+else-not-refers_well, in_default}

pub refers_well-requires : goal.refers_well-requires
refers_well-requires c =
    let decls = c.args.decls.now in
    let at = c.loop-at.at in
    let decl : slice_get decls at ≡ Some c.index-decls-at.result = slice_get_read decls (length decls) at _ refl c.loop-at-test.true c.index-decls-at.is in
    holds_at decls c.args.values.now at _ _ c.requires decl (sym c.in-Some.ensures)

pub returns-then-not-refers_well-clause-no : goal.returns-then-not-refers_well-clause-no
returns-then-not-refers_well-clause-no c = λ _ has.
    let decls = c.args.decls.now in
    let at = c.loop-at.at in
    let decl : slice_get decls at ≡ Some c.index-decls-at.result = slice_get_read decls (length decls) at _ refl c.loop-at-test.true c.index-decls-at.is in
    c.if-not-refers_well.ensures.no refl (has.typed at _ _ decl (sym c.in-Some.ensures))

pub loop-at-preserved : goal.loop-at-preserved
loop-at-preserved c =
    let decls = c.args.decls.now in
    let values = c.args.values.now in
    let at = c.loop-at.at in
    let decl : slice_get decls at ≡ Some c.index-decls-at.result = slice_get_read decls (length decls) at _ refl c.loop-at-test.true c.index-decls-at.is in
    let held : slice_get values at ≡ Some (get_or values at (Int (pos 0))) = slice_get-get_or values at (Int (pos 0)) (omega (arith, holds_long decls values c.requires, c.loop-at-test.true)) in
    elim c.match-get.branch [
      | in-Some+else-not-refers_well w ↦ next_typed c.args.heap.now.objects decls values at _ _ decl (sym w.in-Some.ensures) (w.if-not-refers_well.ensures.yes refl) c.loop-at.invariant
      | in_default w ↦ absurd (none-some _ (w.in_default.ensures ∙ held))
    ]

pub returns-clause-yes : goal.returns-clause-yes
returns-clause-yes c = λ _. record {
  one_each = holds_long c.args.decls.now c.args.values.now c.requires;
  typed = λ at field value decl is. let within = slice_get_within c.args.decls.now at field decl in c.loop-at.invariant at field value (omega (arith, within, c.loop-at-test.false)) decl is;
}
