use Rattle.std.proofs.Common.{◌≡◌, true, slice_index_or}
use Rattle.dl_ir.specs.Heap.{name_cmp}
use Rattle.dl_ir.proofs.tables.place_near.Goals as goal
use Rattle.std.proofs.Common.{is_eq, sym, subst, refl, T, ◌∙◌}
use Rattle.std.specs.declared.cmp.Ordering.{Ordering}
use Rattle.std.specs.declared.cmp.Ordering.TheVariants.{Less, Equal, Greater}
use Rattle.dl_ir.proofs.Search.{is_at}
use Rattle.dl_ir.proofs.SortedEntries.{holds}

equal : (o : Ordering) → is_eq o ≡ true → o ≡ Equal
equal Less h = absurd (subst T (sym h) tt)
equal Equal h = refl
equal Greater h = absurd (subst T (sym h) tt)

-- src/tables.rt:181:9
pub returns-then-is_eq-clause-found : goal.returns-then-is_eq-clause-found
returns-then-is_eq-clause-found g c =
    let tied : name_cmp (slice_index_or c.args.entries.now c.args.guess c.index-entries-guess.result).0 c.args.name ≡ Equal = equal _ (subst (λ o. is_eq o ≡ true) c.cmp.ensures (sym c.is_eq.ensures ∙ c.if-is_eq.true)) in
    is_at c.args.name c.args.entries.now c.args.guess c.index-entries-guess.result (holds _ c.requires) c.if-guess-entries.true tied
