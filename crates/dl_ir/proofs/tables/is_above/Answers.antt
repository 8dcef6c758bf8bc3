use Rattle.std.proofs.Common.{◌≡◌, ◌-◌, true, length, slice_index_or, sym, subst, refl, T, ◌∙◌}
use Rattle.std.specs.Ordering.{is_lt}
use Rattle.std.specs.declared.cmp.Ordering.{Ordering}
use Rattle.std.specs.declared.cmp.Ordering.TheVariants.{Less, Equal, Greater}
use Rattle.dl_ir.specs.Heap.{name_cmp}
use Rattle.dl_ir.proofs.Search.{gap_above}
use Rattle.dl_ir.proofs.SortedEntries.{holds}
use Rattle.dl_ir.proofs.tables.is_above.Goals as goal

less : (o : Ordering) → is_lt o ≡ true → o ≡ Less
less Less h = refl
less Equal h = absurd (subst T (sym h) tt)
less Greater h = absurd (subst T (sym h) tt)

pub returns-then-len-gt0 : goal.returns-then-len-gt0
returns-then-len-gt0 g c lt =
    let last : name_cmp (slice_index_or c.args.entries.now (length c.args.entries.now - 1) c.index-entries-len.result).0 c.args.name ≡ Less = less _ (subst (λ o. is_lt o ≡ true) c.cmp.ensures (sym c.is_lt.ensures ∙ lt)) in
    gap_above c.args.name c.args.entries.now c.index-entries-len.result (holds _ c.requires) c.if-len-gt0.true last
