use Rattle.std.proofs.Common.{arith, ap, sym, ◌∙◌}
use Rattle.std.proofs.lemmas.Option.{get_or_from_slice_get}
use Rattle.dl_ir.proofs.Edits.{at_within}
use Rattle.dl_ir.proofs.SortedEntries.{holds}
use Rattle.dl_ir.proofs.TableEdits.{entry, absent}
use Rattle.dl_ir.proofs.tables.Table.get.Goals as goal

pub index-requires : goal.index-requires
index-requires g c =
    let found = rw c.deref.ensures.value at c.in-Ok.ensures.found in
    omega (arith, at_within _ _ _ (holds _ c.self.invariant.sorted) found, c.self.inside.entries.ok)

pub returns-in-Ok : goal.returns-in-Ok
returns-in-Ok g c =
    let found = rw c.deref.ensures.value at c.in-Ok.ensures.found in
    let e = entry c.self.invariant _ _ found in
    rw (← c.self.view_is) (c.as_ref.ensures.value ∙ ap (λ r. r.1) (c.index.ensures ∙ get_or_from_slice_get c.self.inside.entries.items c.in-Ok.at e.0 c.index.result.now e.1) ∙ sym e.3)

pub returns-in-Err : goal.returns-in-Err
returns-in-Err g c =
    let gap = rw c.deref.ensures.value at c.in-Err.ensures.absent in
    rw (← c.self.view_is) (sym (absent c.self.invariant _ _ gap))
