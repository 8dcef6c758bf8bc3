use Rattle.std.proofs.Common.{set, arith, ap, sym, ◌∙◌, None}
use Rattle.std.specs.FinMap as map
use Rattle.dl_ir.specs.declared.names.Name.{Name}
use Rattle.dl_ir.specs.Heap.{name_cmp}
use Rattle.dl_ir.specs.Places.{IsAt}
use Rattle.dl_ir.proofs.Edits.{at_within}
use Rattle.dl_ir.proofs.SortedEntries.{holds}
use Rattle.dl_ir.proofs.Present.{rows, rows_gap}
use Rattle.dl_ir.proofs.TableEdits.{entry, absent, emptied, table-emptied, fewer, fewer_within, roomed}
use Rattle.dl_ir.proofs.tables.Table.remove.Goals as goal

pub take_at-value-requires : goal.take_at-value-requires
take_at-value-requires g c =
    let items = c.self.inside.entries.items in
    let found : IsAt c.args.name items c.in-Ok.at = rw c.deref.ensures.value at c.in-Ok.ensures.found in
    let e = entry c.self.invariant c.args.name c.in-Ok.at found in
    at_within c.args.name items c.in-Ok.at (holds _ c.self.invariant.sorted) found

pub overflow_sub-self : goal.overflow_sub-self
overflow_sub-self g c =
    let items = c.self.inside.entries.items in
    let found : IsAt c.args.name items c.in-Ok.at = rw c.deref.ensures.value at c.in-Ok.ensures.found in
    let e = entry c.self.invariant c.args.name c.in-Ok.at found in
    let taken = c.take_at-value.ensures.taken e.0 e.1 in
    let after = taken.1 ∙ ap (λ (n : Name). set items c.in-Ok.at (n, None)) e.2 in
    let less = c.count.ensures ∙ ap fewer taken.0 in
    omega (arith, less, fewer_within c.args.name e.0.1 c.self.invariant e.3)

pub trim-self-inside-requires-clause-counted : goal.trim-self-inside-requires-clause-counted
trim-self-inside-requires-clause-counted g c =
    let items = c.self.inside.entries.items in
    let found : IsAt c.args.name items c.in-Ok.at = rw c.deref.ensures.value at c.in-Ok.ensures.found in
    let e = entry c.self.invariant c.args.name c.in-Ok.at found in
    let taken = c.take_at-value.ensures.taken e.0 e.1 in
    let after = taken.1 ∙ ap (λ (n : Name). set items c.in-Ok.at (n, None)) e.2 in
    let less = c.count.ensures ∙ ap fewer taken.0 in
    rw (after, less) (table-emptied c.self.invariant c.args.name c.in-Ok.at found e.0.1 e.3).counted

pub trim-self-inside-requires-clause-passed : goal.trim-self-inside-requires-clause-passed
trim-self-inside-requires-clause-passed g c =
    let items = c.self.inside.entries.items in
    let found : IsAt c.args.name items c.in-Ok.at = rw c.deref.ensures.value at c.in-Ok.ensures.found in
    let e = entry c.self.invariant c.args.name c.in-Ok.at found in
    let taken = c.take_at-value.ensures.taken e.0 e.1 in
    let after = taken.1 ∙ ap (λ (n : Name). set items c.in-Ok.at (n, None)) e.2 in
    let less = c.count.ensures ∙ ap fewer taken.0 in
    rw after (table-emptied c.self.invariant c.args.name c.in-Ok.at found e.0.1 e.3).passed

pub invariant_of-self : goal.invariant_of-self
invariant_of-self g c =
    let items = c.self.inside.entries.items in
    let found : IsAt c.args.name items c.in-Ok.at = rw c.deref.ensures.value at c.in-Ok.ensures.found in
    let e = entry c.self.invariant c.args.name c.in-Ok.at found in
    let taken = c.take_at-value.ensures.taken e.0 e.1 in
    let after = taken.1 ∙ ap (λ (n : Name). set items c.in-Ok.at (n, None)) e.2 in
    let less = c.count.ensures ∙ ap fewer taken.0 in
    let t = rw (after, c.take_at-value.ensures.capacity) at c.trim-self-inside.ensures in
    let table = table-emptied c.self.invariant c.args.name c.in-Ok.at found e.0.1 e.3 in
    rw less (roomed table t.same (t.sorted table.sorted) t.passed t.capacity)

pub returns-in-Ok-clause-value : goal.returns-in-Ok-clause-value
returns-in-Ok-clause-value g c =
    let items = c.self.inside.entries.items in
    let found : IsAt c.args.name items c.in-Ok.at = rw c.deref.ensures.value at c.in-Ok.ensures.found in
    let e = entry c.self.invariant c.args.name c.in-Ok.at found in
    let taken = c.take_at-value.ensures.taken e.0 e.1 in
    let after = taken.1 ∙ ap (λ (n : Name). set items c.in-Ok.at (n, None)) e.2 in
    let less = c.count.ensures ∙ ap fewer taken.0 in
    rw (← c.self.view_is) (taken.0 ∙ sym e.3)

pub returns-in-Ok-clause-left : goal.returns-in-Ok-clause-left
returns-in-Ok-clause-left g c =
    let items = c.self.inside.entries.items in
    let found : IsAt c.args.name items c.in-Ok.at = rw c.deref.ensures.value at c.in-Ok.ensures.found in
    let e = entry c.self.invariant c.args.name c.in-Ok.at found in
    let taken = c.take_at-value.ensures.taken e.0 e.1 in
    let after = taken.1 ∙ ap (λ (n : Name). set items c.in-Ok.at (n, None)) e.2 in
    let less = c.count.ensures ∙ ap fewer taken.0 in
    let same = rw after at c.trim-self-inside.ensures.same in
    rw (← c.self.view_is) (ap (λ rows. record { rows = rows; room = c.self.inside.room }) (
    ap (λ l. map.from_sorted {R = name_cmp} l) same ∙ emptied c.self.invariant c.args.name c.in-Ok.at found))

pub returns-in-Err-clause-value : goal.returns-in-Err-clause-value
returns-in-Err-clause-value g c =
    let gap = rw c.deref.ensures.value at c.in-Err.ensures.absent in
    rw (← c.self.view_is) (sym (absent c.self.invariant _ _ gap))

pub returns-in-Err-clause-left : goal.returns-in-Err-clause-left
returns-in-Err-clause-left g c =
    let gap = rw c.deref.ensures.value at c.in-Err.ensures.absent in
    rw (← c.self.view_is) (ap (λ rows. record { rows = rows; room = c.self.inside.room }) (rows_gap c.args.name (rows c.self.inside.entries.items) (absent c.self.invariant _ _ gap)))
