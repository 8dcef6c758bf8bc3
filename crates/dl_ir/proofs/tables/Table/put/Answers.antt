use Rattle.std.proofs.Common.{set, arith, ap, ◌∙◌, Some, None}
use Rattle.std.specs.Prelude.{vec_capacity}
use Rattle.std.specs.FinMap as map
use Rattle.dl_ir.specs.declared.names.Name.{Name}
use Rattle.dl_ir.specs.Heap.{name_cmp}
use Rattle.dl_ir.specs.Places.{IsAt, IsGap, IsTable}
use Rattle.dl_ir.proofs.Edits.{at_within, gap_within}
use Rattle.dl_ir.proofs.SortedEntries.{holds}
use Rattle.dl_ir.proofs.TableEdits.{entry, absent, filled, table-filled, inserted, table-inserted, roomed, has_room}
use Rattle.dl_ir.proofs.tables.Table.put.Goals as goal

pub fill-requires : goal.fill-requires
fill-requires g c =
    let m = c.make_room-self-inside.ensures in
    let items = c.make_room-self-inside.new.entries.items in
    let table : IsTable items c.self.inside.len c.make_room-self-inside.result c.self.inside.room (vec_capacity c.make_room-self-inside.new.entries)
    = roomed c.self.invariant m.same (m.sorted c.self.invariant.sorted) m.passed m.capacity in
    let found : IsAt c.args.name items c.in-Ok.at = rw c.deref.ensures.value at c.in-Ok.ensures.found in
    let e = entry table c.args.name c.in-Ok.at found in
    at_within c.args.name items c.in-Ok.at (holds _ table.sorted) found

pub overflow_add-self : goal.overflow_add-self
overflow_add-self g c =
    let m = c.make_room-self-inside.ensures in
    let items = c.make_room-self-inside.new.entries.items in
    let table : IsTable items c.self.inside.len c.make_room-self-inside.result c.self.inside.room (vec_capacity c.make_room-self-inside.new.entries)
    = roomed c.self.invariant m.same (m.sorted c.self.invariant.sorted) m.passed m.capacity in
    let found : IsAt c.args.name items c.in-Ok.at = rw c.deref.ensures.value at c.in-Ok.ensures.found in
    let e = entry table c.args.name c.in-Ok.at found in
    let within = has_room items c.args.name e.0.1 c.self.invariant (rw (← c.self.view_is) at c.requires) m.same e.3 in
    omega (arith, within, c.fill.ensures.more e.0 e.1, c.self.ranges)

pub invariant_of-self : goal.invariant_of-self
invariant_of-self g c =
    let m = c.make_room-self-inside.ensures in
    let items = c.make_room-self-inside.new.entries.items in
    let table : IsTable items c.self.inside.len c.make_room-self-inside.result c.self.inside.room (vec_capacity c.make_room-self-inside.new.entries)
    = roomed c.self.invariant m.same (m.sorted c.self.invariant.sorted) m.passed m.capacity in
    let found : IsAt c.args.name items c.in-Ok.at = rw c.deref.ensures.value at c.in-Ok.ensures.found in
    let e = entry table c.args.name c.in-Ok.at found in
    let within = has_room items c.args.name e.0.1 c.self.invariant (rw (← c.self.view_is) at c.requires) m.same e.3 in
    let after = c.fill.ensures.filled e.0 e.1 ∙ ap (λ (n : Name). set items c.in-Ok.at (n, Some c.args.value)) e.2 in
    rw (after, c.fill.ensures.more e.0 e.1, c.min-self-inside.ensures, c.fill.ensures.capacity) (table-filled table c.args.name c.in-Ok.at found c.args.value e.0.1 e.3 within)

pub returns-in-Ok : goal.returns-in-Ok
returns-in-Ok g c =
    let m = c.make_room-self-inside.ensures in
    let items = c.make_room-self-inside.new.entries.items in
    let table : IsTable items c.self.inside.len c.make_room-self-inside.result c.self.inside.room (vec_capacity c.make_room-self-inside.new.entries)
    = roomed c.self.invariant m.same (m.sorted c.self.invariant.sorted) m.passed m.capacity in
    let found : IsAt c.args.name items c.in-Ok.at = rw c.deref.ensures.value at c.in-Ok.ensures.found in
    let e = entry table c.args.name c.in-Ok.at found in
    let after = c.fill.ensures.filled e.0 e.1 ∙ ap (λ (n : Name). set items c.in-Ok.at (n, Some c.args.value)) e.2 in
    rw (← c.self.view_is, after) (ap (λ rows. record { rows = rows; room = c.self.inside.room }) (
    filled table c.args.name c.in-Ok.at found c.args.value
    ∙ ap (λ l. map.insert (map.from_sorted {R = name_cmp} l) c.args.name c.args.value) m.same))

pub insert-requires : goal.insert-requires
insert-requires g c =
    let m = c.make_room-self-inside.ensures in
    let items = c.make_room-self-inside.new.entries.items in
    let table : IsTable items c.self.inside.len c.make_room-self-inside.result c.self.inside.room (vec_capacity c.make_room-self-inside.new.entries)
    = roomed c.self.invariant m.same (m.sorted c.self.invariant.sorted) m.passed m.capacity in
    let gap : IsGap c.args.name items c.in-Err.at = rw c.deref.ensures.value at c.in-Err.ensures.absent in
    omega (arith, gap_within c.args.name items c.in-Err.at (holds _ table.sorted) gap, c.make_room-self-inside.new.entries.ok)

pub invariant_of-self-in-Ok-insert : goal.invariant_of-self-in-Ok-insert
invariant_of-self-in-Ok-insert g c =
    let m = c.make_room-self-inside.ensures in
    let items = c.make_room-self-inside.new.entries.items in
    let table : IsTable items c.self.inside.len c.make_room-self-inside.result c.self.inside.room (vec_capacity c.make_room-self-inside.new.entries)
    = roomed c.self.invariant m.same (m.sorted c.self.invariant.sorted) m.passed m.capacity in
    let gap : IsGap c.args.name items c.in-Err.at = rw c.deref.ensures.value at c.in-Err.ensures.absent in
    let within = has_room items c.args.name None c.self.invariant (rw (← c.self.view_is) at c.requires) m.same (absent table c.args.name c.in-Err.at gap) in
    rw (c.in-Ok-insert.ensures.items, c.min-self-inside-in-Ok-insert.ensures) (table-inserted table c.args.name c.in-Err.at gap c.args.value _ (omega (arith, within)) c.in-Ok-insert.ensures.capacity)

pub unreachable-requires : goal.unreachable-requires
unreachable-requires g c =
    let m = c.make_room-self-inside.ensures in
    let items = c.make_room-self-inside.new.entries.items in
    let table : IsTable items c.self.inside.len c.make_room-self-inside.result c.self.inside.room (vec_capacity c.make_room-self-inside.new.entries)
    = roomed c.self.invariant m.same (m.sorted c.self.invariant.sorted) m.passed m.capacity in
    let gap : IsGap c.args.name items c.in-Err.at = rw c.deref.ensures.value at c.in-Err.ensures.absent in
    let within = has_room items c.args.name None c.self.invariant (rw (← c.self.view_is) at c.requires) m.same (absent table c.args.name c.in-Err.at gap) in
    let free = m.room (omega (arith, within, c.self.invariant.counted)) in
    omega (arith, free, c.in-Err-insert.ensures.full, c.make_room-self-inside.new.entries.ok)

pub returns-in-Ok-insert : goal.returns-in-Ok-insert
returns-in-Ok-insert g c =
    let m = c.make_room-self-inside.ensures in
    let items = c.make_room-self-inside.new.entries.items in
    let table : IsTable items c.self.inside.len c.make_room-self-inside.result c.self.inside.room (vec_capacity c.make_room-self-inside.new.entries)
    = roomed c.self.invariant m.same (m.sorted c.self.invariant.sorted) m.passed m.capacity in
    let gap : IsGap c.args.name items c.in-Err.at = rw c.deref.ensures.value at c.in-Err.ensures.absent in
    rw (← c.self.view_is, c.in-Ok-insert.ensures.items) (ap (λ rows. record { rows = rows; room = c.self.inside.room }) (
    inserted table c.args.name c.in-Err.at gap c.args.value
    ∙ ap (λ l. map.insert (map.from_sorted {R = name_cmp} l) c.args.name c.args.value) m.same))
