use Rattle.std.proofs.Common.{List, set, ap, sym, ◌∙◌}
use Rattle.std.specs.Prelude.{option_and_then, slice_get}
use Rattle.std.specs.Option.{option_map}
use Rattle.dl_ir.specs.declared.names.Name.{Name}
use Rattle.dl_ir.specs.declared.names.Value.{Value}
use Rattle.dl_ir.specs.Joined.{far_with}
use Rattle.dl_ir.specs.Places.{IsAt}
use Rattle.dl_ir.specs.Rows.{changed_of}
use Rattle.dl_ir.proofs.Edits.{at_within}
use Rattle.dl_ir.proofs.SortedEntries.{holds}
use Rattle.dl_ir.proofs.Present.{rows}
use Rattle.dl_ir.proofs.TableEdits.{entry, absent, after, table-after}
use Rattle.dl_ir.proofs.tables.Table+Far.replace_far.Goals as goal

pub set_far_at-requires : goal.set_far_at-requires
set_far_at-requires c =
    let items = c.self.inside.entries.items in
    let found : IsAt c.args.name items c.in-Ok.place = rw c.deref.ensures.value at c.in-Ok.ensures.found in
    at_within c.args.name items c.in-Ok.place (holds _ c.self.invariant.sorted) found

pub invariant_of-self : goal.invariant_of-self
invariant_of-self c =
    let items = c.self.inside.entries.items in
    let change = far_with c.args.at c.args.value in
    let found : IsAt c.args.name items c.in-Ok.place = rw c.deref.ensures.value at c.in-Ok.ensures.found in
    let e = entry c.self.invariant c.args.name c.in-Ok.place found in
    let after-it = c.set_far_at.ensures.value e.0 e.1 ∙ ap (λ (n : Name). set items c.in-Ok.place (n, option_map change e.0.1)) e.2 in
    rw (after-it, c.set_far_at.ensures.capacity) (table-after c.self.invariant c.args.name c.in-Ok.place found change)

pub returns-in-Ok-clause-before : goal.returns-in-Ok-clause-before
returns-in-Ok-clause-before c =
    let items = c.self.inside.entries.items in
    let found : IsAt c.args.name items c.in-Ok.place = rw c.deref.ensures.value at c.in-Ok.ensures.found in
    let e = entry c.self.invariant c.args.name c.in-Ok.place found in
    rw (← c.self.view_is) (c.set_far_at.ensures.before e.0 e.1 ∙ ap (option_and_then (λ (far : List Value). slice_get far c.args.at)) (sym e.3))

pub returns-in-Ok-clause-written : goal.returns-in-Ok-clause-written
returns-in-Ok-clause-written c =
    let items = c.self.inside.entries.items in
    let change = far_with c.args.at c.args.value in
    let found : IsAt c.args.name items c.in-Ok.place = rw c.deref.ensures.value at c.in-Ok.ensures.found in
    let e = entry c.self.invariant c.args.name c.in-Ok.place found in
    let after-it = c.set_far_at.ensures.value e.0 e.1 ∙ ap (λ (n : Name). set items c.in-Ok.place (n, option_map change e.0.1)) e.2 in
    rw (← c.self.view_is, after-it) (ap (λ rows. record { rows = rows; room = c.self.inside.room }) (
    after c.self.invariant c.args.name c.in-Ok.place found change ∙ ap (changed_of (rows items) c.args.name change) (sym e.3)))

pub returns-in-Err-clause-before : goal.returns-in-Err-clause-before
returns-in-Err-clause-before c =
    let gap = rw c.deref.ensures.value at c.in-Err.ensures.absent in
    rw (← c.self.view_is) (ap (option_and_then (λ (far : List Value). slice_get far c.args.at)) (sym (absent c.self.invariant _ _ gap)))

pub returns-in-Err-clause-written : goal.returns-in-Err-clause-written
returns-in-Err-clause-written c =
    let gap = rw c.deref.ensures.value at c.in-Err.ensures.absent in
    rw (← c.self.view_is) (ap (λ rows. record { rows = rows; room = c.self.inside.room }) (
    ap (changed_of (rows c.self.inside.entries.items) c.args.name (far_with c.args.at c.args.value)) (sym (absent c.self.invariant _ _ gap))))
