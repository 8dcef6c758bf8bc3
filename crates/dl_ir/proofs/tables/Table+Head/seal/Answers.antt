use Rattle.std.proofs.Common.{set, ap, sym, ◌∙◌}
use Rattle.std.specs.Option.{option_map}
use Rattle.dl_ir.specs.declared.names.Name.{Name}
use Rattle.dl_ir.specs.Joined.{sealed_head}
use Rattle.dl_ir.specs.Places.{IsAt}
use Rattle.dl_ir.specs.Rows.{changed_of}
use Rattle.dl_ir.proofs.Edits.{at_within}
use Rattle.dl_ir.proofs.SortedEntries.{holds}
use Rattle.dl_ir.proofs.Present.{rows}
use Rattle.dl_ir.proofs.TableEdits.{entry, absent, after, table-after}
use Rattle.dl_ir.proofs.tables.Table+Head.seal.Goals as goal

pub seal_at-requires : goal.seal_at-requires
seal_at-requires c =
    let items = c.self.inside.entries.items in
    let found : IsAt c.args.name items c.in-Ok.at = rw c.deref.ensures.value at c.in-Ok.ensures.found in
    at_within c.args.name items c.in-Ok.at (holds _ c.self.invariant.sorted) found

pub invariant_of-self : goal.invariant_of-self
invariant_of-self c =
    let items = c.self.inside.entries.items in
    let found : IsAt c.args.name items c.in-Ok.at = rw c.deref.ensures.value at c.in-Ok.ensures.found in
    let e = entry c.self.invariant c.args.name c.in-Ok.at found in
    let after-it = c.seal_at.ensures.sealed e.0 e.1 ∙ ap (λ (n : Name). set items c.in-Ok.at (n, option_map sealed_head e.0.1)) e.2 in
    rw (after-it, c.seal_at.ensures.capacity) (table-after c.self.invariant c.args.name c.in-Ok.at found sealed_head)

pub returns-in-Ok : goal.returns-in-Ok
returns-in-Ok c =
    let items = c.self.inside.entries.items in
    let found : IsAt c.args.name items c.in-Ok.at = rw c.deref.ensures.value at c.in-Ok.ensures.found in
    let e = entry c.self.invariant c.args.name c.in-Ok.at found in
    let after-it = c.seal_at.ensures.sealed e.0 e.1 ∙ ap (λ (n : Name). set items c.in-Ok.at (n, option_map sealed_head e.0.1)) e.2 in
    rw (← c.self.view_is, after-it) (ap (λ rows. record { rows = rows; room = c.self.inside.room }) (
    after c.self.invariant c.args.name c.in-Ok.at found sealed_head ∙ ap (changed_of (rows items) c.args.name sealed_head) (sym e.3)))

pub returns-in_default : goal.returns-in_default
returns-in_default c =
    let gap = rw c.deref.ensures.value at c.in_default.ensures.absent in
    rw (← c.self.view_is) (ap (λ rows. record { rows = rows; room = c.self.inside.room }) (
    ap (changed_of (rows c.self.inside.entries.items) c.args.name sealed_head) (sym (absent c.self.invariant _ _ gap))))
