use Rattle.std.proofs.Common.{ap}
use Rattle.dl_ir.specs.Marks.{rising}
use Rattle.dl_ir.proofs.Edits.{made}
use Rattle.dl_ir.proofs.Present.{rows_gap}
use Rattle.dl_ir.proofs.Falling.{absent, removed, marks-removed}
use Rattle.dl_ir.proofs.marks.Marks.remove.Goals as goal

pub invariant_of-self : goal.invariant_of-self
invariant_of-self c =
    let found = rw c.deref.ensures.value at c.in-Ok.ensures.found in
    rw c.remove_at.ensures.items (marks-removed c.self.invariant c.args.name c.in-Ok.at found.1 found.0 _ c.remove_at.ensures.capacity)

pub returns-in-Ok : goal.returns-in-Ok
returns-in-Ok c =
    let found = rw c.deref.ensures.value at c.in-Ok.ensures.found in
    rw (← c.self.view_is, c.remove_at.ensures.items) (ap (λ rows. record { rows = rows; room = c.self.inside.room }) (removed c.self.invariant c.args.name c.in-Ok.at found.1 found.0))

pub returns-in-Err : goal.returns-in-Err
returns-in-Err c =
    let gap = rw c.deref.ensures.value at c.in-Err.ensures.absent in
    rw (← c.self.view_is) (ap (λ rows. record { rows = rows; room = c.self.inside.room }) (rows_gap c.args.name (made (rising c.self.inside.names.items)) (absent c.self.invariant c.args.name c.in-Err.field-0 gap.1 gap.0)))
