use Rattle.std.proofs.Common.{◌<◌, length, arith, ap}
use Rattle.dl_ir.proofs.Falling.{len_is, absent, inserted, marks-inserted, there}
use Rattle.dl_ir.proofs.marks.Marks.put.Goals as goal

pub put_at-requires-clause-room : goal.put_at-requires-clause-room
put_at-requires-clause-room c =
    let gap = rw c.deref.ensures.value at c.in-Err.ensures.absent in
    let free = rw (← c.self.view_is) at c.requires in
    omega (arith, free (absent c.self.invariant c.args.name c.in-Err.at gap.1 gap.0), len_is c.self.invariant, c.self.invariant.reserved)

pub invariant_of-self : goal.invariant_of-self
invariant_of-self c =
    let gap = rw c.deref.ensures.value at c.in-Err.ensures.absent in
    let free = rw (← c.self.view_is) at c.requires in
    let less : length c.self.inside.names.items < c.self.inside.room = omega (arith, free (absent c.self.invariant c.args.name c.in-Err.at gap.1 gap.0), len_is c.self.invariant) in
    rw c.put_at.ensures.items (marks-inserted c.self.invariant c.args.name c.in-Err.at gap.1 gap.0 _ less c.put_at.ensures.capacity)

pub returns-in-Err : goal.returns-in-Err
returns-in-Err c =
    let gap = rw c.deref.ensures.value at c.in-Err.ensures.absent in
    rw (← c.self.view_is, c.put_at.ensures.items) (ap (λ rows. record { rows = rows; room = c.self.inside.room }) (inserted c.self.invariant c.args.name c.in-Err.at gap.1 gap.0))

pub returns-in-Ok : goal.returns-in-Ok
returns-in-Ok c =
    let found = rw c.deref.ensures.value at c.in-Ok.ensures.found in
    rw (← c.self.view_is) (ap (λ rows. record { rows = rows; room = c.self.inside.room }) (there c.self.invariant c.args.name c.in-Ok.field-0 found.1))
