use Rattle.std.proofs.Common.{ap}
use Rattle.dl_ir.specs.Counted.{object_of, refs_of}
use Rattle.dl_ir.proofs.NameOrder.{names_total, exact_names}
use Rattle.dl_ir.proofs.Mapped.{with_values-empty}
use Rattle.dl_ir.proofs.Filing.{filed_empty}
use Rattle.dl_ir.proofs.census.Census.new.Goals as goal

pub returns-clause-objects : goal.returns-clause-objects
returns-clause-objects c = rw c.in_ok-new.ensures (ap (λ m. record { rows = m; room = c.args.room }) (with_values-empty object_of names_total exact_names))

pub returns-clause-counts : goal.returns-clause-counts
returns-clause-counts c = rw c.in_ok-new.ensures (ap (λ m. record { rows = m; room = c.args.room }) (with_values-empty refs_of names_total exact_names))

pub returns-clause-filed : goal.returns-clause-filed
returns-clause-filed c =
    rw (c.in_ok-new.ensures, c.in_ok-new-2.ensures, c.in_ok-new-3.ensures, with_values-empty object_of names_total exact_names, with_values-empty refs_of names_total exact_names) (
    filed_empty c.args.room)
