use Rattle.std.proofs.Common.{ap}
use Rattle.std.specs.FinMap as map
use Rattle.dl_ir.proofs.Joining.{joined-empty, stored-empty}
use Rattle.dl_ir.proofs.stores.Store.new.Goals as goal

pub invariant_of-result : goal.invariant_of-result
invariant_of-result c = rw (c.in_ok-new.ensures, c.in_ok-new-2.ensures) (stored-empty c.args.room)

pub returns : goal.returns
returns c = rw (c.in_ok-new.ensures, c.in_ok-new-2.ensures) (ap (λ m. record { rows = m; room = c.args.room }) (joined-empty map.empty))
