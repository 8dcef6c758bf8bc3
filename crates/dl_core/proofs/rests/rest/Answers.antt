use Rattle.std.proofs.Common.{ℕ, ℤ, ap}
use Rattle.dl_ir.specs.declared.names.Name.{Name}
use Rattle.dl_ir.specs.declared.names.Value.{Value}
use Rattle.dl_core.specs.Rooms.{Roomed}
use Rattle.dl_core.proofs.Resting.{can_rest}
use Rattle.dl_core.proofs.rests.rest.Goals as goal

pub returns-clause-can : goal.returns-clause-can
returns-clause-can c code turns can =
    can_rest code c.args.frame.now _ turns can (ap (λ (r : Roomed ℤ). record { op = 0; args = r.items }) c.clear.ensures) c.requires
    (ap (λ (r : Roomed Value). r.items) c.clear-3.ensures) (ap (λ (r : Roomed Name). r.items) c.clear-4.ensures) (ap (λ (r : Roomed ℕ). r.items) c.clear-2.ensures)
