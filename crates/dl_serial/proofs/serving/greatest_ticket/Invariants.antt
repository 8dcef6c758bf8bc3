use Rattle.std.proofs.Common.{◌≡◌, fold, max}
use Rattle.dl_ir.specs.declared.names.Name.{Name}
use Rattle.dl_ir.specs.declared.objects.Obj.{Obj}
use Rattle.dl_shape.specs.Replay.{greatest_ticket}
use Rattle.dl_serial.proofs.serving.greatest_ticket.Given as goal

abbrev pub invariant-loop-name : goal.invariant-loop-name
invariant-loop-name l = fold (λ greatest (entry : Name × Obj). max greatest entry.0.ticket) l.greatest l.name-iterator ≡ greatest_ticket l.heap.objects
