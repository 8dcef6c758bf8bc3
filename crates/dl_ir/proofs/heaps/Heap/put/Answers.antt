use Rattle.std.proofs.Common.{ap, arith}
use Rattle.dl_ir.proofs.Lookups.{gone}
use Rattle.dl_ir.proofs.Filing.{fewer}
use Rattle.dl_ir.proofs.Keeping.{put_over}
use Rattle.dl_ir.proofs.heaps.Heap.put.Goals as goal

pub enter-requires-clause-absent : goal.enter-requires-clause-absent
enter-requires-clause-absent c = rw c.remove.ensures (gone c.args.self.now.objects c.args.name)

pub enter-requires-clause-room : goal.enter-requires-clause-room
enter-requires-clause-room c = rw c.remove.ensures (omega (arith, c.requires, fewer c.args.self.now.objects c.args.name))

pub returns : goal.returns
returns c = rw (c.enter.ensures, c.remove.ensures) (ap (λ objects. record { objects = objects; room = c.args.self.now.room }) (put_over c.args.self.now.objects c.args.name c.args.object))
