use Rattle.std.proofs.Common.{ap, arith}
use Rattle.std.specs.FinMap.{len-empty}
use Rattle.dl_ir.specs.declared.objects.Obj.{Obj}
use Rattle.dl_ir.specs.Heap.{name_cmp}
use Rattle.dl_heapfile.proofs.Rising.{emptied_there, written_over}
use Rattle.dl_heapfile.proofs.building.heap_with.Goals as goal
use Rattle.dl_lemmas.proofs.Tests.{holds}

pub put_emptied-requires-clause-room : goal.put_emptied-requires-clause-room
put_emptied-requires-clause-room c = rw c.in_ok-heap.ensures (omega (arith, len-empty name_cmp Obj, c.requires.room))

pub write_all-requires-clause-there : goal.write_all-requires-clause-there
write_all-requires-clause-there c = rw (c.put_emptied.ensures, c.in_ok-heap.ensures) (λ at e there. emptied_there c.args.entries.now at e (holds _ c.requires.sorted) there)

pub returns : goal.returns
returns c =
    rw (c.write_all.ensures, c.put_emptied.ensures, c.in_ok-heap.ensures) (ap (λ objects. record { objects = objects; room = c.args.room }) (written_over c.args.entries.now (holds _ c.requires.sorted)))
