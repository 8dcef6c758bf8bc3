use Rattle.std.proofs.Common.{◌≡◌, take}
use Rattle.dl_ir.specs.Rows.{added}
use Rattle.dl_heapfile.proofs.building.write_all.Given as goal

abbrev pub invariant-loop-entry : goal.invariant-loop-entry
invariant-loop-entry l = l.heap ≡ record l.fn.heap { objects = added l.fn.heap.objects (take l.entry-index l.entries) }
