use Rattle.std.proofs.Common.{◌≡◌, map, take}
use Rattle.dl_ir.specs.Rows.{added}
use Rattle.dl_heapfile.specs.Blanks.{emptied_entry}
use Rattle.dl_heapfile.proofs.building.put_emptied.Given as goal

abbrev pub invariant-loop-entry : goal.invariant-loop-entry
invariant-loop-entry l = l.heap ≡ record l.fn.heap { objects = added l.fn.heap.objects (map emptied_entry (take l.entry-index l.entries)) }
