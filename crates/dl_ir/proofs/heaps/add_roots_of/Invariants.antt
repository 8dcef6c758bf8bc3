use Rattle.std.proofs.Common.{◌≡◌}
use Rattle.dl_ir.specs.Heap.{roots_from, blank_object}
use Rattle.dl_ir.specs.Rows.{added}
use Rattle.dl_ir.proofs.heaps.add_roots_of.Given as goal

-- the roots so far are put in
abbrev pub invariant-loop-i : goal.invariant-loop-i
invariant-loop-i l = l.heap ≡ record l.fn.heap { objects = added l.fn.heap.objects (roots_from l.declared.first l.i (blank_object l.kind l.declared)) }
