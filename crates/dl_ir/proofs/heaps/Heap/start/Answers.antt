use Rattle.std.proofs.Common.{◌+◌, length, sym, ap, subst, arith}
use Rattle.std.specs.FinMap.{len-empty}
use Rattle.dl_ir.specs.declared.objects.Obj.{Obj}
use Rattle.dl_ir.specs.Heap.{name_cmp, roots_of, IsHeapOf}
use Rattle.dl_ir.proofs.Starts.{added-roots, length-roots_of, len-start}
use Rattle.dl_ir.proofs.StartHeap.{start_is_heap}
use Rattle.dl_ir.proofs.heaps.Heap.start.Goals as goal

pub overflow_add-roots : goal.overflow_add-roots
overflow_add-roots c =
    let many = rw c.as_slice.ensures at c.root_count-roots.ensures in
    omega (arith, many, length-roots_of 0 0 c.args.declared.now.kinds c.requires.row, c.ranges.places.fits)

pub add_roots-requires-clause-room : goal.add_roots-requires-clause-room
add_roots-requires-clause-room c =
    let many = rw c.as_slice.ensures at c.root_count-roots.ensures in
    rw (c.in_ok-heap.ensures, c.as_slice-2.ensures) (omega (arith, many, len-empty name_cmp Obj))

pub returns-clause-start : goal.returns-clause-start
returns-clause-start c =
    let roots = roots_of 0 c.args.declared.now.kinds in
    let many = rw c.as_slice.ensures at c.root_count-roots.ensures in
    rw (c.add_roots.ensures, c.in_ok-heap.ensures, c.as_slice-2.ensures, many, len-start c.args.declared.now c.requires.row) (
    ap (λ objects. record { objects = objects; room = length roots + c.args.places }) (added-roots c.args.declared.now.kinds c.requires.row))

pub returns-clause-of_module : goal.returns-clause-of_module
returns-clause-of_module c =
    rw (c.add_roots.ensures, c.in_ok-heap.ensures, c.as_slice-2.ensures) (
    subst (IsHeapOf c.args.declared.now) (sym (added-roots c.args.declared.now.kinds c.requires.row)) (start_is_heap c.args.declared.now c.requires))
