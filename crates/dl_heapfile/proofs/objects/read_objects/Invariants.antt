use Rattle.std.proofs.Common.{◌≡◌, ◌+◌, ◌≤◌, List, [], length, Result}
use Rattle.dl_ir.specs.declared.names.Name.{Name}
use Rattle.dl_ir.specs.declared.objects.Obj.{Obj}
use Rattle.dl_heapfile.specs.declared.fault.HeapFault.{HeapFault}
use Rattle.dl_heapfile.specs.Form.{Tells, AreListed}
use Rattle.dl_heapfile.proofs.objects.read_objects.Given as goal

-- what the lines that are left tell behind the objects so far, all lines tell
abbrev pub invariant-objects : goal.invariant-objects
invariant-objects l = record {
  back : (outcome : Result (List (Name × Obj)) HeapFault) → Tells l.source l.entries l.line l.rest outcome → Tells l.source [] l.first l.text outcome;
  listed : AreListed l.source l.entries;
  count : l.line ≡ l.first + length l.entries;
  within : l.line + length l.rest ≤ l.first + length l.text;
}

abbrev pub decreases-objects : goal.decreases-objects
decreases-objects l = length l.rest
