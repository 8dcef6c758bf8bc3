use Rattle.std.proofs.Common.{◌≡◌, ◌<◌, ℕ, Some}
use Rattle.std.specs.List.{slice_get}
use Rattle.dl_ir.specs.declared.names.Name.{Name}
use Rattle.dl_ir.specs.declared.objects.Obj.{Obj}
use Rattle.dl_heapfile.specs.Faults.{RefersWell}
use Rattle.dl_heapfile.proofs.building.first_dangling.Given as goal

-- the objects so far pass
abbrev pub invariant-loop-at : goal.invariant-loop-at
invariant-loop-at l = (at : ℕ) (e : Name × Obj) → at < l.at → slice_get l.entries at ≡ Some e → RefersWell l.source l.heap.objects e
