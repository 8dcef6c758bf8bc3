use Rattle.std.proofs.Common.{◌≡◌, ◌<◌, ℕ, Some}
use Rattle.std.specs.List.{slice_get}
use Rattle.dl_ir.specs.declared.modules.FieldDecl.{FieldDecl}
use Rattle.dl_ir.specs.declared.names.Value.{Value}
use Rattle.dl_ir.specs.Heap.{HasType}
use Rattle.dl_heapfile.proofs.building.all_refer_well.Given as goal

-- the fields so far refer well
abbrev pub invariant-loop-at : goal.invariant-loop-at
invariant-loop-at l = (at : ℕ) (field : FieldDecl) (value : Value) → at < l.at → slice_get l.decls at ≡ Some field → slice_get l.values at ≡ Some value → HasType l.heap.objects field.ty value
