use Rattle.std.proofs.Common.{◌≡◌, take}
use Rattle.dl_ir.specs.Heap.{blank_fields}
use Rattle.dl_ir.proofs.objects.Fields.blank.Given as goal

abbrev pub invariant-loop-field : goal.invariant-loop-field
invariant-loop-field l = l.blanks ≡ blank_fields (take l.field-index l.fields)
