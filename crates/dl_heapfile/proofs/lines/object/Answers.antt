use Rattle.std.proofs.Common.{◌≤◌, length}
use Rattle.dl_ir.specs.declared.modules.KindDecl.{KindDecl}
use Rattle.dl_heapfile.proofs.Cuts.{named_kind}
use Rattle.dl_heapfile.proofs.lines.object.Goals as goal

pub object_of-requires : goal.object_of-requires
object_of-requires c =
    let found = rw c.as_slice.ensures at c.in_ok-kind.ensures in
    named_kind (λ (k : KindDecl). length k.fields ≤ 16) _ _ _ c.requires.few_fields found
