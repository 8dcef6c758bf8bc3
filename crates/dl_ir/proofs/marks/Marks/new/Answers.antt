use Rattle.std.proofs.Common.{[], length, ap, ◌∙◌}
use Rattle.std.specs.FinMap.{len-entries, entries-from_sorted, empty_of_len}
use Rattle.dl_ir.specs.Heap.{name_cmp}
use Rattle.dl_ir.specs.Marks.{rising}
use Rattle.dl_ir.proofs.Edits.{made}
use Rattle.dl_ir.proofs.marks.Marks.new.Goals as goal

pub returns : goal.returns
returns c = rw c.in_ok-with_capacity.ensures.items (ap (λ m. record { rows = m; room = c.args.room }) (empty_of_len (made (rising [])) (len-entries (made (rising [])) ∙ ap length (entries-from_sorted name_cmp [] tt))))
