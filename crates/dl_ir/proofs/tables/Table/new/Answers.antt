use Rattle.std.proofs.Common.{[], length, ap, ◌∙◌}
use Rattle.std.specs.FinMap.{len-entries, entries-from_sorted, empty_of_len}
use Rattle.dl_ir.specs.Heap.{name_cmp}
use Rattle.dl_ir.proofs.Present.{rows}
use Rattle.dl_ir.proofs.tables.Table.new.Goals as goal

pub returns : goal.returns
returns g c = rw c.in_ok-with_capacity.ensures.items (ap (λ m. record { rows = m; room = c.args.room }) (empty_of_len (rows []) (len-entries (rows []) ∙ ap length (entries-from_sorted name_cmp [] tt))))
