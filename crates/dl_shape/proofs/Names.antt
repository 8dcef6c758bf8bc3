-- The order of names, as the lemmas on maps take it.
use Rattle.dl_ir.specs.Heap.{name_cmp}
use Rattle.dl_ir.proofs.NameOrder.{names_total, exact_names}
use Rattle.dl_lemmas.proofs.Maps.{Keys}

pub names : Keys name_cmp
names = record { total = names_total; same = exact_names }
