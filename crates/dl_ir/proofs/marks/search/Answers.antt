use Rattle.std.proofs.Common.{rules, of_calls}
use Rattle.std.proofs.lemmas.Fn.{always_returns_same}
use Rattle.dl_ir.specs.Heap.{name_cmp}
use Rattle.dl_ir.proofs.SortedEntries.{holds}
use Rattle.dl_ir.proofs.Falling.{searched}
use Rattle.dl_ir.proofs.marks.search.Goals as goal

-- the closure compares the name with one of them
pub returns : goal.returns
returns c =
    let facts = c.binary_search_by.ensures in
    let by_order = facts.position (name_cmp c.args.name) (always_returns_same _ _ _ (λ a r f k. search (rules, of_calls))) in
    let found = searched c.args.name c.args.names.now (holds _ c.requires) c.binary_search_by.result facts.bound by_order in
    record { found = found.0; absent = found.1 }
