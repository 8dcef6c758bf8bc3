use Rattle.std.proofs.Common.{rules}
use Rattle.std.proofs.lemmas.List.Sorted.{answers_always}
use Rattle.dl_ir.proofs.SortedEntries.{holds}
use Rattle.dl_ir.proofs.Search.{searched}
use Rattle.dl_ir.proofs.tables.place.Goals as goal

-- the closure gives an entry's name
pub returns : goal.returns
returns g c =
    let facts = c.binary_search_by_key.ensures in
    let by_key = facts.position (λ e. e.0) (answers_always _ _ _ (λ f a r g called. search rules)) in
    let found = searched c.args.name c.args.entries.now c.binary_search_by_key.result (holds _ c.requires) facts.bound by_key in
    record { found = found.0; absent = found.1 }
