use Rattle.std.proofs.Common.{◌≡◌, rules, ◌++◌, sym, ◌∙◌, ap, subst}
use Rattle.std.specs.List.Sorted.{IsPermutation, IsNonDecreasingBy}
use Rattle.std.proofs.lemmas.List.Sorted.{IsNonDecreasingBy-from_sort_by_key}
use Rattle.dl_ir.specs.declared.answers.Entry.{Entry as OneEntry}
use Rattle.dl_ir.specs.declared.moves.Move.{Move as OneMove}
use Rattle.dl_shape.specs.Pool.{moves_of, moves_of_entry}
use Rattle.dl_shape.specs.Rising.{in_rising, AreApart}
use Rattle.dl_shape.proofs.Rising.{sorted_is, rising_pieces, apart_moves}
use Rattle.dl_history.specs.Histories.{joined}
use Rattle.dl_history.proofs.merging.merge.Goals as goal

pub over_entries-requires-clause-versions : goal.over_entries-requires-clause-versions
over_entries-requires-clause-versions c =
    let all : c.gather.new.all.items ≡ joined c.args.closed.now.entries
    = c.gather.ensures ∙ ap (λ l. l ++ joined c.as_slice.result.now) c.room.invariant.no_entries ∙ ap joined c.as_slice.ensures in
    let up : IsNonDecreasingBy (λ (entry : OneEntry). entry.ticket) c.sort_unstable_by_key.new.self.items
    = IsNonDecreasingBy-from_sort_by_key (λ (entry : OneEntry). entry.ticket) _ c.sort_unstable_by_key.ensures.sorted (λ a r q k. search rules) in
    let entries : c.from_vec.result ≡ in_rising (λ (entry : OneEntry). entry.ticket) (joined c.args.closed.now.entries)
    = c.from_vec.ensures ∙ sorted_is (λ (entry : OneEntry). entry.ticket) (joined c.args.closed.now.entries) _ c.requires.tickets
    (subst (λ l. IsPermutation l c.sort_unstable_by_key.new.self.items) all c.sort_unstable_by_key.ensures.permutation) up in
    subst (λ l. AreApart (λ (move : OneMove). move.version) (moves_of c.args.source.now c.args.files.now l)) (sym entries)
    (apart_moves (λ (move : OneMove). move.version) _ _ (rising_pieces (λ (entry : OneEntry). entry.ticket) (moves_of_entry c.args.source.now c.args.files.now) (joined c.args.closed.now.entries)) c.requires.versions)

pub returns-clause-entries : goal.returns-clause-entries
returns-clause-entries c =
    let all : c.gather.new.all.items ≡ joined c.args.closed.now.entries
    = c.gather.ensures ∙ ap (λ l. l ++ joined c.as_slice.result.now) c.room.invariant.no_entries ∙ ap joined c.as_slice.ensures in
    let up : IsNonDecreasingBy (λ (entry : OneEntry). entry.ticket) c.sort_unstable_by_key.new.self.items
    = IsNonDecreasingBy-from_sort_by_key (λ (entry : OneEntry). entry.ticket) _ c.sort_unstable_by_key.ensures.sorted (λ a r q k. search rules) in
    c.over_entries.ensures.entries ∙ c.from_vec.ensures ∙ sorted_is (λ (entry : OneEntry). entry.ticket) (joined c.args.closed.now.entries) _ c.requires.tickets
    (subst (λ l. IsPermutation l c.sort_unstable_by_key.new.self.items) all c.sort_unstable_by_key.ensures.permutation) up
