use Rattle.std.proofs.Common.{◌≡◌, rules, ◌++◌, ◌∙◌, ap, subst}
use Rattle.std.specs.List.Sorted.{IsPermutation, IsNonDecreasingBy}
use Rattle.std.proofs.lemmas.List.Sorted.{IsNonDecreasingBy-from_sort_by_key}
use Rattle.dl_ir.specs.declared.moves.Move.{Move as OneMove}
use Rattle.dl_shape.specs.Pool.{moves_of}
use Rattle.dl_shape.proofs.Rising.{sorted_is}
use Rattle.dl_history.proofs.merging.over_entries.Goals as goal

pub returns-clause-moves : goal.returns-clause-moves
returns-clause-moves c =
    let moves : c.gather_moves.new.moves.items ≡ moves_of c.args.source.now c.args.files.now c.args.entries
    = c.gather_moves.ensures ∙ ap (λ l. l ++ moves_of c.args.source.now c.args.files.now c.as_slice.result.now) c.requires.no_moves ∙ ap (moves_of c.args.source.now c.args.files.now) c.as_slice.ensures in
    let up : IsNonDecreasingBy (λ (move : OneMove). move.version) c.sort_unstable_by_key.new.self.items
    = IsNonDecreasingBy-from_sort_by_key (λ (move : OneMove). move.version) _ c.sort_unstable_by_key.ensures.sorted (λ a r q k. search rules) in
    c.of_parts.ensures.moves ∙ sorted_is (λ (move : OneMove). move.version) (moves_of c.args.source.now c.args.files.now c.args.entries) _ c.requires.versions
    (subst (λ l. IsPermutation l c.sort_unstable_by_key.new.self.items) moves c.sort_unstable_by_key.ensures.permutation) up
