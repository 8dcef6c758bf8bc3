use Rattle.std.proofs.Common.{◌≡◌, ◌+◌, ◌*◌, ◌≤◌, ◌++◌, drop, vec_len, vec_capacity}
use Rattle.std.specs.List.{flat_map}
use Rattle.dl_shape.specs.Pool.{moves_of_entry}
use Rattle.dl_history.proofs.merging.gather_moves.Given as goal

abbrev pub invariant-entries : goal.invariant-entries
invariant-entries l = record {
  added : l.moves.items ++ flat_map (moves_of_entry l.source l.files) (drop l.entry-index l.entries)
      ≡ l.initial.moves.items ++ flat_map (moves_of_entry l.source l.files) l.entries;
  len : vec_len l.moves ≤ vec_len l.initial.moves + 2 * l.entry-index;
  capacity : vec_capacity l.moves ≡ vec_capacity l.initial.moves;
}
