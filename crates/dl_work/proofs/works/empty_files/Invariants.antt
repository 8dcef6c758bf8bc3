use Rattle.std.proofs.Common.{◌≡◌, map, []}
use Rattle.std.specs.List.{range_with_len}
use Rattle.dl_work.proofs.works.empty_files.Given as goal

abbrev pub invariant-loop-caller : goal.invariant-loop-caller
invariant-loop-caller l = l.files.items ≡ map (λ _. []) (range_with_len 1 l._caller)
