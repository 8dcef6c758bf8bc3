use Rattle.std.proofs.Common.{◌≡◌, ◌++◌}
use Rattle.dl_live.specs.Dropped.{drops_of}
use Rattle.dl_live.specs.Marks.{is_picked}
use Rattle.dl_live.proofs.early.push_drops.Given as goal

abbrev pub invariant-loop-local : goal.invariant-loop-local
invariant-loop-local l = l.steps ≡ l.initial.steps ++ drops_of (is_picked l.table l.at) l.local
