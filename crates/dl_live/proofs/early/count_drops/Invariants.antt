use Rattle.std.proofs.Common.{◌≡◌, ◌≤◌, length}
use Rattle.dl_live.specs.Dropped.{drops_of}
use Rattle.dl_live.specs.Marks.{is_picked}
use Rattle.dl_live.proofs.early.count_drops.Given as goal

abbrev pub invariant-loop-local : goal.invariant-loop-local
invariant-loop-local l = (l.total ≡ length (drops_of (is_picked l.table l.at) l.local)) × (l.total ≤ l.local)
