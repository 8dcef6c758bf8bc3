use Rattle.std.proofs.Common.{◌≡◌, length}
use Rattle.dl_live.specs.Dropped.{start_of}
use Rattle.dl_live.specs.Marks.{AreStarts, drops_at}
use Rattle.dl_live.proofs.early.starts.Given as goal

abbrev pub invariant-loop-at : goal.invariant-loop-at
invariant-loop-at l = record {
  same : length l.starts ≡ l.at;
  start : l.start ≡ start_of (drops_at l.table) l.at;
  starts : AreStarts l.table l.starts;
}
