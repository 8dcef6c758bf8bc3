use Rattle.std.proofs.Common.{◌≡◌, length}
use Rattle.dl_live.specs.Marks.{AllLive, unmarked}
use Rattle.dl_live.proofs.live.live_places.Given as goal

abbrev pub invariant-loop-marks : goal.invariant-loop-marks
invariant-loop-marks l = (length l.marks ≡ length l.steps) × AllLive l.steps l.local l.marks

abbrev pub decreases-loop-marks : goal.decreases-loop-marks
decreases-loop-marks l = unmarked l.marks
