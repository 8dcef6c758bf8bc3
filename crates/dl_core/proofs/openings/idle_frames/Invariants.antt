use Rattle.std.proofs.Common.{◌≡◌, ◌∷◌, map, take}
use Rattle.dl_core.specs.Machinery.{kept_idle}
use Rattle.dl_core.proofs.openings.idle_frames.Given as goal

abbrev pub invariant-loop-size : goal.invariant-loop-size
invariant-loop-size l = l.frames.items ≡ kept_idle l.room 0 ∷ map (kept_idle l.room) (take l.size-index l.sizes)
