use Rattle.std.proofs.Common.{◌≡◌, [], ◌-◌, length, take}
use Rattle.dl_ir.specs.Places.{present}
use Rattle.dl_ir.proofs.tables.first_from.Given as goal

abbrev pub invariant-loop-at : goal.invariant-loop-at
invariant-loop-at g l = present (take l.at l.entries) ≡ []

abbrev pub decreases-loop-at : goal.decreases-loop-at
decreases-loop-at g l = length l.entries - l.at
