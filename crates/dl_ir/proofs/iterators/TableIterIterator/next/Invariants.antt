use Rattle.std.proofs.Common.{◌≡◌, length}
use Rattle.dl_ir.specs.Places.{present}
use Rattle.dl_ir.proofs.iterators.TableIterIterator.next.Given as goal

abbrev pub invariant-loop-self : goal.invariant-loop-self
invariant-loop-self g l = present l.self-inside.left.now ≡ present l.initial.self-inside.left.now

abbrev pub decreases-loop-self : goal.decreases-loop-self
decreases-loop-self g l = length l.self-inside.left.now
