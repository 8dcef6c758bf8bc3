use Rattle.std.proofs.Common.{ℤ, pos, negsuc, arith}
use Rattle.std.proofs.lemmas.Int.{ints}
use mir.Val.{SFits}
use mir.Syntax.{w64}
use Rattle.dl_heapfile.specs.Lines.{IsSmall}
use Rattle.dl_heapfile.proofs.laws.number_is_small.Goals as goal

small : (z : ℤ) → SFits w64 z → IsSmall z
small (pos n) fits = omega (arith, ints, fits)
small (negsuc n) fits = omega (arith, ints, fits)

pub returns : goal.returns
returns c = small c.args.number c.ranges.number
