use Rattle.std.proofs.Common.{◌≡◌, take, vec_capacity}
use Rattle.dl_coarse.proofs.running.refill.Given as goal

abbrev pub invariant-loop-one : goal.invariant-loop-one
invariant-loop-one l = (l.args.items ≡ take l.one-index l.given) × (vec_capacity l.args ≡ vec_capacity l.fn.args)
