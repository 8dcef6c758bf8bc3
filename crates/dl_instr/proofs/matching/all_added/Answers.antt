use Rattle.std.proofs.Common.{◌≡◌, inl, inr, arith, subst}
use Rattle.std.proofs.lemmas.Bool.{cases_lt}
use Rattle.dl_instr.specs.Drops.{IsAddedDrop}
use Rattle.dl_instr.proofs.matching.all_added.Goals as goal

pub loop-at-preserved : goal.loop-at-preserved
loop-at-preserved c y from to = elim (cases_lt y c.loop-at.at) [
  | inl less ↦ c.loop-at.invariant y from less
  | inr more ↦ let same : c.loop-at.at ≡ y = omega (arith, more, to) in subst (λ n. IsAddedDrop c.args.op.now c.args.steps.now n) same c.if-not-is_added.ensures
]
