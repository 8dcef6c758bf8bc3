use Rattle.std.proofs.Common.{◌≡◌, ◌-◌, inl, inr, arith, subst}
use Rattle.std.proofs.lemmas.Bool.{cases_lt}
use Rattle.dl_instr.specs.Code.{op_code}
use Rattle.dl_instr.specs.Matching.{Fits}
use Rattle.dl_instr.proofs.matching.nearest.Goals as goal

pub returns-then-may_stand : goal.returns-then-may_stand
returns-then-may_stand c = record {
  below = omega arith;
  fits = c.if-may_stand.ensures;
  last = λ k from less fits. c.loop-y.invariant.1 k (omega (arith, from)) less fits;
}

pub loop-y-preserved : goal.loop-y-preserved
loop-y-preserved c = (
  omega arith,
  λ k from less fits. elim (cases_lt k c.loop-y.y) [
    | inl before ↦
        let same : k ≡ c.loop-y.y - 1 = omega (arith, from, before) in
        c.if-may_stand.ensures (subst (λ n. Fits (op_code c.args.op.now) c.args.steps.now c.args.i n) same fits)
    | inr behind ↦ c.loop-y.invariant.1 k behind less fits
  ],
)

pub returns : goal.returns
returns c k less fits = c.loop-y.invariant.1 k (omega arith) less fits
