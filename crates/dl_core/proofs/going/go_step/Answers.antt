use Rattle.dl_core.proofs.going.go_step.Goals as goal

pub returns-in-Set-clause-next : goal.returns-in-Set-clause-next
returns-in-Set-clause-next c plan same = rw c.in-Set.is (c.set.ensures.next plan)

pub returns-in-Eval-clause-next : goal.returns-in-Eval-clause-next
returns-in-Eval-clause-next c plan same = rw c.in-Eval.is (c.eval.ensures.next plan)

pub returns-in-Test-clause-next : goal.returns-in-Test-clause-next
returns-in-Test-clause-next c plan same = rw c.in-Test.is (c.try_test.ensures.next plan)

pub returns-in-Give-clause-next : goal.returns-in-Give-clause-next
returns-in-Give-clause-next c plan same = rw c.in-Give.is (c.give.ensures.next plan)
