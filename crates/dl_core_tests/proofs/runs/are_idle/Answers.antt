use Rattle.std.proofs.Common.{arith}
use Rattle.dl_core_tests.proofs.UnderWay.{all_idle}
use Rattle.dl_core_tests.proofs.runs.are_idle.Goals as goal

pub returns : goal.returns
returns c = λ yes. all_idle c.args.core.now c.args.files.now c.requires (λ place less. c.callers.invariant place (omega (arith, less, c.callers-test.false)))
