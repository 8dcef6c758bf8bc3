use Rattle.std.proofs.Common.{◌≡◌, drop}
use Rattle.dl_syntax.specs.Calls as spec
use Rattle.dl_syntax.proofs.operation_file.all_fit.Given as goal

abbrev pub invariant-loop-param : goal.invariant-loop-param
invariant-loop-param l = spec.all_fit l.source (drop l.param-index l.params) l.left ≡ spec.all_fit l.fn.source l.fn.params l.fn.args
