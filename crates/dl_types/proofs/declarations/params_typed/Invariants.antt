use Rattle.std.proofs.Common.{◌≡◌, drop, [], length}
use Rattle.dl_types.specs.Checks.{each}
use Rattle.dl_types.specs.Declarations.{param_typed}
use Rattle.dl_types.proofs.declarations.params_typed.Given as goal

abbrev pub invariant-loop-param : goal.invariant-loop-param
invariant-loop-param l = record {
  count : length l.typed ≡ l.param-index;
  left : each (param_typed l.kinds) l.typed (drop l.param-index l.params) ≡ each (param_typed l.kinds) [] l.params;
}
