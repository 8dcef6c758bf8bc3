use Rattle.std.proofs.Common.{◌≡◌, drop, [], length}
use Rattle.dl_types.specs.Checks.{each}
use Rattle.dl_types.specs.Declarations.{var_typed}
use Rattle.dl_types.proofs.declarations.vars_typed.Given as goal

abbrev pub invariant-loop-var : goal.invariant-loop-var
invariant-loop-var l = record {
  count : length l.typed ≡ l.var-index;
  left : each (var_typed l.kinds l.params) l.typed (drop l.var-index l.vars) ≡ each (var_typed l.kinds l.params) [] l.vars;
}
