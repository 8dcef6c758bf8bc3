use Rattle.std.proofs.Common.{◌≡◌, ◌+◌}
use Rattle.std.specs.Prelude.{count_by, nat_lt}
use Rattle.std.specs.FinMap.{entries}
use Rattle.dl_ir.specs.declared.names.Name.{Name}
use Rattle.dl_ir.specs.declared.objects.Obj.{Obj}
use Rattle.dl_ir.proofs.heaps.hidden_in.Given as goal

abbrev pub invariant-loop-name : goal.invariant-loop-name
invariant-loop-name l = l.hidden + count_by (λ (e : Name × Obj). nat_lt 0 e.0.ticket) l.name-iterator ≡ count_by (λ (e : Name × Obj). nat_lt 0 e.0.ticket) (entries l.census.objects.rows)
