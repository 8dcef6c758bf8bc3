use Rattle.std.proofs.Common.{◌≡◌, ◌+◌}
use Rattle.std.specs.Prelude.{sum_by}
use Rattle.std.specs.FinMap as map
use Rattle.dl_ir.proofs.Keeping.{in_object}
use Rattle.dl_ir.proofs.heaps.fields_that_refer.Given as goal

abbrev pub invariant-loop-object : goal.invariant-loop-object
invariant-loop-object l = l.count + sum_by (in_object l.name) l.object-iterator ≡ sum_by (in_object l.name) (map.entries l.census.objects.rows)
