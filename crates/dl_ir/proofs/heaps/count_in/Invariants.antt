use Rattle.std.proofs.Common.{◌≡◌, ◌+◌, ◌≤◌, length}
use Rattle.std.specs.Prelude.{count_by}
use Rattle.dl_ir.specs.References.{refers_to}
use Rattle.dl_ir.proofs.heaps.count_in.Given as goal

-- those so far and those that are left are all
abbrev pub invariant-loop-value : goal.invariant-loop-value
invariant-loop-value l = record {
  counted : l.count + count_by (refers_to l.name) l.value-iterator ≡ count_by (refers_to l.name) l.fields;
  few : length l.fields ≤ 16;
}
