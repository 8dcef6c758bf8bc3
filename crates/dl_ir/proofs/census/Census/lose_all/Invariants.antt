use Rattle.std.proofs.Common.{◌≡◌, ◌++◌}
use Rattle.dl_ir.specs.Census.{IsFiled, Loses}
use Rattle.dl_ir.proofs.census.Census.lose_all.Given as goal

-- the values so far are counted no more
abbrev pub invariant-loop-value : goal.invariant-loop-value
invariant-loop-value l = record {
  parts : l.yielded ++ l.value-iterator ≡ l.fields;
  filed : IsFiled l.self;
  counts : Loses l.fn.self.counts.rows l.self.counts.rows l.yielded;
  objects : l.self.objects ≡ l.fn.self.objects;
}
