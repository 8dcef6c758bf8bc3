use Rattle.std.proofs.Common.{◌≡◌, ◌≤◌, ◌++◌, true, length}
use Rattle.dl_ir.specs.Census.{IsFiled, Gains, AreThere}
use Rattle.dl_ir.proofs.census.Census.gain_all.Given as goal

-- the values so far are counted
abbrev pub invariant-loop-value : goal.invariant-loop-value
invariant-loop-value l = record {
  parts : l.yielded ++ l.value-iterator ≡ l.fields;
  few : length l.fields ≤ 16;
  filed : IsFiled l.self;
  counts : Gains l.fn.self.counts.rows l.self.counts.rows l.yielded;
  objects : l.self.objects ≡ l.fn.self.objects;
  there : l.all ≡ true → AreThere l.fn.self.objects.rows l.yielded;
}
