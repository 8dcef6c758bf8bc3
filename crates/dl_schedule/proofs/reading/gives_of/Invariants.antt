use Rattle.std.proofs.Common.{◌≡◌, ◌+◌, ◌≤◌, [], length}
use Rattle.dl_syntax.specs.Line.{lines_of}
use Rattle.dl_schedule.specs.Rules.{steps_in}
use Rattle.dl_schedule.specs.Reading.{gives_from}
use Rattle.dl_schedule.proofs.reading.gives_of.Given as goal

abbrev pub invariant-loop-rest : goal.invariant-loop-rest
invariant-loop-rest l = record {
  says : gives_from l.callers l.line l.gives (lines_of l.rest) ≡ gives_from l.fn.callers 1 [] (lines_of l.fn.bytes);
  counted : l.steps ≡ steps_in l.gives;
  few : l.steps ≤ 1000000;
  within : l.line + length l.rest ≤ length l.fn.bytes + 1;
}

abbrev pub decreases-loop-rest : goal.decreases-loop-rest
decreases-loop-rest l = length l.rest
