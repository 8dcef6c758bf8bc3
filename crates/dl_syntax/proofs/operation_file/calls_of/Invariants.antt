use Rattle.std.proofs.Common.{◌≡◌, ◌+◌, ◌≤◌, [], length}
use Rattle.dl_syntax.specs.Line.{lines_of}
use Rattle.dl_syntax.specs.Calls.{calls_from}
use Rattle.dl_syntax.proofs.operation_file.calls_of.Given as goal

abbrev pub invariant-loop-rest : goal.invariant-loop-rest
invariant-loop-rest l = record {
  says : calls_from l.source l.line l.calls (lines_of l.rest) ≡ calls_from l.fn.source 1 [] (lines_of l.fn.bytes);
  within : l.line + length l.rest ≤ length l.fn.bytes + 1;
}

abbrev pub decreases-loop-rest : goal.decreases-loop-rest
decreases-loop-rest l = length l.rest
