use Rattle.std.proofs.Common.{◌≡◌, ◌+◌, drop}
use Rattle.dl_ir.specs.declared.calls.Call.{Call}
use Rattle.dl_history.specs.Histories.{joined}
use Rattle.dl_history.specs.Report.{answer_line}
use Rattle.dl_text.specs.Lists.{each_from}
use Rattle.dl_text.proofs.Loops.{PutSoFar}
use Rattle.dl_history.proofs.Walk.{Left}
use Rattle.dl_history.proofs.operations.put_answer_lines.Given as goal

abbrev pub invariant-operations : goal.invariant-operations
invariant-operations g l = record {
  put : PutSoFar (g.K.Sink.taken l.initial.sink) (g.K.Sink.taken l.sink) l.initial.out l.out
      (each_from (λ index (call : Call). answer_line l.history.entries (joined l.refusals) l.caller index) 1 l.calls)
      (each_from (λ index (call : Call). answer_line l.history.entries (joined l.refusals) l.caller index) (l.i + 1) (drop l.i l.calls));
  left : Left l.history.entries (joined l.refusals) l.caller (l.i + 1) (drop l.told l.places) (drop l.passed l.refused);
  counted : l.told + l.passed ≡ l.i;
}
