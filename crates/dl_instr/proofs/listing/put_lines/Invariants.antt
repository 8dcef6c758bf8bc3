use Rattle.std.proofs.Common.{drop}
use Rattle.dl_instr.specs.Listing.{step_line}
use Rattle.dl_text.specs.Lists.{each_from}
use Rattle.dl_text.proofs.Loops.{PutSoFar}
use Rattle.dl_instr.proofs.listing.put_lines.Given as goal

abbrev pub invariant-lines : goal.invariant-lines
invariant-lines g l = PutSoFar (g.K.Sink.taken l.initial.sink) (g.K.Sink.taken l.sink) l.initial.out l.out
    (each_from (step_line l.source l.op) 0 l.steps) (each_from (step_line l.source l.op) l.number (drop l.number l.steps))
