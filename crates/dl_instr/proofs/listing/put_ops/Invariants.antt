use Rattle.std.proofs.Common.{drop}
use Rattle.dl_instr.specs.Listing.{op_listing}
use Rattle.dl_text.specs.Lists.{each_from}
use Rattle.dl_text.proofs.Loops.{PutSoFar}
use Rattle.dl_instr.proofs.listing.put_ops.Given as goal

abbrev pub invariant-ops : goal.invariant-ops
invariant-ops g l = PutSoFar (g.K.Sink.taken l.initial.sink) (g.K.Sink.taken l.sink) l.initial.out l.out
    (each_from (op_listing l.source) 0 l.ops) (each_from (op_listing l.source) l.number (drop l.number l.ops))
