use Rattle.std.proofs.Common.{ap}
use Rattle.dl_instr.specs.Jumps.{jump_of}
use Rattle.dl_live.proofs.early.moved_copy.Goals as goal

pub start_at-place-requires : goal.start_at-place-requires
start_at-place-requires c = c.requires c.in-Test.place (ap jump_of c.in-Test.is)

pub start_at-place-requires-in-Jump : goal.start_at-place-requires-in-Jump
start_at-place-requires-in-Jump c = c.requires c.in-Jump.place (ap jump_of c.in-Jump.is)
