use Rattle.dl_command.proofs.WritingEnds.{taken_whole, taken_part}
use Rattle.dl_command.proofs.run.write_run.Goals as goal

pub returns-in-Ok : goal.returns-in-Ok
returns-in-Ok g c = let put = rw c.new-out.ensures at c.in-Ok.ensures.puts.ok in taken_whole _ _ _ _ put c.in-Ok.ensures.empty

pub returns-in-Err : goal.returns-in-Err
returns-in-Err g c = let broke = rw c.new-out.ensures at c.in-Err.ensures.puts.err.1 in taken_part _ _ _ broke
