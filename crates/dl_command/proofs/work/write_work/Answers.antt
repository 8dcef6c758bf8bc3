use Rattle.dl_command.proofs.WritingEnds.{written, cut_off}
use Rattle.dl_command.proofs.work.write_work.Goals as goal

pub returns-in-Ok-flush : goal.returns-in-Ok-flush
returns-in-Ok-flush g c =
    let put = rw c.new-out.ensures at c.in-Ok.ensures.ok in
    written _ _ _ _ _ _ put c.in-Ok-flush.ensures.puts.ok c.in-Ok-flush.ensures.empty

pub returns-in-Err-flush : goal.returns-in-Err-flush
returns-in-Err-flush g c =
    let put = rw c.new-out.ensures at c.in-Ok.ensures.ok in
    cut_off _ _ _ _ _ put c.in-Err-flush.ensures.puts.err.1
