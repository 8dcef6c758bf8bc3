use Rattle.dl_text.proofs.WritingLemmas.{passes_both, passes_breaks}
use Rattle.dl_command.proofs.StepLemmas.{cut_before}
use Rattle.dl_command.proofs.WritingEnds.{taken_whole, taken_part}
use Rattle.dl_command.proofs.step.write_behind.Goals as goal

pub returns-in-Ok-put_run : goal.returns-in-Ok-put_run
returns-in-Ok-put_run g c = λ start text passes breaks.
    let before = rw c.in-Ok.is at passes in
    let put = rw c.as_slice.ensures.value at c.in-Ok-put_run.ensures.puts.ok in
    taken_whole _ _ _ _ (passes_both before put) c.in-Ok-put_run.ensures.empty

pub returns-in-Err-put_run : goal.returns-in-Err-put_run
returns-in-Err-put_run g c = λ start text passes breaks.
    let before = rw c.in-Ok.is at passes in
    let broke = rw c.as_slice.ensures.value at c.in-Err-put_run.ensures.puts.err.1 in
    taken_part _ _ _ (passes_breaks before broke)

pub returns-in-Err : goal.returns-in-Err
returns-in-Err g c = λ start text passes breaks. let broke = rw c.in-Err.is at breaks in cut_before _ _ text _ broke
