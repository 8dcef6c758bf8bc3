use Rattle.std.proofs.Common.{◌+◌, ◌∙◌}
use Rattle.dl_core.proofs.Moves.{recounts, recounts_none}
use Rattle.dl_core.proofs.recounts.raise.Goals as goal

pub returns-in-Some-booked_in : goal.returns-in-Some-booked_in
returns-in-Some-booked_in c = rw c.in-Some.is (c.put.ensures ∙ recounts (λ fields. fields + 1) c.args.book.now c.in-Some.name c.in-Some-booked_in.booked c.in-Some-booked_in.ensures)

pub returns-in-None : goal.returns-in-None
returns-in-None c = rw c.in-Some.is (recounts_none (λ fields. fields + 1) c.args.book.now c.in-Some.name c.in-None.ensures)
