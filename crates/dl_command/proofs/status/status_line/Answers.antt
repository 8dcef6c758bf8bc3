use Rattle.std.proofs.lemmas.List.{append-nil}
use Rattle.dl_text.proofs.WritingLemmas.{puts_both}
use Rattle.dl_command.proofs.status.status_line.Goals as goal

pub returns-clause-puts : goal.returns-clause-puts
returns-clause-puts g c = rw append-nil at (puts_both c.in_ok-put_status.ensures.ok c.flush.ensures.puts)
