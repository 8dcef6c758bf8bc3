use Rattle.std.proofs.lemmas.List.{append-nil}
use Rattle.dl_text.proofs.WritingLemmas.{puts_both}
use Rattle.dl_command.proofs.run.put_run.Goals as goal

pub returns-clause-puts : goal.returns-clause-puts
returns-clause-puts g c =
    let put = rw c.requires.refusals.0 at c.in_ok-write_report.ensures.ok in
    rw append-nil at (puts_both put c.flush.ensures.puts)
