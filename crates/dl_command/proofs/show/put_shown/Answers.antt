use Rattle.std.proofs.lemmas.List.{append-nil}
use Rattle.dl_text.proofs.WritingLemmas.{passes_both, passes_fails, puts_both, puts_fails}
use Rattle.dl_command.proofs.show.put_shown.Goals as goal

pub returns-in_err-print_module-clause-puts : goal.returns-in_err-print_module-clause-puts
returns-in_err-print_module-clause-puts g c = puts_fails _ c.from_residual.ensures.0 c.in_err-print_module.ensures

pub returns-in_err-print_code-clause-puts : goal.returns-in_err-print_code-clause-puts
returns-in_err-print_code-clause-puts g c = passes_fails c.from_residual-in_err-print_code.ensures.0 c.in_ok-print_module.ensures.ok c.in_err-print_code.ensures

pub returns-clause-puts : goal.returns-clause-puts
returns-clause-puts g c = rw append-nil at (puts_both (passes_both c.in_ok-print_module.ensures.ok c.in_ok-print_code.ensures.ok) c.flush.ensures.puts)
