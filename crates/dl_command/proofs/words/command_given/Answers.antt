use Rattle.std.proofs.Common.{◌≡◌, ◌∙◌, ap, sym, Err}
use Rattle.std.specs.Prelude.{option_and_then}
use Rattle.dl_command.specs.Words.{request_of_line}
use Rattle.dl_command.specs.declared.words.WordsFault.TheVariants as faults
use Rattle.dl_command.proofs.words.command_given.Goals as goal

pub returns-in-Err-clause-usage : goal.returns-in-Err-clause-usage
returns-in-Err-clause-usage c =
    λ is. let same : c.in-Err.fault ≡ faults.Usage = cc in
    ap (option_and_then request_of_line) (c.in-Err.ensures.usage (ap (λ fault. Err fault) same))

pub returns-in-Some-clause-ok : goal.returns-in-Some-clause-ok
returns-in-Some-clause-ok c = ap (option_and_then request_of_line) c.in-Ok.ensures.ok ∙ sym c.in-Some.ensures

pub returns-in-None-clause-usage : goal.returns-in-None-clause-usage
returns-in-None-clause-usage c = λ is. ap (option_and_then request_of_line) c.in-Ok.ensures.ok ∙ sym c.in-None.ensures
