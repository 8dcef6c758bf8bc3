use Rattle.dl_command.proofs.LoadingLemmas.{no_file, says_file}
use Rattle.dl_command.proofs.loading.read_wanted.Goals as goal

pub returns-clause-ok : goal.returns-clause-ok
returns-clause-ok g c =
    let says = rw c.deref.ensures.value at c.parse.ensures.ok in
    says_file _ _ _ _ _ c.in-Ok.ensures.bytes.0 c.in-Ok.ensures.bytes.1 says

pub returns-clause-cause : goal.returns-clause-cause
returns-clause-cause g c =
    let cause = rw c.deref.ensures.value at c.parse.ensures.cause in
    no_file _ _ _ _ _ _ c.in-Ok.ensures.bytes.0 c.in-Ok.ensures.bytes.1 c.in-Ok.ensures.within cause
