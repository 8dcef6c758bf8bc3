use Rattle.dl_command.proofs.LoadingLemmas.{syntax_cause, type_cause}
use Rattle.dl_command.proofs.loading.parse_module.Goals as goal

pub returns-in-Err-clause-cause : goal.returns-in-Err-clause-cause
returns-in-Err-clause-cause c = rw c.status_of_syntax.ensures (syntax_cause c.args.text.now c.in-Err.fault c.in-Err.ensures.fault)

pub returns-in-Err-check-clause-cause : goal.returns-in-Err-check-clause-cause
returns-in-Err-check-clause-cause c =
    rw c.status_of_types.ensures (type_cause c.args.text.now c.in-Ok.tree c.in-Err-check.fault c.in-Ok.ensures.found c.in-Err-check.ensures.fault)

pub returns-in-Ok-check-clause-names : goal.returns-in-Ok-check-clause-names
returns-in-Ok-check-clause-names c =
    c.spelled_has_names.ensures c.args.text.now c.in-Ok.tree c.in-Ok-check.source c.in-Ok.ensures.found c.in-Ok-check.ensures.found
