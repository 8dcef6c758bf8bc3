use Rattle.std.proofs.Common.{◌∙◌, ◌≤◌, refl, subst, sym}
use Rattle.std.proofs.lemmas.List.{length-map}
use Rattle.dl_command.specs.Promise.{Ends}
use Rattle.dl_command.specs.Words.{request_of}
use Rattle.dl_command.proofs.EndLemmas.{ends_finished}
use Rattle.dl_command.proofs.FileLemmas.{operations_behind}
use Rattle.dl_command.proofs.top.run_command.Goals as goal

pub run-requires-clause-some : goal.run-requires-clause-some
run-requires-clause-some g c κs within =
    let behind = rw c.requires.verb at c.in-Ok.ensures.spells.behind in
    subst (λ n. 1 ≤ n) (sym ((operations_behind _ _ _ _ _ _ behind).all ∙ length-map c.args.command.now.rest.items (λ path. path.now))) c.requires.rest.0

pub run-requires-clause-few : goal.run-requires-clause-few
run-requires-clause-few g c κs within =
    let behind = rw c.requires.verb at c.in-Ok.ensures.spells.behind in
    subst (λ n. n ≤ 64) (sym ((operations_behind _ _ _ _ _ _ behind).all ∙ length-map c.args.command.now.rest.items (λ path. path.now))) c.requires.rest.1

pub returns-in-Ok : goal.returns-in-Ok
returns-in-Ok g c = ends_finished (request_of c.args.command.now) refl c.in-Ok.ensures.spells c.in-Ok.ensures.within (rw c.requires.verb c.run.ensures)

pub returns-in-Err : goal.returns-in-Err
returns-in-Err g c = let n = c.nothing.ensures in
    Ends.refused (request_of c.args.command.now) refl (rw n.status c.in-Err.ensures.cause) refl n.history n.refusals
