use Rattle.std.proofs.Common.{refl, subst, sym, arith}
use Rattle.std.specs.Prelude.{All}
use Rattle.std.proofs.lemmas.List.{length-map}
use Rattle.dl_schedule.specs.Rules.{IsGiveOf}
use Rattle.dl_command.specs.Promise.{Ends}
use Rattle.dl_command.specs.Words.{request_of}
use Rattle.dl_command.proofs.EndLemmas.{ends_finished}
use Rattle.dl_command.proofs.FileLemmas.{step_counts}
use Rattle.dl_command.proofs.top.step_command.Goals as goal

pub step-requires-clause-some : goal.step-requires-clause-some
step-requires-clause-some g c =
    let texts = length-map c.args.command.now.rest.items (λ path. path.now) in
    let behind = rw c.requires.verb at c.in-Ok.ensures.spells.behind in
    let counts = step_counts _ _ _ _ _ _ (omega (arith, texts, c.requires.rest.0)) behind in
    omega (arith, texts, c.requires.rest.0, counts.1, counts.2.all)

pub step-requires-clause-few : goal.step-requires-clause-few
step-requires-clause-few g c =
    let texts = length-map c.args.command.now.rest.items (λ path. path.now) in
    let behind = rw c.requires.verb at c.in-Ok.ensures.spells.behind in
    let counts = step_counts _ _ _ _ _ _ (omega (arith, texts, c.requires.rest.0)) behind in
    omega (arith, texts, c.requires.rest.1, counts.1, counts.2.all)

pub step-requires-clause-callers : goal.step-requires-clause-callers
step-requires-clause-callers g c =
    let texts = length-map c.args.command.now.rest.items (λ path. path.now) in
    let behind = rw c.requires.verb at c.in-Ok.ensures.spells.behind in
    let counts = step_counts _ _ _ _ _ _ (omega (arith, texts, c.requires.rest.0)) behind in
    subst (λ n. All (IsGiveOf n) c.in-Ok.input.schedule) (sym counts.2.all) counts.2.gives

pub returns-in-Ok : goal.returns-in-Ok
returns-in-Ok g c = ends_finished (request_of c.args.command.now) refl c.in-Ok.ensures.spells c.in-Ok.ensures.within (rw c.requires.verb c.step.ensures)

pub returns-in-Err : goal.returns-in-Err
returns-in-Err g c = let n = c.nothing.ensures in
    Ends.refused (request_of c.args.command.now) refl (rw n.status c.in-Err.ensures.cause) refl n.history n.refusals
