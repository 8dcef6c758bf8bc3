use Rattle.std.proofs.Common.{◌∙◌, refl, ap, Err}
use Rattle.dl_command.specs.Promise.{Ends}
use Rattle.dl_command.specs.Wishes.{wish_of}
use Rattle.dl_command.specs.Words.{request_of}
use Rattle.dl_command.specs.declared.words.Verb.TheVariants as verbs
use Rattle.dl_command.proofs.PromiseLemmas.{still_none}
use Rattle.dl_command.proofs.WorkLemmas.{comes_without_command, still_wish_is}
use Rattle.dl_command.proofs.top.run_still.Goals as goal

pub returns-in-Err : goal.returns-in-Err
returns-in-Err g c = let n = c.nothing.ensures in
    comes_without_command _ _ _ _ _ _ c.in-Err.fault (n.status ∙ c.status.ensures)
    (λ is. ap wish_of (still_none c.args.words.now (c.in-Err.ensures.usage (ap (λ fault. Err fault) is)))) n.history n.refusals

pub returns-in-Serial : goal.returns-in-Serial
returns-in-Serial g c = rw (still_wish_is c.args.words.now (request_of c.in-Ok.command) verbs.Serial c.in-Ok.ensures.ok c.in-Serial.is) c.serial_command.ensures

pub returns-in-Run : goal.returns-in-Run
returns-in-Run g c = let n = c.nothing-in-Run.ensures in
    rw (still_wish_is c.args.words.now (request_of c.in-Ok.command) verbs.Run c.in-Ok.ensures.ok c.in-Run.is) (Ends.usage n.status refl refl refl n.history n.refusals)

pub returns-in-Step : goal.returns-in-Step
returns-in-Step g c = rw (still_wish_is c.args.words.now (request_of c.in-Ok.command) verbs.Step c.in-Ok.ensures.ok c.in-Step.is) c.step_command.ensures

pub returns-in-Show : goal.returns-in-Show
returns-in-Show g c = rw (still_wish_is c.args.words.now (request_of c.in-Ok.command) verbs.Show c.in-Ok.ensures.ok c.in-Show.is) c.show_command.ensures

pub returns : goal.returns
returns g c = rw (still_wish_is c.args.words.now (request_of c.in-Ok.command) verbs.Work c.in-Ok.ensures.ok c.in-Work.is) (c.work_command.ensures _)
