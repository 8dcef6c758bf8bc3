use Rattle.std.proofs.Common.{◌∙◌, ap, sym, Err}
use Rattle.dl_command.specs.Wishes.{wish_of, wish_of_words}
use Rattle.dl_command.specs.Words.{request_of}
use Rattle.dl_command.specs.declared.words.Verb.TheVariants as verbs
use Rattle.dl_command.proofs.WorkLemmas.{comes_keeps, comes_without_command, still_wish_is, wish_is}
use Rattle.dl_command.proofs.top.domlock_over.Goals as goal

pub returns-in-Err : goal.returns-in-Err
returns-in-Err g c = let n = c.nothing.ensures in
    comes_keeps (wish_of_words c.args.words.now) _ _ _ _ c.nothing.result c.spelled_has_names.ensures
    (comes_without_command _ _ _ _ _ _ c.in-Err.fault (n.status ∙ c.status.ensures) (λ is. ap wish_of (c.in-Err.ensures.usage (ap (λ fault. Err fault) is))) n.history n.refusals)

pub returns-in-Run : goal.returns-in-Run
returns-in-Run g c =
    comes_keeps (wish_of_words c.args.words.now) _ _ _ _ c.run_command.result c.spelled_has_names.ensures
    (rw (wish_is c.args.words.now (request_of c.in-Ok.command) verbs.Run c.in-Ok.ensures.ok c.in-Run.is) c.run_command.ensures)

pub returns-in-Serial : goal.returns-in-Serial
returns-in-Serial g c =
    let is = wish_is c.args.words.now (request_of c.in-Ok.command) verbs.Serial c.in-Ok.ensures.ok c.in-Serial.is in
    let still = still_wish_is c.args.words.now (request_of c.in-Ok.command) verbs.Serial c.in-Ok.ensures.ok c.in-Serial.is in
    rw (is ∙ sym still) c.domlock_still.ensures

pub returns-in-Step : goal.returns-in-Step
returns-in-Step g c =
    let is = wish_is c.args.words.now (request_of c.in-Ok.command) verbs.Step c.in-Ok.ensures.ok c.in-Step.is in
    let still = still_wish_is c.args.words.now (request_of c.in-Ok.command) verbs.Step c.in-Ok.ensures.ok c.in-Step.is in
    rw (is ∙ sym still) c.domlock_still-in-Step.ensures

pub returns-in-Show : goal.returns-in-Show
returns-in-Show g c =
    let is = wish_is c.args.words.now (request_of c.in-Ok.command) verbs.Show c.in-Ok.ensures.ok c.in-Show.is in
    let still = still_wish_is c.args.words.now (request_of c.in-Ok.command) verbs.Show c.in-Ok.ensures.ok c.in-Show.is in
    rw (is ∙ sym still) c.domlock_still-in-Show.ensures

pub returns : goal.returns
returns g c =
    let is = wish_is c.args.words.now (request_of c.in-Ok.command) verbs.Work c.in-Ok.ensures.ok c.in-Work.is in
    let still = still_wish_is c.args.words.now (request_of c.in-Ok.command) verbs.Work c.in-Ok.ensures.ok c.in-Work.is in
    rw (is ∙ sym still) c.domlock_still-in-Work.ensures
