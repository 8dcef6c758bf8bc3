use Rattle.std.proofs.Common.{◌∙◌, refl}
use Rattle.std.proofs.lemmas.List.{length-map}
use Rattle.dl_command.specs.Promise.{Ends}
use Rattle.dl_command.specs.Words.{request_of}
use Rattle.dl_command.proofs.EndLemmas.{ends_finished}
use Rattle.dl_command.proofs.FileLemmas.{operations_behind}
use Rattle.dl_command.proofs.top.serial_command.Goals as goal

pub serial-requires-clause-one : goal.serial-requires-clause-one
serial-requires-clause-one g c =
    let behind = rw c.requires.verb at c.in-Ok.ensures.spells.behind in
    (operations_behind _ _ _ _ _ _ behind).all ∙ (length-map c.args.command.now.rest.items (λ path. path.now) ∙ c.requires.rest)

pub returns-in-Ok : goal.returns-in-Ok
returns-in-Ok g c = ends_finished (request_of c.args.command.now) refl c.in-Ok.ensures.spells c.in-Ok.ensures.within (rw c.requires.verb c.serial.ensures)

pub returns-in-Err : goal.returns-in-Err
returns-in-Err g c = let n = c.nothing.ensures in
    Ends.refused (request_of c.args.command.now) refl (rw n.status c.in-Err.ensures.cause) refl n.history n.refusals
