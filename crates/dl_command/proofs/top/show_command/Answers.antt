use Rattle.std.proofs.Common.{refl}
use Rattle.dl_command.specs.Promise.{Ends}
use Rattle.dl_command.specs.Words.{request_of}
use Rattle.dl_command.proofs.EndLemmas.{ends_finished}
use Rattle.dl_command.proofs.top.show_command.Goals as goal

pub returns-in-Ok : goal.returns-in-Ok
returns-in-Ok g c = ends_finished (request_of c.args.command.now) refl c.in-Ok.ensures.spells c.in-Ok.ensures.within (rw c.requires.verb (c.show.ensures c.args.command.now.places))

pub returns-in-Err : goal.returns-in-Err
returns-in-Err g c = let n = c.nothing.ensures in
    Ends.refused (request_of c.args.command.now) refl (rw n.status c.in-Err.ensures.cause) refl n.history n.refusals
