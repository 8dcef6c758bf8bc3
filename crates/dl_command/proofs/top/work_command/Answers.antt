use Rattle.std.proofs.Common.{refl, sym}
use Rattle.dl_command.specs.Promise.{Ends}
use Rattle.dl_command.specs.Words.{request_of}
use Rattle.dl_command.proofs.WorkLemmas.{comes_unasked, comes_work}
use Rattle.dl_command.proofs.top.work_command.Goals as goal

pub returns-in-Some : goal.returns-in-Some
returns-in-Some g c =
    let is = rw c.as_slice.ensures.value at c.in-Some.ensures.asked in
    comes_work (request_of c.args.command.now) c.in-Some.asked _ _ _ _ _ (sym is) c.work.ensures

pub returns-in-None : goal.returns-in-None
returns-in-None g c =
    let n = c.nothing.ensures in
    let is = rw c.as_slice.ensures.value at c.in-None.ensures.asked in
    λ files. comes_unasked (request_of c.args.command.now) _ _ _ _ _ (sym is) files (Ends.usage n.status refl refl refl n.history n.refusals)
