use Rattle.std.proofs.Common.{◌++◌, refl, subst}
use Rattle.dl_instr.specs.Code.{code}
use Rattle.dl_instr.specs.Listing.{listing}
use Rattle.dl_print.specs.Canonical.{canonical}
use Rattle.dl_command.specs.Promise.{Finishes, Prints}
use Rattle.dl_command.proofs.top.show.Goals as goal

pub returns-in-Ok : goal.returns-in-Ok
returns-in-Ok g c =
    let n = c.nothing.ensures in
    let shown = subst (λ made. Prints c.write_shown.result (canonical c.args.input.now.tree ++ listing made) (g.K.Sink.taken c.args.out.now) (g.K.Sink.taken c.write_shown.new.sink))
    c.in-Ok.ensures c.write_shown.ensures in
    λ places. Finishes.wrote (canonical c.args.input.now.tree ++ listing (code c.args.input.now.source)) (n.history, n.refusals, refl) (rw n.status shown)

pub returns-in-Err : goal.returns-in-Err
returns-in-Err g c = let n = c.nothing-in-Err.ensures in λ places. Finishes.no_memory n.status refl n.history n.refusals
