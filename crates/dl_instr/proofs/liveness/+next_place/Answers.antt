use Rattle.std.proofs.Common.{◌∙◌, ap}
use Rattle.dl_instr.specs.Paths.{places_of}
use Rattle.dl_instr.proofs.Paths.{next_more, places_at}
use Rattle.dl_instr.proofs.liveness.+next_place.Goals as goal

pub returns-in-None : goal.returns-in-None
returns-in-None t c =
    let is = ap places_of c.in-At.is ∙ places_at c.in-At.place c.in-At.rest in
    next_more c.args.steps.now c.args.local c.in-At.place (places_of c.args.some.now) (places_of c.in-At.rest.now) (places_of c.args.reached.now) c.next_place.result is c.in-None.ensures c.next_place.ensures
