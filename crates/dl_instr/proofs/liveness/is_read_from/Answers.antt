use Rattle.std.proofs.Common.{ap, ◌∙◌, ◌∷◌}
use Rattle.dl_instr.proofs.Paths.{from_one, places_at, places_none}
use Rattle.dl_instr.proofs.liveness.is_read_from.Goals as goal

pub returns : goal.returns
returns c = from_one c.args.steps.now c.args.local c.args.at _ c.is_read_from_some.result (places_at c.args.at _ ∙ ap (λ xs. c.args.at ∷ xs) places_none) c.is_read_from_some.ensures
