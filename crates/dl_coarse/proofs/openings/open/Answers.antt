use Rattle.std.proofs.Common.{[], ap, sym, ◌∙◌}
use Rattle.dl_coarse.specs.Openings.{first_sight}
use Rattle.dl_coarse.proofs.Starting.{opens_with}
use Rattle.dl_coarse.proofs.openings.open.Goals as goal

pub vacant-requires : goal.vacant-requires
vacant-requires g c =
    opens_with g.M.Machine.runs g.M.Machine.state (g.M.Machine.opening c.args.machine) c.args.machine _ _ c.requires.plan c.requires.opened.fresh_state c.clock-front.ensures c.version.ensures

pub take_slot-requires-clause-first : goal.take_slot-requires-clause-first
take_slot-requires-clause-first g c = c.in_ok-table.ensures.4 ∙ ap (λ machine. (first_sight (g.M.Machine.opening machine) (g.M.Machine.state machine), [])) (sym c.in_ok-table.ensures.5)
