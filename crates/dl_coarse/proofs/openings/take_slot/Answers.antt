use Rattle.std.proofs.Common.{rules, true, refl, ap}
use Rattle.dl_coarse.specs.Sights.{turn_with}
use Rattle.dl_coarse.proofs.Keeps.{filled}
use Rattle.dl_coarse.proofs.Starting.{has_slot}
use Rattle.dl_coarse.proofs.openings.take_slot.Goals as goal

pub load-requires : goal.load-requires
load-requires g c = (
  search rules,
  search rules,
  filled g.M.Machine.runs g.M.Machine.state (g.M.Machine.opening c.args.table.now.key) _ _ c.args.seat.now.me (turn_with (g.M.Machine.state c.args.table.now.key) true) (ap (λ me. me.0.turn) c.requires.first) refl,
)

pub returns-clause-taken : goal.returns-clause-taken
returns-clause-taken g c =
    has_slot (g.M.Machine.opening c.args.table.now.key) (g.M.Machine.state c.args.table.now.key) c.args.seat.now.me c.load.new.seat.me _ c.requires.first (c.load.ensures.2 _ (ap (λ me. me.0.turn) c.requires.first) refl)
