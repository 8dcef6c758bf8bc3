use Rattle.std.proofs.Common.{rules}
use Rattle.dl_coarse.proofs.Keeps.{joined_with}
use Rattle.dl_coarse.proofs.running.CoarseGround.learn.Goals as goal

pub join_seat-requires : goal.join_seat-requires
join_seat-requires g c = (
  search rules,
  search rules,
  search rules,
  search rules,
  joined_with g.M.Machine.runs g.M.Machine.state (g.M.Machine.opening c.args.self.now.table.shared.key) c.args.pass.now.seat.id c.args.note.seat.id c.args.pass.now.seat.me.0 c.args.note.seat.me.0
      c.requires.of.resting.no_turn c.requires.note.no_turn,
)
