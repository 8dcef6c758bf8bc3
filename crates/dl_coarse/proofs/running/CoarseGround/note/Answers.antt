use Rattle.std.proofs.Common.{rules}
use Rattle.dl_coarse.proofs.Keeps.{noted}
use Rattle.dl_coarse.proofs.running.CoarseGround.note.Goals as goal

pub split_seat-seat-requires : goal.split_seat-seat-requires
split_seat-seat-requires g c =
    (search rules, search rules, noted g.M.Machine.runs g.M.Machine.state (g.M.Machine.opening c.args.self.now.table.shared.key) c.args.pass.now.seat.id c.args.pass.now.seat.me.0)
