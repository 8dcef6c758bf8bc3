use Rattle.std.proofs.Common.{arith, ap, length}
use Rattle.dl_coarse.proofs.Rooms.{few_args}
use Rattle.dl_core.specs.Plans.{source_of}
use Rattle.dl_coarse.proofs.running.CoarseGround.begin.Goals as goal

pub refill-requires : goal.refill-requires
refill-requires g c =
    let few = few_args (source_of (g.M.Machine.opening c.args.self.now.table.shared.key)) c.args.call.now c.requires.of.is_plan.checked c.requires.may.fits in
    let room = c.requires.of.room in
    let same = ap length c.as_slice.ensures in
    omega arith
