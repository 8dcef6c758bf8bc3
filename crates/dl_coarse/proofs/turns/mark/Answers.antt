use Rattle.std.proofs.Common.{arith}
use Rattle.dl_coarse.proofs.turns.mark.Goals as goal

pub write_both-requires-clause-turn : goal.write_both-requires-clause-turn
write_both-requires-clause-turn g c =
    let m = c.requires.may in
    let clock = m.clock in
    let version = m.version in
    (m.turn, m.has, omega arith, m.was, omega arith)
