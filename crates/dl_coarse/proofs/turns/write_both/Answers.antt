use Rattle.std.proofs.Common.{ap}
use Rattle.dl_coarse.proofs.turns.write_both.Goals as goal

pub write_version-requires-clause-turn : goal.write_version-requires-clause-turn
write_version-requires-clause-turn g c =
    let t = c.requires.turn in
    (record t.0 { clock = c.args.clock }, ap (λ me. me.0.turn) (c.write_clock.ensures.written t.0 t.1), t.4)
