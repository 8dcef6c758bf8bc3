use Rattle.std.proofs.Common.{rules, ap, ◌∙◌}
use Rattle.dl_coarse.proofs.Gathering.{before_last, owns_before}
use Rattle.dl_coarse.proofs.Keeps.{joined_before}
use Rattle.dl_coarse.proofs.closings.gather.Goals as goal

pub join_seat-requires : goal.join_seat-requires
join_seat-requires g c =
    let kept = c.loop-pass.invariant in
    let last = before_last c.args.table.now.table_id c.loop-pass.passes.items c.pop.new.self.items c.in-Some.pass c.in-Some.ensures.items kept.0 in (
      kept.1,
      last.1.table,
      last.1.slot,
      search rules,
      joined_before g.M.Machine.runs g.M.Machine.state (g.M.Machine.opening c.args.table.now.key) c.loop-pass.seat.id c.in-Some.pass.seat.id c.loop-pass.seat.me.0 c.in-Some.pass.seat.me.0 kept.2 last.1.no_turn,
    )

pub loop-pass-preserved : goal.loop-pass-preserved
loop-pass-preserved g c =
    let kept = c.loop-pass.invariant in
    let last = before_last c.args.table.now.table_id c.loop-pass.passes.items c.pop.new.self.items c.in-Some.pass c.in-Some.ensures.items kept.0 in
    let joined = c.join_seat.ensures in (
      last.0,
      joined.0 ∙ kept.1,
      ap (λ me. me.0.turn) joined.2 ∙ last.1.no_turn,
      ap (λ me. me.1) joined.2 ∙ kept.3,
      owns_before c.loop-pass.passes.items c.pop.new.self.items c.in-Some.pass c.loop-pass.seat.me.0.owns c.join_seat.new.seat.me.0.owns _ c.in-Some.ensures.items last.1.one (ap (λ me. me.0.owns) joined.2) kept.4,
    )
