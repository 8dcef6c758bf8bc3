use Rattle.std.proofs.Common.{◌≡◌, map}
use Rattle.std.specs.List.{range_with_len}
use Rattle.dl_work.specs.Draws.{state_after, drawn}
use Rattle.dl_work.specs.Works.{give_of}
use Rattle.dl_work.proofs.works.make_schedule.Given as goal

-- the gives so far
abbrev pub invariant-loop-i : goal.invariant-loop-i
invariant-loop-i l = record {
  gives : l.schedule ≡ map (λ at. give_of l.callers (drawn l.fn.draws.state at)) (range_with_len 0 l._i);
  state : l.draws.state ≡ state_after l.fn.draws.state l._i;
}
