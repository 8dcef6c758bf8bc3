use Rattle.dl_coarse.proofs.Ending.{of_taken, none_taken}
use Rattle.dl_coarse.proofs.Gathering.{can_join, has_all, ends_on}
use Rattle.dl_coarse.proofs.closings.close_all.Goals as goal

pub gather-seat-requires-clause-all : goal.gather-seat-requires-clause-all
gather-seat-requires-clause-all g c = can_join g.M.Machine.opening c.args.coarse c.args.passes.items c.requires.idle

pub unreachable-requires : goal.unreachable-requires
unreachable-requires g c =
    let gathered = c.gather-seat.ensures.gathered in
    none_taken g.M.Machine.runs g.M.Machine.state (g.M.Machine.opening c.args.coarse.table.shared.key) c.gather-seat.result.id c.gather-seat.result.me.0 _ _ gathered.no_turn
    (has_all g.M.Machine.opening c.args.coarse c.args.passes.items c.requires.idle c.gather-seat.result.me gathered) c.close_with-closed.ensures.values.2 c.in_default.ensures.value

pub close-requires : goal.close-requires
close-requires g c =
    let gathered = c.gather-seat.ensures.gathered in
    let taken = of_taken g.M.Machine.runs g.M.Machine.state (g.M.Machine.opening c.args.coarse.table.shared.key) c.gather-seat.result.id c.gather-seat.result.me.0 _ _ c.in-Some.machine gathered.no_turn
    (has_all g.M.Machine.opening c.args.coarse c.args.passes.items c.requires.idle c.gather-seat.result.me gathered) c.close_with-closed.ensures.values.2 c.in-Some.ensures.value in
    record { idle = taken.1.idle }

pub returns : goal.returns
returns g c =
    let gathered = c.gather-seat.ensures.gathered in
    let taken = of_taken g.M.Machine.runs g.M.Machine.state (g.M.Machine.opening c.args.coarse.table.shared.key) c.gather-seat.result.id c.gather-seat.result.me.0 _ _ c.in-Some.machine gathered.no_turn
    (has_all g.M.Machine.opening c.args.coarse c.args.passes.items c.requires.idle c.gather-seat.result.me gathered) c.close_with-closed.ensures.values.2 c.in-Some.ensures.value in
    ends_on g.M.Machine.opening c.args.coarse c.args.passes.items c.requires.idle c.gather-seat.result.me gathered (g.M.Machine.state c.in-Some.machine) taken.1 c.close.result
    (c.close.ensures (g.M.Machine.opening c.args.coarse.table.shared.key) taken.0)
