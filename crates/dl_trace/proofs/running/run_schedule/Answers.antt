use Rattle.std.proofs.Common.{refl}
use Rattle.dl_trace.proofs.Makings.{way_first, schedule_as, has_run, has_failed}
use Rattle.dl_trace.proofs.running.run_schedule.Goals as goal

pub give_schedule-requires-clause-way : goal.give_schedule-requires-clause-way
give_schedule-requires-clause-way g c = way_first c.args.core.now c.args.files.now c.args.schedule.now c.requires.may

pub returns-in-Ok : goal.returns-in-Ok
returns-in-Ok g c =
    has_run c.args.core.now c.args.files.now c.args.schedule.now c.requires.may refl refl c.put.ensures (schedule_as c.args.files.now c.as_slice.ensures c.give_schedule.ensures)
    c.make_rounds.ensures.made c.make_rounds.ensures.over _ c.in-Ok.is

pub returns-in-Err : goal.returns-in-Err
returns-in-Err g c =
    has_failed c.args.core.now c.args.files.now c.args.schedule.now c.requires.may refl refl c.put.ensures (schedule_as c.args.files.now c.as_slice.ensures c.give_schedule.ensures)
    c.make_rounds.ensures.made c.make_rounds.ensures.over _ c.in-Err.is
