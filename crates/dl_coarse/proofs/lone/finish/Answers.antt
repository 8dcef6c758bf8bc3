use Rattle.std.proofs.Common.{◌∙◌}
use Rattle.dl_coarse.proofs.LoneSteps.{stays_onward, leads_onward, has_run}
use Rattle.dl_coarse.proofs.lone.finish.Goals as goal

pub loop-next-preserved : goal.loop-next-preserved
loop-next-preserved c =
    let kept = c.loop-next.invariant in
    let on = c.one_event.ensures.onward c.in-On.next c.in-On.is in
    (on.caller ∙ kept.0, stays_onward c.args.going c.loop-next.going kept.0 kept.1 kept.2 c.in-On.next on, leads_onward c.args.going c.loop-next.going kept.0 kept.1 kept.2 c.in-On.next on)

pub returns-in-Over : goal.returns-in-Over
returns-in-Over c =
    let kept = c.loop-next.invariant in
    has_run c.args.going c.loop-next.going kept.0 kept.1 kept.2 c.in-Over.core c.in-Over.answer (c.one_event.ensures.last c.in-Over.core c.in-Over.answer c.in-Over.is)
