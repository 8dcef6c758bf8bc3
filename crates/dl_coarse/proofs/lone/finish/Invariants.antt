use Rattle.std.proofs.Common.{◌≡◌}
use Rattle.dl_core.specs.declared.answers.Progress.{Progress}
use Rattle.dl_core.specs.Advances.{RunsTo}
use Rattle.dl_core.specs.Core.{Core}
use Rattle.dl_core.specs.Plans.{Plan}
use Rattle.dl_coarse.specs.Lone.{Stays}
use Rattle.dl_coarse.proofs.lone.finish.Given as goal

abbrev pub invariant-loop-next : goal.invariant-loop-next
invariant-loop-next l =
    (l.going.caller ≡ l.fn.going.caller)
    × Stays l.fn.going.core l.going.core
    × ((plan : Plan) → plan.code ≡ l.fn.going.core.code → (answer : Progress) (end : Core) → RunsTo plan l.fn.going.caller answer l.going.core.state end → RunsTo plan l.fn.going.caller answer l.fn.going.core.state end)

abbrev pub decreases-loop-next : goal.decreases-loop-next
decreases-loop-next l = l.going.more.0
