-- Every state to which a run comes is lawful and sound.
use Rattle.dl_core.specs.Core.{Core}
use Rattle.dl_core.specs.Laws.{IsKept, LawfulAlways}
use Rattle.dl_core.specs.Plans.{Plan, IsPlan}
use Rattle.dl_core.specs.Reached.{Calls, IsReached, starts, begins, steps}
use Rattle.dl_core.proofs.BeginKeeps.{begins_keep}
use Rattle.dl_core.proofs.FreshSound.{fresh_kept}
use Rattle.dl_core.proofs.StepsKeep.{steps_keep}

reached_kept : (plan : Plan) (core : Core) (calls : Calls) → IsPlan plan → IsReached plan core calls → IsKept plan core calls
reached_kept plan core calls is starts = fresh_kept plan is
reached_kept plan core calls is (begins {core = before} {calls = done} caller call reached may) = begins_keep plan before done caller call is (reached_kept plan before done is reached) may
reached_kept plan core calls is (steps {core = before} caller answer reached step) = steps_keep plan before core calls caller answer is (reached_kept plan before calls is reached) step

pub lawful_always : LawfulAlways
lawful_always plan core calls is reached = reached_kept plan core calls is reached
