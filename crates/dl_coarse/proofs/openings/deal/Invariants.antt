use Rattle.std.proofs.Common.{◌≡◌, ◌+◌, ◌-◌, ◌≤◌, Some, length, ℕ, vec_capacity}
use Rattle.std.specs.Prelude.{slice_get}
use Rattle.dl_core.specs.Passes.{fresh_pass}
use Rattle.dl_core.specs.Sound.{numbers_from}
use Rattle.dl_coarse.specs.Openings.{HasYet}
use Rattle.dl_coarse.specs.Passes.{IsOf, plan_in, view_of}
use Rattle.dl_coarse.proofs.openings.deal.Given as goal

abbrev pub invariant-loop-at : goal.invariant-loop-at
invariant-loop-at g l =
    HasYet (plan_in g.M.Machine.opening l.coarse) (numbers_from (l.at + 1) (length (plan_in g.M.Machine.opening l.coarse).sizes - l.at)) l.seat.me
    × (l.seat.table_id ≡ l.coarse.table.shared.table_id)
    × (length l.passes.items ≡ l.at)
    × (l.callers ≤ vec_capacity l.passes)
    × ((at : ℕ) (pass : _) → slice_get l.passes.items at ≡ Some pass → IsOf g.M.Machine.opening l.coarse pass × (view_of pass ≡ fresh_pass (plan_in g.M.Machine.opening l.coarse) (at + 1)))
