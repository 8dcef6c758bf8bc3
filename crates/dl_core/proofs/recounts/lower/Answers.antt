use Rattle.std.proofs.Common.{ℕ, ◌-◌, ap, ◌∙◌}
use Rattle.std.specs.FinMap as finite
use Rattle.dl_core.proofs.Moves.{recounts, recounts_none}
use Rattle.dl_core.proofs.recounts.lower.Goals as goal

pub returns-in-Some-booked_in : goal.returns-in-Some-booked_in
returns-in-Some-booked_in c =
    let booked = c.in-Some-booked_in.booked in
    rw c.in-Some.is (
    c.put.ensures
    ∙ ap (λ (n : ℕ). record c.args.book.now { rows = finite.insert c.args.book.now.rows c.in-Some.name (record { kind = booked.kind; fields = n }) }) c.saturating_sub-fields.ensures
    ∙ recounts (λ fields. fields - 1) c.args.book.now c.in-Some.name booked c.in-Some-booked_in.ensures
    )

pub returns-in-None : goal.returns-in-None
returns-in-None c = rw c.in-Some.is (recounts_none (λ fields. fields - 1) c.args.book.now c.in-Some.name c.in-None.ensures)
