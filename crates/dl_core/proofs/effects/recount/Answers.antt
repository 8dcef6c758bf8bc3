use Rattle.std.proofs.Common.{None, ap, sym, refl, ◌∙◌, arith}
use Rattle.std.specs.FinMap as finite
use Rattle.dl_ir.specs.Rows.{Rows}
use Rattle.dl_core.specs.declared.stages.Booked.{Booked}
use Rattle.dl_core.specs.Frames.{raised}
use Rattle.dl_core.specs.Shown.{shown, rooms_of, Rooms}
use Rattle.dl_core.proofs.Recounting.{lowered_few, can_recounted}
use Rattle.dl_core.proofs.effects.recount.Goals as goal

pub raise-requires : goal.raise-requires
raise-requires c name booked is e =
    let before = lowered_few c.target_held-lost.result c.args.frame.now.book.rows name booked (ap (λ (b : Rows Booked). finite.get b.rows name) (sym c.lower.ensures) ∙ e) in
    omega (arith, before.2, c.requires.few name before.0 before.1)

pub returns-clause-can : goal.returns-clause-can
returns-clause-can c can =
    let with_book : Rows Booked → Rooms = λ b. rooms_of (record c.args.frame.now { book = b }) in
    can_recounted c.args.code.now c.args.frame.now c.move_past.new.frame (record (shown c.args.frame.now) { hand = None; book = c.raise.new.book.rows }) c.target_held-lost.result c.target_in.result c.args.field
    (c.move_past.ensures.rooms ∙ ap with_book c.raise.ensures ∙ ap with_book c.lower.ensures) c.move_past.ensures.shown refl refl refl
    (ap (λ (b : Rows Booked). b.rows) c.raise.ensures ∙ ap (λ (b : Rows Booked). raised c.target_in.result b.rows) c.lower.ensures) can
