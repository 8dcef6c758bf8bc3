use Rattle.std.proofs.Common.{ap, sym, ◌∙◌}
use Rattle.std.specs.Option.{option_map}
use Rattle.dl_ir.specs.Counted.{object_of, refs_of, counted_by}
use Rattle.dl_ir.proofs.NameOrder.{names_total, exact_names}
use Rattle.dl_ir.proofs.Mapped.{get-with_values, with_values-remove}
use Rattle.dl_ir.proofs.Filing.{filed_left, filed_absent}
use Rattle.dl_ir.proofs.census.Census.take.Goals as goal

pub returns-in_err-row-clause-filed : goal.returns-in_err-row-clause-filed
returns-in_err-row-clause-filed c =
    let now = c.self.inside in
    let rows = now.rows.rows in
    rw (c.remove.ensures.left, with_values-remove object_of names_total exact_names rows c.args.name, with_values-remove refs_of names_total exact_names rows c.args.name) (
    filed_absent (counted_by now.rows now.loose now.shared) c.args.name (rw (← c.self.view_is) at c.requires.filed)
    (get-with_values object_of rows c.args.name ∙ ap (option_map object_of) (sym c.in_err-row.ensures.value)))

pub returns-in_err-row-clause-taken : goal.returns-in_err-row-clause-taken
returns-in_err-row-clause-taken c = rw (← c.self.view_is, get-with_values object_of c.self.inside.rows.rows c.args.name, c.from_residual.ensures) (ap (option_map object_of) c.in_err-row.ensures.value)

pub returns-in_err-row-clause-refs : goal.returns-in_err-row-clause-refs
returns-in_err-row-clause-refs c = rw (← c.self.view_is, get-with_values refs_of c.self.inside.rows.rows c.args.name, c.from_residual.ensures) (ap (option_map refs_of) c.in_err-row.ensures.value)

pub returns-in_err-row-clause-counts : goal.returns-in_err-row-clause-counts
returns-in_err-row-clause-counts c = rw (← c.self.view_is, c.remove.ensures.left) (with_values-remove refs_of names_total exact_names c.self.inside.rows.rows c.args.name)

pub returns-in_err-row-clause-objects : goal.returns-in_err-row-clause-objects
returns-in_err-row-clause-objects c =
    rw (← c.self.view_is, c.remove.ensures.left) (ap (λ m. record { rows = m; room = c.self.inside.rows.room }) (with_values-remove object_of names_total exact_names c.self.inside.rows.rows c.args.name))

pub returns-clause-filed : goal.returns-clause-filed
returns-clause-filed c =
    let now = c.self.inside in
    let rows = now.rows.rows in
    rw (c.remove.ensures.left, c.remove-2.ensures, c.remove-3.ensures, with_values-remove object_of names_total exact_names rows c.args.name, with_values-remove refs_of names_total exact_names rows c.args.name) (
    filed_left (counted_by now.rows now.loose now.shared) c.args.name (rw (← c.self.view_is) at c.requires.filed))

pub returns-clause-taken : goal.returns-clause-taken
returns-clause-taken c = rw (← c.self.view_is, get-with_values object_of c.self.inside.rows.rows c.args.name) (ap (option_map object_of) c.in_ok-row.ensures.value)

pub returns-clause-refs : goal.returns-clause-refs
returns-clause-refs c = rw (← c.self.view_is, get-with_values refs_of c.self.inside.rows.rows c.args.name) (ap (option_map refs_of) c.in_ok-row.ensures.value)

pub returns-clause-counts : goal.returns-clause-counts
returns-clause-counts c = rw (← c.self.view_is, c.remove.ensures.left) (with_values-remove refs_of names_total exact_names c.self.inside.rows.rows c.args.name)

pub returns-clause-objects : goal.returns-clause-objects
returns-clause-objects c =
    rw (← c.self.view_is, c.remove.ensures.left) (ap (λ m. record { rows = m; room = c.self.inside.rows.room }) (with_values-remove object_of names_total exact_names c.self.inside.rows.rows c.args.name))
