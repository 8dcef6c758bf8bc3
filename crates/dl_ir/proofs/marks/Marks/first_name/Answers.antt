use Rattle.std.proofs.Common.{ap, sym, ◌∙◌}
use Rattle.std.specs.List.{slice_get}
use Rattle.std.specs.Option.{option_map}
use Rattle.dl_ir.proofs.Falling.{entries_are, last_first}
use Rattle.dl_ir.proofs.marks.Marks.first_name.Goals as goal

pub returns : goal.returns
returns c =
    let looked = rw c.deref.ensures.value at c.last.ensures.value in
    rw (← c.self.view_is) (c.copied.ensures ∙ looked ∙ last_first c.self.inside.names.items ∙ ap (λ l. option_map (λ e. e.0) (slice_get l 0)) (sym (entries_are c.self.invariant)))
