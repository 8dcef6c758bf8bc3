use Rattle.std.proofs.Common.{◌<◌, length, refl, ap, sym, ◌∙◌, arith}
use Rattle.std.specs.Option.{option_map}
use Rattle.std.specs.List.{slice_get}
use Rattle.std.proofs.lemmas.Bool.Decides.{nat_tests}
use Rattle.std.proofs.lemmas.Option.{slice_get_read, slice_get_past}
use Rattle.dl_ir.proofs.TableEdits.{entries_are}
use Rattle.dl_ir.proofs.tables.Table.first_name.Goals as goal

pub returns-in-Some : goal.returns-in-Some
returns-in-Some g c =
    let items = c.self.inside.entries.items in
    let at = c.first_from-at.result in
    let first = rw c.deref.ensures.value at c.first_from-at.ensures.first in
    let looked = rw c.deref-2.ensures.value at c.in-Some.ensures.lookup in
    let within : at < length items = grind (arith, nat_tests, looked.0) in
    let here = slice_get_read items _ at c.in-Some.entry.now refl within looked.1 in
    rw (← c.self.view_is) (sym (ap (option_map (λ e. e.0)) here) ∙ sym first ∙ ap (λ l. option_map (λ e. e.0) (slice_get l 0)) (sym (entries_are c.self.invariant)))

pub returns-in-None : goal.returns-in-None
returns-in-None g c =
    let items = c.self.inside.entries.items in
    let at = c.first_from-at.result in
    let first = rw c.deref.ensures.value at c.first_from-at.ensures.first in
    let looked = rw c.deref-2.ensures.value at c.in-None.ensures.lookup in
    let here = slice_get_past items at looked.3 in
    rw (← c.self.view_is) (sym (ap (option_map (λ e. e.0)) here) ∙ sym first ∙ ap (λ l. option_map (λ e. e.0) (slice_get l 0)) (sym (entries_are c.self.invariant)))
