use Rattle.std.proofs.Common.{◌≡◌, set, ap, sym, ◌∙◌, Option, Some}
use Rattle.std.specs.Option.{option_map}
use Rattle.dl_ir.specs.declared.names.Name.{Name}
use Rattle.dl_ir.specs.declared.rows.Head.{Head}
use Rattle.dl_ir.specs.Joined.{recounted_head}
use Rattle.dl_ir.specs.Places.{IsAt}
use Rattle.dl_ir.specs.Rows.{changed_of}
use Rattle.dl_ir.proofs.Edits.{at_within}
use Rattle.dl_ir.proofs.SortedEntries.{holds}
use Rattle.dl_ir.proofs.Present.{rows}
use Rattle.dl_ir.proofs.TableEdits.{entry, absent, after, table-after}
use Rattle.dl_ir.proofs.tables.Table+Head.recount.Goals as goal

some_same : {X : Type 0} {x y : X} → Some x ≡ Some y → x ≡ y
some_same is = cc

pub recount_at-requires-clause-within : goal.recount_at-requires-clause-within
recount_at-requires-clause-within c =
    let items = c.self.inside.entries.items in
    let found : IsAt c.args.name items c.in-Ok.at = rw c.deref.ensures.value at c.in-Ok.ensures.found in
    at_within c.args.name items c.in-Ok.at (holds _ c.self.invariant.sorted) found

pub recount_at-requires-clause-fits : goal.recount_at-requires-clause-fits
recount_at-requires-clause-fits c e row read is some =
    let items = c.self.inside.entries.items in
    let found : IsAt c.args.name items c.in-Ok.at = rw c.deref.ensures.value at c.in-Ok.ensures.found in
    let here = entry c.self.invariant c.args.name c.in-Ok.at found in
    let same : here.0 ≡ e = some_same (sym here.1 ∙ read) in
    (rw (← c.self.view_is) at c.requires) row (here.3 ∙ ap (λ (x : Name × Option Head). x.1) same ∙ is) some

pub invariant_of-self : goal.invariant_of-self
invariant_of-self c =
    let items = c.self.inside.entries.items in
    let change = recounted_head c.args.more c.args.fewer in
    let found : IsAt c.args.name items c.in-Ok.at = rw c.deref.ensures.value at c.in-Ok.ensures.found in
    let e = entry c.self.invariant c.args.name c.in-Ok.at found in
    let after-it = c.recount_at.ensures.recounted e.0 e.1 ∙ ap (λ (n : Name). set items c.in-Ok.at (n, option_map change e.0.1)) e.2 in
    rw (after-it, c.recount_at.ensures.capacity) (table-after c.self.invariant c.args.name c.in-Ok.at found change)

pub returns-in-Ok-clause-before : goal.returns-in-Ok-clause-before
returns-in-Ok-clause-before c =
    let items = c.self.inside.entries.items in
    let found : IsAt c.args.name items c.in-Ok.at = rw c.deref.ensures.value at c.in-Ok.ensures.found in
    let e = entry c.self.invariant c.args.name c.in-Ok.at found in
    rw (← c.self.view_is) (c.recount_at.ensures.before e.0 e.1 ∙ ap (option_map (λ (head : Head). (head.refs, head.sealed))) (sym e.3))

pub returns-in-Ok-clause-recounted : goal.returns-in-Ok-clause-recounted
returns-in-Ok-clause-recounted c =
    let items = c.self.inside.entries.items in
    let change = recounted_head c.args.more c.args.fewer in
    let found : IsAt c.args.name items c.in-Ok.at = rw c.deref.ensures.value at c.in-Ok.ensures.found in
    let e = entry c.self.invariant c.args.name c.in-Ok.at found in
    let after-it = c.recount_at.ensures.recounted e.0 e.1 ∙ ap (λ (n : Name). set items c.in-Ok.at (n, option_map change e.0.1)) e.2 in
    rw (← c.self.view_is, after-it) (ap (λ rows. record { rows = rows; room = c.self.inside.room }) (
    after c.self.invariant c.args.name c.in-Ok.at found change ∙ ap (changed_of (rows items) c.args.name change) (sym e.3)))

pub returns-in-Err-clause-before : goal.returns-in-Err-clause-before
returns-in-Err-clause-before c =
    let gap = rw c.deref.ensures.value at c.in-Err.ensures.absent in
    rw (← c.self.view_is) (ap (option_map (λ (head : Head). (head.refs, head.sealed))) (sym (absent c.self.invariant _ _ gap)))

pub returns-in-Err-clause-recounted : goal.returns-in-Err-clause-recounted
returns-in-Err-clause-recounted c =
    let gap = rw c.deref.ensures.value at c.in-Err.ensures.absent in
    rw (← c.self.view_is) (ap (λ rows. record { rows = rows; room = c.self.inside.room }) (
    ap (changed_of (rows c.self.inside.entries.items) c.args.name (recounted_head c.args.more c.args.fewer)) (sym (absent c.self.invariant _ _ gap))))
