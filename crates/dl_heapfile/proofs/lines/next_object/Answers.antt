use Rattle.std.proofs.Common.{◌≡◌, Some, None}
use Rattle.dl_ir.specs.declared.names.Name.{Name}
use Rattle.dl_ir.specs.declared.objects.Obj.{Obj}
use Rattle.dl_heapfile.proofs.FeedFree.{told_first, told_none, front_told}
use Rattle.dl_heapfile.proofs.lines.next_object.Goals as goal

same_some : (a b : Name × Obj) → Some a ≡ Some b → a ≡ b
same_some a b e = cc

no_some : (b : Name × Obj) → None ≡ Some b → ⊥
no_some b e = cc

pub returns-in_err-line-clause-only : goal.returns-in_err-line-clause-only
returns-in_err-line-clause-only c = λ told rest begins.
    absurd (told_none c.args.source.now c.args.text.now rest told c.requires.names begins.name begins.object c.in_err-line.ensures begins.text_is)

pub returns-in_err-entry-clause-only : goal.returns-in_err-entry-clause-only
returns-in_err-entry-clause-only c = λ told rest begins.
    let first = told_first c.args.source.now c.args.text.now c.in_ok-line.line.now c.in_ok-line.rest.now rest told c.requires.names begins.name begins.object c.in_ok-line.ensures.0 c.in_ok-line.ensures.1 begins.text_is in
    absurd (no_some told (c.in_err-entry.ensures.only told first.0))

pub returns-clause-only : goal.returns-clause-only
returns-clause-only c = λ told rest begins.
    let first = told_first c.args.source.now c.args.text.now c.in_ok-line.line.now c.in_ok-line.rest.now rest told c.requires.names begins.name begins.object c.in_ok-line.ensures.0 c.in_ok-line.ensures.1 begins.text_is in
    (same_some c.in_ok-entry.entry told (c.in_ok-entry.ensures.only told first.0), first.1)

pub returns-clause-found : goal.returns-clause-found
returns-clause-found c = front_told c.args.source.now c.args.text.now c.in_ok-line.line.now c.in_ok-line.rest.now c.in_ok-entry.entry c.in_ok-line.ensures c.in_ok-entry.ensures.found
