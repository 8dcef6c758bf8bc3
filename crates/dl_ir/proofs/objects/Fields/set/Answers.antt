use Rattle.std.proofs.Common.{List, ap, sym, ◌∙◌, set, arith}
use Rattle.std.proofs.lemmas.List.{set-append_left, set-append_right}
use Rattle.dl_ir.specs.declared.names.Value.{Value}
use Rattle.dl_ir.proofs.objects.Fields.set.Goals as goal

pub returns-then-at-near : goal.returns-then-at-near
returns-then-at-near c =
    rw c.replace.ensures.written (
    sym (set-append_left c.self.inside.near c.self.inside.far c.args.at c.args.value (omega (arith, c.if-at-near.true, c.len-near.ensures.value)))
    ∙ ap (λ (l : List Value). set l c.args.at c.args.value) c.self.view_is)

pub returns-else-at-near : goal.returns-else-at-near
returns-else-at-near c =
    rw c.replace-else-at-near.ensures.written (
    sym (set-append_right c.self.inside.near c.self.inside.far c.len-near.result c.args.at c.args.value (sym c.len-near.ensures.value) c.if-at-near.false)
    ∙ ap (λ (l : List Value). set l c.args.at c.args.value) c.self.view_is)
