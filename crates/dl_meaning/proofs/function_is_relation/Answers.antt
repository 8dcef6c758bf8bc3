use Rattle.std.proofs.Common.{◌∙◌, sym, subst}
use Rattle.dl_ir.specs.Meaning.{Outcome}
use Rattle.dl_ir.specs.Relation.{RunsBlock}
use Rattle.dl_meaning.proofs.Sound.{sound_block}
use Rattle.dl_meaning.proofs.Total.{total_block}
use Rattle.dl_meaning.proofs.function_is_relation.Goals as goal

pub returns : goal.returns
returns c = λ cx types block s t end nodes is fits. (
  λ runs. sound_block cx runs,
  λ gives.
      let there = total_block cx.source cx.ticket cx.allocs types nodes is s fits in
      let same = sym (sound_block cx there.runs) ∙ gives in
      subst (λ (o : Outcome). RunsBlock cx block s o.state o.end) same there.runs,
)
