use Rattle.std.proofs.Common.{arith, sym, ap, ◌∙◌}
use Rattle.dl_ir.specs.Meaning.{Outcome}
use Rattle.dl_meaning.proofs.Sound.{sound, sound_block, sound_loop}
use Rattle.dl_meaning.proofs.at_most_one.Goals as goal

pub returns-clause-statements : goal.returns-clause-statements
returns-clause-statements c = λ cx d s t u end other first second.
    let same = sym (sound cx first) ∙ sound cx second in
    (ap (λ (o : Outcome). o.state) same, ap (λ (o : Outcome). o.end) same)

pub returns-clause-blocks : goal.returns-clause-blocks
returns-clause-blocks c = λ cx block s t u end other first second.
    let same = sym (sound_block cx first) ∙ sound_block cx second in
    (ap (λ (o : Outcome). o.state) same, ap (λ (o : Outcome). o.end) same)

pub returns-clause-does : goal.returns-clause-does
returns-clause-does c = λ cx d s t end runs. sound cx runs

pub returns-clause-block_does : goal.returns-clause-block_does
returns-clause-block_does c = λ cx block s t end runs. sound_block cx runs

pub returns-clause-loops : goal.returns-clause-loops
returns-clause-loops c = λ cx d body s t end runs. sound_loop cx runs s.turns (omega arith)
