use Rattle.dl_ir.specs.Checked.{IsOperation}
use Rattle.dl_ir.specs.Typed.{types_of}
use Rattle.dl_meaning.proofs.One.{one}
use Rattle.dl_lemmas.proofs.Places.{all_at}
use Rattle.dl_meaning.proofs.one_outcome.Goals as goal

pub returns-clause-blocks : goal.returns-clause-blocks
returns-clause-blocks c = one

pub returns-clause-bodies : goal.returns-clause-bodies
returns-clause-bodies c = λ cx number op s checked is fits. one cx (types_of op) op.body s checked.fields (all_at (IsOperation cx.source) cx.source.ops number op checked.ops is).body fits
