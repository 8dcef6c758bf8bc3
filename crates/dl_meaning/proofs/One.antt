-- A typed block has one outcome.
use Rattle.std.proofs.Common.{◌∙◌, sym, ap, List}
use Rattle.dl_ir.specs.declared.modules.Ty.{Ty}
use Rattle.dl_ir.specs.declared.statements.Stmt.{Stmt}
use Rattle.dl_ir.specs.Meaning.{Context, State, Outcome}
use Rattle.dl_ir.specs.Typed.{IsTypedBlock, FieldsReferToNodes}
use Rattle.dl_meaning.specs.Fitting.{Fits}
use Rattle.dl_meaning.specs.OneOutcome.{HasOneOutcome}
use Rattle.dl_meaning.proofs.Sound.{sound_block}
use Rattle.dl_meaning.proofs.Total.{total_block}

-- there is one, and any other is it
pub one : (cx : Context) (types : List Ty) (block : List Stmt) (s : State) → FieldsReferToNodes cx.source → IsTypedBlock cx.source types block → Fits cx types s → HasOneOutcome cx types block s
one cx types block s nodes is fits =
    let there = total_block cx.source cx.ticket cx.allocs types nodes is s fits in
    record {
      after = there.after;
      end = there.end;
      runs = there.runs;
      fits = there.fits;
      only = λ t other runs.
          let same = sym (sound_block cx runs) ∙ sound_block cx there.runs in
          (ap (λ (o : Outcome). o.state) same, ap (λ (o : Outcome). o.end) same);
    }
