use Rattle.std.proofs.Common.{◌≡◌, ◌+◌, ◌<◌, length, Option, Some, None, option_copied, option_map, slice_get, is_some, refl, sym, ◌∙◌, ap, arith}
use Rattle.dl_history.specs.Histories.{joined}
use Rattle.dl_history.specs.Orders.{answer_at}
use Rattle.dl_text.proofs.Loops.{put_start, put_step, put_fails}
use Rattle.dl_history.proofs.Walk.{left_first, once, piece, next_told, next_passed}
use Rattle.dl_history.proofs.operations.put_answer_lines.Goals as goal
use Rattle.dl_history.proofs.operations.put_answer_lines.Goals.{then-is_some, else-is_some}

-- an answer is there where the reference to it is
there : {T U : Type 0} (f : T → U) (o : Option T) → is_some o ≡ is_some (option_map f o)
there f None = refl
there f (Some x) = refl

pub operations-init : goal.operations-init
operations-init g c = record {
  put = put_start _ _ _ c.requires.works;
  left = left_first c.args.history.now.entries (joined c.args.refusals.now) c.args.caller _ _ c.places_of-places.ensures c.refusals_of-refused.ensures (c.requires.covers 0);
  counted = refl;
}

pub returns-in_err-put_answer_line : goal.returns-in_err-put_answer_line
returns-in_err-put_answer_line g c =
    let within : c.operations.i < length c.args.calls.now = rw (← c.len-i-end.ensures) c.operations-test.true in
    let answer : option_copied c.next_answer-answer.result ≡ answer_at c.args.history.now.entries (c.operations.i + 1) (slice_get c.places_of-places.result.now c.operations.told)
    = rw (← c.entries-entries.ensures) c.next_answer-answer.ensures in
    put_fails _ c.operations.invariant.put
    (piece c.args.history.now.entries (joined c.args.refusals.now) c.args.caller c.args.calls.now c.requires.covers _ _ c.operations.i c.operations.told c.operations.passed c.operations.invariant.left within _ _ answer c.next_refusal-refusal.ensures)
    c.from_residual.ensures.0 c.in_err-put_answer_line.ensures

pub operations-preserved : goal.operations-preserved
operations-preserved g c =
    let within : c.operations.i < length c.args.calls.now = rw (← c.len-i-end.ensures) c.operations-test.true in
    let answer : option_copied c.next_answer-answer.result ≡ answer_at c.args.history.now.entries (c.operations.i + 1) (slice_get c.places_of-places.result.now c.operations.told)
    = rw (← c.entries-entries.ensures) c.next_answer-answer.ensures in
    let said = put_step c.operations.invariant.put
    (piece c.args.history.now.entries (joined c.args.refusals.now) c.args.caller c.args.calls.now c.requires.covers _ _ c.operations.i c.operations.told c.operations.passed c.operations.invariant.left within _ _ answer c.next_refusal-refusal.ensures)
    c.in_ok-put_answer_line.ensures.ok in
    let one = once c.args.history.now.entries (joined c.args.refusals.now) c.args.caller c.args.calls.now c.requires.covers c.operations.i within in
    elim c.if-is_some.branch [
      | then-is_some w ↦ record {
        put = said;
        left = rw (w.told-is, w.passed-is) (next_told c.args.history.now.entries (joined c.args.refusals.now) c.args.caller _ _ (c.operations.i + 1) c.operations.told c.operations.passed c.operations.invariant.left one (sym (ap (λ a. is_some a) answer) ∙ sym (there _ c.next_answer-answer.result) ∙ sym c.is_some.ensures ∙ w.if-is_some.true));
        counted = omega arith;
      }
      | else-is_some w ↦ record {
        put = said;
        left = rw (w.told-is, w.passed-is) (next_passed c.args.history.now.entries (joined c.args.refusals.now) c.args.caller _ _ (c.operations.i + 1) c.operations.told c.operations.passed c.operations.invariant.left one (sym (ap (λ a. is_some a) answer) ∙ sym (there _ c.next_answer-answer.result) ∙ sym c.is_some.ensures ∙ w.if-is_some.false));
        counted = omega arith;
      }
    ]
