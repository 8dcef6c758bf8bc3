use Rattle.std.proofs.Common.{map, ◌++◌, [], ◌∷◌, ℕ, sym, ap, ◌∙◌, arith}
use Rattle.std.specs.List.{range_with_len}
use Rattle.std.proofs.lemmas.List.FromFn.{map-range_with_len_more}
use Rattle.dl_schedule.specs.declared.give.Give.{Give}
use Rattle.dl_work.specs.Draws.{next_state, first_drawn, drawn}
use Rattle.dl_work.specs.Works.{give_of}
use Rattle.dl_work.proofs.Drawing.{state_behind}
use Rattle.dl_work.proofs.works.make_schedule.Goals as goal

pub loop-i-preserved : goal.loop-i-preserved
loop-i-preserved c =
    let seed = c.args.draws.now.state in
    let callers = c.args.callers in
    let i = c.loop-i._i in
    let give : ℕ → Give = λ at. give_of callers (drawn seed at) in
    let number = c.draw.ensures.number ∙ ap first_drawn c.loop-i.invariant.state in
    record {
      gives = c.in_ok-push.ensures.ok ∙ ap (λ gives. gives ++ give_of callers c.draw.result ∷ []) c.loop-i.invariant.gives
          ∙ ap (λ n. map give (range_with_len 0 i) ++ give_of callers n ∷ []) number
          ∙ sym (map-range_with_len_more give 0 i i (omega arith));
      state = c.draw.ensures.state ∙ ap next_state c.loop-i.invariant.state ∙ state_behind seed i 1;
    }
