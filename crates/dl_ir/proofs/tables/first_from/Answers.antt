use Rattle.std.proofs.Common.{◌≡◌, ◌+◌, [], suc, take, refl, sym, ap, subst, ◌∙◌, arith, None, not}
use Rattle.std.specs.Prelude.{is_some}
use Rattle.std.specs.Option.{option_map}
use Rattle.std.proofs.lemmas.Option.{slice_get_read}
use Rattle.dl_ir.specs.Places.{present}
use Rattle.dl_ir.proofs.Present.{passed_more, first_there, first_none, is_none}
use Rattle.dl_ir.proofs.tables.first_from.Goals as goal

pub loop-at-preserved : goal.loop-at-preserved
loop-at-preserved g c =
    let es = c.args.entries.now in
    let at = c.loop-at.at in
    let is = slice_get_read es _ at c.index-entries-at.result refl c.loop-at-test.true c.index-entries-at.is in
    let none : c.index-entries-at.result.1 ≡ None = is_none _ (ap (λ e. is_some e.1) c.index-entries-at.is ∙ c.is_none.ensures ∙ ap not c.if-is_none.true) in
    let e : suc at ≡ at + 1 = omega arith in
    subst (λ n. present (take n es) ≡ []) e (passed_more es at c.index-entries-at.result is none c.loop-at.invariant)

pub returns-else-is_none-clause-first : goal.returns-else-is_none-clause-first
returns-else-is_none-clause-first g c =
    let es = c.args.entries.now in
    let at = c.loop-at.at in
    let is = slice_get_read es _ at c.index-entries-at.result refl c.loop-at-test.true c.index-entries-at.is in
    let some = ap (λ e. is_some e.1) c.index-entries-at.is ∙ c.is_none.ensures ∙ ap not c.if-is_none.false in
    first_there es at c.index-entries-at.result is some c.loop-at.invariant ∙ sym (ap (option_map (λ e. e.0)) is)

pub returns-after-loop-at-clause-first : goal.returns-after-loop-at-clause-first
returns-after-loop-at-clause-first g c = first_none c.args.entries.now c.loop-at.at (omega (arith, c.loop-at-test.false)) c.loop-at.invariant
