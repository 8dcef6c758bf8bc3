use Rattle.std.proofs.Common.{◌≡◌, slice_get, ◌++◌, ◌∷◌, [], ap, sym, refl, ◌∙◌, arith}
use Rattle.std.proofs.lemmas.Option.{slice_get_read}
use Rattle.dl_instr.specs.Drops.{moved}
use Rattle.dl_live.specs.Dropped.{start_of}
use Rattle.dl_live.specs.Marks.{drops_at}
use Rattle.dl_live.proofs.Added.{spread_more}
use Rattle.dl_live.proofs.early.spread.Goals as goal

pub loop-at-preserved : goal.loop-at-preserved
loop-at-preserved c =
    let steps = c.args.steps.now in
    let added = drops_at c.args.table.now in
    let f = start_of added in
    let at = c.loop-at.at in
    let step = c.index-steps-at.result in
    let there = slice_get_read steps _ at step refl (omega arith) c.index-steps-at.is in
    let long = c.in_ok-starts.ensures.same in
    let copy : c.in_ok-moved_copy.field-0 ≡ moved f step = c.in_ok-moved_copy.ensures f
    (λ to jumps. let h = c.requires.lands at to step there jumps in
    ap (λ l. slice_get l to) c.as_slice.ensures ∙ c.in_ok-starts.ensures.starts to (omega (arith, h, long)))
    in
    let pushed = c.in_ok-push.ensures.ok in
    let drops = c.in_ok-push_drops.ensures in
    pushed ∙ ap (λ l. l ++ c.in_ok-moved_copy.field-0 ∷ []) drops ∙ ap (λ s. (c.loop-at.made ++ added at) ++ s ∷ []) copy
    ∙ ap (λ l. (l ++ added at) ++ moved f step ∷ []) c.loop-at.invariant ∙ sym (spread_more added (moved f) steps at step there)
