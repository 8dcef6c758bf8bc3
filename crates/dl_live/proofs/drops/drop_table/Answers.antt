use Rattle.std.proofs.Common.{◌≡◌, ◌<◌, ◌+◌, ◌↔◌, ◌∷◌, [], ℕ, List, Bool, true, length, sym, subst, arith, ◌∙◌, ap}
use Rattle.std.proofs.lemmas.List.{length-append}
use Rattle.dl_live.specs.Dropped.{IsDroppedBefore}
use Rattle.dl_live.specs.Marks.{is_picked}
use Rattle.dl_live.proofs.Tables.{rows_more, all_rows}
use Rattle.dl_live.proofs.drops.drop_table.Goals as goal

pub loop-local-preserved : goal.loop-local-preserved
loop-local-preserved c =
    let op = c.args.op.now in
    let steps = c.args.steps.now in
    let pushed = c.in_ok-push.ensures.ok in
    let row = c.in_ok-dropped_places.field-0 in
    let long = c.loop-local.invariant.0 in (
      ap length pushed ∙ omega (arith, length-append c.loop-local.table (row ∷ []), long),
      subst (λ (t : List (List Bool)). (at k : ℕ) → k < c.loop-local.local + 1 → (is_picked t at k ≡ true) ↔ IsDroppedBefore op steps at k) (sym pushed)
          (rows_more op steps c.loop-local.table row c.loop-local.local long c.loop-local.invariant.1 c.in_ok-dropped_places.ensures),
    )

pub returns : goal.returns
returns c =
    let long = c.loop-local.invariant.0 in
    all_rows c.args.op.now c.args.steps.now c.loop-local.table (omega arith) (λ at k h. c.loop-local.invariant.1 at k (omega (arith, h, long)))
