use Rattle.std.proofs.Common.{◌<◌, ◌++◌, [], ◌∷◌, length, List, sym, ap, ◌∙◌, arith}
use Rattle.dl_ir.specs.declared.names.Value.{Value}
use Rattle.dl_ir.specs.declared.names.Value.TheVariants.{Ref}
use Rattle.std.specs.Prelude.{None}
use Rattle.dl_heapfile.specs.Blanks.{nothing}
use Rattle.dl_heapfile.proofs.Filling.{map_one}
use Rattle.dl_heapfile.proofs.building.emptied.Goals as goal
use Rattle.dl_lemmas.proofs.Places.{one_at}

pub loop-preserved : goal.loop-preserved
loop-preserved c =
    let fields = c.args.object.now.fields in
    let less : c.loop.counter < length fields = omega (arith, c.loop-test.true, c.len-end.ensures) in
    let held = one_at fields c.loop.counter less in
    record {
      so_far = c.push.ensures ∙ ap (λ (l : List Value). l ++ Ref None ∷ []) c.loop.invariant.so_far ∙ sym (map_one nothing fields c.loop.counter held.0 held.1);
      within = omega (arith, less);
    }
