use Rattle.std.proofs.Common.{[], ◌∷◌, ◌++◌, sym, ◌∙◌, ap, arith}
use Rattle.dl_lemmas.proofs.Counts.{range_push}
use Rattle.dl_history.proofs.merging.put_places.Goals as goal

pub places-preserved : goal.places-preserved
places-preserved c = record {
  put = c.push_reserved.ensures.items ∙ ap (λ l. l ++ c.places.place ∷ []) c.places.invariant.put ∙ sym (range_push c.places.place);
  len = omega (arith, c.push_reserved.ensures.len, c.places.invariant.len);
  capacity = c.push_reserved.ensures.capacity ∙ c.places.invariant.capacity;
}
