-- Values put under names one after another.
use Rattle.std.proofs.Common.{◌≡◌, ℕ, ◌+◌, ◌≤◌, cond, List, [], ◌∷◌, ◌++◌, length, take, Option, Some, None, refl, sym, ap, ◌∙◌, T, arith, inl, inr}
use Rattle.std.specs.List.{slice_get}
use Rattle.std.specs.Option.{option_or}
use Rattle.std.specs.FinMap as finite
use Rattle.std.specs.FinMap.{FinMap, find, is_sorted, get-empty, get-from_sorted, same_map, same_entries_map, entries_sorted, entries-from_sorted}
use Rattle.dl_ir.specs.declared.names.Name.{Name}
use Rattle.dl_ir.specs.Heap.{name_cmp}
use Rattle.dl_ir.specs.Rows.{added}
use Rattle.dl_lemmas.proofs.Entries.{not_below, none_before, sorted_front}
use Rattle.dl_lemmas.proofs.Maps.{eq_here, same_or_not, got_put, got_beside, len-put}
use Rattle.dl_lemmas.proofs.Tests.{first_of_both, second_of_both}
use Rattle.dl_shape.proofs.Names.{names}

module _ {X : Type 0} where
  -- one more comes last
  pub added_more : (m : FinMap name_cmp X) (es : List (Name × X)) (e : Name × X) → added m (es ++ e ∷ []) ≡ finite.insert (added m es) e.0 e.1
  added_more m [] e = refl
  added_more m (x ∷ es) e = added_more (finite.insert m x.0 x.1) es e

  pub len-added : (m : FinMap name_cmp X) (es : List (Name × X)) → finite.len (added m es) ≤ finite.len m + length es
  len-added m [] = omega arith
  len-added m (e ∷ es) = omega (arith, len-added (finite.insert m e.0 e.1) es, len-put names m e.0 e.1)

  -- what is put in is found, and else what was there
  pub got_added : (m : FinMap name_cmp X) (es : List (Name × X)) (q : Name) → T (is_sorted name_cmp es) → finite.get (added m es) q ≡ option_or (find name_cmp q es) (finite.get m q)
  got_added m [] q sorted = refl
  got_added m (e ∷ es) q sorted =
      got_added (finite.insert m e.0 e.1) es q (second_of_both _ _ sorted)
      ∙ elim (same_or_not names q e.0) [
        | inl same ↦
            ap (λ o. option_or o (finite.get (finite.insert m e.0 e.1) q)) (ap (λ n. find name_cmp n es) same ∙ not_below name_cmp e.0 es (first_of_both _ _ sorted))
            ∙ ap (finite.get (finite.insert m e.0 e.1)) same ∙ got_put names m e.0 e.1
            ∙ sym (ap (λ n. option_or (find name_cmp n (e ∷ es)) (finite.get m n)) same ∙ ap (λ b. option_or (cond b (Some e.1) (find name_cmp e.0 es)) (finite.get m e.0)) (eq_here names e.0))
        | inr other ↦
            ap (option_or (find name_cmp q es)) (got_beside names m e.0 e.1 q other)
            ∙ ap (λ b. option_or (cond b (Some e.1) (find name_cmp q es)) (finite.get m q)) (sym other)
      ]

  -- what a name has whose turn comes is what it had
  pub not_yet : (m : FinMap name_cmp X) (es : List (Name × X)) (at : ℕ) (e : Name × X) → T (is_sorted name_cmp es) → slice_get es at ≡ Some e → finite.get (added m (take at es)) e.0 ≡ finite.get m e.0
  not_yet m es at e sorted there =
      got_added m (take at es) e.0 (sorted_front name_cmp es at sorted) ∙ ap (λ o. option_or o (finite.get m e.0)) (none_before names es at e sorted there)

  or_none : (o : Option X) → option_or o None ≡ o
  or_none None = refl
  or_none (Some x) = refl

  -- put into an empty map, sorted entries are its entries
  pub added_alone : (es : List (Name × X)) → T (is_sorted name_cmp es) → added finite.empty es ≡ finite.from_sorted es
  added_alone es sorted = same_map names.total names.same _ _ (λ q.
      got_added finite.empty es q sorted
      ∙ ap (option_or (find name_cmp q es)) (get-empty name_cmp q)
      ∙ or_none (find name_cmp q es)
      ∙ sym (get-from_sorted name_cmp es q sorted))

  pub added-entries : (m : FinMap name_cmp X) → added finite.empty (finite.entries m) ≡ m
  added-entries m = added_alone (finite.entries m) (entries_sorted m) ∙ same_entries_map _ m (entries-from_sorted name_cmp (finite.entries m) (entries_sorted m))
