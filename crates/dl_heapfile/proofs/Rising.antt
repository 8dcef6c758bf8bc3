-- Entries in rising names, and the heap that has them.
use Rattle.std.proofs.Common.{◌≡◌, ℕ, ◌<◌, cond, List, map, sym, ap, ◌∙◌, T, Option, Some, None, eqb, refl}
use Rattle.std.specs.List.{slice_get}
use Rattle.std.specs.Option.{option_map, option_or}
use Rattle.std.specs.declared.cmp.Ordering.TheVariants.{Less, Equal, Greater}
use Rattle.std.specs.FinMap as finite
use Rattle.std.specs.FinMap.{is_sorted, find, get-from_sorted, get-from_entries, get-empty, same_map, entries-from_sorted}
use Rattle.std.proofs.lemmas.Bool.{lt-ltb}
use Rattle.dl_ir.specs.declared.names.Name.{Name}
use Rattle.dl_ir.specs.declared.objects.Obj.{Obj}
use Rattle.dl_ir.specs.Heap.{Objects, name_cmp, root}
use Rattle.dl_ir.specs.Rows.{added}
use Rattle.dl_lemmas.proofs.Entries.{find_there, there_found, find-changed, sorted_changed}
use Rattle.dl_lemmas.proofs.Tests.{holds, yes}
use Rattle.dl_shape.proofs.Added.{got_added}
use Rattle.dl_shape.proofs.Names.{names}
use Rattle.dl_heapfile.specs.Blanks.{emptied, emptied_entry}
use Rattle.dl_heapfile.specs.Faults.{heap_of}

abbrev pub Entries : Type 0
Entries = List (Name × Obj)

-- one root before another
pub below_root : (n m : ℕ) → n < m → name_cmp (root n) (root m) ≡ Less
below_root n m less = ap (λ b. cond b Less (cond (eqb n m) Equal Greater)) (lt-ltb n m less)

-- ---- the heap of entries

pub entries-heap_of : (es : Entries) → T (is_sorted name_cmp es) → finite.entries (heap_of es) ≡ es
entries-heap_of es sorted =
    ap finite.entries (same_map names.total names.same (heap_of es) (finite.from_sorted es) (λ q. get-from_entries names.total es q ∙ sym (get-from_sorted name_cmp es q sorted)))
    ∙ entries-from_sorted name_cmp es sorted

pub get_there : (es : Entries) (at : ℕ) (e : Name × Obj) → T (is_sorted name_cmp es) → slice_get es at ≡ Some e → finite.get (heap_of es) e.0 ≡ Some e.1
get_there es at e sorted there = get-from_entries names.total es e.0 ∙ find_there names es at e sorted there

pub there_got : (es : Entries) (k : Name) (o : Obj) → finite.get (heap_of es) k ≡ Some o → (at : ℕ) × (slice_get es at ≡ Some (k, o))
there_got es k o is = there_found names es k o (sym (get-from_entries names.total es k) ∙ is)

-- a heap is that of its entries
pub heap_of-entries : (h : Objects) → heap_of (finite.entries h) ≡ h
heap_of-entries h = same_map names.total names.same _ _ (λ q. get-from_entries names.total (finite.entries h) q ∙ sym (finite.get-entries h q))

-- ---- entries put in one after another

sorted_emptied : (es : Entries) → T (is_sorted name_cmp es) → T (is_sorted name_cmp (map emptied_entry es))
sorted_emptied es sorted = holds _ (sorted_changed name_cmp (λ (e : Name × Obj). emptied e.1) es ∙ yes _ sorted)

abbrev nothing_there : Objects
nothing_there = finite.empty

-- each object is there with null in each field, once all are put in so
pub emptied_there : (es : Entries) (at : ℕ) (e : Name × Obj) → T (is_sorted name_cmp es) → slice_get es at ≡ Some e → finite.get (added finite.empty (map emptied_entry es)) e.0 ≡ Some (emptied e.1)
emptied_there es at e sorted there =
    got_added nothing_there (map emptied_entry es) e.0 (sorted_emptied es sorted)
    ∙ ap (λ o. option_or o (finite.get nothing_there e.0)) (find-changed name_cmp emptied e.0 es ∙ ap (option_map emptied) (find_there names es at e sorted there))

either_found : (found : Option Obj) → option_or found (option_or (option_map emptied found) None) ≡ found
either_found None = refl
either_found (Some o) = refl

-- and all written over make the heap
pub written_over : (es : Entries) → T (is_sorted name_cmp es) → added (added finite.empty (map emptied_entry es)) es ≡ heap_of es
written_over es sorted = same_map names.total names.same _ _ (λ q.
    got_added (added finite.empty (map emptied_entry es)) es q sorted
    ∙ ap (option_or (find name_cmp q es)) (got_added nothing_there (map emptied_entry es) q (sorted_emptied es sorted) ∙ ap (λ o. option_or o (finite.get nothing_there q)) (find-changed name_cmp emptied q es) ∙ ap (option_or (option_map emptied (find name_cmp q es))) (get-empty name_cmp q))
    ∙ either_found (find name_cmp q es)
    ∙ sym (get-from_entries names.total es q))
