-- How many objects a caller can hold, and how many fields can refer to one.
use Rattle.std.proofs.Common.{◌≡◌, ◌≢◌, ◌⊎◌, inl, inr, ℕ, zero, suc, ◌+◌, ◌-◌, ◌<◌, ◌≤◌, Bool, true, false, cond, List, [], ◌∷◌, length, Option, Some, None, refl, sym, ap, ◌∙◌, arith}
use Rattle.std.specs.Prelude.{is_some}
use Rattle.std.specs.FinMap as finite
use Rattle.std.specs.FinMap.{FinMap, len-remove, len-entries, empty_of_len, get-empty, get-remove}
use Rattle.std.specs.Ordering.{eq_by_cmp}
use Rattle.dl_ir.specs.declared.names.Name.{Name}
use Rattle.dl_ir.specs.Heap.{name_cmp}
use Rattle.dl_core.specs.declared.objects.Object.{Object}
use Rattle.dl_core.specs.declared.objects.Mark.TheVariants as marks
use Rattle.dl_core.specs.Frames.{Frame}
use Rattle.dl_core.specs.Heaps.{Heap}
use Rattle.dl_core.specs.Sound.{HasBook}
use Rattle.dl_shape.proofs.Names.{names}
use Rattle.dl_lemmas.proofs.Maps.{eq_there}
use Rattle.dl_lemmas.proofs.Entries.{AreEntries, entries_are}

zero_or : (n : ℕ) → (n ≡ 0) ⊎ (0 < n)
zero_or n = grind arith

module _ {X : Type 0} where
  no_value : {x : X} → None ≡ Some x → ⊥
  no_value e = cc

  -- where a value is there the map has some
  some_there : (m : FinMap name_cmp X) (name : Name) (x : X) → finite.get m name ≡ Some x → 0 < finite.len m
  some_there m name x e = elim (zero_or (finite.len m)) [
    | inl none ↦ absurd (no_value (sym (get-empty name_cmp name) ∙ ap (λ (k : FinMap name_cmp X). finite.get k name) (sym (empty_of_len m none)) ∙ e))
    | inr some ↦ some
  ]

  -- without it there is one less
  one_less : (m : FinMap name_cmp X) (name : Name) (x : X) → finite.get m name ≡ Some x → finite.len (finite.remove m name) + 1 ≡ finite.len m
  one_less m name x e =
      let less : finite.len (finite.remove m name) ≡ finite.len m - 1 = len-remove names.total m name ∙ ap (λ (o : Option X). cond (is_some o) (finite.len m - 1) (finite.len m)) e in
      omega (arith, less, some_there m name x e)

-- the other map has every name of the one
abbrev AreWithin : {X Y : Type 0} → FinMap name_cmp X → FinMap name_cmp Y → Type 0
AreWithin {X} {Y} a b = (name : Name) (x : X) → finite.get a name ≡ Some x → (y : Y) × (finite.get b name ≡ Some y)

module _ {X Y : Type 0} where
  -- also without one name
  still_within : (a : FinMap name_cmp X) (b : FinMap name_cmp Y) (k : Name) → AreWithin a b → AreWithin (finite.remove a k) (finite.remove b k)
  still_within a b k all q x e = by (eq_by_cmp name_cmp q k) refl (sym (get-remove names.total a k q) ∙ e)
    where
      by : (t : Bool) → eq_by_cmp name_cmp q k ≡ t → cond t None (finite.get a q) ≡ Some x → (y : Y) × (finite.get (finite.remove b k) q ≡ Some y)
      by true t g = absurd (no_value g)
      by false t g = let y = all q x g in (y.0, get-remove names.total b k q ∙ ap (λ c. cond c None (finite.get b q)) t ∙ y.1)

  first_within : (n : ℕ) (a : FinMap name_cmp X) (b : FinMap name_cmp Y) → AreWithin a b → finite.len a ≡ n + 1
      → ((c : FinMap name_cmp X) (d : FinMap name_cmp Y) → finite.len c ≡ n → AreWithin c d → finite.len c ≤ finite.len d)
      → (es : List (Name × X)) → finite.entries a ≡ es → AreEntries a es → finite.len a ≤ finite.len b
  first_within n a b all e rest [] is are = let none : finite.len a ≡ 0 = len-entries a ∙ ap length is in omega (arith, none)
  first_within n a b all e rest (first ∷ es) is are =
      let y = all first.0 first.1 are.0 in
      let less = one_less a first.0 first.1 are.0 in
      let fewer = one_less b first.0 y.0 y.1 in
      let more = rest (finite.remove a first.0) (finite.remove b first.0) (omega (arith, less, e)) (still_within a b first.0 all) in
      omega (arith, less, fewer, more)

  -- then it is as large
  within : (n : ℕ) (a : FinMap name_cmp X) (b : FinMap name_cmp Y) → finite.len a ≡ n → AreWithin a b → finite.len a ≤ finite.len b
  within zero a b e all = omega (arith, e)
  within (suc n) a b e all = first_within n a b all (omega (arith, e)) (λ c d f g. within n c d f g) (finite.entries a) refl (entries_are names a)

-- the objects that a caller holds are among all
pub book_few : (heap : Heap) (caller : ℕ) (frame : Frame) → HasBook heap caller frame → finite.len frame.book ≤ finite.len heap
book_few heap caller frame book = within (finite.len frame.book) frame.book heap refl (λ name booked e. let is = book.booked name booked e in (is.object, is.there))

-- and a free one is not among them
pub free_more : (heap : Heap) (caller : ℕ) (frame : Frame) (name : Name) (object : Object) → HasBook heap caller frame → finite.get heap name ≡ Some object → object.mark ≡ marks.Free → finite.len frame.book < finite.len heap
free_more heap caller frame name object book there free =
    let rest = within (finite.len frame.book) frame.book (finite.remove heap name) refl (λ other booked e. let is = book.booked other booked e in (is.object, left other is.object is.there (λ same. held_not_free (sym (is.held) ∙ ap (λ (o : Object). o.mark) (some (sym is.there ∙ ap (finite.get heap) same ∙ there)) ∙ free)))) in
    omega (arith, rest, one_less heap name object there)
  where
    some : {a b : Object} → Some a ≡ Some b → a ≡ b
    some p = cc

    held_not_free : marks.Held caller ≡ marks.Free → ⊥
    held_not_free p = cc

    left : (other : Name) (o : Object) → finite.get heap other ≡ Some o → other ≢ name → finite.get (finite.remove heap name) other ≡ Some o
    left other o e apart = get-remove names.total heap name other ∙ ap (λ b. cond b None (finite.get heap other)) (eq_there names other name apart) ∙ e
