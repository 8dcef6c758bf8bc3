-- A change of the number of fields that refer to a held object leaves alone who is held.
use Rattle.std.proofs.Common.{◌≡◌, ℕ, ◌+◌, ◌-◌, ◌<◌, ◌≤◌, ◌^◌, Bool, true, false, cond, List, [], ◌∷◌, length, Option, Some, None, refl, sym, ap, subst, ◌∙◌, arith}
use Rattle.std.specs.Prelude.{is_some, slice_get}
use Rattle.std.specs.Option.{option_map}
use Rattle.std.specs.Ordering.{eq_by_cmp}
use Rattle.std.specs.FinMap as finite
use Rattle.std.specs.FinMap.{get-insert, len-insert}
use Rattle.dl_ir.specs.declared.names.Name.{Name}
use Rattle.dl_ir.specs.Heap.{name_cmp}
use Rattle.dl_instr.specs.declared.code.Code.{Code}
use Rattle.dl_core.specs.declared.frames.Frame.{Frame as Kept}
use Rattle.dl_core.specs.declared.stages.Booked.{Booked}
use Rattle.dl_core.specs.Heaps.{put_at}
use Rattle.dl_core.specs.Frames.{Frame, Book, recounted, lowered, raised, loosened}
use Rattle.dl_core.specs.Events.{moved_past}
use Rattle.dl_core.specs.Shown.{shown, rooms_of, CanGoOn, AreTidy}
use Rattle.dl_core.proofs.Kept.{same_loosened}
use Rattle.dl_shape.proofs.Names.{names}
use Rattle.dl_lemmas.proofs.Maps.{same_key}
use Rattle.dl_core.proofs.Maps.{put_at_same, get-put_at}
use Rattle.dl_core.proofs.Moves.{can_with}

module _ (book : Book) (name : Name) (booked other : Booked) (e : finite.get book name ≡ Some booked) where
  -- another number of a held object
  replaced_has : (q : Name) → finite.contains_key (finite.insert book name other) q ≡ finite.contains_key book q
  replaced_has q = ap is_some (get-insert names.total book name other q) ∙ by (eq_by_cmp name_cmp q name) refl
    where
      by : (b : Bool) → eq_by_cmp name_cmp q name ≡ b → is_some (cond b (Some other) (finite.get book q)) ≡ is_some (finite.get book q)
      by true t = sym (ap is_some (subst (λ n. finite.get book n ≡ Some booked) (sym (same_key names q name t)) e))
      by false t = refl

  replaced_len : finite.len (finite.insert book name other) ≡ finite.len book
  replaced_len = len-insert names.total book name other ∙ ap (λ (o : Option Booked). cond (is_some o) (finite.len book) (finite.len book + 1)) e

module _ (change : ℕ → ℕ) where
  pub recounted_has : (target : Option Name) (book : Book) (q : Name) → finite.contains_key (recounted change target book) q ≡ finite.contains_key book q
  unfolding put_at
  recounted_has None book q = refl
  recounted_has (Some name) book q = by (finite.get book name) refl
    where
      by : (found : Option Booked) → finite.get book name ≡ found → finite.contains_key (put_at book name (option_map (λ (booked : Booked). record booked { fields = change booked.fields }) found)) q ≡ finite.contains_key book q
      by None e = ap (λ (m : Book). finite.contains_key m q) (ap (put_at book name) (sym e) ∙ put_at_same names book name)
      by (Some booked) e = replaced_has book name booked (record booked { fields = change booked.fields }) e q

  pub recounted_len : (target : Option Name) (book : Book) → finite.len (recounted change target book) ≡ finite.len book
  unfolding put_at
  recounted_len None book = refl
  recounted_len (Some name) book = by (finite.get book name) refl
    where
      by : (found : Option Booked) → finite.get book name ≡ found → finite.len (put_at book name (option_map (λ (booked : Booked). record booked { fields = change booked.fields }) found)) ≡ finite.len book
      by None e = ap finite.len (ap (put_at book name) (sym e) ∙ put_at_same names book name)
      by (Some booked) e = replaced_len book name booked (record booked { fields = change booked.fields }) e

-- the numbers do not pass what they were
pub lowered_few : (target : Option Name) (book : Book) (q : Name) (now : Booked) → finite.get (lowered target book) q ≡ Some now → (before : Booked) × (finite.get book q ≡ Some before) × (now.fields ≤ before.fields)
lowered_few None book q now e = (now, e, omega arith)
lowered_few (Some name) book q now e = by (eq_by_cmp name_cmp q name) (finite.get book name) refl refl (sym (get-put_at names book name _ q) ∙ e)
  where
    same : {a b : Booked} → Some a ≡ Some b → a ≡ b
    same p = cc

    by : (b : Bool) (found : Option Booked) → eq_by_cmp name_cmp q name ≡ b → finite.get book name ≡ found
        → cond b (option_map (λ (booked : Booked). record booked { fields = booked.fields - 1 }) found) (finite.get book q) ≡ Some now → (before : Booked) × (finite.get book q ≡ Some before) × (now.fields ≤ before.fields)
    by true None t f g = absurd (cc)
    by true (Some booked) t f g = let is : booked.fields - 1 ≡ now.fields = ap (λ (k : Booked). k.fields) (same g) in (booked, ap (finite.get book) (same_key names q name t) ∙ f, omega (arith, is))
    by false found t f g = (now, g, omega arith)

-- the same objects are loose, and are held
pub tidy_recounted : (change : ℕ → ℕ) (target : Option Name) (book : Book) (loose : List Name) → AreTidy book loose → AreTidy (recounted change target book) loose
tidy_recounted change target book [] tidy = tt
tidy_recounted change target book (name ∷ names) tidy = (recounted_has change target book name ∙ tidy.0, tidy.1, tidy_recounted change target book names tidy.2)

-- the field that was written changes the place, or where the clearing stands, alone
moved_past_alike : (loose : List Name) (field : ℕ) (frame : Frame)
    → ((moved_past loose field frame).call ≡ frame.call) × ((moved_past loose field frame).locals ≡ frame.locals) × ((moved_past loose field frame).book ≡ frame.book) × ((moved_past loose field frame).loose ≡ frame.loose)
moved_past_alike [] field frame = (refl, refl, refl, refl)
moved_past_alike (_ ∷ _) field frame = (refl, refl, refl, refl)

-- one field less refers to what it referred to, and one more to what it refers to now
pub can_recounted : (code : Code) (old mid : Kept) (before : Frame) (lost gained : Option Name) (field : ℕ) → rooms_of mid ≡ rooms_of old → shown mid ≡ moved_past old.loose.items field before
    → before.call ≡ (shown old).call → before.locals ≡ (shown old).locals → before.loose ≡ (shown old).loose → before.book ≡ raised gained (lowered lost (shown old).book) → CanGoOn code old → CanGoOn code mid
can_recounted code old mid before lost gained field rooms is call locals loose book can =
    let alike = moved_past_alike old.loose.items field before in
    let mid_book : (shown mid).book ≡ raised gained (lowered lost (shown old).book) = ap (λ (f : Frame). f.book) is ∙ alike.2 ∙ book in
    let mid_loose : (shown mid).loose ≡ (shown old).loose = ap (λ (f : Frame). f.loose) is ∙ alike.3 ∙ loose in
    let mid_locals : (shown mid).locals ≡ (shown old).locals = ap (λ (f : Frame). f.locals) is ∙ alike.1 ∙ locals in
    can_with code old mid rooms (ap (λ (f : Frame). f.call) is ∙ alike.0 ∙ call) (subst (λ l. length l < 2 ^ 32) (sym mid_locals) can.locals)
    (subst (λ b. AreTidy b (shown mid).loose) (sym mid_book) (subst (AreTidy (raised gained (lowered lost (shown old).book))) (sym mid_loose)
    (tidy_recounted (λ fields. fields + 1) gained (lowered lost (shown old).book) (shown old).loose (tidy_recounted (λ fields. fields - 1) lost (shown old).book (shown old).loose can.tidy))))
    (subst (λ n. n ≤ old.loose.room) (sym (ap finite.len mid_book ∙ recounted_len (λ fields. fields + 1) gained (lowered lost (shown old).book) ∙ recounted_len (λ fields. fields - 1) lost (shown old).book)) can.room)
    can

-- an object is loose now, where it is to be
pub can_loosened : (code : Code) (mid new : Kept) (target : Option Name) → rooms_of new ≡ rooms_of mid → shown new ≡ loosened target (shown mid) → CanGoOn code mid → CanGoOn code new
can_loosened code mid new target rooms is can =
    let same = same_loosened target (shown mid) in
    can_with code mid new rooms (ap (λ (f : Frame). f.call) is ∙ same.0) (subst (λ n. n < 2 ^ 32) (sym (ap (λ (f : Frame). length f.locals) is ∙ same.10)) can.locals)
    (subst (λ (f : Frame). AreTidy f.book f.loose) (sym is) (same.11 can.tidy))
    (subst (λ n. n ≤ mid.loose.room) (sym (ap (λ (f : Frame). finite.len f.book) is ∙ ap finite.len same.7)) can.room)
    can

-- a list without a first element is empty
pub no_first : {X : Type 0} (xs : List X) → None ≡ slice_get xs 0 → xs ≡ []
no_first [] e = refl
no_first (x ∷ xs) e = absurd (cc)
