-- What events leave of the facts on which local steps rest.
use Rattle.std.proofs.Common.{◌≡◌, ℕ, ◌+◌, ◌-◌, ◌<◌, ◌≤◌, ◌^◌, Bool, true, false, cond, List, [], ◌∷◌, length, Option, Some, None, refl, sym, ap, subst, ◌∙◌, arith}
use Rattle.std.specs.Prelude.{is_some, slice_get}
use Rattle.std.specs.Ordering.{eq_by_cmp}
use Rattle.std.specs.FinMap as finite
use Rattle.std.specs.FinMap.{get-insert, len-insert, len-remove}
use Rattle.dl_ir.specs.declared.names.Name.{Name}
use Rattle.dl_ir.specs.Heap.{name_cmp}
use Rattle.dl_instr.specs.declared.code.Code.{Code}
use Rattle.dl_core.specs.declared.frames.Frame.{Frame as Kept}
use Rattle.dl_core.specs.declared.stages.Booked.{Booked}
use Rattle.dl_core.specs.Plans.{steps_of, roots_of}
use Rattle.dl_core.specs.Frames.{Frame, Book, behind_of, recounted}
use Rattle.dl_core.specs.LocalSteps.{GoesBackToTurns}
use Rattle.dl_core.specs.Shown.{shown, rooms_of, Rooms, CanGoOn, IsTidy, AreTidy}
use Rattle.std.specs.Option.{option_map}
use Rattle.dl_ir.specs.Rows.{Rows}
use Rattle.dl_core.specs.Heaps.{put_at}
use Rattle.dl_core.specs.Events.{moved_on}
use Rattle.dl_shape.proofs.Names.{names}
use Rattle.dl_core.proofs.Maps.{put_at_same}
use Rattle.dl_core.proofs.Tidy.{tidy_without}

-- the facts on a frame that the memory and the roots of another go with
pub can_with : (code : Code) (old new : Kept) → rooms_of new ≡ rooms_of old → (shown new).call ≡ (shown old).call → length (shown new).locals < 2 ^ 32 → IsTidy (shown new) → finite.len (shown new).book ≤ old.loose.room → CanGoOn code old → CanGoOn code new
can_with code old new rooms call locals tidy room can = record {
  few = can.few;
  tidy = tidy;
  room = subst (λ n. finite.len new.book.rows ≤ n) (ap (λ (r : Rooms). r.loose) (sym rooms)) room;
  locals = locals;
  roots = λ plan c. ap (λ (r : Rooms). r.roots.items) rooms ∙ can.roots plan c ∙ ap (roots_of plan) (sym call);
  turns = λ plan c. subst (λ (k : _). GoesBackToTurns (steps_of plan k)) (sym call) (can.turns plan c);
}

-- the same call, locals, book and loose objects
pub can_alike : (code : Code) (old new : Kept) → rooms_of new ≡ rooms_of old → (shown new).call ≡ (shown old).call → (shown new).locals ≡ (shown old).locals → (shown new).book ≡ (shown old).book → (shown new).loose ≡ (shown old).loose → CanGoOn code old → CanGoOn code new
can_alike code old new rooms call locals book loose can =
    can_with code old new rooms call (subst (λ l. length l < 2 ^ 32) (sym locals) can.locals) (subst (λ b. AreTidy b (shown new).loose) (sym book) (subst (AreTidy (shown old).book) (sym loose) can.tidy)) (subst (λ b. finite.len b ≤ old.loose.room) (sym book) can.room) can

-- one more is held
pub tidy_with : (book : Book) (name : Name) (booked : Booked) (loose : List Name) → AreTidy book loose → AreTidy (finite.insert book name booked) loose
tidy_with book name booked [] tidy = tt
tidy_with book name booked (other ∷ others) tidy = (ap is_some (get-insert names.total book name booked other) ∙ by (eq_by_cmp name_cmp other name) tidy.0, tidy.1, tidy_with book name booked others tidy.2)
  where
    by : (b : Bool) → is_some (finite.get book other) ≡ true → is_some (cond b (Some booked) (finite.get book other)) ≡ true
    by true e = refl
    by false e = e

pub one_more : (book : Book) (name : Name) (booked : Booked) → finite.len (finite.insert book name booked) ≤ finite.len book + 1
one_more book name booked = by (finite.contains_key book name) (len-insert names.total book name booked)
  where
    by : (b : Bool) → finite.len (finite.insert book name booked) ≡ cond b (finite.len book) (finite.len book + 1) → finite.len (finite.insert book name booked) ≤ finite.len book + 1
    by true e = omega (arith, e)
    by false e = omega (arith, e)

pub one_less : (book : Book) (name : Name) → finite.len (finite.remove book name) ≤ finite.len book
one_less book name = by (finite.contains_key book name) (len-remove names.total book name)
  where
    by : (b : Bool) → finite.len (finite.remove book name) ≡ cond b (finite.len book - 1) (finite.len book) → finite.len (finite.remove book name) ≤ finite.len book
    by true e = omega (arith, e)
    by false e = omega (arith, e)

-- the first of the loose objects is held no longer
pub tidy_behind : (book : Book) (name : Name) (loose : List Name) → slice_get loose 0 ≡ Some name → AreTidy book loose → AreTidy (finite.remove book name) (behind_of loose)
tidy_behind book name [] e tidy = tt
tidy_behind book name (first ∷ others) e tidy = let same : first ≡ name = some e in subst (λ n. AreTidy (finite.remove book n) others) same (tidy_without book first others tidy.1 tidy.2)
  where
    some : Some first ≡ Some name → first ≡ name
    some p = cc

module _ (code : Code) (old new : Kept) (name : Name) (rooms : rooms_of new ≡ rooms_of old) (call : (shown new).call ≡ (shown old).call) (locals : (shown new).locals ≡ (shown old).locals) (can : CanGoOn code old) where
  -- one more is held
  pub can_held : (booked : Booked) → (shown new).book ≡ finite.insert (shown old).book name booked → (shown new).loose ≡ (shown old).loose → finite.len (shown old).book < old.loose.room → CanGoOn code new
  can_held booked book loose room =
      can_with code old new rooms call (subst (λ l. length l < 2 ^ 32) (sym locals) can.locals)
      (subst (λ b. AreTidy b (shown new).loose) (sym book) (subst (AreTidy (finite.insert (shown old).book name booked)) (sym loose) (tidy_with (shown old).book name booked (shown old).loose can.tidy)))
      (subst (λ b. finite.len b ≤ old.loose.room) (sym book) (let more = one_more (shown old).book name booked in omega (arith, more, room)))
      can

  -- one less is held
  pub can_without : (shown new).book ≡ finite.remove (shown old).book name → AreTidy (finite.remove (shown old).book name) (shown new).loose → CanGoOn code new
  can_without book tidy =
      can_with code old new rooms call (subst (λ l. length l < 2 ^ 32) (sym locals) can.locals)
      (subst (λ b. AreTidy b (shown new).loose) (sym book) tidy)
      (subst (λ b. finite.len b ≤ old.loose.room) (sym book) (let less = one_less (shown old).book name in let few : finite.len (shown old).book ≤ old.loose.room = can.room in omega (arith, less, few)))
      can

  -- the first of the loose objects is held no longer
  pub can_behind : (shown new).book ≡ finite.remove (shown old).book name → (shown new).loose ≡ behind_of (shown old).loose → slice_get (shown old).loose 0 ≡ Some name → CanGoOn code new
  can_behind book loose first = can_without book (subst (AreTidy (finite.remove (shown old).book name)) (sym loose) (tidy_behind (shown old).book name (shown old).loose first can.tidy))

  -- an object that is not loose is held no longer
  pub can_alone : (shown new).book ≡ finite.remove (shown old).book name → (shown new).loose ≡ (shown old).loose → (shown old).loose ≡ [] → CanGoOn code new
  can_alone book loose none = can_without book (subst (AreTidy (finite.remove (shown old).book name)) (sym (loose ∙ none)) tt)

-- the code going on changes the place alone
pub moved_alike : (loose : List Name) (frame : Frame) → ((moved_on loose frame).call ≡ frame.call) × ((moved_on loose frame).locals ≡ frame.locals) × ((moved_on loose frame).book ≡ frame.book) × ((moved_on loose frame).loose ≡ frame.loose)
moved_alike [] frame = (refl, refl, refl, refl)
moved_alike (_ ∷ _) frame = (refl, refl, refl, refl)

-- a number of fields is changed where the object is held, and the book stays where it is not
pub recounts : (change : ℕ → ℕ) (book : Rows Booked) (name : Name) (booked : Booked) → Some booked ≡ finite.get book.rows name
    → record book { rows = finite.insert book.rows name (record booked { fields = change booked.fields }) } ≡ record book { rows = recounted change (Some name) book.rows }
unfolding put_at
recounts change book name booked e =
    ap (λ (o : Option Booked). record book { rows = put_at book.rows name (option_map (λ (b : Booked). record b { fields = change b.fields }) o) }) e

pub recounts_none : (change : ℕ → ℕ) (book : Rows Booked) (name : Name) → None ≡ finite.get book.rows name → book ≡ record book { rows = recounted change (Some name) book.rows }
recounts_none change book name e =
    ap (λ (m : Book). record book { rows = m })
    (sym (put_at_same names book.rows name) ∙ ap (put_at book.rows name) (sym e) ∙ ap (λ (o : Option Booked). put_at book.rows name (option_map (λ (b : Booked). record b { fields = change b.fields }) o)) e)
