-- Loose objects are held, and each stands in the list once: so there are no more of them than are held.
use Rattle.std.proofs.Common.{◌≡◌, ◌≢◌, ◌⊎◌, inl, inr, ℕ, ◌-◌, ◌<◌, ◌≤◌, Bool, true, false, cond, List, [], ◌∷◌, ◌++◌, length, Option, Some, None, refl, sym, ap, subst, ◌∙◌, arith}
use Rattle.std.specs.Prelude.{is_some, nat_le, ◌==◌, ◌&&◌, ◌||◌, not}
use Rattle.std.specs.Option.{option_map_or}
use Rattle.std.specs.FinMap as finite
use Rattle.std.specs.FinMap.{len-remove, empty_of_len, get-empty}
use Rattle.std.proofs.lemmas.List.Folds.{list_any-append}
use Rattle.dl_ir.specs.declared.names.Name.{Name}
use Rattle.dl_ir.specs.Heap.{name_cmp}
use Rattle.dl_ir.specs.References.{name_eq}
use Rattle.dl_core.specs.declared.stages.Booked.{Booked}
use Rattle.dl_core.specs.Heaps.{put_at}
use Rattle.dl_core.specs.Frames.{Frame, Book, is_among, is_to_loosen, locals_to}
use Rattle.dl_core.specs.Shown.{AreTidy, IsTidy}
use Rattle.dl_shape.proofs.Names.{names}
use Rattle.dl_core.proofs.Maps.{get_there}
use Rattle.dl_lemmas.proofs.Tests.{not_both, and_parts}
use Rattle.dl_core.proofs.Names.{name_itself, name_differs}
use Rattle.std.proofs.lemmas.Bool.{not-true}

-- the name that stands first is not among the others
apart : (name other : Name) (others : List Name) → is_among name (other ∷ others) ≡ false → (name ≢ other) × (is_among name others ≡ false)
apart name other others e = (λ same. not_both (subst (λ n. is_among name (n ∷ others) ≡ true) same (here name others)) e, rest (name_eq name other) (is_among name others) e)
  where
    here : (n : Name) (ns : List Name) → is_among n (n ∷ ns) ≡ true
    here n ns = rw (name_itself n) refl

    rest : (a b : Bool) → (a || b) ≡ false → b ≡ false
    rest true b f = absurd (cc)
    rest false b f = f

left : (book : Book) (name other : Name) → other ≢ name → finite.get (finite.remove book name) other ≡ finite.get book other
unfolding put_at
left book name other d = get_there names book name None other d

-- others stay held when one is held no longer
pub tidy_without : (book : Book) (name : Name) (loose : List Name) → is_among name loose ≡ false → AreTidy book loose → AreTidy (finite.remove book name) loose
tidy_without book name [] e tidy = tt
tidy_without book name (other ∷ others) e tidy =
    let a = apart name other others e in
    (ap is_some (left book name other (λ same. a.0 (sym same))) ∙ tidy.0, tidy.1, tidy_without book name others a.1 tidy.2)

-- there are no more of them than are held
pub few_loose : (book : Book) (loose : List Name) → AreTidy book loose → length loose ≤ finite.len book
few_loose book [] tidy = omega arith
few_loose book (name ∷ others) tidy =
    let rest = few_loose (finite.remove book name) others (tidy_without book name others tidy.1 tidy.2) in
    let len : finite.len (finite.remove book name) ≡ finite.len book - 1 = len-remove names.total book name ∙ ap (λ b. cond b (finite.len book - 1) (finite.len book)) tidy.0 in
    omega (arith, rest, len, some_held book name tidy.0)
  where
    zero_or : (n : ℕ) → (n ≡ 0) ⊎ (0 < n)
    zero_or n = grind arith

    some_held : (b : Book) (n : Name) → finite.contains_key b n ≡ true → 0 < finite.len b
    some_held b n e = elim (zero_or (finite.len b)) [
      | inl none ↦ absurd (not_both (subst (λ m. finite.contains_key m n ≡ true) (empty_of_len b none) e) (ap is_some (get-empty name_cmp n)))
      | inr some ↦ some
    ]

-- another one that is held goes behind them
tidy_more : (book : Book) (loose : List Name) (name : Name) → finite.contains_key book name ≡ true → is_among name loose ≡ false → AreTidy book loose → AreTidy book (loose ++ name ∷ [])
tidy_more book [] name there e tidy = (there, refl, tt)
tidy_more book (other ∷ others) name there e tidy =
    let a = apart name other others e in
    let differs : name_eq other name ≡ false = name_differs other name (λ same. a.0 (sym same)) in
    (tidy.0, list_any-append (name_eq other) others (name ∷ []) ∙ ap (λ b. b || (name_eq other name || false)) tidy.1 ∙ ap (λ b. false || (b || false)) differs, tidy_more book others name there a.1 tidy.2)

-- an object that is to be loose is held, and is not loose yet
to_loosen : (frame : Frame) (name : Name) → is_to_loosen frame name ≡ true → (finite.contains_key frame.book name ≡ true) × (is_among name frame.loose ≡ false)
to_loosen frame name e =
    let parts = and_parts (option_map_or (λ (booked : Booked). nat_le booked.fields 1) (finite.get frame.book name) false && (locals_to frame name == 0)) (not (is_among name frame.loose)) e in
    (held (finite.get frame.book name) (and_parts (option_map_or (λ (booked : Booked). nat_le booked.fields 1) (finite.get frame.book name) false) (locals_to frame name == 0) parts.0).0, not-true (is_among name frame.loose) parts.1)
  where
    held : (found : Option Booked) → option_map_or (λ (booked : Booked). nat_le booked.fields 1) found false ≡ true → is_some found ≡ true
    held None f = f
    held (Some booked) f = refl

pub loosened_tidy : (frame : Frame) (name : Name) → is_to_loosen frame name ≡ true → IsTidy frame → IsTidy (record frame { loose = frame.loose ++ name ∷ [] })
loosened_tidy frame name e tidy = let parts = to_loosen frame name e in tidy_more frame.book frame.loose name parts.0 parts.1 tidy

-- with memory for as many as are held there is space for another
pub has_space : (book : Book) (loose : List Name) (room : ℕ) → AreTidy book loose → finite.len book ≤ room → (name : Name) → finite.contains_key book name ≡ true → is_among name loose ≡ false → length loose < room
has_space book loose room tidy few name there e = let l : length (name ∷ loose) ≤ finite.len book = few_loose book (name ∷ loose) (there, e, tidy) in omega (arith, l, few)
