-- A code of a module with early drops is a code of the module.
use Rattle.std.proofs.Common.{◌≡◌, ℕ, zero, suc, ◌+◌, ◌<◌, ◌≤◌, Some, Bool, true, false, not, List, ◌++◌, length, map, slice_get, refl, sym, ap, subst, ◌∙◌, arith, inl, inr, ◌⊎◌}
use Rattle.std.specs.Option.{option_map}
use Rattle.std.proofs.lemmas.Bool.{cases_lt}
use Rattle.std.proofs.lemmas.List.{length-map}
use Rattle.std.proofs.lemmas.Option.{slice_get-map, slice_get_within}
use Rattle.dl_ir.specs.declared.expressions.Cond.TheVariants.{Ints, Refs}
use Rattle.dl_ir.specs.declared.modules.OpDecl.{OpDecl}
use Rattle.dl_instr.specs.declared.steps.Step.{Step}
use Rattle.dl_instr.specs.declared.steps.Step.TheVariants.{Read, Want, Set, Drop, Make, Eval, Write, Emit, Test, Jump, Give}
use Rattle.dl_instr.specs.Code.{op_code}
use Rattle.dl_instr.specs.Drops.{IsReadFrom, IsAddedDrop, IsWithDrops, GoesOn, front, moved, reads, sets, is_use}
use Rattle.dl_instr.proofs.Moved.{moved_twice}
use Rattle.dl_lemmas.proofs.Places.{one_at}
use Rattle.dl_live.specs.Dropped.{IsDropped, IsDroppedBefore, start_of, spread, drops_of, is_open}
use Rattle.dl_live.specs.DroppedLaws.{DroppedIsCode}
use Rattle.dl_live.proofs.Blocks.{place_of, next_start, place_up, length_is, drop_there, step_there, parted, below, picked_drop}
use Rattle.std.proofs.lemmas.Bool.{not-true}

-- a moved step reads, sets and uses what the step does
pub moved_reads : (f : ℕ → ℕ) (p : ℕ) (s : Step) → reads p (moved f s) ≡ reads p s
moved_reads f p (Read q d) = refl
moved_reads f p Want = refl
moved_reads f p (Set q from) = refl
moved_reads f p (Drop q) = refl
moved_reads f p (Make kind) = refl
moved_reads f p (Eval value) = refl
moved_reads f p (Write q d content) = refl
moved_reads f p Emit = refl
moved_reads f p (Test (Ints rel left right) is_turn place) = refl
moved_reads f p (Test (Refs same left right) is_turn place) = refl
moved_reads f p (Jump place) = refl
moved_reads f p (Give value) = refl

pub moved_sets : (f : ℕ → ℕ) (p : ℕ) (s : Step) → sets p (moved f s) ≡ sets p s
moved_sets f p (Read q d) = refl
moved_sets f p Want = refl
moved_sets f p (Set q from) = refl
moved_sets f p (Drop q) = refl
moved_sets f p (Make kind) = refl
moved_sets f p (Eval value) = refl
moved_sets f p (Write q d content) = refl
moved_sets f p Emit = refl
moved_sets f p (Test c is_turn place) = refl
moved_sets f p (Jump place) = refl
moved_sets f p (Give value) = refl

pub moved_use : (f : ℕ → ℕ) (s : Step) → is_use (moved f s) ≡ is_use s
moved_use f (Read q d) = refl
moved_use f Want = refl
moved_use f (Set q from) = refl
moved_use f (Drop q) = refl
moved_use f (Make kind) = refl
moved_use f (Eval value) = refl
moved_use f (Write q d content) = refl
moved_use f Emit = refl
moved_use f (Test c is_turn place) = refl
moved_use f (Jump place) = refl
moved_use f (Give value) = refl

-- steps are moved the same by functions that agree
moved_same : (f g : ℕ → ℕ) (s : Step) → ((n : ℕ) → f n ≡ g n) → moved f s ≡ moved g s
moved_same f g (Read q d) same = refl
moved_same f g Want same = refl
moved_same f g (Set q from) same = refl
moved_same f g (Drop q) same = refl
moved_same f g (Make kind) same = refl
moved_same f g (Eval value) same = refl
moved_same f g (Write q d content) same = refl
moved_same f g Emit same = refl
moved_same f g (Test c is_turn place) same = ap (Test c is_turn) (same place)
moved_same f g (Jump place) same = ap Jump (same place)
moved_same f g (Give value) same = refl

-- from a moved step a path goes on at the start of a step at which it goes on from the step itself
goes_back : (f : ℕ → ℕ) (s : Step) (i y next : ℕ) → f (i + 1) ≡ y + 1 → GoesOn (moved f s) y next → (j : ℕ) × (GoesOn s i j) × (next ≡ f j)
goes_back f (Read q d) i y next is on = (i + 1, refl, on ∙ sym is)
goes_back f Want i y next is on = (i + 1, refl, on ∙ sym is)
goes_back f (Set q from) i y next is on = (i + 1, refl, on ∙ sym is)
goes_back f (Drop q) i y next is on = (i + 1, refl, on ∙ sym is)
goes_back f (Make kind) i y next is on = (i + 1, refl, on ∙ sym is)
goes_back f (Eval value) i y next is on = (i + 1, refl, on ∙ sym is)
goes_back f (Write q d content) i y next is on = (i + 1, refl, on ∙ sym is)
goes_back f Emit i y next is on = (i + 1, refl, on ∙ sym is)
goes_back f (Test c is_turn place) i y next is (inl on) = (i + 1, inl refl, on ∙ sym is)
goes_back f (Test c is_turn place) i y next is (inr on) = (place, inr refl, on)
goes_back f (Jump place) i y next is on = (place, refl, on)
goes_back f (Give value) i y next is on = absurd on

module _ (picks : ℕ → ℕ → Bool) (n : ℕ) (steps : List Step) where
  abbrev pub added : ℕ → List Step
  added at = drops_of (picks at) n

  abbrev pub made : List Step
  made = spread added steps

  -- a step and the drops added before it stand at these places
  pub record Block (i k y : ℕ) : Type 0 where
    pub at : y ≡ start_of added i + k
    pub few : k ≤ length (added i)

  -- one of the drops
  pub record IsAddedAt (i k : ℕ) (s : Step) : Type 0 where
    pub local : ℕ
    pub is : s ≡ Drop local
    pub picked : picks i local ≡ true
    pub before : k < length (added i)

  -- the step itself
  pub record IsKeptAt (i k : ℕ) (s : Step) : Type 0 where
    pub step : Step
    pub there : slice_get steps i ≡ Some step
    pub is : s ≡ moved (start_of added) step
    pub last : k ≡ length (added i)

  long : length (map (moved (start_of added)) steps) ≡ length steps
  long = length-map steps (moved (start_of added))

  pub made_length : length made ≡ start_of added (length steps)
  made_length = let l = length_is added 0 (map (moved (start_of added)) steps) (length steps) (omega (arith, long)) in omega (arith, l)

  pub inside : (i k y : ℕ) (s : Step) → slice_get made y ≡ Some s → Block i k y → i < length steps
  inside i k y s there b = let h = slice_get_within made y s there in below added (length steps) i k y (omega (arith, h, made_length)) (b.at)

  pub found : (i k y : ℕ) (s : Step) → slice_get made y ≡ Some s → Block i k y → IsAddedAt i k s ⊎ IsKeptAt i k s
  found i k y s there b =
      let h = inside i k y s there b in
      let at = b.at in
      elim (cases_lt k (length (added i))) [
        | inl less ↦
            let is = drop_there added 0 (map (moved (start_of added)) steps) i i k y (omega (arith, h, long)) (omega arith) less (omega (arith, at)) in
            let drop = picked_drop (picks i) n k s (sym is ∙ there) in
            inl (record { local = drop.0; is = drop.1; picked = drop.2; before = less })
        | inr past ↦
            let few = b.few in
            let one = one_at steps i h in
            let mapped = slice_get-map (moved (start_of added)) steps i ∙ ap (option_map (moved (start_of added))) one.1 in
            let is = step_there added 0 (map (moved (start_of added)) steps) i i y (moved (start_of added) one.0) mapped (omega arith) (omega (arith, at, few, past)) in
            inr (record { step = one.0; there = one.1; is = cc; last = omega (arith, few, past) })
      ]

  -- what is read from one of these places is read from the step
  pub read_before : (p y : ℕ) → IsReadFrom made p y → (i k : ℕ) → Block i k y → IsReadFrom steps p i
  read_before p y (IsReadFrom.here {step = s} there read) i k b = elim (found i k y s there b) [
    | inl drop ↦ let wrong : false ≡ true = ap (reads p) (sym drop.is) ∙ read in absurd cc
    | inr kept ↦ IsReadFrom.here {step = kept.step} kept.there (sym (moved_reads (start_of added) p kept.step) ∙ ap (reads p) (sym kept.is) ∙ read)
  ]
  read_before p y (IsReadFrom.later {next = next} {step = s} there unset on rest) i k b = elim (found i k y s there b) [
    | inl drop ↦
        let is_next : next ≡ y + 1 = subst (λ (t : Step). GoesOn t y next) drop.is on in
        let at = b.at in
        let less = drop.before in
        read_before p next rest i (k + 1) (record { at = omega (arith, is_next, at); few = omega (arith, less) })
    | inr kept ↦
        let goes = subst (λ (t : Step). GoesOn t y next) kept.is on in
        let at = b.at in
        let last = kept.last in
        let back = goes_back (start_of added) kept.step i y next (omega (arith, at, last, next_start added i)) goes in
        let same = back.2 in
        IsReadFrom.later {step = kept.step} kept.there (sym (moved_sets (start_of added) p kept.step) ∙ ap (sets p) (sym kept.is) ∙ unset) back.1
        (read_before p next rest back.0 0 (record { at = omega (arith, same); few = omega arith }))
  ]

module _ (op : OpDecl) (plain steps : List Step) (picks : ℕ → ℕ → Bool) (n : ℕ) (w : IsWithDrops op plain steps)
    (exact : (at local : ℕ) → picks at local ≡ true → IsDroppedBefore op steps at local) where
  -- where a plain step stands
  abbrev pub at : ℕ → ℕ
  at i = place_of (added picks n steps) (w.at i)

  pub front_start : (i : ℕ) → start_of (added picks n steps) (front w.at i) ≡ front (λ j. place_of (added picks n steps) (w.at j)) i
  front_start zero = refl
  front_start (suc i) = next_start (added picks n steps) (w.at i)

  -- one of the drops is one that may have been added
  new_drop : (i k y : ℕ) (s : Step) → slice_get (made picks n steps) y ≡ Some s → Block picks n steps i k y → IsAddedAt picks n steps i k s → IsAddedDrop op (made picks n steps) y
  new_drop i k y s there b drop =
      let d = exact i drop.local drop.picked in
      let here = b.at in
      let less = drop.before in
      let next : Block picks n steps i (k + 1) (y + 1) = record { at = omega (arith, here); few = omega (arith, less) } in
      record {
        local = drop.local;
        is_drop = there ∙ ap Some drop.is;
        refers = d.refers;
        is_dead = λ read. d.is_dead (read_before picks n steps drop.local (y + 1) read i (k + 1) next);
        is_apart = λ t is. elim (found picks n steps i (k + 1) (y + 1) t is next) [
          | inl more ↦ ap is_use more.is
          | inr kept ↦ ap is_use kept.is ∙ moved_use (start_of (added picks n steps)) kept.step ∙ open_use kept.step (ap is_open (sym kept.there) ∙ d.opens)
        ];
      }
    where
      open_use : (t : Step) → is_open (Some t) ≡ true → is_use t ≡ false
      open_use t is = not-true (is_use t) is

  -- so is a drop that the steps had
  old_drop : (i y : ℕ) → y ≡ place_of (added picks n steps) i → IsAddedDrop op steps i → IsAddedDrop op (made picks n steps) y
  old_drop i y here a =
      let next : Block picks n steps (i + 1) 0 (y + 1) = record { at = omega (arith, here, next_start (added picks n steps) i); few = omega arith } in
      record {
        local = a.local;
        is_drop = kept_there i y (Drop a.local) here a.is_drop;
        refers = a.refers;
        is_dead = λ read. a.is_dead (read_before picks n steps a.local (y + 1) read (i + 1) 0 next);
        is_apart = λ t is. elim (found picks n steps (i + 1) 0 (y + 1) t is next) [
          | inl more ↦ ap is_use more.is
          | inr kept ↦ ap is_use kept.is ∙ moved_use (start_of (added picks n steps)) kept.step ∙ a.is_apart kept.step kept.there
        ];
      }
    where
      kept_there : (i y : ℕ) (s : Step) → y ≡ place_of (added picks n steps) i → slice_get steps i ≡ Some s
          → slice_get (made picks n steps) y ≡ Some (moved (start_of (added picks n steps)) s)
      kept_there i y s here there =
          let f = moved (start_of (added picks n steps)) in
          step_there (added picks n steps) 0 (map f steps) i i y (f s) (slice_get-map f steps i ∙ ap (option_map f) there) (omega arith) (omega (arith, here))

  pub with_drops : IsWithDrops op plain (made picks n steps)
  with_drops = record {
    at = at;
    rises = λ i h. place_up (added picks n steps) (w.at i) (w.at (i + 1)) (w.rises i h);
    kept = λ i step is.
        let f = start_of (added picks n steps) in
        let there = w.kept i step is in
        step_there (added picks n steps) 0 (map (moved f) steps) (w.at i) (w.at i) (at i) (moved f (moved (front w.at) step))
        (slice_get-map (moved f) steps (w.at i) ∙ ap (option_map (moved f)) there) (omega arith) (omega arith)
        ∙ ap Some (moved_twice f (front w.at) step ∙ moved_same (λ j. f (front w.at j)) (front at) step front_start);
    ends = made_length picks n steps ∙ ap (start_of (added picks n steps)) w.ends ∙ front_start (length plain);
    added = λ y h.
        let p = parted (added picks n steps) (length steps) y (omega (arith, h, made_length picks n steps)) in
        let b : Block picks n steps p.0 p.2.0 y = record { at = p.2.1; few = p.2.2 } in
        let there = one_at (made picks n steps) y h in
        elim (found picks n steps p.0 p.2.0 y there.0 there.1 b) [
          | inl drop ↦ inr (new_drop p.0 p.2.0 y there.0 there.1 b drop)
          | inr kept ↦
              let here : y ≡ place_of (added picks n steps) p.0 = let e = p.2.1 in let l = kept.last in omega (arith, e, l) in
              elim (w.added p.0 p.1) [
                | inl (j, within, same) ↦ inl (j, within, ap (place_of (added picks n steps)) same ∙ sym here)
                | inr old ↦ inr (old_drop p.0 y here old)
              ]
        ];
  }

one_op : (op : OpDecl) (plain steps others : List Step) → IsWithDrops op plain steps → IsDropped op steps others → IsWithDrops op plain others
one_op op plain steps others w d =
    subst (λ (s : List Step). IsWithDrops op plain s) (sym d.is)
    (with_drops op plain steps d.picks (length (op.params ++ op.vars)) w (λ at local picked. (d.exact at local).0 picked))

pub dropped_is_code : DroppedIsCode
dropped_is_code source code made is dropped = record {
  same_source = dropped.same_source ∙ is.same_source;
  one_each = dropped.one_each ∙ is.one_each;
  ops = λ i op others is_op there.
      let within = slice_get_within made.ops i others there in
      let one = dropped.one_each in
      let steps = one_at code.ops i (omega (arith, within, one)) in
      one_op op (op_code op) steps.0 others (is.ops i op steps.0 is_op steps.1) (dropped.ops i op steps.0 others is_op steps.1 there);
}
