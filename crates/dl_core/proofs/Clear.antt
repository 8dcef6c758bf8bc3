-- What two callers may do at the same moment is at different objects, or only looks.
use Rattle.std.proofs.Common.{◌≡◌, ◌≢◌, ℕ, ◌<◌, ◌⊎◌, inl, inr, Option, Some, None, refl, sym, ap, ◌∙◌, subst, arith}
use Rattle.std.specs.FinMap as map
use Rattle.dl_ir.specs.declared.names.Name.{Name}
use Rattle.dl_ir.specs.Heap.{IsHidden}
use Rattle.dl_core.specs.declared.objects.Mark.{Mark}
use Rattle.dl_core.specs.declared.objects.Mark.TheVariants.{Free, Held, Sealed}
use Rattle.dl_core.specs.declared.objects.Object.{Object as Obj}
use Rattle.dl_core.specs.Heaps.{Heap, IsHeld}
use Rattle.dl_core.specs.Changes.{IsCounted, IsOwn, May, reads, sees, writes, takes, lets_go, seals, gives_up, makes, takes_root}
use Rattle.dl_core.specs.Reach.{Links}
use Rattle.dl_core.proofs.Names.{same_name, same_some}
use Rattle.dl_core.proofs.Apart.{held_one}
use Rattle.dl_core.proofs.Counts.{the_linker}

-- how the object stands before a change
pub data Stands (h : Heap) (tickets : ℕ → ℕ) (c : ℕ) (n : Name) (o o' : Option Obj) : Type 0 where
  mine : (b : Obj) → o ≡ Some b → b.mark ≡ Held c → Stands h tickets c n o o'
  shut : (b : Obj) (i : ℕ) → o ≡ Some b → b.mark ≡ Sealed i → o' ≡ o → Stands h tickets c n o o'
  unheld : (b : Obj) (q : Name) → o ≡ Some b → b.mark ≡ Free → IsHidden n → IsHeld h c q → Links h q n → Stands h tickets c n o o'
  exposed : (b : Obj) → o ≡ Some b → b.mark ≡ Free → n.ticket ≡ 0 → tickets c ≡ 0 → Stands h tickets c n o o'
  absent : o ≡ None → n.ticket ≡ tickets c → Stands h tickets c n o o'

module _ (h : Heap) (tickets : ℕ → ℕ) where
  pub stands : (c : ℕ) (n : Name) (o o' : Option Obj) → May h tickets c n o o' → Stands h tickets c n o o'
  stands c n o o' (reads {object = b} m) = mine b refl m
  stands c n o o' (sees {object = b} i source m no_root holder link) = shut b i refl m refl
  stands c n o o' (writes {object = b} place v m lose may) = mine b refl m
  stands c n o o' (takes {object = b} q m hid hq l) = unheld b q refl m hid hq l
  stands c n o o' (takes_root {object = b} m root waiting) = exposed b refl m root waiting
  stands c n o o' (lets_go {object = b} m one) = mine b refl m
  stands c n o o' (seals {object = b} m hid several) = mine b refl m
  stands c n o o' (gives_up {object = b} m hid z none) = mine b refl m
  stands c n o o' (makes own hid z m none) = absent refl own

module _ (h : Heap) (tickets : ℕ → ℕ) (own : IsOwn tickets) (counted : IsCounted h) where
  both_marks : {o : Option Obj} {a b : Obj} → o ≡ Some a → o ≡ Some b → a.mark ≡ b.mark
  both_marks p q = ap (λ (w : Obj). w.mark) (same_some (sym p ∙ q))

  marks_apart : (i j k : ℕ) (m : Mark) → m ≡ Held i → m ≡ Sealed k → ⊥
  marks_apart i j k m p q = cc

  open_mine : (i : ℕ) (m : Mark) → m ≡ Held i → m ≡ Free → ⊥
  open_mine i m p q = cc

  open_shut : (i : ℕ) (m : Mark) → m ≡ Sealed i → m ≡ Free → ⊥
  open_shut i m p q = cc

  some_none : {o : Option Obj} {a : Obj} → o ≡ Some a → o ≡ None → ⊥
  some_none p q = cc

  -- at one and the same object two callers can only look
  only_look : (i j : ℕ) → i ≢ j → 0 < tickets j → (x : Name) (o oi oj : Option Obj) → map.get h x ≡ o → Stands h tickets i x o oi → Stands h tickets j x o oj → (oi ≡ o) × (oj ≡ o)
  only_look i j n run x o oi oj e (mine a p m) (mine b q k) = absurd (n (held_one (sym k ∙ sym (both_marks p q) ∙ m)))
  only_look i j n run x o oi oj e (mine a p m) (shut b k q s z) = absurd (marks_apart i j k b.mark (sym (both_marks p q) ∙ m) s)
  only_look i j n run x o oi oj e (mine a p m) (unheld b r q f hid hq l) = absurd (open_mine i b.mark (sym (both_marks p q) ∙ m) f)
  only_look i j n run x o oi oj e (mine a p m) (absent z t) = absurd (some_none p z)
  only_look i j n run x o oi oj e (shut a k p s z) (mine b q m) = absurd (marks_apart j i k b.mark m (sym (both_marks p q) ∙ s))
  only_look i j n run x o oi oj e (shut a k p s z) (shut b k' q s' z') = (z, z')
  only_look i j n run x o oi oj e (shut a k p s z) (unheld b r q f hid hq l) = absurd (open_shut k b.mark (sym (both_marks p q) ∙ s) f)
  only_look i j n run x o oi oj e (shut a k p s z) (absent z' t) = absurd (some_none p z')
  only_look i j n run x o oi oj e (unheld a r p f hid hq l) (mine b q m) = absurd (open_mine j b.mark m (sym (both_marks p q) ∙ f))
  only_look i j n run x o oi oj e (unheld a r p f hid hq l) (shut b k q s z) = absurd (open_shut k b.mark s (sym (both_marks p q) ∙ f))
  only_look i j n run x o oi oj e (unheld a r p f hid hq l) (unheld b r' q f' hid' hq' l') =
      let same : r ≡ r' = the_linker h r r' x l l' (counted.one x a (e ∙ p) f hid) in
      absurd (n (held_one (sym hq'.held ∙ ap (λ (w : Obj). w.mark) (same_some (sym hq'.there ∙ ap (map.get h) (sym same) ∙ hq.there)) ∙ hq.held)))
  only_look i j n run x o oi oj e (unheld a r p f hid hq l) (absent z t) = absurd (some_none p z)
  only_look i j n run x o oi oj e (exposed a p f z w) (mine b q m) = absurd (open_mine j b.mark m (sym (both_marks p q) ∙ f))
  only_look i j n run x o oi oj e (exposed a p f z w) (shut b k q s z') = absurd (open_shut k b.mark s (sym (both_marks p q) ∙ f))
  only_look i j n run x o oi oj e (exposed a p f z w) (unheld b r q f' hid hq l) = absurd (omega (arith, hid, z))
  only_look i j n run x o oi oj e (exposed a p f z w) (absent z' t) = absurd (some_none p z')
  only_look i j n run x o oi oj e s (exposed b q f z w) = absurd (omega (arith, run, w))
  only_look i j n run x o oi oj e (absent z t) (mine b q m) = absurd (some_none q z)
  only_look i j n run x o oi oj e (absent z t) (shut b k q s z') = absurd (some_none q z)
  only_look i j n run x o oi oj e (absent z t) (unheld b r q f hid hq l) = absurd (some_none q z)
  only_look i j n run x o oi oj e (absent z t) (absent z' t') = absurd (n (own i j run (sym t ∙ t')))

  pub apart_or_look : (i j : ℕ) → i ≢ j → 0 < tickets j → (x y : Name) (oi oi' oj oj' : Option Obj) → map.get h x ≡ oi → map.get h y ≡ oj → May h tickets i x oi oi' → May h tickets j y oj oj'
      → (x ≢ y) ⊎ ((oi' ≡ map.get h x) × (oj' ≡ map.get h y))
  apart_or_look i j n run x y oi oi' oj oj' e k mi mj =
      elim (same_name x y) [
        | inr other ↦ inl other
        | inl same ↦
            let oj_is : oj ≡ oi = sym k ∙ ap (map.get h) (sym same) ∙ e in
            let sj : Stands h tickets j x oi oj' = subst (λ o. Stands h tickets j x o oj') oj_is (subst (λ z. Stands h tickets j z oj oj') (sym same) (stands h tickets j y oj oj' mj)) in
            let both = only_look i j n run x oi oi' oj' e (stands h tickets i x oi oi' mi) sj in
            inr (both.0 ∙ sym e, both.1 ∙ sym oj_is ∙ sym k)
      ]
