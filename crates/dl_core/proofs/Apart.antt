-- Nothing that a younger operation holds or sealed can be come to from an older one: each change keeps it.
use Rattle.std.proofs.Common.{◌≡◌, ◌≢◌, ℕ, ◌+◌, ◌<◌, ◌⊎◌, inl, inr, true, false, cond, List, [], ◌∷◌, Option, Some, None, refl, sym, ap, ◌∙◌, subst, arith, set, zero, suc}
use Rattle.std.specs.FinMap as map
use Rattle.std.specs.List.{count_by}
use Rattle.std.proofs.lemmas.List.Sums.{sum_by-cons}
use Rattle.std.proofs.lemmas.Bool.{cases_lt}
use Rattle.dl_ir.specs.declared.names.Name.{Name}
use Rattle.dl_core.specs.declared.objects.Mark.{Mark}
use Rattle.dl_core.specs.declared.objects.Mark.TheVariants.{Free, Held, Sealed}
use Rattle.dl_core.specs.declared.objects.Object.{Object as Obj}
use Rattle.dl_ir.specs.declared.names.Value.{Value as Val}
use Rattle.dl_ir.specs.declared.names.Value.TheVariants.{Int, Ref}
use Rattle.dl_ir.specs.References.{refers_to}
use Rattle.dl_core.specs.Heaps.{Heap, refs_in, refs, put_at, IsHeld}
use Rattle.dl_core.proofs.Maps.{weight}
use Rattle.dl_core.specs.Changes.{IsApart, IsCounted, MayWrite, IsOwn, May, reads, sees, writes, takes, lets_go, seals, gives_up, makes, takes_root}
use Rattle.dl_core.specs.Reach.{RefersTo, Links, Reaches, holds, along, IsAbove}
use Rattle.dl_shape.proofs.Names.{names}
use Rattle.dl_core.proofs.Maps.{get_here, get_there, total-put_at, two_of_total}
use Rattle.dl_lemmas.proofs.Tests.{not_both}
use Rattle.dl_core.proofs.Names.{same_name, same_named, same_some, no_some}
use Rattle.dl_core.proofs.Counts.{free_held}

-- what refers to a name after a write of a field did so before, or the new value does
pub set_refers : (u : Name) (vs : List Val) (place : ℕ) (v : Val) → 0 < count_by (refers_to u) (set vs place v) → (0 < count_by (refers_to u) vs) ⊎ (refers_to u v ≡ true)
set_refers u [] place v h = inl h
set_refers u (w ∷ vs) zero v h =
    elim (refers_to u v) as (λ b. 0 < cond b 1 0 + count_by (refers_to u) vs → (0 < count_by (refers_to u) (w ∷ vs)) ⊎ (b ≡ true)) [
      | true ↦ λ _. inr refl
      | false ↦ λ h. inl (omega (arith, sum_by-cons (λ x. cond (refers_to u x) 1 0) w vs))
    ] (rw (sum_by-cons (λ x. cond (refers_to u x) 1 0) v vs) at h)
set_refers u (w ∷ vs) (suc place) v h =
    rw (sum_by-cons (λ x. cond (refers_to u x) 1 0) w vs) (elim (refers_to u w) as (λ b. 0 < cond b 1 0 + count_by (refers_to u) (set vs place v) → (0 < cond b 1 0 + count_by (refers_to u) vs) ⊎ (refers_to u v ≡ true)) [
      | true ↦ λ _. inl (omega arith)
      | false ↦ λ h. elim (set_refers u vs place v (omega arith)) [ inl r ↦ inl (omega arith) | inr t ↦ inr t ]
    ] (rw (sum_by-cons (λ x. cond (refers_to u x) 1 0) w (set vs place v)) at h))

-- what one object can be seen to refer to after a change by c, and who holds it
data Linked (h : Heap) (c : ℕ) (x : Name) (o : Option Obj) (n : Name) : Type 0 where
  old : Links h x n → Linked h c x o n
  new : {ob : Obj} → o ≡ Some ob → ob.mark ≡ Held c → IsHeld h c n → Linked h c x o n

pub data Kept (h : Heap) (tickets : ℕ → ℕ) (c : ℕ) (x : Name) (o : Option Obj) (d : ℕ) : Type 0 where
  held : IsHeld h d x → Kept h tickets c x o d
  taken : d ≡ c → Reaches h c x → Kept h tickets c x o d
  made : d ≡ c → o ≡ None → Kept h tickets c x o d
  rooted : d ≡ c → tickets c ≡ 0 → Kept h tickets c x o d

pub held_one : {c d : ℕ} → Held c ≡ Held d → d ≡ c
held_one e = cc

pub sealed_held : {i d : ℕ} → Sealed i ≡ Held d → ⊥
sealed_held e = cc

module _ (h : Heap) (tickets : ℕ → ℕ) (c : ℕ) (x : Name) where
  -- the object after the change has the fields of the one before
  same_fields : (b ob : Obj) → map.get h x ≡ Some b → b.fields ≡ ob.fields → (n : Name) → RefersTo ob n → Linked h c x (Some b) n
  same_fields b ob e f n r = old (record { object = b; there = e; refers = subst (λ vs. 0 < count_by (refers_to n) vs) (sym f) r })

  new_value : (b : Obj) (v : Val) → b.mark ≡ Held c → MayWrite h c v → (n : Name) → refers_to n v ≡ true → Linked h c x (Some b) n
  new_value b (Int k) m may n t = absurd (not_both t refl)
  new_value b (Ref None) m may n t = absurd (not_both t refl)
  new_value b (Ref (Some k)) m may n t = new refl m (subst (IsHeld h c) (sym (same_named n k t)) may.0)

  link_after : (o o' : Option Obj) → May h tickets c x o o' → map.get h x ≡ o → (ob : Obj) → o' ≡ Some ob → (n : Name) → RefersTo ob n → Linked h c x o n
  link_after o o' (reads m) e ob is n r = old (record { object = ob; there = e ∙ is; refers = r })
  link_after o o' (sees i source m no_root holder link) e ob is n r = old (record { object = ob; there = e ∙ is; refers = r })
  link_after o o' (writes {object = b} place v m lose may) e ob is n r =
      elim (set_refers n b.fields place v (subst (λ vs. 0 < count_by (refers_to n) vs) (sym (ap (λ (w : Obj). w.fields) (same_some is))) r)) [
        | inl was ↦ old (record { object = b; there = e; refers = was })
        | inr t ↦ new_value b v m may n t
      ]
  link_after o o' (takes {object = b} q m hid hq l) e ob is n r = same_fields b ob e (ap (λ (w : Obj). w.fields) (same_some is)) n r
  link_after o o' (takes_root {object = b} m root waiting) e ob is n r = same_fields b ob e (ap (λ (w : Obj). w.fields) (same_some is)) n r
  link_after o o' (lets_go {object = b} m one) e ob is n r = same_fields b ob e (ap (λ (w : Obj). w.fields) (same_some is)) n r
  link_after o o' (seals {object = b} m hid several) e ob is n r = same_fields b ob e (ap (λ (w : Obj). w.fields) (same_some is)) n r
  link_after o o' (gives_up m hid z none) e ob is n r = absurd (no_some is)
  link_after o o' (makes {object = b} own' hid z m none) e ob is n r = absurd (omega (arith, none n, ap (refs_in n) (same_some is)))

  pub held_after : (o o' : Option Obj) → May h tickets c x o o' → map.get h x ≡ o → (ob : Obj) → o' ≡ Some ob → (d : ℕ) → ob.mark ≡ Held d → Kept h tickets c x o d
  held_after o o' (reads m') e ob is d m = held (record { object = ob; there = e ∙ is; held = m })
  held_after o o' (sees i source m' no_root holder link) e ob is d m = held (record { object = ob; there = e ∙ is; held = m })
  held_after o o' (writes {object = b} place v m' lose may) e ob is d m = held (record { object = b; there = e; held = ap (λ (w : Obj). w.mark) (same_some is) ∙ m })
  held_after o o' (takes {object = b} q free hid hq l) e ob is d m = taken (held_one (ap (λ (w : Obj). w.mark) (same_some is) ∙ m)) (along (holds hq) l)
  held_after o o' (takes_root {object = b} free root waiting) e ob is d m = rooted (held_one (ap (λ (w : Obj). w.mark) (same_some is) ∙ m)) waiting
  held_after o o' (lets_go {object = b} m' one) e ob is d m = absurd (free_held (ap (λ (w : Obj). w.mark) (same_some is) ∙ m))
  held_after o o' (seals {object = b} m' hid several) e ob is d m = absurd (sealed_held (ap (λ (w : Obj). w.mark) (same_some is) ∙ m))
  held_after o o' (gives_up m' hid z none) e ob is d m = absurd (no_some is)
  held_after o o' (makes {object = b} own' hid z m' none) e ob is d m = made (held_one (sym m' ∙ ap (λ (w : Obj). w.mark) (same_some is) ∙ m)) refl

data Grows (h : Heap) (tickets : ℕ → ℕ) (c : ℕ) (x : Name) (o : Option Obj) (d : ℕ) (n : Name) : Type 0 where
  was : Reaches h d n → Grows h tickets c x o d n
  through : tickets c < tickets d → Reaches h c n → Grows h tickets c x o d n
  fresh : n ≡ x → o ≡ None → d ≡ c → Grows h tickets c x o d n

module _ (h : Heap) (tickets : ℕ → ℕ) (own : IsOwn tickets) (a : IsApart h tickets) (counted : IsCounted h) (c : ℕ) (running : 0 < tickets c) (x : Name) (o o' : Option Obj) (m : May h tickets c x o o') (e : map.get h x ≡ o) where
  grows_held : (d : ℕ) (n : Name) → IsHeld (put_at h x o') d n → Grows h tickets c x o d n
  grows_held d n r =
      elim (same_name n x) [
        | inr apart ↦ was (holds (record { object = r.object; there = sym (get_there names h x o' n apart) ∙ r.there; held = r.held }))
        | inl same ↦ by (held_after h tickets c x o o' m e r.object (sym (get_here names h x o') ∙ ap (map.get (put_at h x o')) (sym same) ∙ r.there) d r.held) same
      ]
    where
      by : Kept h tickets c x o d → n ≡ x → Grows h tickets c x o d n
      by (held k) s = was (subst (Reaches h d) (sym s) (holds k))
      by (taken t k) s = was (subst (Reaches h d) (sym s) (subst (λ c. Reaches h c x) (sym t) k))
      by (made t z) s = fresh s z t
      by (rooted t waiting) s = absurd (omega (arith, running, waiting))

  -- a link from the object that c changed
  grows_here : (d : ℕ) → 0 < tickets d → Grows h tickets c x o d x → (n : Name) → Linked h c x o n → Grows h tickets c x o d n
  grows_here d run (was r) n (old l) = was (along r l)
  grows_here d run (through t r) n (old l) = through t (along r l)
  grows_here d run (fresh s z t) n (old l) = absurd (no_some (sym z ∙ sym e ∙ l.there))
  grows_here d run (was r) n (new {ob = b} is m k) =
      elim (cases_lt (tickets c) (tickets d)) [
        | inl lt ↦ through lt (holds k)
        | inr le ↦ elim (cases_lt (tickets d) (tickets c)) [
          | inl gt ↦ absurd (a.apart d x b run r (e ∙ is) (subst (IsAbove tickets (tickets d)) (sym m) gt))
          | inr ge ↦ was (holds (subst (λ c. IsHeld h c n) (own c d run (omega arith)) k))
        ]
      ]
  grows_here d run (through t r) n (new is m k) = through t (holds k)
  grows_here d run (fresh s z t) n (new is m k) = absurd (no_some (sym z ∙ is))

  -- what a caller that runs can come to after the change
  grows : (d : ℕ) → 0 < tickets d → (n : Name) → Reaches (put_at h x o') d n → Grows h tickets c x o d n
  grows d run n (holds r) = grows_held d n r
  grows d run n (along {from = q} r l) = step (grows d run q r) (same_name q x)
    where
      step : Grows h tickets c x o d q → (q ≡ x) ⊎ (q ≢ x) → Grows h tickets c x o d n
      step g (inl same) = grows_here d run (subst (Grows h tickets c x o d) same g) n (link_after h tickets c x o o' m e l.object (sym (get_here names h x o') ∙ ap (map.get (put_at h x o')) (sym same) ∙ l.there) n l.refers)
      step (was g) (inr apart) = was (along g (record { object = l.object; there = sym (get_there names h x o' q apart) ∙ l.there; refers = l.refers }))
      step (through t g) (inr apart) = through t (along g (record { object = l.object; there = sym (get_there names h x o' q apart) ∙ l.there; refers = l.refers }))
      step (fresh s z t) (inr apart) = absurd (apart s)

  -- an object with one referring field is referred to by one object
  pub one_linker : (q r n : Name) → Links h q n → Links h r n → refs h n ≡ 1 → q ≡ r
  one_linker q r n l k u =
      elim (same_name q r) [
        | inl same ↦ same
        | inr two ↦ absurd (omega (arith, l.refers, k.refers, two_of_total names (refs_in n) h q r l.object k.object l.there k.there two))
      ]

  same_object : {b1 b2 : Obj} → map.get h x ≡ Some b1 → map.get h x ≡ Some b2 → b1 ≡ b2
  same_object p q = same_some (sym p ∙ q)

  -- what c takes, an older caller cannot come to
  untaken : (d : ℕ) → 0 < tickets d → tickets d < tickets c → (b : Obj) → map.get h x ≡ Some b → b.mark ≡ Free → (q : Name) → IsHeld h c q → Links h q x → refs h x ≡ 1 → Reaches h d x → ⊥
  untaken d run lt b is free q hq l one (holds k) = free_held (sym free ∙ ap (λ (w : Obj). w.mark) (same_object is k.there) ∙ k.held)
  untaken d run lt b is free q hq l one (along {from = r} before k) =
      let r_is_q : r ≡ q = one_linker r q x k l one in
      a.apart d q hq.object run (subst (Reaches h d) r_is_q before) hq.there (subst (IsAbove tickets (tickets d)) (sym hq.held) lt)

  pub link_counts : (q n : Name) → Links h q n → 0 < refs h n
  link_counts q n l = omega (arith, l.refers, ap (weight (refs_in n)) l.there, total-put_at names (refs_in n) h q None)

  -- what c makes, nobody could come to
  unmade : (d : ℕ) → map.get h x ≡ None → refs h x ≡ 0 → Reaches h d x → ⊥
  unmade d is z (holds k) = no_some (sym is ∙ k.there)
  unmade d is z (along {from = r} before k) = omega (arith, link_counts r x k, z)

  lower : (i j : ℕ) (m : Mark) → i < j → IsAbove tickets j m → IsAbove tickets i m
  lower i j Free lt h = h
  lower i j (Held k) lt h = omega arith
  lower i j (Sealed k) lt h = omega arith

  -- of an object with an old mark
  old_mark : (d : ℕ) → 0 < tickets d → (n : Name) → Grows h tickets c x o d n → (b : Obj) → map.get h n ≡ Some b → IsAbove tickets (tickets d) b.mark → ⊥
  old_mark d run n (was r) b is up = a.apart d n b run r is up
  old_mark d run n (through t r) b is up = a.apart c n b running r is (lower (tickets c) (tickets d) b.mark t up)
  old_mark d run n (fresh s z t) b is up = no_some (sym z ∙ sym e ∙ ap (map.get h) (sym s) ∙ is)

  above_held : (d : ℕ) (m : Mark) → m ≡ Held c → IsAbove tickets (tickets d) m → tickets d < tickets c
  above_held d m is up = subst (IsAbove tickets (tickets d)) is up

  -- of the object that c changed
  new_mark : (d : ℕ) → 0 < tickets d → Grows h tickets c x o d x → (p p' : Option Obj) → May h tickets c x p p' → o ≡ p → o' ≡ p' → (ob : Obj) → p' ≡ Some ob → IsAbove tickets (tickets d) ob.mark → ⊥
  new_mark d run g p p' (reads m') is is' ob some up = old_mark d run x g ob (e ∙ is ∙ some) up
  new_mark d run g p p' (sees i source m' no_root holder link) is is' ob some up = old_mark d run x g ob (e ∙ is ∙ some) up
  new_mark d run g p p' (writes {object = b} place v mine lose may) is is' ob some up = old_mark d run x g b (e ∙ is) (subst (IsAbove tickets (tickets d)) (sym (ap (λ (w : Obj). w.mark) (same_some some))) up)
  new_mark d run (was r) p p' (takes {object = b} q free hid hq l) is is' ob some up = untaken d run (above_held d ob.mark (sym (ap (λ (w : Obj). w.mark) (same_some some))) up) b (e ∙ is) free q hq l (counted.one x b (e ∙ is) free hid) r
  new_mark d run (through t r) p p' (takes {object = b} q free hid hq l) is is' ob some up = let lt = above_held d ob.mark (sym (ap (λ (w : Obj). w.mark) (same_some some))) up in omega arith
  new_mark d run (fresh s z t) p p' (takes {object = b} q free hid hq l) is is' ob some up = no_some (sym z ∙ is)
  new_mark d run g p p' (takes_root free root waiting) is is' ob some up = omega (arith, running, waiting)
  new_mark d run g p p' (lets_go m' one) is is' ob some up = subst (IsAbove tickets (tickets d)) (sym (ap (λ (w : Obj). w.mark) (same_some some))) up
  new_mark d run g p p' (seals {object = b} mine hid several) is is' ob some up =
      let lt : tickets d < tickets c = subst (IsAbove tickets (tickets d)) (sym (ap (λ (w : Obj). w.mark) (same_some some))) up in
      old_mark d run x g b (e ∙ is) (subst (IsAbove tickets (tickets d)) (sym mine) lt)
  new_mark d run g p p' (gives_up m' hid z none) is is' ob some up = no_some some
  new_mark d run (was r) p p' (makes own' hid z mine none) is is' ob some up = unmade d (e ∙ is) z r
  new_mark d run (through t r) p p' (makes own' hid z mine none) is is' ob some up = let lt = above_held d ob.mark (sym (ap (λ (w : Obj). w.mark) (same_some some)) ∙ mine) up in omega arith
  new_mark d run (fresh s n t) p p' (makes own' hid z mine none) is is' ob some up = let lt = above_held d ob.mark (sym (ap (λ (w : Obj). w.mark) (same_some some)) ∙ mine) up in omega (arith, ap tickets t)

  -- every change keeps that nothing of a younger operation can be come to from an older one
  pub IsApart-kept : IsApart (put_at h x o') tickets
  IsApart-kept = record {
    apart = λ d n ob run r is up.
        elim (same_name n x) [
          | inl same ↦ new_mark d run (subst (Grows h tickets c x o d) same (grows d run n r)) o o' m refl refl ob (sym (get_here names h x o') ∙ ap (map.get (put_at h x o')) (sym same) ∙ is) up
          | inr other ↦ old_mark d run n (grows d run n r) ob (sym (get_there names h x o' n other) ∙ is) up
        ];
  }
