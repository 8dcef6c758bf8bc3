-- A take of a root, and an entry, keep that nothing of a younger operation can be come to from an older one.
use Rattle.std.proofs.Common.{◌≡◌, ◌≢◌, ℕ, ◌≤◌, ◌<◌, inl, inr, Some, None, refl, sym, ap, ◌∙◌, subst, arith}
use Rattle.std.specs.FinMap as map
use Rattle.dl_ir.specs.declared.names.Name.{Name}
use Rattle.dl_core.specs.declared.objects.Mark.{Mark}
use Rattle.dl_core.specs.declared.objects.Mark.TheVariants.{Free, Held, Sealed}
use Rattle.dl_core.specs.declared.objects.Object.{Object as Obj}
use Rattle.dl_core.specs.Heaps.{Heap, refs_in, refs, put_at, IsHeld}
use Rattle.dl_core.proofs.Maps.{weight}
use Rattle.dl_core.specs.Changes.{IsApart}
use Rattle.dl_core.specs.Reach.{Links, Reaches, holds, along, IsAbove}
use Rattle.dl_shape.proofs.Names.{names}
use Rattle.dl_core.proofs.Maps.{get_here, get_there, total-put_at}
use Rattle.dl_core.proofs.Names.{same_name, same_number, same_some}
use Rattle.dl_core.proofs.Apart.{held_one}

link_refs : (h : Heap) (q n : Name) → Links h q n → 0 < refs h n
link_refs h q n l = omega (arith, l.refers, ap (weight (refs_in n)) l.there, total-put_at names (refs_in n) h q None)

-- what nothing refers to is come to only by its holder
holder_only : (h : Heap) (d : ℕ) (n : Name) → refs h n ≡ 0 → Reaches h d n → IsHeld h d n
holder_only h d n z (holds k) = k
holder_only h d n z (along {from = q} r l) = absurd (omega (arith, link_refs h q n l, z))

module _ (h : Heap) (tickets tickets' : ℕ → ℕ) (c t : ℕ) (new : tickets' c ≡ t) (old : (d : ℕ) → d ≢ c → tickets' d ≡ tickets d) where
  -- the caller enters with a ticket above all, and holds only what nothing refers to
  pub entered-IsApart : IsApart h tickets → ((d : ℕ) → tickets d < t) → ((n : Name) (o : Obj) (i : ℕ) → map.get h n ≡ Some o → o.mark ≡ Sealed i → i < t) → ((n : Name) → IsHeld h c n → refs h n ≡ 0) → IsApart h tickets'
  entered-IsApart a top sealed roots = record {
    apart = λ d n o run r is up.
        elim (same_number d c) [
          | inl same ↦ not_above n o is o.mark refl (subst (λ k. IsAbove tickets' k o.mark) (ap tickets' same ∙ new) up)
          | inr other ↦ by d n o (subst (λ k. 0 < k) (old d other) run) r is o.mark refl (subst (λ k. IsAbove tickets' k o.mark) (old d other) up) other
        ];
  }
    where
      top' : (d : ℕ) → tickets' d ≤ t
      top' d = elim (same_number d c) [ inl same ↦ le_of (ap tickets' same ∙ new) | inr other ↦ lt_of (old d other) (top d) ]
        where
          le_of : {a b : ℕ} → a ≡ b → a ≤ b
          le_of e = omega arith

          lt_of : {a b k : ℕ} → a ≡ b → b < k → a ≤ k
          lt_of e l = omega arith

      not_above : (n : Name) (o : Obj) → map.get h n ≡ Some o → (m : Mark) → o.mark ≡ m → IsAbove tickets' t m → ⊥
      not_above n o is Free e up = up
      not_above n o is (Held k) e up = omega (arith, top' k)
      not_above n o is (Sealed i) e up = omega (arith, sealed n o i is e)

      by : (d : ℕ) (n : Name) (o : Obj) → 0 < tickets d → Reaches h d n → map.get h n ≡ Some o → (m : Mark) → o.mark ≡ m → IsAbove tickets' (tickets d) m → d ≢ c → ⊥
      by d n o run r is Free e up other = up
      by d n o run r is (Sealed i) e up other = a.apart d n o run r is (subst (IsAbove tickets (tickets d)) (sym e) up)
      by d n o run r is (Held k) e up other =
          elim (same_number k c) [
            | inl same ↦
                let mine : IsHeld h c n = record { object = o; there = is; held = e ∙ ap Held same } in
                let his = holder_only h d n (roots n mine) r in
                other (held_one (sym (e ∙ ap Held same) ∙ ap (λ (w : Obj). w.mark) (same_some (sym is ∙ his.there)) ∙ his.held))
            | inr apart ↦ a.apart d n o run r is (subst (IsAbove tickets (tickets d)) (sym e) (subst (λ x. tickets d < x) (old k apart) up))
          ]

-- a caller that does not run takes a root
module _ (h : Heap) (tickets : ℕ → ℕ) (c : ℕ) (x : Name) (o : Obj) (e : map.get h x ≡ Some o) (waiting : tickets c ≡ 0) where
  root_links : (q n : Name) → Links (put_at h x (Some (record o { mark = Held c }))) q n → Links h q n
  root_links q n l = elim (same_name q x) [
    | inr other ↦ record { object = l.object; there = sym (get_there names h x (Some (record o { mark = Held c })) q other) ∙ l.there; refers = l.refers }
    | inl same ↦
        let at_x : record o { mark = Held c } ≡ l.object = same_some (sym (get_here names h x (Some (record o { mark = Held c }))) ∙ ap (map.get (put_at h x (Some (record o { mark = Held c })))) (sym same) ∙ l.there) in
        record { object = o; there = ap (map.get h) same ∙ e; refers = subst (λ (w : Obj). 0 < refs_in n w) (sym at_x) l.refers }
  ]

  root_reach : (d : ℕ) → 0 < tickets d → (n : Name) → Reaches (put_at h x (Some (record o { mark = Held c }))) d n → Reaches h d n
  root_reach d run n (along {from = q} r l) = along (root_reach d run q r) (root_links q n l)
  root_reach d run n (holds k) = elim (same_name n x) [
    | inr other ↦ holds (record { object = k.object; there = sym (get_there names h x (Some (record o { mark = Held c })) n other) ∙ k.there; held = k.held })
    | inl same ↦
        let one : d ≡ c = held_one (ap (λ (w : Obj). w.mark) (same_some (sym (get_here names h x (Some (record o { mark = Held c }))) ∙ ap (map.get (put_at h x (Some (record o { mark = Held c })))) (sym same) ∙ k.there)) ∙ k.held) in
        absurd (omega (arith, ap tickets one))
  ]

  pub root-IsApart : IsApart h tickets → IsApart (put_at h x (Some (record o { mark = Held c }))) tickets
  root-IsApart a = record {
    apart = λ d n b run r is up.
        elim (same_name n x) [
          | inr other ↦ a.apart d n b run (root_reach d run n r) (sym (get_there names h x (Some (record o { mark = Held c })) n other) ∙ is) up
          | inl same ↦
              let mark : Held c ≡ b.mark = ap (λ (w : Obj). w.mark) (same_some (sym (get_here names h x (Some (record o { mark = Held c }))) ∙ ap (map.get (put_at h x (Some (record o { mark = Held c })))) (sym same) ∙ is)) in
              let lt : tickets d < tickets c = subst (IsAbove tickets (tickets d)) (sym mark) up in
              omega arith
        ];
  }
