-- How many fields refer to an object, through each change.
use Rattle.std.proofs.Common.{◌<◌, length, ◌≡◌, ◌≢◌, ℕ, ◌+◌, ◌≤◌, inl, inr, false, cond, List, [], ◌∷◌, Option, Some, None, refl, sym, ap, ◌∙◌, subst, arith, set, get_or, zero, suc}
use Rattle.std.specs.FinMap as map
use Rattle.std.specs.List.{count_by}
use Rattle.std.proofs.lemmas.List.Sums.{sum_by-cons, sum_by-set}
use Rattle.dl_ir.specs.declared.names.Name.{Name}
use Rattle.dl_ir.specs.Heap.{IsHidden}
use Rattle.dl_core.specs.declared.objects.Mark.TheVariants.{Free, Held, Sealed}
use Rattle.dl_core.specs.declared.objects.Object.{Object as Obj}
use Rattle.dl_ir.specs.declared.names.Value.{Value as Val}
use Rattle.dl_ir.specs.declared.names.Value.TheVariants.{Int, Ref}
use Rattle.dl_ir.specs.References.{refers_to}
use Rattle.dl_core.specs.Heaps.{Heap, refs_in, refs, put_at, field_of}
use Rattle.dl_core.proofs.Maps.{weight}
use Rattle.dl_core.specs.Changes.{MayLose, IsCounted, MayWrite, May, reads, sees, writes, takes, lets_go, seals, gives_up, makes, takes_root}
use Rattle.dl_core.specs.Reach.{Links}
use Rattle.dl_shape.proofs.Names.{names}
use Rattle.dl_core.proofs.Maps.{get_here, get_there, total-put_at, two_of_total}
use Rattle.std.proofs.lemmas.Bool.{cases_Bool}
use Rattle.dl_core.proofs.Names.{same_name, same_named, same_some, no_some}

pub free_held : {d : ℕ} → Free ≡ Held d → ⊥
free_held e = cc

-- a write of a field that neither referred to the name nor does now
refs_in_set : (u : Name) (vs : List Val) (place : ℕ) (v : Val) → refers_to u v ≡ false → refers_to u (get_or vs place (Ref None)) ≡ false → count_by (refers_to u) (set vs place v) ≡ count_by (refers_to u) vs
refs_in_set u [] place v n l = refl
refs_in_set u (w ∷ vs) zero v n l = sum_by-cons (λ x. cond (refers_to u x) 1 0) v vs ∙ ap (λ b. cond b 1 0 + count_by (refers_to u) vs) (n ∙ sym l) ∙ sym (sum_by-cons (λ x. cond (refers_to u x) 1 0) w vs)
refs_in_set u (w ∷ vs) (suc place) v n l =
    sum_by-cons (λ x. cond (refers_to u x) 1 0) w (set vs place v) ∙ ap (λ k. cond (refers_to u w) 1 0 + k) (refs_in_set u vs place v n l) ∙ sym (sum_by-cons (λ x. cond (refers_to u x) 1 0) w vs)

-- a write of a value that does not refer to the name adds no reference to it
pub set_less : (u : Name) (vs : List Val) (place : ℕ) (v : Val) → refers_to u v ≡ false → count_by (refers_to u) (set vs place v) ≤ count_by (refers_to u) vs
set_less u [] place v n = omega arith
set_less u (w ∷ vs) zero v n = omega (arith, sum_by-cons (λ x. cond (refers_to u x) 1 0) v vs, sum_by-cons (λ x. cond (refers_to u x) 1 0) w vs, ap {B = ℕ} (λ b. cond b 1 0) n)
set_less u (w ∷ vs) (suc place) v n = omega (arith, sum_by-cons (λ x. cond (refers_to u x) 1 0) w (set vs place v), sum_by-cons (λ x. cond (refers_to u x) 1 0) w vs, set_less u vs place v n)

-- an object with one referring field is referred to by one object
pub the_linker : (h : Heap) (q r n : Name) → Links h q n → Links h r n → refs h n ≡ 1 → q ≡ r
the_linker h q r n l k u =
    elim (same_name q r) [
      | inl same ↦ same
      | inr two ↦ absurd (omega (arith, l.refers, k.refers, two_of_total names (refs_in n) h q r l.object k.object l.there k.there two))
    ]

module _ (h : Heap) (tickets : ℕ → ℕ) (c : ℕ) (x : Name) where
  pub same_refs : (n : Name) (o o' : Option Obj) → map.get h x ≡ o → weight (refs_in n) o ≡ weight (refs_in n) o' → refs (put_at h x o') n ≡ refs h n
  same_refs n o o' e w = omega (arith, total-put_at names (refs_in n) h x o', ap (weight (refs_in n)) e)

  -- an object that c does not hold, and that is not sealed, is no target of what c may write or overwrite
  not_written : (n : Name) (b : Obj) → map.get h n ≡ Some b → b.mark ≢ Held c → (v : Val) → MayWrite h c v → refers_to n v ≡ false
  not_written n b is m (Int k) may = refl
  not_written n b is m (Ref None) may = refl
  not_written n b is m (Ref (Some k)) may =
      elim (cases_Bool (refers_to n (Ref (Some k)))) [
        | inl t ↦ absurd (m (ap (λ (w : Obj). w.mark) (same_some (sym is ∙ ap (map.get h) (same_named n k t) ∙ may.0.there)) ∙ may.0.held))
        | inr f ↦ f
      ]

  not_lost : (n : Name) (b : Obj) → map.get h n ≡ Some b → b.mark ≢ Held c → ((i : ℕ) → b.mark ≢ Sealed i) → (v : Val) → MayLose h c v → refers_to n v ≡ false
  not_lost n b is m s (Int k) may = refl
  not_lost n b is m s (Ref None) may = refl
  not_lost n b is m s (Ref (Some k)) may =
      elim (cases_Bool (refers_to n (Ref (Some k)))) [
        | inr f ↦ f
        | inl t ↦ elim may [
          | inl y ↦ absurd (m (ap (λ (w : Obj). w.mark) (same_some (sym is ∙ ap (map.get h) (same_named n k t) ∙ y.there)) ∙ y.held))
          | inr y ↦ absurd (s y.ticket (ap (λ (w : Obj). w.mark) (same_some (sym is ∙ ap (map.get h) (same_named n k t) ∙ y.there)) ∙ y.sealed))
        ]
      ]

  -- the references to an object that c does not hold, and that is not sealed, stay as many
  pub refs-kept : (o o' : Option Obj) → May h tickets c x o o' → map.get h x ≡ o → (n : Name) (b : Obj) → map.get h n ≡ Some b → b.mark ≢ Held c → ((i : ℕ) → b.mark ≢ Sealed i) → refs (put_at h x o') n ≡ refs h n
  refs-kept o o' (reads m') e n b is m s = same_refs n o o' e refl
  refs-kept o o' (sees i source m' no_root holder link) e n b is m s = same_refs n o o' e refl
  refs-kept o o' (writes {object = ob} place v m' lose may) e n b is m s = same_refs n o o' e (sym (refs_in_set n ob.fields place v (not_written n b is m v may) (not_lost n b is m s _ lose)))
  refs-kept o o' (takes q m' hid hq l) e n b is m s = same_refs n o o' e refl
  refs-kept o o' (takes_root m' root waiting) e n b is m s = same_refs n o o' e refl
  refs-kept o o' (lets_go m' one) e n b is m s = same_refs n o o' e refl
  refs-kept o o' (seals m' hid several) e n b is m s = same_refs n o o' e refl
  refs-kept o o' (gives_up m' hid z none) e n b is m s = same_refs n o o' e (none n)
  refs-kept o o' (makes own hid z m' none) e n b is m s = same_refs n o o' e (sym (none n))

  -- the object that c changed, if it is free now
  free_now : (o o' : Option Obj) → May h tickets c x o o' → map.get h x ≡ o → IsCounted h → (b : Obj) → o' ≡ Some b → b.mark ≡ Free → IsHidden x → refs (put_at h x o') x ≡ 1
  free_now o o' (reads m') e k b is f hid = absurd (free_held (sym f ∙ ap (λ (w : Obj). w.mark) (same_some (sym is)) ∙ m'))
  free_now o o' (sees i source m' no_root holder link) e k b is f hid = same_refs x o o' e refl ∙ k.one x b (e ∙ is) f hid
  free_now o o' (writes place v m' lose may) e k b is f hid = absurd (free_held (sym f ∙ ap (λ (w : Obj). w.mark) (same_some (sym is)) ∙ m'))
  free_now o o' (takes q m' hid' hq l) e k b is f hid = absurd (free_held (sym f ∙ ap (λ (w : Obj). w.mark) (same_some (sym is))))
  free_now o o' (takes_root m' root waiting) e k b is f hid = absurd (free_held (sym f ∙ ap (λ (w : Obj). w.mark) (same_some (sym is))))
  free_now o o' (lets_go m' one) e k b is f hid = same_refs x o o' e refl ∙ one hid
  free_now o o' (seals m' hid' several) e k b is f hid = absurd (sealed_free (ap (λ (w : Obj). w.mark) (same_some is) ∙ f))
    where
      sealed_free : {i : ℕ} → Sealed i ≡ Free → ⊥
      sealed_free p = cc
  free_now o o' (gives_up m' hid' z none) e k b is f hid = absurd (no_some is)
  free_now o o' (makes own hid' z m' none) e k b is f hid = absurd (free_held (sym f ∙ ap (λ (w : Obj). w.mark) (same_some (sym is)) ∙ m'))

  free_sealed : {i : ℕ} → Free ≡ Sealed i → ⊥
  free_sealed p = cc

  -- a value that may be written refers to no root
  not_root : (n : Name) → n.ticket ≡ 0 → (v : Val) → MayWrite h c v → refers_to n v ≡ false
  not_root n z (Int k) may = refl
  not_root n z (Ref None) may = refl
  not_root n z (Ref (Some k)) may =
      elim (cases_Bool (refers_to n (Ref (Some k)))) [
        | inl t ↦ absurd (let same : n.ticket ≡ k.ticket = ap (λ (m : Name). m.ticket) (same_named n k t) in omega (arith, may.1))
        | inr f ↦ f
      ]

  -- no field refers to a root after the change
  roots_kept : (o o' : Option Obj) → May h tickets c x o o' → map.get h x ≡ o → (n : Name) → n.ticket ≡ 0 → refs h n ≡ 0 → refs (put_at h x o') n ≡ 0
  roots_kept o o' (reads m') e n z k = same_refs n o o' e refl ∙ k
  roots_kept o o' (sees i source m' no_root holder link) e n z k = same_refs n o o' e refl ∙ k
  roots_kept o o' (writes {object = ob} place v m' lose may) e n z k =
      let less = set_less n ob.fields place v (not_root n z v may) in
      omega (arith, total-put_at names (refs_in n) h x o', ap (weight (refs_in n)) e, less, k)
  roots_kept o o' (takes q m' hid hq l) e n z k = same_refs n o o' e refl ∙ k
  roots_kept o o' (takes_root m' root waiting) e n z k = same_refs n o o' e refl ∙ k
  roots_kept o o' (lets_go m' one) e n z k = same_refs n o o' e refl ∙ k
  roots_kept o o' (seals m' hid several) e n z k = same_refs n o o' e refl ∙ k
  roots_kept o o' (gives_up m' hid y none) e n z k = same_refs n o o' e (none n) ∙ k
  roots_kept o o' (makes own hid y m' none) e n z k = same_refs n o o' e (sym (none n)) ∙ k

  pub IsCounted-kept : (o o' : Option Obj) → May h tickets c x o o' → map.get h x ≡ o → IsCounted h → IsCounted (put_at h x o')
  IsCounted-kept o o' m e k = record {
    one = λ n b is f hid.
        elim (same_name n x) [
          | inl same ↦ subst (λ u. refs (put_at h x o') u ≡ 1) (sym same) (free_now o o' m e k b (sym (get_here names h x o') ∙ ap (map.get (put_at h x o')) (sym same) ∙ is) f (subst IsHidden same hid))
          | inr other ↦
              let was : map.get h n ≡ Some b = sym (get_there names h x o' n other) ∙ is in
              refs-kept o o' m e n b was (λ y. free_held (sym f ∙ y)) (λ i y. free_sealed (sym f ∙ y)) ∙ k.one n b was f hid
        ];
    roots = λ n z. roots_kept o o' m e n z (k.roots n z);
  }

-- a write of a field takes one reference from the old target and gives one to the new
pub refs_write : (h : Heap) (n : Name) (o : Obj) (d : ℕ) (v : Val) → map.get h n ≡ Some o → d < length o.fields → (u : Name)
    → refs (put_at h n (Some (record o { fields = set o.fields d v }))) u + cond (refers_to u (field_of o d)) 1 0 ≡ refs h u + cond (refers_to u v) 1 0
refs_write h n o d v e l u =
    omega (arith, total-put_at names (refs_in u) h n (Some (record o { fields = set o.fields d v })), ap (weight (refs_in u)) e, sum_by-set (λ x. cond (refers_to u x) 1 0) o.fields d v (Ref None) l)
