-- For whom a caller waits, and through what it comes to what it takes.
use Rattle.std.proofs.Common.{◌≡◌, ◌≢◌, ℕ, ◌≤◌, ◌<◌, inl, inr, refl, sym, subst}
use Rattle.std.proofs.lemmas.Bool.{cases_lt}
use Rattle.dl_ir.specs.declared.names.Name.{Name}
use Rattle.dl_core.specs.Heaps.{Heap, refs, IsHeld}
use Rattle.dl_core.specs.Changes.{IsApart}
use Rattle.dl_core.specs.Reach.{Links, Path, starts, goes, Passes, holds, along, IsAbove}
use Rattle.dl_core.proofs.Counts.{the_linker}

-- the caller's next event takes an object that another holds
pub record IsBlocked (h : Heap) (c d : ℕ) (x : Name) : Type 0 where
  pub from : Name
  pub holder : IsHeld h c from
  pub link : Links h from x
  pub taken : IsHeld h d x

pub waits_down : (h : Heap) (tickets : ℕ → ℕ) → IsApart h tickets → (c d : ℕ) (x : Name) → 0 < tickets c → IsBlocked h c d x → tickets d ≤ tickets c
waits_down h tickets a c d x run b = by (a.apart c x b.taken.object run (along (holds b.holder) b.link) b.taken.there)
  where
    by : ¬ (IsAbove tickets (tickets c) b.taken.object.mark) → tickets d ≤ tickets c
    by no_above = elim (cases_lt (tickets c) (tickets d)) [
      | inl lt ↦ absurd (no_above (subst (IsAbove tickets (tickets c)) (sym b.taken.held) lt))
      | inr le ↦ le
    ]

-- each path from another object to what a caller takes passes what it holds
pub dominated : (h : Heap) (c : ℕ) (q x root : Name) → IsHeld h c q → Links h q x → refs h x ≡ 1 → root ≢ x → (p : Path h root x) → Passes h c root x p
dominated h c q x root held l one apart starts = absurd (apart refl)
dominated h c q x root held l one apart (goes {mid = r} p k) = inl (ends p (subst (IsHeld h c) (the_linker h q r x l k one) held))
  where
    ends : {r : Name} (p : Path h root r) → IsHeld h c r → Passes h c root r p
    ends starts y = y
    ends (goes p k) y = inr y
