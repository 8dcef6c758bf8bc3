-- How the number of hidden objects changes with a heap.
use Rattle.std.proofs.Common.{◌≡◌, ℕ, ◌+◌, cond, List, ◌∷◌, length, filter, sym, ap, ◌∙◌, Some, None}
use Rattle.std.specs.Prelude.{nat_lt}
use Rattle.std.specs.FinMap as finite
use Rattle.std.proofs.lemmas.List.Sums.{length-filter, sum_by-cons}
use Rattle.dl_ir.specs.declared.names.Name.{Name}
use Rattle.dl_ir.specs.declared.objects.Obj.{Obj}
use Rattle.dl_ir.specs.Heap.{Objects, hidden_count}
use Rattle.dl_lemmas.proofs.Maps.{sum-new, sum-over, sum-there}
use Rattle.dl_shape.proofs.Names.{names}

-- 1 for a hidden object's name, 0 for a root's
abbrev pub one : Name → ℕ
one name = cond (nat_lt 0 name.ticket) 1 0

-- the number of hidden entries
abbrev pub hidden_in : List (Name × Obj) → ℕ
hidden_in es = length (filter (λ (e : Name × Obj). nat_lt 0 e.0.ticket) es)

abbrev is_hidden : Name × Obj → ℕ
is_hidden e = one e.0

pub hidden_in-cons : (e : Name × Obj) (es : List (Name × Obj)) → hidden_in (e ∷ es) ≡ one e.0 + hidden_in es
hidden_in-cons e es =
    length-filter (λ (e : Name × Obj). nat_lt 0 e.0.ticket) (e ∷ es) ∙ sum_by-cons is_hidden e es ∙ ap (λ n. one e.0 + n) (sym (length-filter (λ (e : Name × Obj). nat_lt 0 e.0.ticket) es))

module _ (h : Objects) (k : Name) where
  pub hidden_count-new : (v : Obj) → finite.get h k ≡ None → hidden_count (finite.insert h k v) ≡ one k + hidden_count h
  hidden_count-new v none =
      length-filter (λ (e : Name × Obj). nat_lt 0 e.0.ticket) (finite.entries (finite.insert h k v)) ∙ sum-new names is_hidden h k v none ∙ ap (λ n. one k + n) (sym (length-filter (λ (e : Name × Obj). nat_lt 0 e.0.ticket) (finite.entries h)))

  pub hidden_count-over : (v : Obj) → hidden_count (finite.insert h k v) ≡ one k + hidden_count (finite.remove h k)
  hidden_count-over v =
      length-filter (λ (e : Name × Obj). nat_lt 0 e.0.ticket) (finite.entries (finite.insert h k v)) ∙ sum-over names is_hidden h k v ∙ ap (λ n. one k + n) (sym (length-filter (λ (e : Name × Obj). nat_lt 0 e.0.ticket) (finite.entries (finite.remove h k))))

  pub hidden_count-there : (v : Obj) → finite.get h k ≡ Some v → hidden_count h ≡ one k + hidden_count (finite.remove h k)
  hidden_count-there v is =
      length-filter (λ (e : Name × Obj). nat_lt 0 e.0.ticket) (finite.entries h) ∙ sum-there names is_hidden h k v is ∙ ap (λ n. one k + n) (sym (length-filter (λ (e : Name × Obj). nat_lt 0 e.0.ticket) (finite.entries (finite.remove h k))))
