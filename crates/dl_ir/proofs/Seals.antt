-- Where no object is sealed, none is after an edit that seals none.
use Rattle.std.proofs.Common.{◌≡◌, inl, inr, ℕ, false, set, refl, sym, ap, subst, ◌∙◌, Some, None}
use Rattle.std.specs.FinMap as map
use Rattle.std.specs.FinMap.{get-empty}
use Rattle.dl_ir.specs.declared.names.Name.{Name}
use Rattle.dl_ir.specs.declared.names.Value.{Value}
use Rattle.dl_ir.specs.declared.objects.Obj.{Obj}
use Rattle.dl_ir.specs.Heap.{Objects, name_cmp, with_field, with_field_of}
use Rattle.dl_ir.specs.Meaning.{is_sealed}
use Rattle.dl_ir.specs.Census.{NoneIsSealed}
use Rattle.dl_ir.proofs.Keeping.{some_none, some_same}
use Rattle.dl_ir.proofs.Lookups.{same_or_not, got_put, got_beside, gone, got_left}

pub seals_nothing : NoneIsSealed map.empty
seals_nothing n x is = absurd (some_none (sym is ∙ get-empty name_cmp n))

pub seals_put : (h : Objects) (k : Name) (v : Obj) → NoneIsSealed h → v.sealed ≡ false → NoneIsSealed (map.insert h k v)
seals_put h k v none here n x is = elim (same_or_not n k) [
  | inl same ↦
      let held : v ≡ x = some_same (sym (ap (map.get (map.insert h k v)) same ∙ got_put h k v) ∙ is) in
      subst (λ (o : Obj). o.sealed ≡ false) held here
  | inr other ↦ none n x (sym (got_beside h k v n other) ∙ is)
]

pub seals_left : (h : Objects) (k : Name) → NoneIsSealed h → NoneIsSealed (map.remove h k)
seals_left h k none n x is = elim (same_or_not n k) [
  | inl same ↦ absurd (some_none (sym is ∙ ap (map.get (map.remove h k)) same ∙ gone h k))
  | inr other ↦ none n x (sym (got_left h k n other) ∙ is)
]

pub seals_field : (h : Objects) (k : Name) (field : ℕ) (value : Value) → NoneIsSealed h → NoneIsSealed (with_field h k field value)
seals_field h k field value none = elim (map.get h k) as (λ o. map.get h k ≡ o → NoneIsSealed (with_field_of h k field value o)) [
  | None ↦ λ _. none
  | Some x ↦ λ is. seals_put h k (record x { fields = set x.fields field value }) none (none k x is)
] refl

pub none_sealed : (h : Objects) → NoneIsSealed h → (k : Name) → is_sealed (map.get h k) ≡ false
none_sealed h none k = elim (map.get h k) as (λ o. map.get h k ≡ o → is_sealed o ≡ false) [
  | None ↦ λ _. refl
  | Some x ↦ λ is. none k x is
] refl
