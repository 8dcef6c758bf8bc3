-- What an edit of rows makes of their objects and of their numbers.
use Rattle.std.proofs.Common.{◌≡◌, ℕ, Bool, true, false, ◌&&◌, ◌+◌, ◌-◌, refl, sym, ap, ◌∙◌, Option, Some, None, inl, inr}
use Rattle.std.specs.Prelude.{option_and_then, nat_lt, if◌then◌else◌}
use Rattle.std.specs.Option.{option_map}
use Rattle.std.specs.FinMap as map
use Rattle.std.specs.FinMap.{FinMap, same_map}
use Rattle.dl_ir.specs.declared.names.Name.{Name}
use Rattle.dl_ir.specs.declared.names.Value.{Value}
use Rattle.dl_ir.specs.declared.objects.Obj.{Obj}
use Rattle.dl_ir.specs.declared.rows.Row.{Row}
use Rattle.dl_ir.specs.Census.{open_at}
use Rattle.dl_ir.specs.Heap.{Objects, name_cmp, with_field, with_field_of}
use Rattle.dl_ir.specs.References.{with_seal, with_seal_of}
use Rattle.dl_ir.specs.Mapped.{with_values}
use Rattle.dl_ir.specs.Rows.{changed, changed_of}
use Rattle.dl_ir.specs.Counted.{object_of, refs_of, object_with, sealed_object, row_with, sealed_row, recounted_row}
use Rattle.dl_ir.proofs.NameOrder.{names_total, exact_names}
use Rattle.dl_ir.proofs.Lookups.{same_or_not, got_put, got_beside}
use Rattle.dl_ir.proofs.Mapped.{get-with_values, with_values-insert}

-- to put what is there changes nothing
put_same : {X : Type 0} (m : FinMap name_cmp X) (k : Name) (v : X) → map.get m k ≡ Some v → map.insert m k v ≡ m
put_same m k v is = same_map names_total exact_names _ _ (λ q. elim (same_or_not q k) [
  | inl same ↦ ap (map.get (map.insert m k v)) same ∙ got_put m k v ∙ sym (ap (map.get m) same ∙ is)
  | inr other ↦ got_beside m k v q other
])

module _ {X Y : Type 0} (g : X → Y) (m : FinMap name_cmp X) (k : Name) (change : X → X) where
  -- a change of a value that tells on what is seen of it
  pub values-changed : (seen : Y → Y) → ((x : X) → g (change x) ≡ seen (g x)) → with_values g (changed m k change) ≡ changed (with_values g m) k seen
  values-changed seen each =
      let at : (o : Option X) → with_values g (changed_of m k change o) ≡ changed_of (with_values g m) k seen (option_map g o) = λ o. elim o as (λ p. with_values g (changed_of m k change p) ≡ changed_of (with_values g m) k seen (option_map g p)) [
        | None ↦ refl
        | Some x ↦ with_values-insert g names_total exact_names m k (change x) ∙ ap (map.insert (with_values g m) k) (each x)
      ] in
      at (map.get m k) ∙ ap (changed_of (with_values g m) k seen) (sym (get-with_values g m k))

  -- and one that does not
  pub values-same : ((x : X) → g (change x) ≡ g x) → with_values g (changed m k change) ≡ with_values g m
  values-same each = elim (map.get m k) as (λ o. map.get m k ≡ o → with_values g (changed_of m k change o) ≡ with_values g m) [
    | None ↦ λ _. refl
    | Some x ↦ λ is. with_values-insert g names_total exact_names m k (change x) ∙ ap (map.insert (with_values g m) k) (each x)
        ∙ put_same (with_values g m) k (g x) (get-with_values g m k ∙ ap (option_map g) is)
  ] refl

is_written : (h : Objects) (k : Name) (field : ℕ) (value : Value) (o : Option Obj) → changed_of h k (object_with field value) o ≡ with_field_of h k field value o
is_written h k field value None = refl
is_written h k field value (Some object) = refl

is_sealed : (h : Objects) (k : Name) (o : Option Obj) → changed_of h k sealed_object o ≡ with_seal_of h k o
is_sealed h k None = refl
is_sealed h k (Some object) = refl

module _ (m : FinMap name_cmp Row) (k : Name) where
  -- a field of the object is written
  pub objects-written : (field : ℕ) (value : Value) → with_values object_of (changed m k (row_with field value)) ≡ with_field (with_values object_of m) k field value
  objects-written field value =
      values-changed object_of m k (row_with field value) (object_with field value) (λ row. refl)
      ∙ is_written (with_values object_of m) k field value (map.get (with_values object_of m) k)

  pub counts-written : (field : ℕ) (value : Value) → with_values refs_of (changed m k (row_with field value)) ≡ with_values refs_of m
  counts-written field value = values-same refs_of m k (row_with field value) (λ row. refl)

  -- the object is sealed
  pub objects-sealed : with_values object_of (changed m k sealed_row) ≡ with_seal (with_values object_of m) k
  objects-sealed =
      values-changed object_of m k sealed_row sealed_object (λ row. refl)
      ∙ is_sealed (with_values object_of m) k (map.get (with_values object_of m) k)

  pub counts-sealed : with_values refs_of (changed m k sealed_row) ≡ with_values refs_of m
  counts-sealed = values-same refs_of m k sealed_row (λ row. refl)

  -- the number is another
  pub objects-recounted : (more fewer : ℕ) → with_values object_of (changed m k (recounted_row more fewer)) ≡ with_values object_of m
  objects-recounted more fewer = values-same object_of m k (recounted_row more fewer) (λ row. refl)

  pub counts-recounted : (more fewer before : ℕ) → map.get (with_values refs_of m) k ≡ Some before
      → with_values refs_of (changed m k (recounted_row more fewer)) ≡ map.insert (with_values refs_of m) k (before + more - fewer)
  counts-recounted more fewer before is =
      values-changed refs_of m k (recounted_row more fewer) (λ count. count + more - fewer) (λ row. refl)
      ∙ ap (changed_of (with_values refs_of m) k (λ count. count + more - fewer)) is

-- what is read of a value that may be there
pub read_through : {X Y Z : Type 0} (g : X → Y) (f : Y → Option Z) (o : Option X) → option_and_then (λ x. f (g x)) o ≡ option_and_then f (option_map g o)
read_through g f None = refl
read_through g f (Some x) = refl

-- what is told of a row that may be there
abbrev told : Row → ℕ × Bool
told row = (row.refs, row.object.sealed)

row_told : (o : Option Row) (before : ℕ) (sealed : Bool) → Some (before, sealed) ≡ option_map told o → (row : Row) × (o ≡ Some row) × (row.refs ≡ before) × (row.object.sealed ≡ sealed)
row_told None before sealed is = cc
row_told (Some row) before sealed is =
    let same : (before, sealed) ≡ told row = cc in
    (row, refl, sym (ap (λ (p : ℕ × Bool). p.0) same), sym (ap (λ (p : ℕ × Bool). p.1) same))

module _ (m : FinMap name_cmp Row) (k : Name) (before : ℕ) (sealed : Bool) (is : Some (before, sealed) ≡ option_map told (map.get m k)) where
  -- its number
  pub told_count : map.get (with_values refs_of m) k ≡ Some before
  told_count =
      let row = row_told (map.get m k) before sealed is in
      get-with_values refs_of m k ∙ ap (option_map refs_of) row.1 ∙ ap Some row.2

  -- whether it is open
  pub told_open : open_at k (map.get (with_values object_of m) k) ≡ (nat_lt 0 k.ticket && (if sealed then false else true))
  told_open =
      let row = row_told (map.get m k) before sealed is in
      ap (open_at k) (get-with_values object_of m k ∙ ap (option_map object_of) row.1) ∙ ap (λ b. nat_lt 0 k.ticket && (if b then false else true)) row.3

none_told : (o : Option Row) → None ≡ option_map told o → o ≡ None
none_told None is = refl
none_told (Some row) is = cc

-- where no row is told of, none is there, and none is changed
pub told_none : (m : FinMap name_cmp Row) (k : Name) → None ≡ option_map told (map.get m k) → map.get (with_values refs_of m) k ≡ None
told_none m k is = get-with_values refs_of m k ∙ ap (option_map refs_of) (none_told (map.get m k) is)

pub none_changed : (m : FinMap name_cmp Row) (k : Name) (change : Row → Row) → None ≡ option_map told (map.get m k) → changed m k change ≡ m
none_changed m k change is = ap (changed_of m k change) (none_told (map.get m k) is)
