-- Heaps: what they are, how one begins, and which heaps a module has.
use Rattle.std.specs.Prelude.{◌≡◌, ℕ, suc, zero, ◌+◌, ◌<◌, ◌≤◌, pos, true, false, List, [], ◌∷◌, ◌++◌, map, length, filter, nat_lt, slice_get, slice_set, Option, Some, None}
use Rattle.std.specs.List.{AllByRecursion}
use Rattle.std.specs.Ordering.{nat_cmp, ordering_then}
use Rattle.std.specs.declared.cmp.Ordering.{Ordering}
use Rattle.std.specs.FinMap.{FinMap, get, insert, entries, from_entries}
use Rattle.dl_ir.specs.declared.modules.Module.{Module}
use Rattle.dl_ir.specs.declared.modules.KindDecl.{KindDecl}
use Rattle.dl_ir.specs.declared.modules.FieldDecl.{FieldDecl}
use Rattle.dl_ir.specs.declared.modules.Ty.{Ty}
use Rattle.dl_ir.specs.declared.modules.Ty.TheVariants as types
use Rattle.dl_ir.specs.declared.names.Name.{Name}
use Rattle.dl_ir.specs.declared.names.Value.{Value}
use Rattle.dl_ir.specs.declared.names.Value.TheVariants as values
use Rattle.dl_ir.specs.declared.objects.Obj.{Obj}

-- Names are ordered by ticket, then by index.
abbrev pub name_cmp : Name → Name → Ordering
name_cmp a b = ordering_then (nat_cmp a.ticket b.ticket) (nat_cmp a.index b.index)

-- A heap is a finite map from names to objects.
abbrev pub Objects : Type 0
Objects = FinMap name_cmp Obj

-- A heap, and the number of objects that it has memory for.
pub record View : Type 0 where
  pub objects : Objects
  pub room : ℕ

-- The root with this number has this name.
abbrev pub root : ℕ → Name
root number = record { ticket = 0; index = number }

-- An object is hidden where it is no root.
abbrev pub IsHidden : Name → Type 0
IsHidden name = 0 < name.ticket

-- The number of hidden objects.
abbrev pub hidden_count : Objects → ℕ
hidden_count h = length (filter (λ e. nat_lt 0 e.0.ticket) (entries h))

-- The heap in which this field of the object has this value, if the object is there.
abbrev pub with_field_of : Objects → Name → ℕ → Value → Option Obj → Objects
with_field_of h name field value None = h
with_field_of h name field value (Some object) = insert h name (record object { fields = slice_set object.fields field value })

-- The heap in which this field of this object has this value.
abbrev pub with_field : Objects → Name → ℕ → Value → Objects
with_field h name field value = with_field_of h name field value (get h name)

-- A field begins with the number 0, or with null.
abbrev pub blank : Ty → Value
blank types.Int = values.Int (pos 0)
blank (types.Of kind) = values.Ref None

-- The fields with which an object begins.
abbrev pub blank_fields : List FieldDecl → List Value
blank_fields fields = map (λ (f : FieldDecl). blank f.ty) fields

-- An object as it begins: unsealed, numbers 0, references null.
abbrev pub blank_object : ℕ → KindDecl → Obj
blank_object kind declared = record { kind = kind; sealed = false; fields = blank_fields declared.fields }

-- So many roots from this number on, all the same object.
abbrev pub roots_from : ℕ → ℕ → Obj → List (Name × Obj)
roots_from first zero object = []
roots_from first (suc more) object = (root first, object) ∷ roots_from (first + 1) more object

-- The roots of the kinds, of which the first has this number.
abbrev pub roots_of : ℕ → List KindDecl → List (Name × Obj)
roots_of kind [] = []
roots_of kind (declared ∷ kinds) = roots_from declared.first declared.count (blank_object kind declared) ++ roots_of (kind + 1) kinds

-- The start heap of a module: its roots, as they begin.
abbrev pub start_objects : Module → Objects
start_objects m = from_entries (roots_of 0 m.kinds)

-- A root kind has its roots from this number on. A node kind has none, and its first number is 0.
pub record HasRootsAt (next : ℕ) (declared : KindDecl) : Type 0 where
  pub of_root : declared.is_root ≡ true → declared.first ≡ next
  pub of_node : declared.is_root ≡ false → (declared.first ≡ 0) × (declared.count ≡ 0)

-- The roots of the kinds stand in one row from this number on, in the order of declaration, below 1,024.
abbrev pub StandInRow : ℕ → List KindDecl → Type 0
StandInRow next [] = next ≤ 1024
StandInRow next (declared ∷ kinds) = HasRootsAt next declared × StandInRow (next + declared.count) kinds

-- What the start heap needs of a module, a part of what a checked module has.
pub record HasStart (m : Module) : Type 0 where
  pub few_kinds : length m.kinds ≤ 16
  pub few_fields : AllByRecursion (λ (k : KindDecl). length k.fields ≤ 16) m.kinds
  pub row : StandInRow 0 m.kinds

-- The name is that of a root of the kind with this number.
pub record IsRootOf (m : Module) (kind : ℕ) (name : Name) : Type 0 where
  pub declared : KindDecl
  pub is_there : slice_get m.kinds kind ≡ Some declared
  pub is_root : declared.is_root ≡ true
  pub ticket : name.ticket ≡ 0
  pub from_first : declared.first ≤ name.index
  pub to_last : name.index < declared.first + declared.count

-- The kind with this number is a node kind.
pub record IsNodeKind (m : Module) (kind : ℕ) : Type 0 where
  pub declared : KindDecl
  pub is_there : slice_get m.kinds kind ≡ Some declared
  pub is_node : declared.is_root ≡ false

-- The heap has an object of this kind under this name.
pub record HasObject (h : Objects) (name : Name) (kind : ℕ) : Type 0 where
  pub object : Obj
  pub is_there : get h name ≡ Some object
  pub of_kind : object.kind ≡ kind

-- A number, or else null or the name of a hidden object of the heap of the kind.
abbrev pub HasType : Objects → Ty → Value → Type 0
HasType h types.Int (values.Int number) = Unit {0}
HasType h types.Int (values.Ref target) = ⊥
HasType h (types.Of kind) (values.Int number) = ⊥
HasType h (types.Of kind) (values.Ref None) = Unit {0}
HasType h (types.Of kind) (values.Ref (Some name)) = IsHidden name × HasObject h name kind

-- One value for each field, each of the field's type.
pub record HasFields (h : Objects) (fields : List FieldDecl) (held : List Value) : Type 0 where
  pub one_each : length held ≡ length fields
  pub typed : (at : ℕ) (field : FieldDecl) (value : Value) → slice_get fields at ≡ Some field → slice_get held at ≡ Some value → HasType h field.ty value

-- A heap of the module.
pub record IsHeapOf (m : Module) (h : Objects) : Type 0 where
  -- each root is there, of its kind and unsealed
  pub roots : (kind : ℕ) (name : Name) → IsRootOf m kind name → (object : Obj) × (get h name ≡ Some object) × (object.kind ≡ kind) × (object.sealed ≡ false)
  -- what has ticket 0 is a root
  pub exposed : (name : Name) (object : Obj) → get h name ≡ Some object → name.ticket ≡ 0 → IsRootOf m object.kind name
  -- what is hidden has a node kind
  pub hidden : (name : Name) (object : Obj) → get h name ≡ Some object → IsHidden name → IsNodeKind m object.kind
  -- each object has the fields of its kind
  pub fields : (name : Name) (object : Obj) (declared : KindDecl) → get h name ≡ Some object → slice_get m.kinds object.kind ≡ Some declared → HasFields h declared.fields object.fields
