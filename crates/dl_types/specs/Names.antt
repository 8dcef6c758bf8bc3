-- What names mean: the first declaration of a name in its name space counts, and numbers go from 0 in the order of declaration.
use Rattle.std.specs.Prelude.{ℕ, ◌+◌, Bool, true, false, if◌then◌else◌, List, [], ◌∷◌, length, slice_get, Option, Some, None}
use Rattle.std.specs.Str.{bytes_eq}
use Rattle.dl_ir.specs.declared.modules.Ty.{Ty}
use Rattle.dl_ir.specs.declared.modules.FieldDecl.{FieldDecl}
use Rattle.dl_ir.specs.declared.modules.KindDecl.{KindDecl}
use Rattle.dl_ir.specs.declared.modules.LocalDecl.{LocalDecl}
use Rattle.dl_ir.specs.declared.modules.OpDecl.{OpDecl}
use Rattle.dl_grammar.specs.declared.tree.TreeKind.{TreeKind}

-- the number of the first one of this name, and what it declares, where the list is numbered from here on
abbrev pub first_named : {A B : Type 0} → (A → List ℕ) → (A → B) → ℕ → List A → List ℕ → Option (ℕ × B)
first_named name meaning from [] text = None
first_named name meaning from (a ∷ more) text = if bytes_eq (name a) text then Some (from, meaning a) else first_named name meaning (from + 1) more text

-- a field of this name, with its type
abbrev pub field_named : ℕ → List FieldDecl → List ℕ → Option (ℕ × Ty)
field_named = first_named (λ (field : FieldDecl). field.name) (λ (field : FieldDecl). field.ty)

-- a parameter or a var of this name, with its type
abbrev pub local_named : ℕ → List LocalDecl → List ℕ → Option (ℕ × Ty)
local_named = first_named (λ (local : LocalDecl). local.name) (λ (local : LocalDecl). local.ty)

-- a kind of this name among those of a module, and whether it is a root kind
abbrev pub kind_named : ℕ → List KindDecl → List ℕ → Option (ℕ × Bool)
kind_named = first_named (λ (kind : KindDecl). kind.name) (λ (kind : KindDecl). kind.is_root)

-- a kind of this name among those of a tree, and whether it is a root kind
abbrev pub tree_kind_named : ℕ → List TreeKind → List ℕ → Option (ℕ × Bool)
tree_kind_named = first_named (λ (kind : TreeKind). kind.name.text) (λ (kind : TreeKind). kind.is_root)

-- an operation of this name
abbrev pub has_op : List OpDecl → List ℕ → Bool
has_op [] text = false
has_op (op ∷ more) text = if bytes_eq op.name text then true else has_op more text

-- the first, or else the second
abbrev pub or_else : {A : Type 0} → Option A → Option A → Option A
or_else (Some a) other = Some a
or_else None other = other

-- a local of an operation: its parameters are numbered first, then its vars
abbrev pub local_of : List LocalDecl → List LocalDecl → List ℕ → Option (ℕ × Ty)
local_of params vars text = or_else (local_named 0 params text) (local_named (length params) vars text)

-- the fields of a kind, if it is there
abbrev pub fields_in : Option KindDecl → List FieldDecl
fields_in (Some kind) = kind.fields
fields_in None = []

-- the fields of the kind with this number
abbrev pub fields_of : List KindDecl → ℕ → List FieldDecl
fields_of kinds number = fields_in (slice_get kinds number)

-- a kind is a root kind, if it is there
abbrev pub is_root_in : Option KindDecl → Bool
is_root_in (Some kind) = kind.is_root
is_root_in None = false

-- the kind with this number is a root kind
abbrev pub is_root_kind : List KindDecl → ℕ → Bool
is_root_kind kinds number = is_root_in (slice_get kinds number)
