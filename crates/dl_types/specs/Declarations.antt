-- What the declarations of a tree declare, or the first fault in them.
use Rattle.std.specs.Prelude.{ℕ, Bool, not, if◌then◌else◌, List, [], sum_by, codes, Option, Some, None, Result, Ok, Err, is_some}
use Rattle.std.specs.Str.{bytes_eq}
use Rattle.dl_ir.specs.declared.modules.Ty.{Ty}
use Rattle.dl_ir.specs.declared.modules.Ty.TheVariants.{Int, Of}
use Rattle.dl_ir.specs.declared.modules.FieldDecl.{FieldDecl}
use Rattle.dl_ir.specs.declared.modules.KindDecl.{KindDecl}
use Rattle.dl_ir.specs.declared.modules.LocalDecl.{LocalDecl}
use Rattle.dl_grammar.specs.declared.tree.Word.{Word}
use Rattle.dl_grammar.specs.declared.tree.TreeField.{TreeField}
use Rattle.dl_grammar.specs.declared.tree.TreeKind.{TreeKind}
use Rattle.dl_types.specs.declared.fault.TypeFault.{TypeFault}
use Rattle.dl_types.specs.declared.fault.TypeFault.TheVariants.{Twice, Unknown, KindClash, RootInField}
use Rattle.dl_types.specs.declared.declarations.Place.{Place}
use Rattle.dl_types.specs.declared.declarations.Place.TheVariants.{InField, InParam, InVar}
use Rattle.dl_types.specs.Checks.{◌>>=◌, each}
use Rattle.dl_types.specs.Names.{field_named, local_named, local_of, kind_named, tree_kind_named}

-- parameters refer to roots; fields and vars refer to nodes
abbrev pub takes : Place → Bool → Bool
takes InField is_root = not is_root
takes InParam is_root = is_root
takes InVar is_root = not is_root

-- the fault of a type that refers to a kind of the other sort
abbrev pub sort_fault : Place → ℕ → TypeFault
sort_fault InField line = RootInField line
sort_fault InParam line = KindClash line
sort_fault InVar line = KindClash line

-- references to the kind that a type names, which is of a sort that may stand here
abbrev pub kind_type : Place → ℕ → Option (ℕ × Bool) → Result Ty TypeFault
kind_type place line None = Err (Unknown line)
kind_type place line (Some kind) = if takes place kind.1 then Ok (Of kind.0) else Err (sort_fault place line)

-- the type that a word means at a place, where these kinds have names
abbrev pub type_of : (List ℕ → Option (ℕ × Bool)) → Place → Word → Result Ty TypeFault
type_of kind_of place word = if bytes_eq word.text (codes "int") then Ok Int else kind_type place word.line (kind_of word.text)

-- a field, behind those before it: its name, then its type
abbrev pub field_typed : List TreeKind → List FieldDecl → TreeField → Result FieldDecl TypeFault
field_typed kinds before field =
    if is_some (field_named 0 before field.name.text) then Err (Twice field.name.line)
    else type_of (tree_kind_named 0 kinds) InField field.ty >>= λ ty. Ok (record { name = field.name.text; ty = ty })

-- a kind, behind those before it: its name, then its fields; its roots are numbered behind those of the kinds before
abbrev pub kind_typed : List TreeKind → List KindDecl → TreeKind → Result KindDecl TypeFault
kind_typed kinds before kind =
    if is_some (kind_named 0 before kind.name.text) then Err (Twice kind.name.line)
    else each (field_typed kinds) [] kind.fields >>= λ fields.
    Ok (record {
      name = kind.name.text;
      is_root = kind.is_root;
      first = if kind.is_root then sum_by (λ (k : KindDecl). k.count) before else 0;
      count = if kind.is_root then kind.count else 0;
      fields = fields;
    })

-- a parameter, behind those before it
abbrev pub param_typed : List KindDecl → List LocalDecl → TreeField → Result LocalDecl TypeFault
param_typed kinds before param =
    if is_some (local_named 0 before param.name.text) then Err (Twice param.name.line)
    else type_of (kind_named 0 kinds) InParam param.ty >>= λ ty. Ok (record { name = param.name.text; ty = ty })

-- a var, behind the parameters and the vars before it
abbrev pub var_typed : List KindDecl → List LocalDecl → List LocalDecl → TreeField → Result LocalDecl TypeFault
var_typed kinds params before var =
    if is_some (local_of params before var.name.text) then Err (Twice var.name.line)
    else type_of (kind_named 0 kinds) InVar var.ty >>= λ ty. Ok (record { name = var.name.text; ty = ty })
