-- Which objects a line of the heap part may tell of.
use Rattle.std.specs.Prelude.{◌≡◌, ◌<◌, ◌^◌, ◌++◌, ◌∷◌, [], ◌==◌, not, Bool, ℕ, ℤ, pos, negsuc, Some, None, List, slice_get, codes}
use Rattle.dl_ir.specs.declared.modules.FieldDecl.{FieldDecl}
use Rattle.dl_ir.specs.declared.modules.KindDecl.{KindDecl}
use Rattle.dl_ir.specs.declared.modules.Module.{Module}
use Rattle.dl_ir.specs.declared.modules.Ty.{Ty}
use Rattle.dl_ir.specs.declared.modules.Ty.TheVariants.{Int, Of}
use Rattle.dl_ir.specs.declared.names.Name.{Name}
use Rattle.dl_ir.specs.declared.names.Value.{Value}
use Rattle.dl_ir.specs.declared.names.Value.TheVariants as values
use Rattle.dl_ir.specs.declared.objects.Obj.{Obj}
use Rattle.dl_history.specs.Report.{object_line}

-- a byte within a line: it does not end one
abbrev pub is_within : ℕ → Bool
is_within b = not (b == 10)

-- a number of signed 64 bits
abbrev pub IsSmall : ℤ → Type 0
IsSmall (pos number) = number < 2 ^ 63
IsSmall (negsuc number) = number < 2 ^ 63

-- a ticket of 64 bits and an index of 32
pub record IsSmallName (name : Name) : Type 0 where
  pub ticket : name.ticket < 2 ^ 64
  pub index : name.index < 2 ^ 32

-- what may stand in a field of a type
abbrev pub MayHold : Ty → Value → Type 0
MayHold Int (values.Int number) = IsSmall number
MayHold Int (values.Ref target) = ⊥
MayHold (Of kind) (values.Int number) = ⊥
MayHold (Of kind) (values.Ref None) = Unit {0}
MayHold (Of kind) (values.Ref (Some name)) = IsSmallName name

-- a value for each field
abbrev pub AllMayHold : List FieldDecl → List Value → Type 0
AllMayHold [] [] = Unit {0}
AllMayHold [] (value ∷ held) = ⊥
AllMayHold (field ∷ fields) [] = ⊥
AllMayHold (field ∷ fields) (value ∷ held) = MayHold field.ty value × AllMayHold fields held

-- an object of a kind of the module, with a value for each field
pub record HasForm (source : Module) (object : Obj) : Type 0 where
  pub declared : KindDecl
  pub is_there : slice_get source.kinds object.kind ≡ Some declared
  pub fields : AllMayHold declared.fields object.fields

-- a line, without its end, tells of an object under a name
pub record TellsOf (source : Module) (line : List ℕ) (entry : Name × Obj) : Type 0 where
  pub name : IsSmallName entry.0
  pub object : HasForm source entry.1
  pub text : object_line source entry ≡ line ++ codes "\n"

-- a text begins with the line of an object under a name, and this follows
pub record BeginsWith (source : Module) (text : List ℕ) (entry : Name × Obj) (rest : List ℕ) : Type 0 where
  pub name : IsSmallName entry.0
  pub object : HasForm source entry.1
  pub text_is : text ≡ object_line source entry ++ rest
