-- What holds of a checked module: each kind, field and local that it names by a number is there, types fit, and limits hold.
use Rattle.std.specs.Prelude.{◌≡◌, ◌+◌, ◌≤◌, ℕ, Bool, true, false, length, slice_get, Some, All}
use Rattle.std.specs.List.{list_any}
use Rattle.dl_ir.specs.declared.modules.KindDecl.{KindDecl}
use Rattle.dl_ir.specs.declared.modules.LocalDecl.{LocalDecl}
use Rattle.dl_ir.specs.declared.modules.Module.{Module}
use Rattle.dl_ir.specs.declared.modules.OpDecl.{OpDecl}
use Rattle.dl_ir.specs.declared.modules.Ty.{Ty}
use Rattle.dl_ir.specs.declared.modules.Ty.TheVariants.{Int, Of}
use Rattle.dl_ir.specs.Heap.{HasStart, IsNodeKind}
use Rattle.dl_ir.specs.Typed.{FieldsReferToNodes, IsTypedBlock, types_of}

-- the kind with this number is a root kind
pub record IsRootKind (source : Module) (kind : ℕ) : Type 0 where
  pub declared : KindDecl
  pub is_there : slice_get source.kinds kind ≡ Some declared
  pub is_root : declared.is_root ≡ true

-- a number, or references to roots
abbrev pub IsParamType : Module → Ty → Type 0
IsParamType source Int = Unit {0}
IsParamType source (Of kind) = IsRootKind source kind

-- a number, or references to nodes
abbrev pub IsVarType : Module → Ty → Type 0
IsVarType source Int = Unit {0}
IsVarType source (Of kind) = IsNodeKind source kind

-- a type is that of references
abbrev pub is_reference : Ty → Bool
is_reference Int = false
is_reference (Of kind) = true

-- a local refers to objects
abbrev pub is_reference_local : LocalDecl → Bool
is_reference_local local = is_reference local.ty

-- a kind is a root kind
abbrev pub is_root : KindDecl → Bool
is_root kind = kind.is_root

-- a root kind has a root
abbrev pub HasRoot : KindDecl → Type 0
HasRoot kind = kind.is_root ≡ true → 1 ≤ kind.count

-- an operation has parameters that are numbers or roots, one of them a root, vars that are numbers or refer to nodes, at most 32 locals, makes
-- at most 64 objects, has at most 1,000,000 turns, and its body is typed
pub record IsOperation (source : Module) (op : OpDecl) : Type 0 where
  pub params : All (λ (param : LocalDecl). IsParamType source param.ty) op.params
  pub rooted : list_any is_reference_local op.params ≡ true
  pub vars : All (λ (var : LocalDecl). IsVarType source var.ty) op.vars
  pub few_locals : length op.params + length op.vars ≤ 32
  pub few_allocs : op.allocs ≤ 64
  pub little_fuel : op.fuel ≤ 1000000
  pub body : IsTypedBlock source (types_of op) op.body

-- a module is checked: it has a start heap, a root kind, fields that are numbers or refer to nodes, and at most 64 operations as above
pub record IsChecked (source : Module) : Type 0 where
  pub start : HasStart source
  pub some_roots : All HasRoot source.kinds
  pub rooted : list_any is_root source.kinds ≡ true
  pub fields : FieldsReferToNodes source
  pub few_ops : length source.ops ≤ 64
  pub ops : All (IsOperation source) source.ops
