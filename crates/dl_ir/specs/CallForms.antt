-- Which calls are calls of a module.
use Rattle.std.specs.Prelude.{◌≡◌, ◌+◌, ◌<◌, ◌≤◌, ℕ, ℤ, pos, List, [], ◌∷◌, length, slice_get, Some, true, All}
use Rattle.dl_ir.specs.declared.modules.Ty.{Ty}
use Rattle.dl_ir.specs.declared.modules.Ty.TheVariants.{Int, Of}
use Rattle.dl_ir.specs.declared.modules.KindDecl.{KindDecl}
use Rattle.dl_ir.specs.declared.modules.LocalDecl.{LocalDecl}
use Rattle.dl_ir.specs.declared.modules.OpDecl.{OpDecl}
use Rattle.dl_ir.specs.declared.modules.Module.{Module}
use Rattle.dl_ir.specs.declared.calls.Call.{Call}

-- an argument is the number of a root of the kind of this number
pub record IsRootNumber (source : Module) (kind : ℕ) (argument : ℤ) : Type 0 where
  pub number : ℕ
  pub is_number : argument ≡ pos number
  pub decl : KindDecl
  pub declared : slice_get source.kinds kind ≡ Some decl
  pub is_root : decl.is_root ≡ true
  pub not_before : decl.first ≤ number
  pub not_behind : number < decl.first + decl.count

-- an argument may be given for a parameter of this type: any number for a number, and a root's number for a root
abbrev pub FitsType : Module → Ty → ℤ → Type 0
FitsType source Int argument = Unit {0}
FitsType source (Of kind) argument = IsRootNumber source kind argument

-- there is one argument for each parameter, in order, and each may be given for it
abbrev pub AllFit : Module → List LocalDecl → List ℤ → Type 0
AllFit source [] [] = Unit {0}
AllFit source [] (a ∷ rest) = ⊥
AllFit source (p ∷ params) [] = ⊥
AllFit source (p ∷ params) (a ∷ rest) = FitsType source p.ty a × AllFit source params rest

-- the call names an operation of the module and gives it fitting arguments
pub record IsCallOf (source : Module) (call : Call) : Type 0 where
  pub op : OpDecl
  pub declared : slice_get source.ops call.op ≡ Some op
  pub fits : AllFit source op.params call.args

-- the calls are calls of the module, and are at most as many as an operation file may have
pub record AreCallsOf (source : Module) (calls : List Call) : Type 0 where
  pub each : All (IsCallOf source) calls
  pub short : length calls ≤ 65536
