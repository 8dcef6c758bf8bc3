-- Which arguments the locals of a type can hold.
use Rattle.std.specs.Prelude.{◌≡◌, ◌<◌, ◌^◌, ℕ, ℤ, pos, List, [], ◌∷◌}
use Rattle.dl_ir.specs.declared.modules.LocalDecl.{LocalDecl}
use Rattle.dl_ir.specs.declared.modules.Ty.{Ty}
use Rattle.dl_ir.specs.declared.modules.Ty.TheVariants.{Int, Of}

-- the argument is the number of an object's name
pub record IsIndex (argument : ℤ) : Type 0 where
  pub number : ℕ
  pub is_number : argument ≡ pos number
  pub small : number < 2 ^ 32

-- a local of this type can hold the argument
abbrev pub CanHold : Ty → ℤ → Type 0
CanHold Int argument = Unit {0}
CanHold (Of kind) argument = IsIndex argument

-- there is one argument for each parameter, in order, and each can be held
abbrev pub AllHeld : List LocalDecl → List ℤ → Type 0
AllHeld [] [] = Unit {0}
AllHeld [] (a ∷ rest) = ⊥
AllHeld (p ∷ params) [] = ⊥
AllHeld (p ∷ params) (a ∷ rest) = CanHold p.ty a × AllHeld params rest
