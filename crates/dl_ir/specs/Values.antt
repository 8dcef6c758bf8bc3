-- How names and values are stored, by which proofs tell them apart.
use Rattle.std.specs.Prelude.{◌≡◌, ℕ, ℤ, Option, refl}
use Rattle.std.specs.Coded.{Coded, code_by, coded×, coded⊎, coded_ℕ, coded_ℤ, coded_option}
use Rattle.std.proofs.Common.{◌⊎◌, inl, inr}
use Rattle.dl_ir.specs.declared.names.Name.{Name}
use Rattle.dl_ir.specs.declared.names.Value.{Value}
use Rattle.dl_ir.specs.declared.names.Value.TheVariants.{Int, Ref}

-- A name is stored as its two numbers.
abbrev pub coded_name : Coded Name
coded_name = code_by (ℕ × ℕ) (coded× coded_ℕ coded_ℕ) (λ n. (n.ticket, n.index)) (λ p. record { ticket = p.0; index = p.1 }) (λ _. refl)

-- The number, or the reference.
abbrev pub number_or_reference : Value → ℤ ⊎ Option Name
number_or_reference (Int number) = inl number
number_or_reference (Ref target) = inr target

-- The value of a number, or of a reference.
abbrev pub value_from : ℤ ⊎ Option Name → Value
value_from (inl number) = Int number
value_from (inr target) = Ref target

-- Nothing is lost.
pub same_value : (v : Value) → value_from (number_or_reference v) ≡ v
same_value (Int number) = refl
same_value (Ref target) = refl

-- A value is stored as the one or the other.
abbrev pub coded_value : Coded Value
coded_value = code_by (ℤ ⊎ Option Name) (coded⊎ coded_ℤ (coded_option coded_name)) number_or_reference value_from same_value
