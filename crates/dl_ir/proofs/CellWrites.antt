-- Values in cells.
use Rattle.std.proofs.Common.{◌≡◌, ◌≤◌, ℕ, zero, suc, List, [], ◌∷◌, length, map, set, take, Some, None, refl, ap, arith}
use Rattle.dl_ir.specs.declared.cells.Cell.{Cell}
use Rattle.dl_ir.specs.declared.names.Value.{Value}
use Rattle.dl_ir.specs.declared.names.Value.TheVariants.{Int, Ref}
use Rattle.dl_ir.specs.Cells.{value_in, cell_of}

-- nothing is lost
pub same_value : (v : Value) → value_in (cell_of v) ≡ v
same_value (Int number) = refl
same_value (Ref None) = refl
same_value (Ref (Some name)) = refl

-- the values in the first cells, where a value is written into one cell
pub take-set-in : (n : ℕ) (l : List Cell) (i : ℕ) (v : Value) → map value_in (take n (set l i (cell_of v))) ≡ set (map value_in (take n l)) i v
take-set-in zero l i v = refl
take-set-in (suc n) [] i v = refl
take-set-in (suc n) (x ∷ l) zero v = ap (λ w. w ∷ map value_in (take n l)) (same_value v)
take-set-in (suc n) (x ∷ l) (suc i) v = ap (λ (r : List Value). value_in x ∷ r) (take-set-in n l i v)

-- the first cells have at most so many values
pub take-few : (n : ℕ) (l : List Cell) → length (map value_in (take n l)) ≤ n
take-few zero l = omega arith
take-few (suc n) [] = omega arith
take-few (suc n) (x ∷ l) = omega (arith, take-few n l)
