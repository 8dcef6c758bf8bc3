-- A call takes no more roots than it has arguments.
use Rattle.std.proofs.Common.{ℕ, ◌+◌, ◌≤◌, ℤ, Bool, true, false, List, [], ◌∷◌, length, arith}
use Rattle.std.specs.Prelude.{◌==◌, nat_lt, if◌then◌else◌}
use Rattle.std.specs.List.{zip}
use Rattle.dl_ir.specs.declared.modules.LocalDecl.{LocalDecl}
use Rattle.dl_ir.specs.declared.modules.Ty.{Ty}
use Rattle.dl_ir.specs.declared.modules.Ty.TheVariants.{Int, Of}
use Rattle.dl_shape.specs.Operation.{root_number}
use Rattle.dl_core.specs.Plans.{put_in, put_root, roots_among}

few_put_in : (n : ℕ) (ms : List ℕ) → length (put_in n ms) ≤ length ms + 1
few_put_in n [] = omega arith
few_put_in n (m ∷ rest) = by (n == m) (nat_lt n m) (few_put_in n rest)
  where
    by : (same less : Bool) → length (put_in n rest) ≤ length rest + 1 → length (if same then m ∷ rest else (if less then n ∷ m ∷ rest else m ∷ put_in n rest)) ≤ length (m ∷ rest) + 1
    by true less few = omega arith
    by false true few = omega arith
    by false false few = omega (arith, few)

few_put_root : (ty : Ty) (argument : ℤ) (ms : List ℕ) → length (put_root ty argument ms) ≤ length ms + 1
few_put_root Int argument ms = omega arith
few_put_root (Of kind) argument ms = few_put_in (root_number argument) ms

pub few_roots : (params : List LocalDecl) (args : List ℤ) → length (roots_among (zip params args)) ≤ length args
few_roots [] args = omega arith
few_roots (p ∷ params) [] = omega arith
few_roots (p ∷ params) (a ∷ args) = let rest = few_roots params args in omega (arith, rest, few_put_root p.ty a (roots_among (zip params args)))
