-- one turn of a loop, as its bound sees it
use Rattle.std.proofs.Common.{◌≡◌, ℕ, zero, suc, ◌-◌, ◌<◌, ◌≤◌, true, false, ◌==◌, refl, sym, None, Ok, arith}
use Rattle.std.proofs.lemmas.Bool.{ne_eqb}
use Rattle.dl_ir.specs.declared.expressions.Cond.{Cond}
use Rattle.dl_ir.specs.Evaluation.{holds_of}
use Rattle.dl_ir.specs.Meaning.{State, Does, loops, take_turn}

-- where a turn is left, the test is true and the block does not end, the loop begins again with a bound that is still one
pub turn : (c : Cond) (body : Does) (s t : State) (n : ℕ) → 0 < s.turns → s.turns ≤ n → holds_of c s.locals ≡ Ok true
    → body (take_turn s) ≡ record { state = t; end = None } → t.turns ≤ s.turns - 1 → (x : ℕ) × (t.turns ≤ x) × (loops x c body t ≡ loops n c body s)
turn c body s t zero left bound holds runs fewer = absurd (omega arith)
turn c body s t (suc n) left bound holds runs fewer =
    let test : (s.turns == 0) ≡ false = ne_eqb s.turns 0 (λ e. omega (arith, e)) in (n, omega arith, sym (rw (test, holds, runs) refl))
