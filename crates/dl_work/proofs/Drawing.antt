-- Draws behind other draws.
use Rattle.std.proofs.Common.{◌≡◌, ℕ, zero, suc, ◌+◌, ◌*◌, ap, ◌∙◌, arith}
use Rattle.dl_work.specs.Draws.{next_state, first_drawn, state_after, drawn}
use Rattle.dl_work.specs.Works.{call_from, call_of}

pub state_behind : (seed a b : ℕ) → state_after (state_after seed a) b ≡ state_after seed (a + b)
state_behind seed a zero = ap (state_after seed) {x = a} {y = a + 0} (omega arith)
state_behind seed a (suc b) = ap next_state (state_behind seed a b) ∙ ap (state_after seed) {x = suc (a + b)} {y = a + suc b} (omega arith)

pub drawn_behind : (seed a b : ℕ) → drawn (state_after seed a) b ≡ drawn seed (a + b)
drawn_behind seed a b = ap first_drawn (state_behind seed a b)

-- the operation that is drawn next
pub call_behind : (seed number : ℕ) → call_of (state_after seed (3 * number)) 0 ≡ call_of seed number
call_behind seed number =
    let at : ℕ → ℕ = λ n. drawn seed n in
    ap (λ n. call_from n (drawn (state_after seed (3 * number)) 1) (drawn (state_after seed (3 * number)) 2)) (drawn_behind seed (3 * number) 0 ∙ ap at {x = 3 * number + 0} {y = 3 * number} (omega arith))
    ∙ ap (λ n. call_from (drawn seed (3 * number)) n (drawn (state_after seed (3 * number)) 2)) (drawn_behind seed (3 * number) 1)
    ∙ ap (λ n. call_from (drawn seed (3 * number)) (drawn seed (3 * number + 1)) n) (drawn_behind seed (3 * number) 2)

pub state_next : (seed number : ℕ) → state_after (state_after seed (3 * number)) 3 ≡ state_after seed (3 * (number + 1))
state_next seed number = state_behind seed (3 * number) 3 ∙ ap (state_after seed) {x = 3 * number + 3} {y = 3 * (number + 1)} (omega arith)
