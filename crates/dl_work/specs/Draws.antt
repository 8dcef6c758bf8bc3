-- The draws of the generator.
use Rattle.std.specs.Prelude.{ℕ, zero, suc, ◌+◌, ◌*◌, ◌/◌, ◌%◌, ◌^◌}

-- the state that a draw leaves
abbrev pub next_state : ℕ → ℕ
next_state state = (state * 6364136223846793005 + 1442695040888963407) % 2 ^ 64

-- the number that the first draw gives
abbrev pub first_drawn : ℕ → ℕ
first_drawn state = next_state state / 2 ^ 32

-- the state after so many draws
abbrev pub state_after : ℕ → ℕ → ℕ
state_after seed zero = seed
state_after seed (suc draws) = next_state (state_after seed draws)

-- the number that a draw gives, the draws being counted from 0
abbrev pub drawn : ℕ → ℕ → ℕ
drawn seed draw = first_drawn (state_after seed draw)
