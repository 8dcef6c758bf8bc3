-- How the numbers that an operation emits are kept in cells.
use Rattle.std.specs.Prelude.{◌≡◌, ◌≤◌, ℕ, zero, suc, ℤ, pos, List, [], ◌∷◌, length, take}

-- So many cells: these numbers, then 0.
abbrev pub padded : ℕ → List ℤ → List ℤ
padded zero numbers = []
padded (suc more) [] = pos 0 ∷ padded more []
padded (suc more) (number ∷ rest) = number ∷ padded more rest

-- Sixteen cells hold so many numbers, and behind them 0.
pub record IsPadded (cells : List ℤ) (len : ℕ) : Type 0 where
  pub few : len ≤ 16
  pub sixteen : length cells ≡ 16
  pub rest : cells ≡ padded 16 (take len cells)
