-- How far in a line stands.
use Rattle.std.specs.Prelude.{ℕ, suc, zero}
use Rattle.dl_print.specs.declared.words.Level.{Level, Level-F}
use Rattle.dl_print.specs.declared.words.Level.TheFolds.{fold-Level}

-- one level further in than the lines around
abbrev pub depth_step : Level-F ℕ → ℕ
depth_step Level-F.Margin = zero
depth_step (Level-F.Inside outer) = suc outer.now

-- the number of levels
abbrev pub depth : Level → ℕ
depth = fold-Level ℕ depth_step
