-- What who has the turn writes and reads before it gives the turn back.
use Rattle.std.specs.Prelude.{◌≡◌, ◌≤◌, ℕ, Option, Some}
use Rattle.atomic_table.specs.Table.{Me}
use Rattle.dl_core.specs.declared.answers.Progress.{Progress}
use Rattle.dl_core.specs.declared.answers.Progress.TheVariants as progress
use Rattle.dl_core.specs.Core.{Core}
use Rattle.dl_core.specs.Passes.{Look, Loaded, looked}
use Rattle.dl_coarse.specs.Sights.{Sight, TurnTaken}

-- the words of the last ticket and of the version hold these, and nothing else changed but the look
pub record IsMarked {M : Type 0} (clock version : ℕ) (before after : Me (Option M) Sight) : Type 0 where
  pub sight : after.0 ≡ record before.0 { turn = after.0.turn; look = after.0.look }
  pub turn_then : (turn : TurnTaken) → before.0.turn ≡ Some turn → after.0.turn ≡ Some (record turn { clock = clock; version = version })
  pub slots : after.1 ≡ before.1

-- after a refusal nothing is written: the version is read
abbrev pub LookBy : Progress → ℕ → Look → Look → Type 0
LookBy (progress.Done entry) version before after = Unit {0}
LookBy answer version before after = after ≡ looked (Loaded 2 version) before

abbrev pub StaysBy : Progress → TurnTaken → Core → Type 0
StaysBy (progress.Done entry) turn after = Unit {0}
StaysBy answer turn after = (turn.clock ≡ after.clock) × (turn.version ≡ after.pool.version)

-- who has the turn may write the ticket and the version of the state that its operation left
pub record MayMark (sight : Sight) (old : ℕ) (answer : Progress) (after : Core) : Type 0 where
  pub turn : TurnTaken
  pub has : sight.turn ≡ Some turn
  pub clock : turn.clock ≤ after.clock
  pub version : turn.version ≤ after.pool.version
  pub was : old ≡ turn.version
  pub stays : StaysBy answer turn after
