-- Which places are marked where nothing more becomes marked.
use Rattle.std.proofs.Common.{◌≡◌, ℕ, ◌<◌, true, Bool, Some, List, length, slice_get, inl, inr}
use Rattle.std.proofs.lemmas.Option.{slice_get_within}
use Rattle.dl_instr.specs.declared.steps.Step.{Step}
use Rattle.dl_instr.specs.Drops.{IsReadFrom}
use Rattle.dl_live.specs.Marks.{IsLiveBy, AllLive, IsSettled, is_marked}

-- what is live by marks that tell what is live is live
pub live_by : (steps : List Step) (local at : ℕ) (marks : List Bool) (step : Step) → AllLive steps local marks → slice_get steps at ≡ Some step
    → IsLiveBy step local at marks → IsReadFrom steps local at
live_by steps local at marks step all there (inl read) = IsReadFrom.here {step = step} there read
live_by steps local at marks step all there (inr (unset, (next, on, is))) = IsReadFrom.later {step = step} there unset on (all next is)

-- a place before which the local is live is marked
pub all_marked : (steps : List Step) (local : ℕ) (marks : List Bool) → ((at : ℕ) → at < length steps → IsSettled steps local marks at)
    → (at : ℕ) → IsReadFrom steps local at → is_marked marks at ≡ true
all_marked steps local marks settled at (IsReadFrom.here {step = s} there read) = settled at (slice_get_within steps at s there) s there (inl read)
all_marked steps local marks settled at (IsReadFrom.later {next = n} {step = s} there unset on rest) =
    settled at (slice_get_within steps at s there) s there (inr (unset, (n, on, all_marked steps local marks settled n rest)))
