-- How far the numbers of a run can rise.
use Rattle.std.proofs.Common.{◌≡◌, ◌⊎◌, inl, inr, ℕ, zero, suc, ◌+◌, ◌<◌, ◌≤◌, ◌^◌, true, false, cond, List, [], ◌∷◌, length, get_or, sym, subst, ◌∙◌, arith}
use Rattle.std.specs.Prelude.{All, AllPairs, nat_lt}
use Rattle.std.proofs.lemmas.List.{get_or_past}
use Rattle.std.proofs.lemmas.List.Sums.{sum_by-le}
use Rattle.std.proofs.lemmas.Option.{slice_get-get_or}
use Rattle.dl_core.specs.declared.stages.Finished.{Finished}
use Rattle.dl_core.specs.Core.{Core, Account, frame_of}
use Rattle.dl_core.specs.Frames.{Frame, idle}
use Rattle.dl_core.specs.Laws.{IsKept}
use Rattle.dl_core.specs.Lawful.{one_if_entered, one_if_reserved}
use Rattle.dl_core.specs.Plans.{Plan, IsPlan}
use Rattle.dl_core.specs.Reached.{Calls, calls_of}
use Rattle.dl_core.proofs.Names.{same_some}

-- numbers that rise, above one and up to another, are few
rising_few : (kept : List Finished) (low high : ℕ) → low ≤ high → All (λ (k : Finished). (low < k.index) × (k.index ≤ high)) kept → AllPairs (λ (a b : Finished). a.index < b.index) kept → length kept + low ≤ high
rising_few [] low high within all rises = omega (arith, within)
rising_few (first ∷ rest) low high within all rises =
    let one = all 0 first (omega arith) in
    let more = rising_few rest first.index high one.1 (λ k d less. (rises 0 (suc k) d (omega arith) (omega (arith, less)), (all (suc k) d (omega (arith, less))).1)) (λ i j d a b. rises (suc i) (suc j) d (omega (arith, a)) (omega (arith, b))) in
    omega (arith, more, one.0)

one_entered : (frame : Frame) → one_if_entered frame ≤ 1
one_entered frame = elim (nat_lt 0 frame.ticket) as (λ b. cond b 1 0 ≤ 1) [ true ↦ omega arith | false ↦ omega arith ]

one_reserved : (account : Account) → one_if_reserved account ≤ 1
one_reserved account = elim (nat_lt 0 account.reserved_at) as (λ b. cond b 1 0 ≤ 1) [ true ↦ omega arith | false ↦ omega arith ]

module _ (plan : Plan) (core : Core) (calls : Calls) (is : IsPlan plan) (all : IsKept plan core calls) where
  -- each caller has begun few calls
  pub begun_few : (caller : ℕ) → length (calls_of calls caller) ≤ 65536
  begun_few zero = omega arith
  begun_few (suc place) = by (caller_or place)
    where
      caller_or : (at : ℕ) → (at < length plan.sizes) ⊎ (length plan.sizes ≤ at)
      caller_or at = grind arith

      by : (place < length plan.sizes) ⊎ (length plan.sizes ≤ place) → length (get_or calls place []) ≤ 65536
      by (inl within) = omega (arith, all.lawful.totals.sizes (suc place) (record { from_one = omega arith; to_last = omega (arith, within) }), is.few_calls place 0 within)
      by (inr past) = subst (λ (l : List _). length l ≤ 65536) (sym (get_or_past calls place [] (omega (arith, past, all.sound.lists)))) (omega arith)

  -- and finished few
  pub finished_few : (caller : ℕ) → length (frame_of core.world caller).finished ≤ 65536
  finished_few caller =
      let history = (all.sound.each caller).history in
      omega (arith, rising_few (frame_of core.world caller).finished 0 (frame_of core.world caller).index (omega arith) history.in_range history.rises, history.begun, begun_few caller)

  same_at : (k : ℕ) (d : Frame) → k < length core.world.frames → frame_of core.world k ≡ get_or core.world.frames k d
  same_at k d less = same_some (sym (slice_get-get_or core.world.frames k idle less) ∙ slice_get-get_or core.world.frames k d less)

  frames_few : length core.world.frames ≤ 65
  frames_few = omega (arith, all.sound.frames, is.few_callers)

  -- the clock does not come to its type's end
  pub clock_fits : core.clock + 1 < 2 ^ 64
  clock_fits =
      let each : All (λ (frame : Frame). length frame.finished + one_if_entered frame ≤ 65537) core.world.frames =
      λ k d less. subst (λ (f : Frame). length f.finished + one_if_entered f ≤ 65537) (same_at k d less) (omega (arith, finished_few k, one_entered (frame_of core.world k))) in
      let sum = sum_by-le (λ (frame : Frame). length frame.finished + one_if_entered frame) 65537 core.world.frames each in
      omega (arith, all.lawful.totals.clock, is.start.startable.low_tickets, sum, frames_few)

  -- nor does the version
  pub version_fits : core.pool.version + 1 < 2 ^ 64
  version_fits =
      let each : All (λ (frame : Frame). length frame.finished ≤ 65536) core.world.frames =
      λ k d less. subst (λ (f : Frame). length f.finished ≤ 65536) (same_at k d less) (finished_few k) in
      let sum = sum_by-le (λ (frame : Frame). length frame.finished) 65536 core.world.frames each in
      let reserved = sum_by-le one_if_reserved 1 core.pool.accounts (λ k d less. one_reserved (get_or core.pool.accounts k d)) in
      omega (arith, all.lawful.totals.version, sum, reserved, frames_few, all.sound.accounts, is.few_callers)
