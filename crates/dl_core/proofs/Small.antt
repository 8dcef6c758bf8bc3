-- How far the clock, the pool's version and numbers of places go.
use Rattle.std.proofs.Common.{◌≡◌, ◌≢◌, ◌⊎◌, inl, inr, ℕ, zero, suc, ◌+◌, ◌-◌, ◌*◌, ◌<◌, ◌≤◌, true, false, List, [], ◌∷◌, length, get_or, refl, sym, ap, ◌∙◌, arith}
use Rattle.std.specs.Prelude.{◌==◌, All, sum_by, nat_lt, if◌then◌else◌}
use Rattle.std.proofs.lemmas.Bool.{cases_lt}
use Rattle.std.proofs.lemmas.Bool.Decides.{nat_tests}
use Rattle.std.proofs.Math.Nat.{suc-mul}
use Rattle.std.proofs.lemmas.List.{get_or_past}
use Rattle.std.proofs.lemmas.List.Sums.{sum_by-cons, get_or-le-sum_by}
use Rattle.dl_ir.specs.declared.answers.End.{End}
use Rattle.dl_shape.specs.Replay.{greatest_ticket}
use Rattle.dl_core.specs.declared.stages.Finished.{Finished}
use Rattle.dl_core.specs.declared.stages.Stage.{Stage}
use Rattle.dl_core.specs.declared.stages.Stage.TheVariants as stages
use Rattle.dl_core.specs.Plans.{Plan, IsPlan}
use Rattle.dl_core.specs.Frames.{Frame, IsEntered, idle}
use Rattle.dl_core.specs.Core.{Account, Core, no_account, frame_of, account_of}
use Rattle.dl_core.specs.Reached.{Calls, calls_of}
use Rattle.dl_core.specs.Lawful.{one_if_entered, one_if_reserved}
use Rattle.dl_core.specs.Sound.{Stands, idles, waits, works, HasHistory, in_hand_at}
use Rattle.dl_core.specs.Laws.{IsKept}
use Rattle.dl_core.proofs.FinishKeeps.{not_counted}
use Rattle.dl_core.proofs.Elements.{Each, Up, all_each, pairs_up}

-- ---- sums over lists

-- of two lists of one length, what each place has of both
bounded : {A B : Type 0} (f : A → ℕ) (g : B → ℕ) (a : A) (b : B) (most : ℕ) (xs : List A) (ys : List B) → length xs ≡ length ys → ((at : ℕ) → f (get_or xs at a) + g (get_or ys at b) ≤ most)
    → sum_by f xs + sum_by g ys ≤ length xs * most
bounded f g a b most [] [] same each = omega arith
bounded f g a b most [] (y ∷ ys) same each = absurd (omega (arith, same))
bounded f g a b most (x ∷ xs) [] same each = absurd (omega (arith, same))
bounded f g a b most (x ∷ xs) (y ∷ ys) same each =
    let rest = bounded f g a b most xs ys (omega (arith, same)) (λ at. each (suc at)) in
    omega (arith, rest, each 0, suc-mul (length xs) most, sum_by-cons f x xs, sum_by-cons g y ys)

-- and where nobody has the first place, it need not be counted
bounded_callers : {A B : Type 0} (f : A → ℕ) (g : B → ℕ) (a : A) (b : B) (most : ℕ) (xs : List A) (ys : List B) → length xs ≡ length ys → f (get_or xs 0 a) + g (get_or ys 0 b) ≡ 0
    → ((at : ℕ) → f (get_or xs at a) + g (get_or ys at b) ≤ most) → sum_by f xs + sum_by g ys ≤ (length xs - 1) * most
bounded_callers f g a b most [] [] same none_first each = omega arith
bounded_callers f g a b most [] (y ∷ ys) same none_first each = absurd (omega (arith, same))
bounded_callers f g a b most (x ∷ xs) [] same none_first each = absurd (omega (arith, same))
bounded_callers f g a b most (x ∷ xs) (y ∷ ys) same none_first each =
    let rest = bounded f g a b most xs ys (omega (arith, same)) (λ at. each (suc at)) in
    let long : length (x ∷ xs) - 1 ≡ length xs = omega arith in
    omega (arith, rest, none_first, ap (λ n. n * most) long, sum_by-cons f x xs, sum_by-cons g y ys)

-- numbers that rise, each above one and none above another, are no more than lie between
few_between : (low high : ℕ) (kept : List Finished) → Up (λ (k : Finished). k.index) kept → Each (λ (k : Finished). (low < k.index) × (k.index ≤ high)) kept → low ≤ high → length kept + low ≤ high
few_between low high [] up each le = omega (arith, le)
few_between low high (k ∷ rest) up each le =
    let more = few_between k.index high rest up.1 (both rest up.0 each.1) each.0.1 in
    omega (arith, more, each.0.0)
  where
    both : (ks : List Finished) → Each (λ (x : Finished). k.index < x.index) ks → Each (λ (x : Finished). (low < x.index) × (x.index ≤ high)) ks → Each (λ (x : Finished). (k.index < x.index) × (x.index ≤ high)) ks
    both [] above within = tt
    both (x ∷ ks) above within = ((above.0, within.0.1), both ks above.1 within.1)

module _ (plan : Plan) (core : Core) (calls : Calls) (is : IsPlan plan) (kept : IsKept plan core calls) where
  module _ (caller : ℕ) where
    abbrev frame : Frame
    frame = frame_of core.world caller

    abbrev account : Account
    account = account_of core caller

    history : HasHistory plan core calls caller
    history = (kept.sound.each caller).history

    -- no more is finished than was begun
    finished_few : length frame.finished ≤ frame.index
    finished_few =
        let n = few_between 0 frame.index frame.finished (pairs_up (λ (k : Finished). k.index) frame.finished history.rises) (all_each (λ (k : Finished). (0 < k.index) × (k.index ≤ frame.index)) frame.finished history.in_range) (omega arith) in
        omega (arith, n)

    -- what is in hand is not finished
    busy_few : 0 < frame.index → in_hand_at frame frame.index frame.stage ≡ 1 → length frame.finished < frame.index
    busy_few some busy =
        let n = few_between 0 (frame.index - 1) frame.finished (pairs_up (λ (k : Finished). k.index) frame.finished history.rises)
        (below frame.finished (all_each (λ (k : Finished). (0 < k.index) × (k.index ≤ frame.index)) frame.finished history.in_range) (all_each (λ (k : Finished). k.index ≢ frame.index) frame.finished none_now)) (omega arith) in
        omega (arith, n, some)
      where
        alone : (a b c : ℕ) → a + b + c ≡ 1 → c ≡ 1 → a ≡ 0
        alone a b c s one = omega (arith, s, one)

        none_now : All (λ (k : Finished). k.index ≢ frame.index) frame.finished
        none_now = not_counted caller frame.index frame.finished account.versions (sym history.versions) (alone _ _ _ (history.each_once frame.index some (omega arith)) busy)

        lower : (a b : ℕ) → a ≤ b → a ≢ b → a ≤ b - 1
        lower a b le other = grind (arith, le, other)

        below : (ks : List Finished) → Each (λ (k : Finished). (0 < k.index) × (k.index ≤ frame.index)) ks → Each (λ (k : Finished). k.index ≢ frame.index) ks → Each (λ (k : Finished). (0 < k.index) × (k.index ≤ frame.index - 1)) ks
        below [] each other = tt
        below (k ∷ ks) each other = ((each.0.0, lower k.index frame.index each.0.1 other.0), below ks each.1 other.1)

    -- as a call in hand is
    in_hand : frame.stage ≢ stages.Idle → (0 < frame.index) × (in_hand_at frame frame.index frame.stage ≡ 1)
    in_hand busy = by (kept.sound.each caller).stands
      where
        itself : ◌≡◌ {A = ℕ} (if frame.index == frame.index then 1 else 0) 1
        itself = let t : (frame.index == frame.index) ≡ true = grind (arith, nat_tests) in ap {B = ℕ} (λ b. if b then 1 else 0) t

        one : (stage : Stage) → stage ≢ stages.Idle → in_hand_at frame frame.index stage ≡ 1
        one stages.Idle other = absurd (other refl)
        one stages.Called other = itself
        one stages.Running other = itself
        one (stages.Ended end) other = itself

        by : Stands plan core.world.heap calls caller frame → (0 < frame.index) × (in_hand_at frame frame.index frame.stage ≡ 1)
        by (idles e) = absurd (busy (ap (λ (f : Frame). f.stage) e))
        by (waits call w) = (call.from_one, one frame.stage busy)
        by (works call e w) = (call.from_one, one frame.stage busy)

    abbrev is_busy : Type 0
    is_busy = length frame.finished < frame.index

    busy_when : frame.stage ≢ stages.Idle → is_busy
    busy_when busy = let h = in_hand busy in busy_few h.0 h.1

    -- who has entered has a call in hand
    entered_busy : IsEntered frame → is_busy
    entered_busy some = busy_when (λ idle_now. by idle_now (kept.sound.each caller).stands)
      where
        running_not : (s : Stage) → s ≡ stages.Idle → (s ≡ stages.Running) ⊎ ((end : End) × (s ≡ stages.Ended end)) → ⊥
        running_not s p (inl q) = let e : stages.Idle ≡ stages.Running = sym p ∙ q in cc
        running_not s p (inr q) = let e : stages.Idle ≡ stages.Ended q.0 = sym p ∙ q.1 in cc

        by : frame.stage ≡ stages.Idle → Stands plan core.world.heap calls caller frame → ⊥
        by idle_now (idles e) = omega (arith, some, ap (λ (f : Frame). f.ticket) e)
        by idle_now (waits call w) = omega (arith, some, ap (λ (f : Frame). f.ticket) w.is)
        by idle_now (works call e w) = running_not frame.stage idle_now w.stage

    -- and who has a reservation
    reserved_busy : 0 < account.reserved_at → is_busy
    reserved_busy some = by (kept.sound.each caller).stands
      where
        by : Stands plan core.world.heap calls caller frame → is_busy
        by (idles e) = absurd (let places = (history.reserved (ap (λ (f : Frame). f.ticket) e)).0 some in omega (arith, places, ap (λ (f : Frame). f.spares) e))
        by (waits call w) = busy_when (λ idle_now. let f : stages.Called ≡ stages.Idle = sym (ap (λ (f : Frame). f.stage) w.is) ∙ idle_now in cc)
        by (works call e w) = entered_busy e

    entered_count : length frame.finished + one_if_entered frame ≤ frame.index
    entered_count = elim (cases_lt 0 frame.ticket) [
      | inl some ↦
          let t : nat_lt 0 frame.ticket ≡ true = grind (arith, nat_tests, some) in
          let n : ◌≡◌ {A = ℕ} (one_if_entered frame) 1 = ap {B = ℕ} (λ b. if b then 1 else 0) t in
          let busy = entered_busy some in
          omega (arith, n, busy)
      | inr nothing ↦
          let t : nat_lt 0 frame.ticket ≡ false = grind (arith, nat_tests, nothing) in
          let n : ◌≡◌ {A = ℕ} (one_if_entered frame) 0 = ap {B = ℕ} (λ b. if b then 1 else 0) t in
          omega (arith, n, finished_few)
    ]

    moves_count : 2 * length frame.finished + one_if_reserved account ≤ 2 * frame.index
    moves_count = elim (cases_lt 0 account.reserved_at) [
      | inl some ↦
          let t : nat_lt 0 account.reserved_at ≡ true = grind (arith, nat_tests, some) in
          let n : ◌≡◌ {A = ℕ} (one_if_reserved account) 1 = ap {B = ℕ} (λ b. if b then 1 else 0) t in
          let busy = reserved_busy some in
          omega (arith, n, busy)
      | inr nothing ↦
          let t : nat_lt 0 account.reserved_at ≡ false = grind (arith, nat_tests, nothing) in
          let n : ◌≡◌ {A = ℕ} (one_if_reserved account) 0 = ap {B = ℕ} (λ b. if b then 1 else 0) t in
          omega (arith, n, finished_few)
    ]

  -- a caller begins no more calls than its size
  pub index_few : (caller : ℕ) → (frame_of core.world caller).index ≤ 65536
  index_few zero = let begun = (kept.sound.each 0).history.begun in omega (arith, begun)
  index_few (suc at) = elim (cases_lt at (length plan.sizes)) [
    | inl within ↦
        let begun = (kept.sound.each (suc at)).history.begun in
        let fits = kept.lawful.totals.sizes (suc at) (record { from_one = omega arith; to_last = omega (arith, within) }) in
        omega (arith, begun, fits, is.few_calls at 0 within)
    | inr past ↦
        let begun = (kept.sound.each (suc at)).history.begun in
        let nothing : calls_of calls (suc at) ≡ [] = get_or_past calls at [] (omega (arith, past, kept.sound.lists)) in
        omega (arith, begun, ap (λ cs. length cs) nothing)
  ]

  none_first : (frame_of core.world 0).index ≡ 0
  none_first = (kept.sound.each 0).history.begun

  pub entered_few : core.clock ≤ greatest_ticket plan.heap + 4194304
  entered_few =
      let f : Frame → ℕ = λ frame. length frame.finished + one_if_entered frame in
      let most = bounded_callers f (λ (frame : Frame). 0) idle idle 65536 core.world.frames core.world.frames refl
      (let first = entered_count 0 in omega (arith, first, none_first)) (λ at. let one = entered_count at in omega (arith, one, index_few at)) in
      omega (arith, kept.lawful.totals.clock, most, kept.sound.frames, is.few_callers)

  pub version_few : core.pool.version ≤ 8388608
  version_few =
      let most = bounded_callers (λ (frame : Frame). 2 * length frame.finished) one_if_reserved idle no_account 131072 core.world.frames core.pool.accounts (kept.sound.frames ∙ sym kept.sound.accounts)
      (let first = moves_count 0 in omega (arith, first, none_first)) (λ at. let one = moves_count at in omega (arith, one, index_few at)) in
      omega (arith, kept.lawful.totals.version, most, twice core.world.frames, kept.sound.frames, is.few_callers)
    where
      twice : (frames : List Frame) → sum_by (λ (frame : Frame). 2 * length frame.finished) frames ≡ 2 * sum_by (λ (frame : Frame). length frame.finished) frames
      twice [] = refl
      twice (f ∷ frames) = omega (arith, twice frames, sum_by-cons (λ (frame : Frame). 2 * length frame.finished) f frames, sum_by-cons (λ (frame : Frame). length frame.finished) f frames)

  pub free_few : core.pool.free ≤ plan.places
  free_few = omega (arith, kept.lawful.totals.places)

  pub spares_few : (caller : ℕ) → (frame_of core.world caller).spares ≤ plan.places
  spares_few caller = elim (cases_lt caller (length core.world.frames)) [
    | inl lt ↦ let one = get_or-le-sum_by (λ (frame : Frame). frame.spares) core.world.frames caller idle lt in omega (arith, kept.lawful.totals.places, one)
    | inr past ↦ let none_there = ap (λ (f : Frame). f.spares) (get_or_past core.world.frames caller idle past) in omega (arith, none_there)
  ]
