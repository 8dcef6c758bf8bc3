-- What each step owes to the table's rule, and what it tells.
use Rattle.std.specs.Prelude.{◌≡◌, ℕ, ◌+◌, ◌-◌, ◌<◌, ◌≤◌, ◌≢◌, [], slice_index, slice_set}
use mathlib.Core.Option.{some}
use lib.ListN.{get_elem?}
use Rattle.atomic_table.specs.Table.{State, Me, Step}
use Rattle.dl_pool.specs.declared.views.Part.{Part}
use Rattle.dl_pool.specs.declared.views.Member.{Member}
use Rattle.dl_pool.specs.declared.answers.Reserve.{Reserve}
use Rattle.dl_pool.specs.declared.answers.Reserve.TheVariants.{Got, NoRoom, Raced}
use Rattle.dl_pool.specs.declared.answers.Claim.{Claim}
use Rattle.dl_pool.specs.declared.answers.Claim.TheVariants.{Looked}
use Rattle.dl_pool.specs.declared.answers.Claim.TheVariants.{Got as ClaimGot}
use Rattle.dl_pool.specs.Rule.{version_of, free_of}
use Rattle.dl_pool.specs.Views.{member, loaded, refused, reserved, raced, gave_back, claimed, looked, vacated, note_part, dealt_part, dealing_on, learnt, joined, spent_part}

module _ {S X : Type 0} (holds : State S (Member X) → Type 0) (id : ℕ) where
  -- the rule is kept where the word i becomes f of what it was, and the view of the seat becomes w of that number
  abbrev pub Moves : ℕ → Member X → (ℕ → Type 0) → (ℕ → ℕ) → (ℕ → Member X) → Type 0
  Moves i v asked f w = (s : State S (Member X)) → holds s → get_elem? s.views id ≡ some v → slice_index s.words i < 18446744073709551616 → asked (slice_index s.words i)
      → holds record { words = slice_set s.words i (f (slice_index s.words i)); homes = s.homes; views = slice_set s.views id (w (slice_index s.words i)) }

  -- what the load owes
  pub record CanLook (need : ℕ) (denied : ℕ → ℕ → ℕ → X → X) (v : Member X) : Type 0 where
    pub refuses : Moves 0 v (λ n. free_of n < need) (λ n. n) (λ n. member (refused need n v.pool) (denied need (free_of n) (version_of n) v.rest))
    pub loads : Moves 0 v (λ n. need ≤ free_of n) (λ n. n) (λ n. member (loaded n v.pool) v.rest)

  -- what the exchange owes that expects the number n, which the seat has loaded
  pub record CanTake (need : ℕ) (got : ℕ → ℕ → X → X) (n : ℕ) (v : Member X) : Type 0 where
    pub makes : Moves 0 v (λ k. k ≡ n) (λ k. k + 16777216 - need) (λ k. member (reserved need k v.pool) (got need (version_of k + 1) v.rest))
    pub races : Moves 0 v (λ k. k ≢ n) (λ k. k) (λ k. member (raced k v.pool) v.rest)

  -- what a reservation owes
  pub record MayReserve (need : ℕ) (got : ℕ → ℕ → X → X) (denied : ℕ → ℕ → ℕ → X → X) (v : Member X) : Type 0 where
    pub looks : CanLook need denied v
    pub takes : (n : ℕ) → need ≤ free_of n → v.pool.known ≤ version_of n → CanTake need got n (member (loaded n v.pool) v.rest)

  -- what giving back owes
  pub record MayGive (count : ℕ) (back : ℕ → ℕ → X → X) (v : Member X) : Type 0 where
    pub gives : Moves 0 v (λ _. Unit {0}) (λ n. n + (16777216 + count)) (λ n. member (gave_back count n v.pool) (back count (version_of n + 1) v.rest))

  -- what a claim owes of the place whose state is the word i
  pub record MayClaim (i place mark : ℕ) (after : ℕ → X → X) (v : Member X) : Type 0 where
    pub claims : Moves i v (λ n. n ≡ 0) (λ _. mark) (λ _. member (claimed i v.pool) (after place v.rest))
    pub looks : Moves i v (λ n. n ≢ 0) (λ n. n) (λ n. member (looked i n v.pool) v.rest)

  -- what a vacation owes: by the rule and the seat's view the place is held by the seat's caller
  pub record MayVacate (i place : ℕ) (after : ℕ → X → X) (v : Member X) : Type 0 where
    pub holds_it : (s : State S (Member X)) → holds s → get_elem? s.views id ≡ some v → slice_index s.words i ≡ 1 + v.pool.number
    pub frees : Moves i v (λ n. n ≡ 1 + v.pool.number) (λ _. 0) (λ _. member (vacated i v.pool) (after place v.rest))

module _ {S X : Type 0} where
  -- a load of word 0 by `reserve`
  abbrev pub LookTells : ℕ → (ℕ → ℕ → ℕ → X → X) → Me S (Member X) → ℕ → Me S (Member X) → Type 0
  LookTells need denied m n m' =
      (m.0.pool.known ≤ version_of n) × (version_of n ≤ 8388608)
      × (free_of n < need → m' ≡ (member (refused need n m.0.pool) (denied need (free_of n) (version_of n) m.0.rest), m.1))
      × (need ≤ free_of n → m' ≡ (member (loaded n m.0.pool) m.0.rest, m.1))

  abbrev pub look_tells : ℕ → (ℕ → ℕ → ℕ → X → X) → Step S → Me S (Member X) → ℕ → Me S (Member X) → Type 0
  look_tells need denied st m n m' = LookTells need denied m n m'

  -- where the seat is a caller's, there are several callers
  abbrev pub IsOneOfSeveral : ℕ → Me S (Member X) → Type 0
  IsOneOfSeveral callers m = 0 < m.0.pool.number → callers ≢ 1

  -- an exchange of word 0 that expected n and found k, where there are so many callers
  abbrev pub TakeTells : ℕ → ℕ → (ℕ → ℕ → X → X) → ℕ → Me S (Member X) → ℕ → Me S (Member X) → Type 0
  TakeTells callers need got n m k m' =
      (k ≡ n → m' ≡ (member (reserved need n m.0.pool) (got need (version_of n + 1) m.0.rest), m.1))
      × (k ≢ n → IsOneOfSeveral callers m × (version_of n < version_of k) × (m' ≡ (member (raced k m.0.pool) m.0.rest, m.1)))

  abbrev pub take_tells : ℕ → ℕ → (ℕ → ℕ → X → X) → Step S → Me S (Member X) → ℕ → Me S (Member X) → Type 0
  take_tells callers need got st m k m' = TakeTells callers need got st.first m k m'

  -- an addition to word 0 that found n
  abbrev pub GiveTells : ℕ → (ℕ → ℕ → X → X) → Me S (Member X) → ℕ → Me S (Member X) → Type 0
  GiveTells count back m n m' =
      (m.0.pool.known ≤ version_of n) × (version_of n ≤ 8388608)
      × (m' ≡ (member (gave_back count n m.0.pool) (back count (version_of n + 1) m.0.rest), m.1))

  abbrev pub give_tells : ℕ → (ℕ → ℕ → X → X) → Step S → Me S (Member X) → ℕ → Me S (Member X) → Type 0
  give_tells count back st m n m' = GiveTells count back m n m'

  -- an exchange of the state of a place that found n
  abbrev pub ClaimTells : ℕ → ℕ → (ℕ → X → X) → Me S (Member X) → ℕ → Me S (Member X) → Type 0
  ClaimTells i place after m n m' =
      (n ≡ 0 → m' ≡ (member (claimed i m.0.pool) (after place m.0.rest), m.1))
      × (n ≢ 0 → m' ≡ (member (looked i n m.0.pool) m.0.rest, m.1))

  abbrev pub claim_tells : ℕ → ℕ → (ℕ → X → X) → Step S → Me S (Member X) → ℕ → Me S (Member X) → Type 0
  claim_tells i place after st m n m' = ClaimTells i place after m n m'

  -- a store of 0 to the state of a place
  abbrev pub VacateTells : ℕ → ℕ → (ℕ → X → X) → Me S (Member X) → Me S (Member X) → Type 0
  VacateTells i place after m m' = m' ≡ (member (vacated i m.0.pool) (after place m.0.rest), m.1)

  abbrev pub vacate_tells : ℕ → ℕ → (ℕ → X → X) → Step S → Me S (Member X) → ℕ → Me S (Member X) → Type 0
  vacate_tells i place after st m n m' = VacateTells i place after m m'

  -- what an answer of `reserve` tells of the views before and after, where there are so many callers
  abbrev pub ReserveAnswers : ℕ → ℕ → (ℕ → ℕ → X → X) → (ℕ → ℕ → ℕ → X → X) → Me S (Member X) → Reserve → Me S (Member X) → Type 0
  ReserveAnswers callers need got denied m (Got version) m' =
      (n : ℕ) × (need ≤ free_of n) × (version ≡ version_of n + 1) × (m.0.pool.known < version)
      × (m' ≡ (member (reserved need n (loaded n m.0.pool)) (got need version m.0.rest), m.1))
  ReserveAnswers callers need got denied m (NoRoom k found version) m' =
      (n : ℕ) × (k ≡ need) × (found ≡ free_of n) × (version ≡ version_of n) × (found < need) × (m.0.pool.known ≤ version)
      × (m' ≡ (member (refused need n m.0.pool) (denied need found version m.0.rest), m.1))
  ReserveAnswers callers need got denied m (Raced seen now) m' =
      (n : ℕ) × (k : ℕ) × (need ≤ free_of n) × (seen ≡ version_of n) × (now ≡ version_of k) × (seen < now) × IsOneOfSeveral callers m
      × (m' ≡ (member (raced k (loaded n m.0.pool)) m.0.rest, m.1))

  -- what `give_back` tells
  abbrev pub GiveAnswers : ℕ → (ℕ → ℕ → X → X) → Me S (Member X) → ℕ → Me S (Member X) → Type 0
  GiveAnswers count back m version m' =
      (n : ℕ) × (version ≡ version_of n + 1) × (m.0.pool.known < version)
      × (m' ≡ (member (gave_back count n m.0.pool) (back count version m.0.rest), m.1))

  -- what an answer of `claim` tells
  abbrev pub ClaimAnswers : ℕ → ℕ → (ℕ → X → X) → Me S (Member X) → Claim → Me S (Member X) → Type 0
  ClaimAnswers i place after m ClaimGot m' = m' ≡ (member (claimed i m.0.pool) (after place m.0.rest), m.1)
  ClaimAnswers i place after m Looked m' = (n : ℕ) × (n ≢ 0) × (m' ≡ (member (looked i n m.0.pool) m.0.rest, m.1))

module _ {X : Type 0} where
  -- the view of a note
  abbrev pub noting : (X → X) → Member X → Member X
  noting noted v = member (note_part v.pool) (noted v.rest)

  -- the views of the seat that deals out a number, and of the seat that is given it
  abbrev pub dealing_view : (ℕ → X → X) → Member X → Member X
  dealing_view keeps v = member (dealing_on v.pool) (keeps v.pool.dealing v.rest)

  abbrev pub dealt_view : (ℕ → X → X) → Member X → Member X
  dealt_view dealt v = member (dealt_part v.pool) (dealt v.pool.dealing v.rest)

  -- the views after a join
  abbrev pub learning : (X → X → X) → Member X → Member X → Member X
  learning f v u = member (learnt v.pool u.pool) (f v.rest u.rest)

  abbrev pub joining : (X → X → X) → Member X → Member X → Member X
  joining f v u = member (joined v.pool u.pool) (f v.rest u.rest)

  abbrev pub spent_view : X → Member X
  spent_view x = member spent_part x

-- a view that has no lists and no spares, as that of a note
pub record IsNote (p : Part) : Type 0 where
  pub unnumbered : p.number ≡ 0
  pub events : p.events ≡ []
  pub alone : p.others ≡ []
  pub spares : p.spares ≡ 0
