-- The pool rule. Word 0 is the version times 2^24, plus the number of free places; each place has a word for its state.
use Rattle.std.specs.Prelude.{◌≡◌, ◌≢◌, ℕ, zero, suc, ◌+◌, ◌*◌, ◌/◌, ◌%◌, ◌<◌, ◌≤◌, ◌⊎◌, List, [], ◌∷◌, cond, leb, eqb, ◌&&◌, length, slice_index, map}
use mathlib.Core.Option.{some}
use lib.ListN.{get_elem?}
use Rattle.atomic_table.specs.Table.{State}
use Rattle.dl_pool.specs.declared.views.Move.{Move}
use Rattle.dl_pool.specs.declared.views.Event.{Event}
use Rattle.dl_pool.specs.declared.views.Event.TheVariants.{Moved, Refused}
use Rattle.dl_pool.specs.declared.views.Account.{Account}
use Rattle.dl_pool.specs.declared.views.Seen.TheVariants.{Load}
use Rattle.dl_pool.specs.declared.views.Part.{Part}
use Rattle.dl_pool.specs.declared.views.Member.{Member}
use Rattle.dl_pool.specs.declared.views.Layout.{Layout}

-- the number of moves made so far, by word 0
abbrev pub version_of : ℕ → ℕ
version_of n = n / 16777216

-- the number of free places, by word 0
abbrev pub free_of : ℕ → ℕ
free_of n = n % 16777216

-- P holds of each member of the list
abbrev pub Every : {A : Type 0} → (A → Type 0) → List A → Type 0
Every P [] = Unit {0}
Every P (x ∷ xs) = P x × Every P xs

-- the lists of all the callers whose accounts a view keeps, its own first
abbrev pub accounts : Part → List Account
accounts p = record { number = p.number; events = p.events } ∷ p.others

-- the weights of the moves of a list, added up
abbrev pub weigh : (Move → ℕ) → List Event → ℕ
weigh f [] = 0
weigh f (Moved m ∷ es) = f m + weigh f es
weigh f (Refused r ∷ es) = weigh f es

-- the same over several accounts
abbrev pub weigh_each : (Move → ℕ) → List Account → ℕ
weigh_each f [] = 0
weigh_each f (a ∷ rest) = weigh f a.events + weigh_each f rest

-- the same over all views
abbrev pub total : (Move → ℕ) → List Part → ℕ
total f [] = 0
total f (p ∷ ps) = weigh_each f (accounts p) + total f ps

-- the spare places of all views
abbrev pub spare : List Part → ℕ
spare [] = 0
spare (p ∷ ps) = p.spares + spare ps

-- the pool's part of each view
abbrev pub part : {X : Type 0} → Member X → Part
part v = v.pool

abbrev pub parts : {X : Type 0} → List (Member X) → List Part
parts vs = map part vs

-- 1 at a move that made the version x
abbrev pub makes : ℕ → Move → ℕ
makes x m = cond (eqb m.version x) 1 0

-- 1 where x is one of the versions 1 to n
abbrev pub once_to : ℕ → ℕ → ℕ
once_to n x = cond (leb 1 x && leb x n) 1 0

-- what a move took
abbrev pub took : Move → ℕ
took m = m.taken

-- what a move gave back
abbrev pub gave : Move → ℕ
gave m = m.back

-- the weight of a move up to the version u, and 0 of a later one
abbrev pub up_to : (Move → ℕ) → ℕ → Move → ℕ
up_to f u m = cond (leb m.version u) (f m) 0

-- the version that a move made, or that a refusal found
abbrev pub version_at : Event → ℕ
version_at (Moved m) = m.version
version_at (Refused r) = r.version

-- an event and one that stands behind it: a move makes a later version, a refusal finds no earlier one
abbrev pub Later : Event → Event → Type 0
Later e (Moved m) = version_at e < m.version
Later e (Refused r) = version_at e ≤ r.version

-- the versions along a list
abbrev pub Rises : List Event → Type 0
Rises [] = Unit {0}
Rises (e ∷ es) = Every (Later e) es × Rises es

-- 1 where the word is 0, the state of a vacant place
abbrev pub one_if_vacant : ℕ → ℕ
one_if_vacant x = cond (eqb x 0) 1 0

-- how many of the first n places are vacant
abbrev pub vacant : List ℕ → ℕ → ℕ → ℕ → ℕ
vacant ws first step zero = 0
vacant ws first step (suc n) = one_if_vacant (slice_index ws (first + n * step)) + vacant ws first step n

-- how many places are vacant
abbrev pub vacant_in : Layout → List ℕ → ℕ
vacant_in l ws = vacant ws l.first l.step l.places

-- the word that has the state of a place
abbrev pub word_of : Layout → ℕ → ℕ
word_of l place = l.first + place * l.step

-- the states are words of their own, behind word 0
pub record IsLaidOut (l : Layout) (ws : List ℕ) : Type 0 where
  pub pool : 0 < length ws
  pub first : 0 < l.first
  pub step : 0 < l.step
  pub most : l.places ≤ 65536
  pub states : (p : ℕ) → p < l.places → word_of l p < length ws

module _ (opening : ℕ) (ps : List Part) where
  -- n was the number of free places at the version u
  abbrev pub WasFree : ℕ → ℕ → Type 0
  WasFree u n = n + total (up_to took u) ps ≡ opening + total (up_to gave u) ps

  -- a move takes or gives back; what a refusal found was too little, and was the number of free places at its version
  abbrev pub Says : Event → Type 0
  Says (Moved m) = (m.taken ≡ 0) ⊎ (m.back ≡ 0)
  Says (Refused r) = (r.found < r.need) × WasFree r.version r.found

  -- a list rises, and a view that has it knows each of its versions
  abbrev pub FitsList : ℕ → Account → Type 0
  FitsList known a = Rises a.events × Every (λ e. (version_at e ≤ known) × Says e) a.events

  -- what a view says of the pool is so, where `now` is the present version
  abbrev pub Fits : ℕ → Part → Type 0
  Fits now p =
      (p.known ≤ now)
      × ((w n : ℕ) → p.look.last ≡ Load w n → w ≡ 0 → (version_of n ≤ now) × WasFree (version_of n) (free_of n))
      × Every (FitsList p.known) (accounts p)

-- no two of the accounts have one number
abbrev pub AreApart : List Account → Type 0
AreApart [] = Unit {0}
AreApart (a ∷ rest) = Every (λ b. 0 < a.number → a.number ≢ b.number) rest × AreApart rest

-- the seat j keeps the number of the account; without a number there is no list
abbrev pub OwnsOne : (ℕ → ℕ) → ℕ → Account → Type 0
OwnsOne owner j a = (0 < a.number → owner a.number ≡ j) × (a.number ≡ 0 → a.events ≡ [])

-- the numbers that the seat j may still deal out are its own, and above those of its accounts
abbrev pub OwnsDeals : (ℕ → ℕ) → ℕ → Part → Type 0
OwnsDeals owner j p = 0 < p.dealing → ((c : ℕ) → p.dealing ≤ c → owner c ≡ j) × Every (λ a. a.number < p.dealing) (accounts p)

-- no number is above that of the last caller
abbrev pub FitsCallers : ℕ → Part → Type 0
FitsCallers callers p = Every (λ a. a.number ≤ callers) (accounts p) × (p.dealing ≤ callers + 1)

-- the seat j keeps the numbers of its accounts and those that it may deal out
abbrev pub Owns : ℕ → (ℕ → ℕ) → ℕ → Part → Type 0
Owns callers owner j p = Every (OwnsOne owner j) (accounts p) × AreApart (accounts p) × OwnsDeals owner j p × FitsCallers callers p

-- the rule, by the words and the pool's parts of all views: so many places were free at first, and there are so many callers
pub record Kept (opening callers : ℕ) (l : Layout) (ws : List ℕ) (ps : List Part) : Type 0 where
  pub laid : IsLaidOut l ws
  -- the versions 1 to the present one are made once each
  pub once : (x : ℕ) → total (makes x) ps ≡ once_to (version_of (slice_index ws 0)) x
  -- the free places are those at first, and all changes
  pub free : free_of (slice_index ws 0) + total took ps ≡ opening + total gave ps
  -- at each version so far some number of places was free: never was more taken than there was
  pub never_short : (u : ℕ) → u ≤ version_of (slice_index ws 0) → (n : ℕ) × WasFree opening ps u n
  -- how far versions go
  pub bounded : version_of (slice_index ws 0) ≤ 8388608
  -- the vacant places are free, or spares of a seat
  pub states : vacant_in l ws ≡ free_of (slice_index ws 0) + spare ps
  -- what each view says of the pool is so
  pub fits : (j : ℕ) (p : Part) → get_elem? ps j ≡ some p → Fits opening ps (version_of (slice_index ws 0)) p
  -- each number is kept by one seat
  pub owner : ℕ → ℕ
  pub owned : (j : ℕ) (p : Part) → get_elem? ps j ≡ some p → Owns callers owner j p

abbrev pub PoolKept : {S X : Type 0} → ℕ → ℕ → Layout → State S (Member X) → Type 0
PoolKept opening callers l s = Kept opening callers l s.words (parts s.views)
