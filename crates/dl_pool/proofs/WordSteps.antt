-- The pool rule is kept by each kind of step on the pool word, whatever the rest of the view becomes.
use Rattle.std.proofs.Common.{◌≡◌, ℕ, ◌+◌, ◌-◌, ◌<◌, ◌≤◌, ◌⊎◌, inl, inr, List, get_or, set, sym, refl, ap, ◌∙◌, subst, arith, get_or-set_same, length-set}
use mathlib.Core.Option.{Option, some}
use lib.ListN.{get_elem?}
use lib.Seq.{map-set}
use Rattle.atomic_table.specs.Table.{State}
use Rattle.atomic_table.proofs.Lists.{at_map}
use Rattle.dl_pool.specs.declared.views.Move.{Move}
use Rattle.dl_pool.specs.declared.views.Event.{Event}
use Rattle.dl_pool.specs.declared.views.Event.TheVariants.{Moved, Refused}
use Rattle.dl_pool.specs.declared.views.Account.{Account}
use Rattle.dl_pool.specs.declared.views.Seen.{Seen}
use Rattle.dl_pool.specs.declared.views.Seen.TheVariants.{Load}
use Rattle.dl_pool.specs.declared.views.Part.{Part}
use Rattle.dl_pool.specs.declared.views.Member.{Member}
use Rattle.dl_pool.specs.declared.views.Layout.{Layout}
use Rattle.dl_pool.specs.Rule.{version_of, free_of, part, parts, spare, accounts, Every, Later, version_at, WasFree, Says, FitsList, Fits, Owns, Kept, PoolKept}
use Rattle.dl_pool.specs.Views.{member, stepping, writing, loaded, refused, reserved, raced, gave_back}
use Rattle.dl_pool.proofs.Lists.{every_map, every_snoc, rises_snoc}
use Rattle.dl_pool.proofs.Weights.{held, weigh_move, weigh_refusal, spare_in, now_free}
use Rattle.dl_pool.proofs.Moving.{fits_on, stayed, moved}
use Rattle.dl_pool.proofs.Vacant.{vacant_pool, vacant_most}

-- a list fits a view that knows more
pub list_up : (opening : ℕ) (ps : List Part) (known more : ℕ) → known ≤ more → (a : Account) → FitsList opening ps known a → FitsList opening ps more a
list_up opening ps known more le a h =
    (h.0, every_map (λ e. (version_at e ≤ known) × Says opening ps e) (λ e. (version_at e ≤ more) × Says opening ps e) (λ e t. let below = t.0 in (omega arith, t.1)) a.events h.1)

-- the lists of a view with one more event
pub writes_fit : (opening : ℕ) (ps : List Part) (p : Part) (e : Event) → ((x : Event) → version_at x ≤ p.known → Later x e) → p.known ≤ version_at e → Says opening ps e
    → Every (FitsList opening ps p.known) (accounts p) → Every (FitsList opening ps (version_at e)) (accounts (writing e p))
writes_fit opening ps p e later le says h = let mine = h.0 in (
  (
    rises_snoc p.events e mine.0 (every_map (λ x. (version_at x ≤ p.known) × Says opening ps x) (λ x. Later x e) (λ x t. later x t.0) p.events mine.1),
    every_snoc (λ x. (version_at x ≤ version_at e) × Says opening ps x) p.events e (list_up opening ps p.known (version_at e) le record { number = p.number; events = p.events } mine).1 (omega arith, says),
  ),
  every_map (FitsList opening ps p.known) (FitsList opening ps (version_at e)) (list_up opening ps p.known (version_at e) le) p.others h.1,
)

-- a caller's seat keeps its numbers when it writes an event down
pub writes_own : (callers : ℕ) (owner : ℕ → ℕ) (id : ℕ) (p : Part) (e : Event) → 0 < p.number → Owns callers owner id p → Owns callers owner id (writing e p)
writes_own callers owner id p e caller h = (((h.0.0.0, λ z. absurd (omega arith)), h.0.1), h.1, h.2, h.3)

load_is : (w n k : ℕ) → Load 0 k ≡ Load w n → n ≡ k
load_is w n k e = cc

-- free places and spares are at most as many as places
pub few_places : (opening callers : ℕ) (l : Layout) (ws : List ℕ) (ps : List Part) → Kept opening callers l ws ps → free_of (get_or ws 0 0) + spare ps ≤ 65536
few_places opening callers l ws ps k = let a = k.states in let b = vacant_most ws l.first l.step l.places in let c = k.laid.most in omega arith

module _ {S X : Type 0} (opening callers : ℕ) (l : Layout) (s : State S (Member X)) (homes : List (Option S)) (id : ℕ) (v : Member X) (rest : X) (kept : PoolKept opening callers l s) (at : get_elem? s.views id ≡ some v) where
  abbrev ps : List Part
  ps = parts s.views

  abbrev n : ℕ
  n = get_or s.words 0 0

  -- the state after a step of the seat
  abbrev pub after : List ℕ → Part → State S (Member X)
  after ws p = record { words = ws; homes = homes; views = set s.views id (member p rest) }

  pub placed : (ws : List ℕ) (p : Part) → Kept opening callers l ws (set ps id p) → PoolKept opening callers l (after ws p)
  placed ws p h = subst (λ (qs : List Part). Kept opening callers l ws qs) (sym (map-set part s.views id (member p rest))) h

  pub mine : get_elem? ps id ≡ some v.pool
  mine = at_map part s.views id v at

  word_after : (k : ℕ) → get_or (set s.words 0 k) 0 0 ≡ k
  word_after k = get_or-set_same s.words 0 k 0 kept.laid.pool

  free_now : WasFree opening ps (version_of n) (free_of n)
  free_now = now_free opening callers l s.words ps kept

  -- a load of word 0 that found n tells what was free
  found_now : (later : ℕ) → version_of n ≤ later → (w k : ℕ) → Load 0 n ≡ Load w k → w ≡ 0 → (version_of k ≤ later) × WasFree opening ps (version_of k) (free_of k)
  found_now later le w k e _ = let is : k ≡ n = load_is w k n e in subst (λ (z : ℕ). (version_of z ≤ later) × WasFree opening ps (version_of z) (free_of z)) (sym is) (le, free_now)

  -- the word 0 is written as it was, and the view changes without a move
  unmoved : (q : Part) → q.spares ≡ v.pool.spares → ((f : Move → ℕ) → held f q ≡ held f v.pool) → Fits opening ps (version_of n) q → ((owner : ℕ → ℕ) → Owns callers owner id v.pool → Owns callers owner id q) → PoolKept opening callers l (after (set s.words 0 n) q)
  unmoved q spares same fit own = placed (set s.words 0 n) q (stayed opening callers l s.words (set s.words 0 n) ps id v.pool q mine (length-set s.words 0 n) (word_after n)
      (let a = vacant_pool l s.words n kept.laid in omega arith) same fit own kept)

  pub loaded_kept : PoolKept opening callers l (after (set s.words 0 n) (loaded n v.pool))
  loaded_kept = let f = kept.fits id v.pool mine in unmoved (loaded n v.pool) refl (λ f. refl) (f.0, found_now (version_of n) (omega arith), f.2) (λ owner h. h)

  pub refused_kept : (need : ℕ) → 0 < v.pool.number → free_of n < need → PoolKept opening callers l (after (set s.words 0 n) (refused need n v.pool))
  refused_kept need caller few =
      let f = kept.fits id v.pool mine in
      let known = f.0 in
      let e : Event = Refused record { need = need; found = free_of n; version = version_of n } in
      unmoved (refused need n v.pool) refl (λ f. let a = weigh_refusal f v.pool.events record { need = need; found = free_of n; version = version_of n } in omega arith)
      (omega arith, found_now (version_of n) (omega arith), writes_fit opening ps v.pool e (λ x le. omega arith) (omega arith) (few, free_now) f.2)
      (λ owner h. writes_own callers owner id v.pool e caller h)

  pub raced_kept : PoolKept opening callers l (after (set s.words 0 n) (raced n v.pool))
  raced_kept = let f = kept.fits id v.pool mine in unmoved (raced n v.pool) refl (λ f. refl) (f.0, (λ w k e _. let no : ⊥ = cc e in absurd no), f.2) (λ owner h. h)

  -- the seat makes a move
  moves : (k spares : ℕ) (m : Move) (seen : Seen) → 0 < v.pool.number → m.version ≡ version_of n + 1 → version_of k ≡ version_of n + 1 → version_of n < 8388608
      → (m.taken ≡ 0) ⊎ (m.back ≡ 0) → free_of k + m.taken ≡ free_of n + m.back → spares + m.back ≡ v.pool.spares + m.taken → ((w x : ℕ) → seen ≡ Load w x → ⊥)
      → PoolKept opening callers l (after (set s.words 0 k) (record (stepping seen (writing (Moved m) v.pool)) { spares = spares }))
  moves k spares m seen caller next ver more either free enough look =
      let q : Part = record (stepping seen (writing (Moved m) v.pool)) { spares = spares } in
      let known = (kept.fits id v.pool mine).0 in
      let is : get_or (set s.words 0 k) 0 0 ≡ k = word_after k in
      let version : version_of (get_or (set s.words 0 k) 0 0) ≡ version_of n + 1 = ap version_of is ∙ ver in
      let left : free_of (get_or (set s.words 0 k) 0 0) ≡ free_of k = ap free_of is in
      placed (set s.words 0 k) q (moved opening callers l s.words (set s.words 0 k) ps id v.pool q m mine (length-set s.words 0 k) next version (omega arith) (omega arith) enough
      (vacant_pool l s.words k kept.laid)
      (λ f. let a = weigh_move f v.pool.events m in omega arith)
      (λ qs stays. let f = fits_on opening ps qs (version_of n) (version_of n) v.pool stays (omega arith) (kept.fits id v.pool mine) in
      (omega arith, (λ w x e _. absurd (look w x e)), writes_fit opening qs v.pool (Moved m) (λ x le. omega arith) (omega arith) either f.2))
      (λ owner h. writes_own callers owner id v.pool (Moved m) caller h) kept)

  pub reserved_kept : (need : ℕ) → 0 < v.pool.number → need ≤ free_of n → version_of n < 8388608 → PoolKept opening callers l (after (set s.words 0 (n + 16777216 - need)) (reserved need n v.pool))
  reserved_kept need caller room more =
      let next : version_of (n + 16777216 - need) ≡ version_of n + 1 = omega arith in
      let free : free_of (n + 16777216 - need) + need ≡ free_of n + 0 = omega arith in
      moves (n + 16777216 - need) (v.pool.spares + need) record { version = version_of n + 1; taken = need; back = 0 } _ caller refl next more (inr refl) free (omega arith) (λ w x e. cc e)

  -- the addition makes one version more, and the places fit
  pub gave_fits : (count : ℕ) → count ≤ v.pool.spares → version_of (n + (16777216 + count)) ≡ version_of n + 1
  gave_fits count enough =
      let few : v.pool.spares ≤ spare ps = spare_in ps id v.pool mine in
      let all : free_of n + spare ps ≤ 65536 = few_places opening callers l s.words ps kept in
      omega arith

  pub gave_kept : (count : ℕ) → 0 < v.pool.number → count ≤ v.pool.spares → version_of n < 8388608 → PoolKept opening callers l (after (set s.words 0 (n + (16777216 + count))) (gave_back count n v.pool))
  gave_kept count caller enough more =
      let few : v.pool.spares ≤ spare ps = spare_in ps id v.pool mine in
      let all : free_of n + spare ps ≤ 65536 = few_places opening callers l s.words ps kept in
      let free : free_of (n + (16777216 + count)) + 0 ≡ free_of n + count = omega arith in
      moves (n + (16777216 + count)) (v.pool.spares - count) record { version = version_of n + 1; taken = 0; back = count } _ caller refl (gave_fits count enough) more (inl refl) free (omega arith) (λ w x e. cc e)
