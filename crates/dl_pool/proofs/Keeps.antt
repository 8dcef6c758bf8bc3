-- Each step does what it tells, where its caller's condition holds.
use Rattle.std.proofs.Common.{◌≡◌, ◌≢◌, ℕ, ◌+◌, ◌-◌, ◌%◌, ◌^◌, ◌<◌, ◌≤◌, Bool, eqb, List, get_or, sym, refl, subst, arith, eq-eqb, ne_eqb, lt_of_not-le}
use mathlib.Core.Option.{none, some}
use mathlib.Core.Logic.{dite}
use native.Mathlib.Decide.{ℕ_discrete, dec_le}
use lib.ListN.{get_elem?}
use prog.Atomic.{either}
use Rattle.atomic_table.specs.Table.{State, Me, step, keeps, stepped, Allows}
use Rattle.atomic_table.proofs.Lists.{at_map}
use Rattle.dl_pool.specs.declared.views.Part.{Part}
use Rattle.dl_pool.specs.declared.views.Layout.{Layout}
use Rattle.dl_pool.specs.declared.views.Member.{Member}
use Rattle.dl_pool.specs.declared.views.Seen.TheVariants.{Load}
use Rattle.dl_pool.specs.Rule.{version_of, free_of, total, part, parts, took, gave, up_to, Kept, PoolKept, spare}
use Rattle.dl_pool.specs.Views.{member, loaded, refused, reserved, raced, gave_back, claimed, looked, vacated}
use Rattle.dl_pool.specs.Steps.{CanLook, CanTake, look_tells, take_tells, MayGive, give_tells, MayClaim, claim_tells, MayVacate, vacate_tells}
use Rattle.dl_pool.proofs.Weights.{now_free, spare_in}
use Rattle.dl_pool.proofs.WordSteps.{few_places}
use Rattle.dl_pool.proofs.Rivals.{several}

module _ {S X : Type 0} (holds : State S (Member X) → Type 0) (opening callers : ℕ) (l : Layout) (contains : (s : State S (Member X)) → holds s → PoolKept opening callers l s) where
  pub looks_allowed : (slots id need : ℕ) (denied : ℕ → ℕ → ℕ → X → X) (me : Me S (Member X)) → CanLook holds id need denied me.0
      → Allows holds slots id me 0 (λ n. n) (look_tells need denied (step slots 0 0 0 none) me)
  looks_allowed slots id need denied me can s h _ at small =
      let n : ℕ = get_or s.words 0 0 in
      let kept : Kept opening callers l s.words (parts s.views) = contains s h in
      let known : me.0.pool.known ≤ version_of n = (kept.fits id me.0.pool (at_map part s.views id me.0 at)).0 in
      dite (dec_le need (free_of n))
      (λ room. (member (loaded n me.0.pool) me.0.rest, keeps, tt, can.loads s h at small room, (known, kept.bounded, (λ (few : free_of n < need). absurd (omega arith)), λ _. refl)))
      (λ none_left. let few : free_of n < need = lt_of_not-le none_left in
      (member (refused need n me.0.pool) (denied need (free_of n) (version_of n) me.0.rest), keeps, tt, can.refuses s h at small few, (known, kept.bounded, (λ _. refl), λ (room : need ≤ free_of n). absurd (none_left room))))

  -- a later word that is another one has a later version
  later : (s : State S (Member X)) (h : holds s) (id old : ℕ) (v : Member X) → get_elem? s.views id ≡ some v → v.pool.look.last ≡ Load 0 old → get_or s.words 0 0 ≢ old → version_of old < version_of (get_or s.words 0 0)
  later s h id old v at is other =
      let n : ℕ = get_or s.words 0 0 in
      let ps : List Part = parts s.views in
      let kept : Kept opening callers l s.words ps = contains s h in
      let fits = (kept.fits id v.pool (at_map part s.views id v at)).1 0 old is refl in
      let le : version_of old ≤ version_of n = fits.0 in
      let then_free : free_of old + total (up_to took (version_of old)) ps ≡ opening + total (up_to gave (version_of old)) ps = fits.1 in
      let free_now : free_of n + total (up_to took (version_of n)) ps ≡ opening + total (up_to gave (version_of n)) ps = now_free opening callers l s.words ps kept in
      dite (ℕ_discrete (version_of old) (version_of n))
      (λ same. let free_same : free_of old ≡ free_of n =
      (let t : free_of old + total (up_to took (version_of n)) ps ≡ opening + total (up_to gave (version_of n)) ps = subst (λ (u : ℕ). free_of old + total (up_to took u) ps ≡ opening + total (up_to gave u) ps) same then_free in omega arith) in
      absurd (other (omega arith)))
      (λ differ. omega arith)

  pub takes_allowed : (slots id need old : ℕ) (got : ℕ → ℕ → X → X) (me : Me S (Member X)) → me.0.pool.look.last ≡ Load 0 old → me.0.pool.known ≤ version_of old → CanTake holds id need got old me.0
      → Allows holds slots id me 0 (λ n. either (eqb n old) (old + 16777216 - need) n) (take_tells callers need got (step slots 0 old (old + 16777216 - need) none) me)
  takes_allowed slots id need old got me looked knows can s h _ at small =
      let n : ℕ = get_or s.words 0 0 in
      dite (ℕ_discrete n old)
      (λ hit. let w : Member X = member (reserved need old me.0.pool) (got need (version_of old + 1) me.0.rest) in (
        w,
        keeps,
        tt,
        subst (λ (b : Bool). holds (stepped s 0 (either b (old + 16777216 - need) n) id me.1 w keeps)) (sym (eq-eqb n old hit))
            (subst (λ (k : ℕ). holds (stepped s 0 (k + 16777216 - need) id me.1 (member (reserved need k me.0.pool) (got need (version_of k + 1) me.0.rest)) keeps)) hit (can.makes s h at small hit)),
        ((λ _. refl), λ (other : n ≢ old). absurd (other hit)),
      ))
      (λ miss. let w : Member X = member (raced n me.0.pool) me.0.rest in (
        w,
        keeps,
        tt,
        subst (λ (b : Bool). holds (stepped s 0 (either b (old + 16777216 - need) n) id me.1 w keeps)) (sym (ne_eqb n old miss)) (can.races s h at small miss),
        ((λ (hit : n ≡ old). absurd (miss hit)), λ _. (several opening callers l s.words (parts s.views) id old me.0.pool (contains s h) (at_map part s.views id me.0 at) knows (later s h id old me.0 at looked miss), later s h id old me.0 at looked miss, refl)),
      ))

  pub takes_allowed_as : (slots id need cost several old : ℕ) (got : ℕ → ℕ → X → X) (me : Me S (Member X)) → cost ≡ need → callers ≡ several → me.0.pool.look.last ≡ Load 0 old → me.0.pool.known ≤ version_of old → CanTake holds id need got old me.0
      → Allows holds slots id me 0 (λ n. either (eqb n old) (old + 16777216 - cost) n) (take_tells several need got (step slots 0 old (old + 16777216 - cost) none) me)
  takes_allowed_as slots id need cost several old got me e as_many looked knows can =
      subst (λ (z : ℕ × ℕ). Allows holds slots id me 0 (λ n. either (eqb n old) (old + 16777216 - z.0) n) (take_tells z.1 need got (step slots 0 old (old + 16777216 - z.0) none) me)) (λ k. (sym e k, as_many k))
      (takes_allowed slots id need old got me looked knows can)

  pub gives_allowed : (slots id count : ℕ) (back : ℕ → ℕ → X → X) (me : Me S (Member X)) → count ≤ me.0.pool.spares → MayGive holds id count back me.0
      → Allows holds slots id me 0 (λ n. (n + (16777216 + count)) % 2 ^ 64) (give_tells count back (step slots 0 (16777216 + count) 0 none) me)
  gives_allowed slots id count back me enough can s h _ at small =
      let n : ℕ = get_or s.words 0 0 in
      let ps : List Part = parts s.views in
      let kept : Kept opening callers l s.words ps = contains s h in
      let known : me.0.pool.known ≤ version_of n = (kept.fits id me.0.pool (at_map part s.views id me.0 at)).0 in
      let w : Member X = member (gave_back count n me.0.pool) (back count (version_of n + 1) me.0.rest) in
      let few : me.0.pool.spares ≤ spare ps = spare_in ps id me.0.pool (at_map part s.views id me.0 at) in
      let ver : version_of n ≤ 8388608 = kept.bounded in
      let all : free_of n + spare ps ≤ 65536 = few_places opening callers l s.words ps kept in
      let fits : n + (16777216 + count) ≡ (n + (16777216 + count)) % 18446744073709551616 = omega arith in (
        w,
        keeps,
        tt,
        subst (λ (z : ℕ). holds (stepped s 0 z id me.1 w keeps)) fits (can.gives s h at small tt),
        (known, kept.bounded, refl),
      )

  pub gives_allowed_as : (slots id count cost : ℕ) (back : ℕ → ℕ → X → X) (me : Me S (Member X)) → cost ≡ count → cost ≤ me.0.pool.spares → MayGive holds id count back me.0
      → Allows holds slots id me 0 (λ n. (n + (16777216 + cost)) % 2 ^ 64) (give_tells count back (step slots 0 (16777216 + cost) 0 none) me)
  gives_allowed_as slots id count cost back me e enough can =
      subst (λ (k : ℕ). Allows holds slots id me 0 (λ n. (n + (16777216 + k)) % 2 ^ 64) (give_tells count back (step slots 0 (16777216 + k) 0 none) me)) (sym e)
      (gives_allowed slots id count back me (subst (λ (k : ℕ). k ≤ me.0.pool.spares) e enough) can)

  pub claims_allowed : (slots id i place mark : ℕ) (after : ℕ → X → X) (me : Me S (Member X)) → MayClaim holds id i place mark after me.0
      → Allows holds slots id me i (λ n. either (eqb n 0) mark n) (claim_tells i place after (step slots i 0 mark none) me)
  claims_allowed slots id i place mark after me can s h _ at small =
      let n : ℕ = get_or s.words i 0 in
      dite (ℕ_discrete n 0)
      (λ hit. let w : Member X = member (claimed i me.0.pool) (after place me.0.rest) in (
        w,
        keeps,
        tt,
        subst (λ (b : Bool). holds (stepped s i (either b mark n) id me.1 w keeps)) (sym (eq-eqb n 0 hit)) (can.claims s h at small hit),
        ((λ _. refl), λ (other : n ≢ 0). absurd (other hit)),
      ))
      (λ miss. let w : Member X = member (looked i n me.0.pool) me.0.rest in (
        w,
        keeps,
        tt,
        subst (λ (b : Bool). holds (stepped s i (either b mark n) id me.1 w keeps)) (sym (ne_eqb n 0 miss)) (can.looks s h at small miss),
        ((λ (hit : n ≡ 0). absurd (miss hit)), λ _. refl),
      ))

  pub claims_allowed_as : (slots id i i' place place' mark : ℕ) (after : ℕ → X → X) (me : Me S (Member X)) → i ≡ i' → place ≡ place' → MayClaim holds id i place mark after me.0
      → Allows holds slots id me i (λ n. either (eqb n 0) mark n) (claim_tells i' place' after (step slots i 0 mark none) me)
  claims_allowed_as slots id i i' place place' mark after me e f can =
      subst (λ (z : ℕ × ℕ). Allows holds slots id me i (λ n. either (eqb n 0) mark n) (claim_tells z.0 z.1 after (step slots i 0 mark none) me)) (λ k. (e k, f k))
      (claims_allowed slots id i place mark after me can)

  pub vacates_allowed : (slots id i place : ℕ) (after : ℕ → X → X) (me : Me S (Member X)) → MayVacate holds id i place after me.0
      → Allows holds slots id me i (λ _. 0) (λ _ m'. vacate_tells i place after (step slots i 0 0 none) me 0 m')
  vacates_allowed slots id i place after me can s h _ at small = (
    member (vacated i me.0.pool) (after place me.0.rest),
    keeps,
    tt,
    can.frees s h at small (can.holds_it s h at),
    refl,
  )

  pub vacates_allowed_as : (slots id i i' place place' : ℕ) (after : ℕ → X → X) (me : Me S (Member X)) → i ≡ i' → place ≡ place' → MayVacate holds id i place after me.0
      → Allows holds slots id me i (λ _. 0) (λ _ m'. vacate_tells i' place' after (step slots i 0 0 none) me 0 m')
  vacates_allowed_as slots id i i' place place' after me e f can =
      subst (λ (z : ℕ × ℕ). Allows holds slots id me i (λ _. 0) (λ _ m'. vacate_tells z.0 z.1 after (step slots i 0 0 none) me 0 m')) (λ k. (e k, f k))
      (vacates_allowed slots id i place after me can)
