-- How a run over the table starts: the machine is put into the slot, and each caller's own goes to a pass of its own.
use Rattle.std.proofs.Common.{◌≡◌, ◌≢◌, ℕ, zero, suc, ◌+◌, ◌<◌, ◌≤◌, List, [], ◌∷◌, length, sym, refl, ap, ◌∙◌, subst, arith, map}
use Rattle.std.specs.Prelude.{Option, None, true, false, Contains, replicate}
use mathlib.Core.Option.{some, some-injective}
use lib.ListN.{get_elem?}
use Rattle.atomic_table.specs.Table.{Me, Splits, opening, rest}
use Rattle.dl_core.specs.Core.{Core, no_account, fresh}
use Rattle.dl_core.specs.Frames.{idle}
use Rattle.dl_core.specs.Plans.{Plan, IsPlan}
use Rattle.dl_core.specs.Passes.{Loaded, Stored}
use Rattle.dl_core.specs.Reached.{calls_of, no_calls, starts}
use Rattle.dl_core.specs.Sound.{callers_of, numbers_from}
use Rattle.dl_coarse.specs.Openings.{HasSlot, HasYet, fresh_own, first_sight}
use Rattle.dl_coarse.specs.Sights.{Own, Sight, own_in, behind, glanced, note_of, turn_with, with_slot, without_turn, without_first, first_alone}
use Rattle.dl_coarse.specs.Turn.{HasOwn, IsTurn, MayReturn}
use Rattle.dl_coarse.proofs.Keeps.{has_turn_here, dealt}
use Rattle.dl_lemmas.proofs.Places.{same_everywhere}

length_same : {X : Type 0} (n : ℕ) (x : X) → length (replicate n x) ≡ n
length_same zero x = refl
length_same (suc n) x = ap suc (length_same n x)

-- the callers' own at the start
in_numbers : (first more : ℕ) (own : Own) → Contains (map fresh_own (numbers_from first more)) own → (number : ℕ) × (first ≤ number) × (number < first + more) × (own ≡ fresh_own number)
in_numbers first zero own there = let no = there.1 in absurd (omega (arith, no))
in_numbers first (suc more) own (zero, within, is) = (first, omega arith, omega arith, sym is)
in_numbers first (suc more) own (suc k, within, is) =
    let later = in_numbers (first + 1) more own (k, omega (arith, within), is) in
    let low = later.1 in
    let high = later.2 in
    (later.0, omega arith, omega arith, later.3)

pub apart_in : (first more : ℕ) (own : Own) → Contains (map fresh_own (numbers_from (first + 1) more)) own → own.number ≢ first
apart_in first more own there same =
    let is = in_numbers (first + 1) more own there in
    let low = is.1 in
    let number = ap (λ (o : Own). o.number) is.3 in
    omega arith

no_calls_of : (plan : Plan) (caller : ℕ) → calls_of (no_calls plan) caller ≡ []
no_calls_of plan zero = refl
no_calls_of plan (suc place) = same_everywhere (length plan.sizes) place []

fresh_has : (plan : Plan) (number : ℕ) → 1 ≤ number → number < 1 + length plan.sizes → HasOwn plan (fresh plan) (no_calls plan) (λ _. 0) 0 (fresh_own number)
fresh_has plan number low high = record {
  at_seat = refl;
  is_caller = record { from_one = omega arith; to_last = omega arith };
  frame = same_everywhere (length plan.sizes + 1) number idle;
  account = same_everywhere (length plan.sizes + 1) number no_account;
  begun = no_calls_of plan number;
}

module _ {M : Type 0} (runs : Plan → M → Type 0) (core_of : M → Core) (plan : Plan) where
  one_there : (a b : Sight) (seat : ℕ) → get_elem? (a ∷ []) seat ≡ some b → (seat ≡ 0) × (a ≡ b)
  one_there a b zero there = (refl, some-injective a b there)
  one_there a b (suc seat) there = absurd (no_such b seat there)
    where
      no_such : (b : Sight) (seat : ℕ) → get_elem? [] seat ≡ some b → ⊥
      no_such b seat there = cc there

  opens_fresh : IsPlan plan → IsTurn runs core_of plan (opening (1 ∷ (fresh plan).clock ∷ (fresh plan).pool.version ∷ []) (None ∷ []) (first_sight plan (fresh plan)))
  opens_fresh is =
      let several = is.some_callers in
      let first : Own = fresh_own 1 in
      let here : Contains (first_sight plan (fresh plan)).owns first = first_of (length plan.sizes) several in record {
        core = fresh plan;
        calls = no_calls plan;
        owner = λ _. 0;
        reached = starts;
        idle = λ caller. ap (λ frame. frame.stage) (same_everywhere (length plan.sizes + 1) caller idle);
        lists = length_same (length plan.sizes) [];
        frames = length_same (length plan.sizes + 1) idle;
        wide = refl;
        free = λ zero_word. absurd (omega (arith, zero_word));
        out = λ _. record { seat = 0; sight = first_sight plan (fresh plan); turn = turn_with (fresh plan) true; there = refl; has = refl };
        turns = λ seat sight turn there has.
            let is_first = one_there (first_sight plan (fresh plan)) sight seat there in
            has_turn_here (fresh plan) _ _ (first_sight plan (fresh plan)) sight (turn_with (fresh plan) true) turn is_first.1 refl has record {
              own = first;
              mine = here;
              word = refl;
              same_core = refl;
              clock = refl;
              version = refl;
              clock_up = omega arith;
              version_up = omega arith;
              vacant = λ _. refl;
            };
        owns = λ seat sight own there mine.
            let is_first = one_there (first_sight plan (fresh plan)) sight seat there in
            let numbered = in_numbers 1 (length plan.sizes) own (subst (λ (u : Sight). Contains u.owns own) (sym is_first.1) mine) in
            subst (λ (k : ℕ). HasOwn plan (fresh plan) (no_calls plan) (λ _. 0) k own) (sym is_first.0)
            (subst (HasOwn plan (fresh plan) (no_calls plan) (λ _. 0) 0) (sym numbered.3) (fresh_has plan numbered.0 numbered.1 numbered.2));
        known = λ seat sight there.
            let is_first = one_there (first_sight plan (fresh plan)) sight seat there in
            subst (λ (u : Sight). (u.front ≤ (fresh plan).clock) × (u.known ≤ (fresh plan).pool.version)) is_first.1 (omega arith, omega arith);
      }
    where
      first_of : (callers : ℕ) → 0 < callers → Contains (map fresh_own (numbers_from 1 callers)) (fresh_own 1)
      first_of zero positive = absurd (omega (arith, positive))
      first_of (suc callers) positive = (0, omega arith, refl)

  -- the table at the start
  pub opens : (machine : M) → IsPlan plan → core_of machine ≡ fresh plan
      → IsTurn runs core_of plan (opening (1 ∷ (core_of machine).clock ∷ (core_of machine).pool.version ∷ []) (None ∷ []) (first_sight plan (core_of machine)))
  opens machine is same = subst (λ (core : Core). IsTurn runs core_of plan (opening (1 ∷ core.clock ∷ core.pool.version ∷ []) (None ∷ []) (first_sight plan core))) (sym same) (opens_fresh is)

  -- the first own of a seat is dealt out
  pub deals : (id : ℕ) (v : Sight) (first more : ℕ) → v.owns ≡ map fresh_own (numbers_from first (suc more)) → v.turn ≡ None
      → Splits (IsTurn runs core_of plan) id v (without_first v) (first_alone v)
  deals id v first more all out =
      let others : List Own = map fresh_own (numbers_from (first + 1) more) in
      subst (λ (u : Sight). Splits (IsTurn runs core_of plan) id v u (first_alone v)) (sym (ap (λ (owns : List Own). record v { owns = behind owns }) all))
      (subst (λ (u : Sight). Splits (IsTurn runs core_of plan) id v (record v { owns = others }) u) (sym (ap (λ (owns : List Own). record (note_of v) { owns = own_in owns ∷ [] }) all))
      (dealt runs core_of plan id v (fresh_own first) others all out (λ other there. apart_in first more other there)))

-- the slot is taken
pub has_slot : {M : Type 0} (plan : Plan) (core : Core) (before after : Me (Option M) Sight) (found : ℕ) → before ≡ (first_sight plan core, [])
    → after ≡ (with_slot (turn_with core true) (glanced (Loaded 0 found) before.0), (0, None) ∷ before.1) → HasSlot plan core after
has_slot plan core before after found first is = record {
  owns = ap (λ me. me.0.owns) is ∙ ap (λ me. me.0.owns) first;
  turn = ap (λ me. me.0.turn) is;
  front = ap (λ me. me.0.front) is ∙ ap (λ me. me.0.front) first;
  known = ap (λ me. me.0.known) is ∙ ap (λ me. me.0.known) first;
  slot = ap (λ me. me.1) is ∙ ap (λ me. (0, None) ∷ me.1) first;
}

-- a machine in the state of the key may be put into the slot
pub may_return : {M : Type 0} (runs : Plan → M → Type 0) (core_of : M → Core) (plan : Plan) (key machine : M) (me : Me (Option M) Sight) → HasSlot plan (core_of key) me → runs plan machine → core_of machine ≡ core_of key
    → MayReturn runs core_of plan me.0 machine
may_return runs core_of plan key machine me has of_run same = record {
  turn = turn_with (core_of key) false;
  has = has.turn;
  same_core = sym same;
  of_run = of_run;
  clock = ap (λ (core : Core). core.clock) (sym same);
  version = ap (λ (core : Core). core.pool.version) (sym same);
}

-- the turn is given back
pub has_yet : {M : Type 0} (plan : Plan) (core : Core) (before mid after : Me (Option M) Sight) {slot : ℕ × Option M} → core ≡ fresh plan → HasSlot plan core before → mid.0 ≡ before.0 → mid.1 ≡ slot ∷ rest before.1
    → after ≡ (without_turn (glanced (Stored 0) mid.0), rest mid.1) → HasYet plan (callers_of plan) after
has_yet plan core before mid after {slot = slot} at_start has same carried is = record {
  owns = ap (λ me. me.0.owns) is ∙ ap (λ (u : Sight). u.owns) same ∙ has.owns;
  no_turn = ap (λ me. me.0.turn) is;
  front = ap (λ me. me.0.front) is ∙ ap (λ (u : Sight). u.front) same ∙ has.front ∙ ap (λ (c : Core). c.clock) at_start;
  known = ap (λ me. me.0.known) is ∙ ap (λ (u : Sight). u.known) same ∙ has.known ∙ ap (λ (c : Core). c.pool.version) at_start;
  slot = ap (λ me. me.1) is ∙ ap rest carried ∙ ap rest has.slot;
}

pub opens_with : {M : Type 0} (runs : Plan → M → Type 0) (core_of : M → Core) (plan : Plan) (machine : M) (clock version : ℕ) → IsPlan plan → core_of machine ≡ fresh plan → clock ≡ (core_of machine).clock → version ≡ (core_of machine).pool.version
    → IsTurn runs core_of plan (opening (1 ∷ clock ∷ version ∷ []) (None ∷ []) (first_sight plan (core_of machine)))
opens_with runs core_of plan machine clock version is same clock_is version_is =
    subst (λ (n : ℕ). IsTurn runs core_of plan (opening (1 ∷ n ∷ version ∷ []) (None ∷ []) (first_sight plan (core_of machine)))) (sym clock_is)
    (subst (λ (n : ℕ). IsTurn runs core_of plan (opening (1 ∷ (core_of machine).clock ∷ n ∷ []) (None ∷ []) (first_sight plan (core_of machine)))) (sym version_is) (opens runs core_of plan machine is same))
