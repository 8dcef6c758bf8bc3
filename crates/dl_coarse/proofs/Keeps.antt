-- Each step keeps the rule of the turn.
use Rattle.std.proofs.Common.{◌≡◌, ◌≢◌, ℕ, zero, suc, ◌<◌, ◌≤◌, ◌⊎◌, inl, inr, ⊎_elim, Bool, cond, eqb, List, [], ◌∷◌, ◌++◌, length, get_or, set, sym, refl, ap, ◌∙◌, subst, arith, get_or-set_same, length-set, eq-eqb, ne_eqb}
use Rattle.std.specs.Prelude.{Option, Some, None, true, false, Contains, max}
use Rattle.std.proofs.Math.Nat.{le-max_left, le-max_right, max-le}
use Rattle.std.proofs.lemmas.List.Elements.{Contains-append_cases}
use mathlib.Core.Option.{Option as Slot, none, some, some-injective, some-ne-none}
use mathlib.Core.Logic.{dite}
use native.Mathlib.Decide.{ℕ_discrete}
use lib.ListN.{get_elem?}
use prog.Atomic.{either}
use Rattle.atomic_table.specs.Table.{State, Me, step, keeps, takes, stepped, Allows, Splits, Joins, Enters, rest}
use Rattle.atomic_table.specs.Table as acts
use Rattle.atomic_table.proofs.Lists.{at_set, at_snoc, at_longer, set_again, set_here, set_else}
use Rattle.dl_core.specs.Core.{Core, frame_of, account_of, with_call}
use Rattle.dl_core.specs.Plans.{Plan, IsCaller, size_of}
use Rattle.dl_core.specs.Reached.{Calls, calls_of, with_begun, IsReached, begins, steps}
use Rattle.dl_core.specs.Passes.{Compared, Loaded, Stored}
use Rattle.dl_ir.specs.declared.calls.Call.{Call}
use Rattle.dl_core.specs.declared.answers.Progress.{Progress}
use Rattle.dl_core.specs.declared.answers.Progress.TheVariants as progress
use Rattle.dl_core.specs.declared.stages.Stage.TheVariants as stages
use Rattle.dl_core.specs.Advances.{RunsTo, ends, goes_on}
use Rattle.dl_core.specs.Frames.{Frame}
use Rattle.dl_core.specs.Turns.{Leaves}
use Rattle.dl_coarse.specs.Sights.{Own, TurnTaken, Sight, blank, note_of, together, own_of, own_after, sight_after, front_by, known_by, glanced, turn_with, with_turn, with_clock, with_version, with_slot, without_turn}
use Rattle.dl_coarse.specs.Turn.{HasOwn, HasTurn, IsTurn, Got, Missed, GrabTells, MayGive, MayReturn, clocks, versions, sees, gives, takes_slot, returns_turn, comes_in}

get_set : {X : Type 0} (xs : List X) (j : ℕ) (v w : X) → get_elem? xs j ≡ some v → get_elem? (set xs j w) j ≡ some w
get_set [] j v w e = absurd (some-ne-none v (sym e))
get_set (x ∷ xs) zero v w e = refl
get_set (x ∷ xs) (suc j) v w e = get_set xs j v w e

-- another place of a list stays as it is
get_or_other : (ws : List ℕ) (i j x : ℕ) → i ≢ j → get_or (set ws i x) j 0 ≡ get_or ws j 0
get_or_other [] i j x apart = refl
get_or_other (w ∷ ws) zero zero x apart = absurd (apart refl)
get_or_other (w ∷ ws) zero (suc j) x apart = refl
get_or_other (w ∷ ws) (suc i) zero x apart = refl
get_or_other (w ∷ ws) (suc i) (suc j) x apart = get_or_other ws i j x (λ same. apart (ap suc same))

same_word : (ws : List ℕ) (i : ℕ) → set ws i (get_or ws i 0) ≡ ws
same_word [] i = refl
same_word (x ∷ xs) zero = refl
same_word (x ∷ xs) (suc i) = ap (λ ws. x ∷ ws) (same_word xs i)

pub first_in : {X : Type 0} (x : X) (xs : List X) → Contains (x ∷ xs) x
first_in x xs = (0, omega arith, refl)

-- the one element of a list
only_in : {X : Type 0} (x y : X) → Contains (x ∷ []) y → x ≡ y
only_in x y (zero, within, there) = there
only_in x y (suc k, within, there) = absurd (omega arith)

none_in : {X : Type 0} (x : X) → Contains [] x → ⊥
none_in x there = let no = there.1 in omega (arith, no)

-- a seat's number, where what one seat has is moved to another
moved : ℕ → ℕ → ℕ → ℕ
moved seat from to = cond (eqb seat from) to seat

moved_here : (from to : ℕ) → moved from from to ≡ to
unfolding moved
moved_here from to = ap (λ (b : Bool). cond b to from) (eq-eqb from from refl)

moved_else : (seat from to : ℕ) → seat ≢ from → moved seat from to ≡ seat
unfolding moved
moved_else seat from to apart = ap (λ (b : Bool). cond b to seat) (ne_eqb seat from apart)

-- the seat of a number's own, where the own of one number is given to another seat
given_to : ℕ → ℕ → ℕ → ℕ → ℕ
given_to number of to seat = cond (eqb number of) to seat

given_here : (of to seat : ℕ) → given_to of of to seat ≡ to
unfolding given_to
given_here of to seat = ap (λ (b : Bool). cond b to seat) (eq-eqb of of refl)

given_else : (number of to seat : ℕ) → number ≢ of → given_to number of to seat ≡ seat
unfolding given_to
given_else number of to seat apart = ap (λ (b : Bool). cond b to seat) (ne_eqb number of apart)

with_seat : {plan : Plan} {core : Core} {calls : Calls} {owner owner_then : ℕ → ℕ} {seat seat_then : ℕ} {own : Own} → HasOwn plan core calls owner seat own → owner_then own.number ≡ seat_then → HasOwn plan core calls owner_then seat_then own
with_seat is there = record { at_seat = there; is_caller = is.is_caller; frame = is.frame; account = is.account; begun = is.begun }

pub no_turn : {turn : TurnTaken} → None ≡ Some turn → ⊥
no_turn same = cc same

not_empty : false ≡ true → ⊥
not_empty same = cc same

same_turn : {a b : TurnTaken} → Some a ≡ Some b → a ≡ b
same_turn same = cc same

-- a caller's begun calls, and those of others, after one begin
pub begun_own : (calls : Calls) (number : ℕ) (call : Call) → 0 < number → number ≤ length calls → calls_of (with_begun calls number call) number ≡ calls_of calls number ++ call ∷ []
begun_own calls zero call from_one few = absurd (omega arith)
begun_own calls (suc place) call from_one few = get_or-set_same calls place _ [] (omega arith)

begun_else : (calls : Calls) (number other : ℕ) (call : Call) → other ≢ number → calls_of (with_begun calls number call) other ≡ calls_of calls other
begun_else calls zero other call apart = refl
begun_else calls (suc place) zero call apart = refl
begun_else calls (suc place) (suc other) call apart = else_at calls place other _ (λ same. apart (ap suc (sym same)))
  where
    else_at : (calls : Calls) (i j : ℕ) (x : List Call) → i ≢ j → get_or (set calls i x) j [] ≡ get_or calls j []
    else_at [] i j x apart = refl
    else_at (w ∷ ws) zero zero x apart = absurd (apart refl)
    else_at (w ∷ ws) zero (suc j) x apart = refl
    else_at (w ∷ ws) (suc i) zero x apart = refl
    else_at (w ∷ ws) (suc i) (suc j) x apart = else_at ws i j x (λ same. apart (ap suc same))

begun_length : (calls : Calls) (number : ℕ) (call : Call) → length (with_begun calls number call) ≡ length calls
begun_length calls zero call = refl
begun_length calls (suc place) call = length-set calls place _

-- an operation that runs from a state to which a run comes leads to one
runs_reached : (plan : Plan) (caller : ℕ) (answer : Progress) (core end : Core) (calls : Calls) → IsReached plan core calls → RunsTo plan caller answer core end → IsReached plan end calls
runs_reached plan caller answer core end calls reached (ends is) = steps caller answer reached is
runs_reached plan caller answer core end calls reached (goes_on {mid = mid} event is rest) = runs_reached plan caller answer mid end calls (steps caller (progress.Moved event) reached is) rest

module _ (views : List Sight) (id : ℕ) (v w : Sight) (at : get_elem? views id ≡ some v) where
  -- what holds of each caller's own, where a seat's view changes and its callers' own stays
  owns_kept : (plan : Plan) (core : Core) (calls : Calls) (owner : ℕ → ℕ) → w.owns ≡ v.owns
      → ((seat : ℕ) (sight : Sight) (own : Own) → get_elem? views seat ≡ some sight → Contains sight.owns own → HasOwn plan core calls owner seat own)
      → (seat : ℕ) (sight : Sight) (own : Own) → get_elem? (set views id w) seat ≡ some sight → Contains sight.owns own → HasOwn plan core calls owner seat own
  owns_kept plan core calls owner same h seat sight own there mine = ⊎_elim
      (λ t. let own_of_v : Contains v.owns own = subst (λ (owns : List Own). Contains owns own) same (subst (λ (u : Sight). Contains u.owns own) (sym t.1) mine) in
      subst (λ (k : ℕ). HasOwn plan core calls owner k own) (sym t.0) (h id v own at own_of_v))
      (λ t. h seat sight own t.1 mine)
      (at_set views id seat w sight there)

  known_kept : (a b a' b' : ℕ) → a ≤ a' → b ≤ b' → w.front ≤ a' → w.known ≤ b'
      → ((seat : ℕ) (sight : Sight) → get_elem? views seat ≡ some sight → (sight.front ≤ a) × (sight.known ≤ b))
      → (seat : ℕ) (sight : Sight) → get_elem? (set views id w) seat ≡ some sight → (sight.front ≤ a') × (sight.known ≤ b')
  known_kept a b a' b' up_a up_b front known h seat sight there = ⊎_elim
      (λ t. subst (λ (u : Sight). (u.front ≤ a') × (u.known ≤ b')) t.1 (front, known))
      (λ t. let old = h seat sight t.1 in let one = old.0 in let two = old.1 in (omega arith, omega arith))
      (at_set views id seat w sight there)

pub has_turn_here : {M : Type 0} (core : Core) (words : List ℕ) (homes : List (Slot (Option M))) (w sight : Sight) (t turn : TurnTaken) → w ≡ sight → w.turn ≡ Some t → sight.turn ≡ Some turn → HasTurn core words homes w t → HasTurn core words homes sight turn
has_turn_here core words homes w sight t turn same has has_then is =
    let turns : t ≡ turn = same_turn (sym has ∙ ap (λ (u : Sight). u.turn) same ∙ has_then) in
    subst (λ (u : Sight). HasTurn core words homes u turn) same (subst (HasTurn core words homes w) turns is)

module _ {M : Type 0} (runs : Plan → M → Type 0) (core_of : M → Core) (plan : Plan) where
  abbrev St : Type 0
  St = State (Option M) Sight

  abbrev Kept : St → Type 0
  Kept = IsTurn runs core_of plan

  -- who has the turn has it alone
  module _ (s : St) (h : Kept s) where
    number_of : (seat : ℕ) (sight : Sight) (turn : TurnTaken) → get_elem? s.views seat ≡ some sight → sight.turn ≡ Some turn
        → (own : Own) × HasOwn plan h.core h.calls h.owner seat own × (get_or s.words 0 0 ≡ own.number)
    number_of seat sight turn there has = let is = h.turns seat sight turn there has in (is.own, h.owns seat sight is.own there is.mine, is.word)

    one_has : (i j : ℕ) (a b : Sight) (ta tb : TurnTaken) → get_elem? s.views i ≡ some a → get_elem? s.views j ≡ some b → a.turn ≡ Some ta → b.turn ≡ Some tb → i ≡ j
    one_has i j a b ta tb at_i at_j has_i has_j =
        let x = number_of i a ta at_i has_i in
        let y = number_of j b tb at_j has_j in
        sym x.1.at_seat ∙ ap h.owner (sym x.2 ∙ y.2) ∙ y.1.at_seat

  pub grabbed : (slots id number : ℕ) (me : Me (Option M) Sight) → me.0.owns ≡ own_of me.0 ∷ [] → (own_of me.0).number ≡ number → me.0.turn ≡ None
      → Allows Kept slots id me 0 (λ n. either (eqb n 0) number n) (GrabTells runs core_of plan me)
  grabbed slots id number me one is out s h wide at small =
      let own : Own = own_of me.0 in
      let n : ℕ = get_or s.words 0 0 in
      let mine : HasOwn plan h.core h.calls h.owner id own = h.owns id me.0 own at (subst (λ (owns : List Own). Contains owns own) (sym one) (first_in own [])) in
      let some_caller = mine.is_caller.from_one in
      let bounds = h.known id me.0 at in
      dite (ℕ_discrete n 0)
      (λ free.
      let home = h.free free in
      let w : Sight = with_turn (core_of home.machine) (glanced (Compared 0 0) me.0) in
      let words : List ℕ = set s.words 0 number in
      let word : get_or words 0 0 ≡ number = get_or-set_same s.words 0 number 0 (let t = h.wide in omega arith) in
      let clock : get_or words 1 0 ≡ get_or s.words 1 0 = get_or_other s.words 0 1 number (λ e. omega (arith, e)) in
      let version : get_or words 2 0 ≡ get_or s.words 2 0 = get_or_other s.words 0 2 number (λ e. omega (arith, e)) in
      let turn : TurnTaken = turn_with (core_of home.machine) false in
      let homes : List (Slot (Option M)) = set s.homes 0 none in
      let clock_is : (core_of home.machine).clock ≡ h.core.clock = ap (λ (c : Core). c.clock) home.same_core in
      let version_is : (core_of home.machine).pool.version ≡ h.core.pool.version = ap (λ (c : Core). c.pool.version) home.same_core in
      let has : HasTurn h.core words homes w turn = record {
        own = own;
        mine = subst (λ (owns : List Own). Contains owns own) (sym one) (first_in own []);
        word = word ∙ sym is;
        same_core = home.same_core;
        clock = clock ∙ home.clock ∙ sym clock_is;
        version = version ∙ home.version ∙ sym version_is;
        clock_up = omega arith;
        version_up = omega arith;
        vacant = λ empty. absurd (not_empty empty);
      } in
      let kept : Kept (stepped s 0 number id me.1 w (takes 0 (Some home.machine))) = record {
        core = h.core;
        calls = h.calls;
        owner = h.owner;
        reached = h.reached;
        idle = h.idle;
        lists = h.lists;
        frames = h.frames;
        wide = length-set s.words 0 number ∙ h.wide;
        free = λ zero_word. let no : number ≡ 0 = sym word ∙ zero_word in absurd (omega arith);
        out = λ _. record { seat = id; sight = w; turn = turn; there = get_set s.views id me.0 w at; has = refl };
        turns = λ seat sight t there t_is. ⊎_elim
            (λ x. has_turn_here h.core words homes w sight turn t x.1 refl t_is has)
            (λ x. let other = number_of s h seat sight t x.1 t_is in let some = other.1.is_caller.from_one in let word_is = other.2 in absurd (omega arith))
            (at_set s.views id seat w sight there);
        owns = owns_kept s.views id me.0 w at plan h.core h.calls h.owner refl h.owns;
        known = known_kept s.views id me.0 w at (get_or s.words 1 0) (get_or s.words 2 0) (get_or words 1 0) (get_or words 2 0) (omega arith) (omega arith) (omega (arith, bounds.0)) (omega (arith, bounds.1)) h.known;
      } in
      let got : Got runs core_of plan me.0 home.machine = record {
        calls = h.calls;
        lists = h.lists;
        frames = ap (λ (c : Core). length c.world.frames) home.same_core ∙ h.frames;
        is_caller = mine.is_caller;
        of_run = home.of_run;
        reached = subst (λ (c : Core). IsReached plan c h.calls) (sym home.same_core) h.reached;
        idle = subst (λ (c : Core). (caller : ℕ) → (frame_of c.world caller).stage ≡ stages.Idle) (sym home.same_core) h.idle;
        has_frame = ap (λ (c : Core). frame_of c.world own.number) home.same_core ∙ mine.frame;
        has_account = ap (λ (c : Core). account_of c own.number) home.same_core ∙ mine.account;
        has_calls = mine.begun;
        front = (let a = bounds.0 in let b = home.clock in omega arith);
        known = (let a = bounds.1 in let b = home.version in omega arith);
      } in (
        w,
        takes 0 (Some home.machine),
        home.home,
        subst (λ (b : Bool). Kept (stepped s 0 (either b number n) id me.1 w (takes 0 (Some home.machine)))) (sym (eq-eqb n 0 free)) kept,
        ((λ _. (home.machine, got, refl)), λ (taken : n ≢ 0). absurd (taken free)),
      ))
      (λ taken.
      let out_there = h.out taken in
      let theirs = number_of s h out_there.seat out_there.sight out_there.turn out_there.there out_there.has in
      let elsewhere : out_there.seat ≢ id = λ here.
      let view : out_there.sight ≡ me.0 = some-injective out_there.sight me.0 (sym out_there.there ∙ ap (get_elem? s.views) here ∙ at) in
      no_turn (sym out ∙ ap (λ (u : Sight). u.turn) (sym view) ∙ out_there.has) in
      let another : n ≢ own.number = λ same. elsewhere (sym theirs.1.at_seat ∙ ap h.owner (sym theirs.2 ∙ same) ∙ mine.at_seat) in
      let w : Sight = glanced (Compared 0 n) me.0 in
      let words : List ℕ = set s.words 0 n in
      let same_words : words ≡ s.words = same_word s.words 0 in
      let caller : IsCaller plan n = subst (IsCaller plan) (sym theirs.2) theirs.1.is_caller in
      let kept_words : Kept (record { words = s.words; homes = s.homes; views = set s.views id w }) = record {
        core = h.core;
        calls = h.calls;
        owner = h.owner;
        reached = h.reached;
        idle = h.idle;
        lists = h.lists;
        frames = h.frames;
        wide = h.wide;
        free = λ free. absurd (taken free);
        out = λ _. record { seat = out_there.seat; sight = out_there.sight; turn = out_there.turn; there = set_else s.views id out_there.seat w elsewhere ∙ out_there.there; has = out_there.has };
        turns = λ seat sight t there t_is. ⊎_elim
            (λ x. absurd (no_turn (sym out ∙ ap (λ (u : Sight). u.turn) x.1 ∙ t_is)))
            (λ x. h.turns seat sight t x.1 t_is)
            (at_set s.views id seat w sight there);
        owns = owns_kept s.views id me.0 w at plan h.core h.calls h.owner refl h.owns;
        known = known_kept s.views id me.0 w at (get_or s.words 1 0) (get_or s.words 2 0) (get_or s.words 1 0) (get_or s.words 2 0) (omega arith) (omega arith) bounds.0 bounds.1 h.known;
      } in
      let missed : Missed runs core_of plan me.0 n = record {
        caller_there = caller;
        another = another;
        several = λ alone. another (let a = caller.from_one in let b = caller.to_last in let c = mine.is_caller.to_last in omega arith);
      } in (
        w,
        keeps,
        tt,
        subst (λ (b : Bool). Kept (stepped s 0 (either b number n) id me.1 w keeps)) (sym (ne_eqb n 0 taken))
            (subst (λ (ws : List ℕ). Kept (record { words = ws; homes = s.homes; views = set s.views id w })) (sym same_words) kept_words),
        ((λ (free : n ≡ 0). absurd (taken free)), λ _. (missed, refl)),
      ))

  -- who has the turn writes a word that is not the turn's, or looks at one
  in_turn : (s : St) (h : Kept s) (id i x : ℕ) (v w : Sight) (turn : TurnTaken) → get_elem? s.views id ≡ some v → w.owns ≡ v.owns → i ≢ 0 → w.turn ≡ Some turn
      → get_or s.words 1 0 ≤ get_or (set s.words i x) 1 0 → get_or s.words 2 0 ≤ get_or (set s.words i x) 2 0
      → HasTurn h.core (set s.words i x) s.homes w turn → w.front ≡ v.front → w.known ≡ v.known
      → (was : TurnTaken) → v.turn ≡ Some was
      → Kept (record { words = set s.words i x; homes = s.homes; views = set s.views id w })
  in_turn s h id i x v w turn at same_owns not_first has up_clock up_version is same_front same_known was had =
      let words : List ℕ = set s.words i x in
      let bounds = h.known id v at in
      let word : get_or words 0 0 ≡ get_or s.words 0 0 = get_or_other s.words i 0 x not_first in
      let mine = number_of s h id v was at had in
      let above = mine.1.is_caller.from_one in
      let word_is = mine.2 in record {
        core = h.core;
        calls = h.calls;
        owner = h.owner;
        reached = h.reached;
        idle = h.idle;
        lists = h.lists;
        frames = h.frames;
        wide = length-set s.words i x ∙ h.wide;
        free = λ free. absurd (omega arith);
        out = λ _. record { seat = id; sight = w; turn = turn; there = get_set s.views id v w at; has = has };
        turns = λ seat sight t there t_is. ⊎_elim
            (λ y. has_turn_here h.core words s.homes w sight turn t y.1 has t_is is)
            (λ y. absurd (y.0 (one_has s h seat id sight v t was y.1 at t_is had)))
            (at_set s.views id seat w sight there);
        owns = owns_kept s.views id v w at plan h.core h.calls h.owner same_owns h.owns;
        known = known_kept s.views id v w at (get_or s.words 1 0) (get_or s.words 2 0) (get_or words 1 0) (get_or words 2 0) up_clock up_version (omega (arith, bounds.0)) (omega (arith, bounds.1)) h.known;
      }

  -- the last ticket is written
  pub clocked : (slots id clock : ℕ) (me : Me (Option M) Sight) (turn : TurnTaken) → me.0.turn ≡ Some turn → turn.clock ≤ clock
      → Allows Kept slots id me 1 (λ _. clock) (λ _. clocks (step slots 1 clock 0 none) me clock)
  clocked slots id clock me turn has up s h wide at small =
      let is = h.turns id me.0 turn at has in
      let w : Sight = with_clock clock turn (glanced (Stored 1) me.0) in
      let words : List ℕ = set s.words 1 clock in
      let first : get_or words 0 0 ≡ get_or s.words 0 0 = get_or_other s.words 1 0 clock (λ e. omega (arith, e)) in
      let written : get_or words 1 0 ≡ clock = get_or-set_same s.words 1 clock 0 (let t = h.wide in omega arith) in
      let third : get_or words 2 0 ≡ get_or s.words 2 0 = get_or_other s.words 1 2 clock (λ e. omega (arith, e)) in
      let was = is.clock in
      let low = is.clock_up in
      let has_then : HasTurn h.core words s.homes w (record turn { clock = clock }) = record {
        own = is.own;
        mine = is.mine;
        word = first ∙ is.word;
        same_core = is.same_core;
        clock = written;
        version = third ∙ is.version;
        clock_up = omega arith;
        version_up = is.version_up;
        vacant = is.vacant;
      } in (
        w,
        keeps,
        tt,
        in_turn s h id 1 clock me.0 w (record turn { clock = clock }) at refl (λ e. omega (arith, e)) refl (omega arith) (omega arith) has_then refl refl turn has,
        λ other has_other. ap (λ (t : TurnTaken). (with_clock clock t (glanced (Stored 1) me.0), me.1)) (same_turn (sym has ∙ has_other)),
      )

  -- the version is written
  pub versioned : (slots id version : ℕ) (me : Me (Option M) Sight) (turn : TurnTaken) → me.0.turn ≡ Some turn → turn.version ≤ version
      → Allows Kept slots id me 2 (λ _. version) (λ _. versions (step slots 2 version 0 none) me version)
  versioned slots id version me turn has up s h wide at small =
      let is = h.turns id me.0 turn at has in
      let w : Sight = with_version version turn (glanced (Stored 2) me.0) in
      let words : List ℕ = set s.words 2 version in
      let first : get_or words 0 0 ≡ get_or s.words 0 0 = get_or_other s.words 2 0 version (λ e. omega (arith, e)) in
      let second : get_or words 1 0 ≡ get_or s.words 1 0 = get_or_other s.words 2 1 version (λ e. omega (arith, e)) in
      let written : get_or words 2 0 ≡ version = get_or-set_same s.words 2 version 0 (let t = h.wide in omega arith) in
      let was = is.version in
      let low = is.version_up in
      let has_then : HasTurn h.core words s.homes w (record turn { version = version }) = record {
        own = is.own;
        mine = is.mine;
        word = first ∙ is.word;
        same_core = is.same_core;
        clock = second ∙ is.clock;
        version = written;
        clock_up = is.clock_up;
        version_up = omega arith;
        vacant = is.vacant;
      } in (
        w,
        keeps,
        tt,
        in_turn s h id 2 version me.0 w (record turn { version = version }) at refl (λ e. omega (arith, e)) refl (omega arith) (omega arith) has_then refl refl turn has,
        λ other has_other. ap (λ (t : TurnTaken). (with_version version t (glanced (Stored 2) me.0), me.1)) (same_turn (sym has ∙ has_other)),
      )

  -- the version is read
  pub seen : (slots id : ℕ) (me : Me (Option M) Sight) (turn : TurnTaken) → me.0.turn ≡ Some turn
      → Allows Kept slots id me 2 (λ n. n) (sees (step slots 2 0 0 none) me)
  seen slots id me turn has s h wide at small =
      let is = h.turns id me.0 turn at has in
      let w : Sight = glanced (Loaded 2 turn.version) me.0 in
      let x : ℕ = get_or s.words 2 0 in
      let words : List ℕ = set s.words 2 x in
      let same : words ≡ s.words = same_word s.words 2 in
      let has_then : HasTurn h.core words s.homes w turn = subst (λ (ws : List ℕ). HasTurn h.core ws s.homes w turn) (sym same) record {
        own = is.own;
        mine = is.mine;
        word = is.word;
        same_core = is.same_core;
        clock = is.clock;
        version = is.version;
        clock_up = is.clock_up;
        version_up = is.version_up;
        vacant = is.vacant;
      } in
      let second = ap (λ (ws : List ℕ). get_or ws 1 0) same in
      let third = ap (λ (ws : List ℕ). get_or ws 2 0) same in (
        w,
        keeps,
        tt,
        in_turn s h id 2 x me.0 w turn at refl (λ e. omega (arith, e)) has (omega arith) (omega arith) has_then refl refl turn has,
        λ other has_other. let same : turn ≡ other = same_turn (sym has ∙ has_other) in (is.version ∙ ap (λ (t : TurnTaken). t.version) same, ap (λ (t : TurnTaken). (glanced (Loaded 2 t.version) me.0, me.1)) same),
      )

  -- the slot is taken, in which nothing is
  pub filled : (slots id : ℕ) (me : Me (Option M) Sight) (turn : TurnTaken) → me.0.turn ≡ Some turn → turn.empty ≡ true
      → Allows Kept slots id me 0 (λ n. n) (takes_slot (step slots 0 0 0 none) me)
  filled slots id me turn has empty s h wide at small =
      let is = h.turns id me.0 turn at has in
      let x : ℕ = get_or s.words 0 0 in
      let now : TurnTaken = record turn { empty = false } in
      let w : Sight = with_slot turn (glanced (Loaded 0 x) me.0) in
      let homes : List (Slot (Option M)) = set s.homes 0 none in
      let same : set s.words 0 x ≡ s.words = same_word s.words 0 in
      let bounds = h.known id me.0 at in
      let mine = number_of s h id me.0 turn at has in
      let above = mine.1.is_caller.from_one in
      let word_is = mine.2 in
      let has_then : HasTurn h.core s.words homes w now = record {
        own = is.own;
        mine = is.mine;
        word = is.word;
        same_core = is.same_core;
        clock = is.clock;
        version = is.version;
        clock_up = is.clock_up;
        version_up = is.version_up;
        vacant = λ no. absurd (not_empty no);
      } in
      let kept : Kept (record { words = s.words; homes = homes; views = set s.views id w }) = record {
        core = h.core;
        calls = h.calls;
        owner = h.owner;
        reached = h.reached;
        idle = h.idle;
        lists = h.lists;
        frames = h.frames;
        wide = h.wide;
        free = λ free. absurd (omega arith);
        out = λ _. record { seat = id; sight = w; turn = now; there = get_set s.views id me.0 w at; has = refl };
        turns = λ seat sight t there t_is. ⊎_elim
            (λ y. has_turn_here h.core s.words homes w sight now t y.1 refl t_is has_then)
            (λ y. absurd (y.0 (one_has s h seat id sight me.0 t turn y.1 at t_is has)))
            (at_set s.views id seat w sight there);
        owns = owns_kept s.views id me.0 w at plan h.core h.calls h.owner refl h.owns;
        known = known_kept s.views id me.0 w at (get_or s.words 1 0) (get_or s.words 2 0) (get_or s.words 1 0) (get_or s.words 2 0) (omega arith) (omega arith) bounds.0 bounds.1 h.known;
      } in (
        w,
        takes 0 None,
        is.vacant empty,
        subst (λ (ws : List ℕ). Kept (record { words = ws; homes = homes; views = set s.views id w })) (sym same) kept,
        λ other has_other empty_too. ap (λ (t : TurnTaken). (with_slot t (glanced (Loaded 0 x) me.0), (0, None) ∷ me.1)) (same_turn (sym has ∙ has_other)),
      )

  -- the machine that comes with the turn is put into the slot, and the turn given back, with no operation in between
  pub returned : (slots id : ℕ) (me : Me (Option M) Sight) (machine : M) → MayReturn runs core_of plan me.0 machine → me.1 ≡ (0, Some machine) ∷ [] → 0 < slots
      → Allows Kept slots id me 0 (λ _. 0) (λ _. returns_turn (step slots 0 0 0 none) me 0)
  returned slots id me machine may carried slot s h wide at small =
      let is = h.turns id me.0 may.turn at may.has in
      let after : Sight = without_turn (glanced (Stored 0) me.0) in
      let words : List ℕ = set s.words 0 0 in
      let written : get_or words 0 0 ≡ 0 = get_or-set_same s.words 0 0 0 (let t = h.wide in omega arith) in
      let second : get_or words 1 0 ≡ get_or s.words 1 0 = get_or_other s.words 0 1 0 (λ e. omega (arith, e)) in
      let third : get_or words 2 0 ≡ get_or s.words 2 0 = get_or_other s.words 0 2 0 (λ e. omega (arith, e)) in
      let homes : List (Slot (Option M)) = set s.homes 0 (some (Some machine)) in
      let same_core : core_of machine ≡ h.core = sym may.same_core ∙ is.same_core in
      let bounds = h.known id me.0 at in
      let kept : Kept (record { words = words; homes = homes; views = set s.views id after }) = record {
        core = h.core;
        calls = h.calls;
        owner = h.owner;
        reached = h.reached;
        idle = h.idle;
        lists = h.lists;
        frames = h.frames;
        wide = length-set s.words 0 0 ∙ h.wide;
        free = λ _. record {
          machine = machine;
          home = set_here s.homes 0 (some (Some machine)) (omega arith);
          of_run = may.of_run;
          same_core = same_core;
          clock = second ∙ is.clock ∙ may.clock ∙ ap (λ (c : Core). c.clock) same_core;
          version = third ∙ is.version ∙ may.version ∙ ap (λ (c : Core). c.pool.version) same_core;
        };
        out = λ taken. absurd (taken written);
        turns = λ seat sight t there t_is. ⊎_elim
            (λ x. absurd (no_turn (ap (λ (u : Sight). u.turn) x.1 ∙ t_is)))
            (λ x. absurd (x.0 (one_has s h seat id sight me.0 t may.turn x.1 at t_is may.has)))
            (at_set s.views id seat after sight there);
        owns = owns_kept s.views id me.0 after at plan h.core h.calls h.owner refl h.owns;
        known = known_kept s.views id me.0 after at (get_or s.words 1 0) (get_or s.words 2 0) (get_or words 1 0) (get_or words 2 0) (omega arith) (omega arith) (omega (arith, bounds.0)) (omega (arith, bounds.1)) h.known;
      } in (
        after,
        acts.gives,
        tt,
        subst (λ (c : List (ℕ × Option M)). Kept (stepped s 0 0 id c after acts.gives)) (sym carried) kept,
        refl,
      )

  -- what a pass knows after an operation is no more than the core that it leaves
  up_to : (answer : Progress) (front known number : ℕ) (call : Call) (core after : Core) → front ≤ core.clock → known ≤ core.pool.version → Leaves plan core number call answer after
      → (front_by answer front ≤ after.clock) × (known_by answer known ≤ after.pool.version)
  up_to (progress.Done entry) front known number call core after f k leaves =
      let by = leaves.leaves_by in
      let ticket = by.ticket in
      let clock = by.clock in
      let version = by.version in
      let most = le-max_left core.pool.version entry.reserved_at in (
        max-le (omega arith) (omega arith),
        subst (λ (v : ℕ). max (max known entry.reserved_at) entry.returned_at ≤ v) (sym version)
            (max-le (max-le (omega (arith, k, most, le-max_left (max core.pool.version entry.reserved_at) entry.returned_at)) (omega (arith, le-max_right core.pool.version entry.reserved_at, le-max_left (max core.pool.version entry.reserved_at) entry.returned_at))) (le-max_right (max core.pool.version entry.reserved_at) entry.returned_at)),
      )
  up_to (progress.Refused need found version) front known number call core after f k leaves =
      let by = leaves.leaves_by in let at = by.at in let stays = by.version_stays in let clock = by.clock_stays in (omega arith, omega arith)
  up_to (progress.Moved event) front known number call core after f k leaves = absurd leaves.leaves_by
  up_to (progress.Waiting lock by) front known number call core after f k leaves = absurd leaves.leaves_by
  up_to progress.Idle front known number call core after f k leaves = absurd leaves.leaves_by
  up_to (progress.Looked place) front known number call core after f k leaves = absurd leaves.leaves_by
  up_to (progress.Raced seen now) front known number call core after f k leaves = absurd leaves.leaves_by

  -- the core is given back after one more operation, and the turn with it
  pub given : (slots id : ℕ) (me : Me (Option M) Sight) (machine : M) (call : Call) (answer : Progress) → MayGive runs core_of plan me.0 machine call answer → me.1 ≡ (0, Some machine) ∷ [] → 0 < slots
      → Allows Kept slots id me 0 (λ _. 0) (λ _. gives (sight_after (core_of machine) call answer me.0) (step slots 0 0 0 none) me 0)
  given slots id me machine call answer may carried slot s h wide at small =
      let after : Sight = sight_after (core_of machine) call answer me.0 in
      let is = h.turns id me.0 may.turn at may.has in
      let own : Own = own_of me.0 in
      let core : Core = core_of machine in
      let mine : HasOwn plan h.core h.calls h.owner id own = h.owns id me.0 own at (subst (λ (owns : List Own). Contains owns own) (sym may.one) (first_in own [])) in
      let leaves : Leaves plan h.core own.number call answer core = subst (λ (c : Core). Leaves plan c own.number call answer core) is.same_core may.leaves in
      let calls : Calls = with_begun h.calls own.number call in
      let many : length h.calls ≡ length plan.sizes = h.lists in
      let to_last = mine.is_caller.to_last in
      let own_calls : calls_of calls own.number ≡ own.calls ++ call ∷ [] = begun_own h.calls own.number call mine.is_caller.from_one (omega arith) ∙ ap (λ (cs : List Call). cs ++ call ∷ []) mine.begun in
      let room : length (calls_of h.calls own.number) < size_of plan own.number = (let t = ap length mine.begun in let r = may.room in omega arith) in
      let begun_there : IsReached plan (with_call h.core own.number call) calls = begins own.number call h.reached record { is_caller = mine.is_caller; idle = h.idle own.number; room = room; fits = may.fits } in
      let reached : IsReached plan core calls = runs_reached plan own.number answer (with_call h.core own.number call) core calls begun_there leaves.runs in
      let words : List ℕ = set s.words 0 0 in
      let written : get_or words 0 0 ≡ 0 = get_or-set_same s.words 0 0 0 (let t = h.wide in omega arith) in
      let second : get_or words 1 0 ≡ get_or s.words 1 0 = get_or_other s.words 0 1 0 (λ e. omega (arith, e)) in
      let third : get_or words 2 0 ≡ get_or s.words 2 0 = get_or_other s.words 0 2 0 (λ e. omega (arith, e)) in
      let homes : List (Slot (Option M)) = set s.homes 0 (some (Some machine)) in
      let clock_is = is.clock in
      let version_is = is.version in
      let clock_then = may.clock in
      let version_then = may.version in
      let bounds = up_to answer me.0.front me.0.known own.number call may.turn.core core may.front may.known may.leaves in
      let front = bounds.0 in
      let known = bounds.1 in
      let kept : Kept (record { words = words; homes = homes; views = set s.views id after }) = record {
        core = core;
        calls = calls;
        owner = h.owner;
        reached = reached;
        idle = λ caller. dite (ℕ_discrete caller own.number)
            (λ same. subst (λ (c : ℕ). (frame_of core.world c).stage ≡ stages.Idle) (sym same) leaves.rest)
            (λ apart. ap (λ (f : Frame). f.stage) (leaves.others caller apart).0 ∙ h.idle caller);
        lists = begun_length h.calls own.number call ∙ h.lists;
        frames = leaves.frames ∙ h.frames;
        wide = length-set s.words 0 0 ∙ h.wide;
        free = λ _. record {
          machine = machine;
          home = set_here s.homes 0 (some (Some machine)) (omega arith);
          of_run = may.of_run;
          same_core = refl;
          clock = second ∙ is.clock ∙ may.clock;
          version = third ∙ is.version ∙ may.version;
        };
        out = λ taken. absurd (taken written);
        turns = λ seat sight t there t_is. ⊎_elim
            (λ x. absurd (no_turn (ap (λ (u : Sight). u.turn) x.1 ∙ t_is)))
            (λ x. absurd (x.0 (one_has s h seat id sight me.0 t may.turn x.1 at t_is may.has)))
            (at_set s.views id seat after sight there);
        owns = λ seat sight other there theirs. ⊎_elim
            (λ x.
            let new : Own = own_after core call own in
            let in_after : Contains after.owns other = subst (λ (u : Sight). Contains u.owns other) (sym x.1) theirs in
            let is_new : new ≡ other = only_in new other in_after in
            subst (λ (o : Own). HasOwn plan core calls h.owner seat o) is_new record {
              at_seat = mine.at_seat ∙ sym x.0;
              is_caller = mine.is_caller;
              frame = refl;
              account = refl;
              begun = own_calls;
            })
            (λ x.
            let old = h.owns seat sight other x.1 theirs in
            let apart : other.number ≢ own.number = λ same. x.0 (sym old.at_seat ∙ ap h.owner same ∙ mine.at_seat) in
            let stays = leaves.others other.number apart in record {
              at_seat = old.at_seat;
              is_caller = old.is_caller;
              frame = stays.0 ∙ old.frame;
              account = stays.1 ∙ old.account;
              begun = begun_else h.calls own.number other.number call apart ∙ old.begun;
            })
            (at_set s.views id seat after sight there);
        known = known_kept s.views id me.0 after at (get_or s.words 1 0) (get_or s.words 2 0) (get_or words 1 0) (get_or words 2 0) (omega arith) (omega arith) (omega arith) (omega arith) h.known;
      } in (
        after,
        acts.gives,
        tt,
        subst (λ (c : List (ℕ × Option M)). Kept (stepped s 0 0 id c after acts.gives)) (sym carried) kept,
        refl,
      )

-- the slot taken last is the first of the list
pub in_front : {A : Type 0} (l xs : List (ℕ × A)) (x : ℕ × A) → l ≡ x ∷ xs → l ≡ x ∷ rest l
in_front {A} l xs x e = subst (λ (z : List (ℕ × A)). z ≡ x ∷ rest z) (sym e) refl

module _ {M : Type 0} (runs : Plan → M → Type 0) (core_of : M → Core) (plan : Plan) where
  -- a seat more that has nothing
  one_more : (s : State (Option M) Sight) → IsTurn runs core_of plan s → (w : Sight) → w.owns ≡ [] → w.turn ≡ None → w.front ≤ get_or s.words 1 0 → w.known ≤ get_or s.words 2 0
      → IsTurn runs core_of plan record { words = s.words; homes = s.homes; views = s.views ++ w ∷ [] }
  one_more s h w nothing w_out front known = record {
    core = h.core;
    calls = h.calls;
    owner = h.owner;
    reached = h.reached;
    idle = h.idle;
    lists = h.lists;
    frames = h.frames;
    wide = h.wide;
    free = λ free. let home = h.free free in record { machine = home.machine; home = home.home; of_run = home.of_run; same_core = home.same_core; clock = home.clock; version = home.version };
    out = λ taken. let out = h.out taken in record { seat = out.seat; sight = out.sight; turn = out.turn; there = at_longer s.views (w ∷ []) out.seat out.sight out.there; has = out.has };
    turns = λ seat sight turn there has. ⊎_elim (λ old. h.turns seat sight turn old has) (λ new. absurd (no_turn (sym w_out ∙ ap (λ (u : Sight). u.turn) new ∙ has))) (at_snoc s.views w sight seat there);
    owns = λ seat sight own there mine. ⊎_elim
        (λ old. h.owns seat sight own old mine)
        (λ new. absurd (none_in own (subst (λ (owns : List Own). Contains owns own) nothing (subst (λ (u : Sight). Contains u.owns own) (sym new) mine))))
        (at_snoc s.views w sight seat there);
    known = λ seat sight there. ⊎_elim
        (λ old. h.known seat sight old)
        (λ new. subst (λ (u : Sight). (u.front ≤ get_or s.words 1 0) × (u.known ≤ get_or s.words 2 0)) new (front, known))
        (at_snoc s.views w sight seat there);
  }

  -- a note is made
  pub noted : (id : ℕ) (v : Sight) → Splits (IsTurn runs core_of plan) id v v (note_of v)
  noted id v s h at =
      let same : set s.views id v ≡ s.views = set_again s.views id v at in
      let bounds = h.known id v at in
      subst (λ (vs : List Sight). IsTurn runs core_of plan record { words = s.words; homes = s.homes; views = vs ++ note_of v ∷ [] }) (sym same) (one_more s h (note_of v) refl refl bounds.0 bounds.1)

  -- a seat comes in that knows and has nothing
  pub come : (slots : ℕ) (first : Sight) → Enters (IsTurn runs core_of plan) slots 0 (λ n w. comes_in {M = M} (step slots 0 0 0 none) (first, []) n (w, []))
  come slots first s h wide small = (blank, one_more s h blank refl refl (omega arith) (omega arith), refl)

  -- what a seat without a turn knows and has is taken in by another
  joined_by : (id other : ℕ) (v w both : Sight) → v.turn ≡ None → w.turn ≡ None → both.turn ≡ None
      → ((own : Own) → Contains both.owns own → Contains v.owns own ⊎ Contains w.owns own)
      → ((most : ℕ) → v.front ≤ most → w.front ≤ most → both.front ≤ most) → ((most : ℕ) → v.known ≤ most → w.known ≤ most → both.known ≤ most)
      → Joins (IsTurn runs core_of plan) id v other w both blank
  joined_by id other v w both v_out w_out both_out either_owns front_up known_up s h at apart there =
      let vs : List Sight = set s.views id both in
      let was : get_elem? s.views other ≡ some w = sym (set_else s.views id other both apart) ∙ there in
      let owner : ℕ → ℕ = λ (number : ℕ). moved (h.owner number) other id in
      let mine = h.known id v at in
      let theirs = h.known other w was in
      let up = front_up (get_or s.words 1 0) mine.0 theirs.0 in
      let up_known = known_up (get_or s.words 2 0) mine.1 theirs.1 in
      let outside : (seat : ℕ) (sight : Sight) (turn : TurnTaken) → get_elem? s.views seat ≡ some sight → sight.turn ≡ Some turn → (seat ≢ id) × (seat ≢ other)
      = λ seat sight turn is has. (
        (λ same. no_turn (sym v_out ∙ ap (λ (u : Sight). u.turn) (some-injective v sight (sym at ∙ sym (ap (get_elem? s.views) same) ∙ is)) ∙ has)),
        (λ same. no_turn (sym w_out ∙ ap (λ (u : Sight). u.turn) (some-injective w sight (sym was ∙ sym (ap (get_elem? s.views) same) ∙ is)) ∙ has)),
      ) in record {
        core = h.core;
        calls = h.calls;
        owner = owner;
        reached = h.reached;
        idle = h.idle;
        lists = h.lists;
        frames = h.frames;
        wide = h.wide;
        free = λ free. let home = h.free free in record { machine = home.machine; home = home.home; of_run = home.of_run; same_core = home.same_core; clock = home.clock; version = home.version };
        out = λ taken.
            let out = h.out taken in
            let away = outside out.seat out.sight out.turn out.there out.has in
            record { seat = out.seat; sight = out.sight; turn = out.turn; there = set_else vs other out.seat blank away.1 ∙ set_else s.views id out.seat both away.0 ∙ out.there; has = out.has };
        turns = λ seat sight turn is has. ⊎_elim
            (λ x. absurd (no_turn (ap (λ (u : Sight). u.turn) x.1 ∙ has)))
            (λ x. ⊎_elim
            (λ y. absurd (no_turn (sym both_out ∙ ap (λ (u : Sight). u.turn) y.1 ∙ has)))
            (λ y. h.turns seat sight turn y.1 has)
            (at_set s.views id seat both sight x.1))
            (at_set vs other seat blank sight is);
        owns = λ seat sight own is mine_too. ⊎_elim
            (λ x. absurd (none_in own (subst (λ (u : Sight). Contains u.owns own) (sym x.1) mine_too)))
            (λ x. ⊎_elim
            (λ y.
            let both_own : Contains both.owns own = subst (λ (u : Sight). Contains u.owns own) (sym y.1) mine_too in
            ⊎_elim
            (λ of_v. with_seat (h.owns id v own at of_v) (ap (λ (k : ℕ). moved k other id) (h.owns id v own at of_v).at_seat ∙ moved_else id other id (λ same. apart (sym same)) ∙ sym y.0))
            (λ of_w. with_seat (h.owns other w own was of_w) (ap (λ (k : ℕ). moved k other id) (h.owns other w own was of_w).at_seat ∙ moved_here other id ∙ sym y.0))
            (either_owns own both_own))
            (λ y. with_seat (h.owns seat sight own y.1 mine_too) (ap (λ (k : ℕ). moved k other id) (h.owns seat sight own y.1 mine_too).at_seat ∙ moved_else seat other id x.0))
            (at_set s.views id seat both sight x.1))
            (at_set vs other seat blank sight is);
        known = λ seat sight is. ⊎_elim
            (λ x. subst (λ (u : Sight). (u.front ≤ get_or s.words 1 0) × (u.known ≤ get_or s.words 2 0)) x.1 (omega arith, omega arith))
            (λ x. ⊎_elim
            (λ y. subst (λ (u : Sight). (u.front ≤ get_or s.words 1 0) × (u.known ≤ get_or s.words 2 0)) y.1 (up, up_known))
            (λ y. h.known seat sight y.1)
            (at_set s.views id seat both sight x.1))
            (at_set vs other seat blank sight is);
      }

  pub joined_with : (id other : ℕ) (v w : Sight) → v.turn ≡ None → w.turn ≡ None → Joins (IsTurn runs core_of plan) id v other w (together v w) blank
  joined_with id other v w v_out w_out =
      joined_by id other v w (together v w) v_out w_out v_out (Contains-append_cases v.owns w.owns) (λ most low low_too. max-le low low_too) (λ most low low_too. max-le low low_too)

  -- the same with the other's own in front
  pub joined_before : (id other : ℕ) (v w : Sight) → v.turn ≡ None → w.turn ≡ None → Joins (IsTurn runs core_of plan) id v other w (together w v) blank
  joined_before id other v w v_out w_out =
      joined_by id other v w (together w v) v_out w_out w_out (λ own there. ⊎_elim (λ a. inr a) (λ b. inl b) (Contains-append_cases w.owns v.owns own there)) (λ most low low_too. max-le low_too low)
      (λ most low low_too. max-le low_too low)

-- an element of a list with one more behind it
at_end : {X : Type 0} (l : List X) (a b : X) (j : ℕ) → get_elem? (l ++ a ∷ []) j ≡ some b → (get_elem? l j ≡ some b) ⊎ ((j ≡ length l) × (a ≡ b))
at_end [] a b zero e = inr (refl, some-injective a b e)
at_end [] a b (suc j) e = absurd (some-ne-none b (sym e))
at_end (x ∷ xs) a b zero e = inl e
at_end (x ∷ xs) a b (suc j) e = ⊎_elim (λ t. inl t) (λ t. inr (ap suc t.0, t.1)) (at_end xs a b j e)

behind_in : {X : Type 0} (x y : X) (xs : List X) → Contains xs y → Contains (x ∷ xs) y
behind_in x y xs there = let within = there.1 in (suc there.0, omega arith, there.2)

module _ {M : Type 0} (runs : Plan → M → Type 0) (core_of : M → Core) (plan : Plan) where
  -- one caller's own is given to a seat of its own
  pub dealt : (id : ℕ) (v : Sight) (own : Own) (others : List Own) → v.owns ≡ own ∷ others → v.turn ≡ None → ((other : Own) → Contains others other → other.number ≢ own.number)
      → Splits (IsTurn runs core_of plan) id v (record v { owns = others }) (record (note_of v) { owns = own ∷ [] })
  dealt id v own others all out apart s h at =
      let left : Sight = record v { owns = others } in
      let right : Sight = record (note_of v) { owns = own ∷ [] } in
      let vs : List Sight = set s.views id left in
      let owner : ℕ → ℕ = λ (number : ℕ). given_to number own.number (length vs) (h.owner number) in
      let ours : (other : Own) → Contains (own ∷ others) other → HasOwn plan h.core h.calls h.owner id other = λ other there. h.owns id v other at (subst (λ (owns : List Own). Contains owns other) (sym all) there) in
      let mine : HasOwn plan h.core h.calls h.owner id own = ours own (first_in own others) in
      let outside : (seat : ℕ) (sight : Sight) (turn : TurnTaken) → get_elem? s.views seat ≡ some sight → sight.turn ≡ Some turn → seat ≢ id
      = λ seat sight turn is has same. no_turn (sym out ∙ ap (λ (u : Sight). u.turn) (some-injective v sight (sym at ∙ sym (ap (get_elem? s.views) same) ∙ is)) ∙ has) in record {
        core = h.core;
        calls = h.calls;
        owner = owner;
        reached = h.reached;
        idle = h.idle;
        lists = h.lists;
        frames = h.frames;
        wide = h.wide;
        free = λ free. let home = h.free free in record { machine = home.machine; home = home.home; of_run = home.of_run; same_core = home.same_core; clock = home.clock; version = home.version };
        out = λ taken.
            let there = h.out taken in
            record {
              seat = there.seat;
              sight = there.sight;
              turn = there.turn;
              there = at_longer vs (right ∷ []) there.seat there.sight (set_else s.views id there.seat left (outside there.seat there.sight there.turn there.there there.has) ∙ there.there);
              has = there.has;
            };
        turns = λ seat sight turn is has. ⊎_elim
            (λ old. ⊎_elim
            (λ x. absurd (no_turn (sym out ∙ ap (λ (u : Sight). u.turn) x.1 ∙ has)))
            (λ x. h.turns seat sight turn x.1 has)
            (at_set s.views id seat left sight old))
            (λ new. absurd (no_turn (ap (λ (u : Sight). u.turn) new.1 ∙ has)))
            (at_end vs right sight seat is);
        owns = λ seat sight other is theirs. ⊎_elim
            (λ old. ⊎_elim
            (λ x.
            let in_left : Contains others other = subst (λ (u : Sight). Contains u.owns other) (sym x.1) theirs in
            let was = ours other (behind_in own other others in_left) in
            with_seat was (given_else other.number own.number (length vs) (h.owner other.number) (apart other in_left) ∙ was.at_seat ∙ sym x.0))
            (λ x.
            let was = h.owns seat sight other x.1 theirs in
            let not_own : other.number ≢ own.number = λ same. x.0 (sym was.at_seat ∙ ap h.owner same ∙ mine.at_seat) in
            with_seat was (given_else other.number own.number (length vs) (h.owner other.number) not_own ∙ was.at_seat))
            (at_set s.views id seat left sight old))
            (λ new.
            let is_own : own ≡ other = only_in own other (subst (λ (u : Sight). Contains u.owns other) (sym new.1) theirs) in
            subst (λ (o : Own). HasOwn plan h.core h.calls owner seat o) is_own (with_seat mine (given_here own.number (length vs) (h.owner own.number) ∙ sym new.0)))
            (at_end vs right sight seat is);
        known = λ seat sight is. ⊎_elim
            (λ old. ⊎_elim
            (λ x. subst (λ (u : Sight). (u.front ≤ get_or s.words 1 0) × (u.known ≤ get_or s.words 2 0)) x.1 (h.known id v at))
            (λ x. h.known seat sight x.1)
            (at_set s.views id seat left sight old))
            (λ new. subst (λ (u : Sight). (u.front ≤ get_or s.words 1 0) × (u.known ≤ get_or s.words 2 0)) new.1 (h.known id v at))
            (at_end vs right sight seat is);
      }
