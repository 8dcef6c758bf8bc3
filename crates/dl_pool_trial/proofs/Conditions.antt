-- What the calls of the pool owe to the rule of the table.
use Rattle.std.proofs.Common.{◌≡◌, ◌≢◌, ℕ, zero, suc, ◌+◌, ◌-◌, ◌*◌, ◌<◌, ◌≤◌, ⊎_elim, inl, inr, List, [], ◌∷◌, ◌++◌, get_or, set, sym, refl, ap, ◌∙◌, subst, arith}
use Rattle.std.proofs.lemmas.List.{set-get_or, append-nil}
use Rattle.atomic_table.proofs.Lists.{set_else}
use mathlib.Core.Option.{some, some-injective, some-ne-none}
use lib.ListN.{get_elem?}
use Rattle.atomic_table.specs.Table.{State, Splits, Joins, opening}
use Rattle.dl_pool.specs.declared.views.Layout.{Layout}
use Rattle.dl_pool.specs.declared.views.Member.{Member}
use Rattle.dl_pool.specs.Rule.{version_of, free_of, word_of, accounts, IsLaidOut, vacant, vacant_in, Kept}
use Rattle.dl_pool.specs.Views.{member, loaded, refused, reserved, raced, gave_back, claimed, looked, vacated, first_part}
use Rattle.dl_pool.specs.Steps.{CanLook, CanTake, MayReserve, MayGive, MayClaim, MayVacate, IsNote, noting, dealing_view, dealt_view, learning, joining, spent_view}
use Rattle.dl_pool.proofs.WordSteps.{loaded_kept, refused_kept, raced_kept, reserved_kept, gave_kept, gave_fits}
use Rattle.dl_pool.proofs.PlaceSteps.{looked_kept, claimed_kept, vacated_kept}
use Rattle.dl_pool.proofs.SeatSteps.{note_kept, deal_kept, learn_kept, join_kept}
use Rattle.dl_pool.proofs.Logs.{has_left, has_right}
use Rattle.dl_pool.proofs.Openings as pool_openings
use Rattle.dl_pool_trial.specs.declared.rule.Rest.{Rest}
use Rattle.dl_pool_trial.specs.declared.rule.Setting.{Setting}
use Rattle.dl_pool_trial.specs.Trials.{Among, one_less, with_place, without_place, no_rest, share, rest_less, both_rests, newcomer, TrialKept}
use Rattle.dl_pool_trial.proofs.Taken.{left_in, word_step, same_step, place_step, alone_there, split_step, join_step, among_out, among_in}

can_look : (k : Setting) (id need : ℕ) (v : Member Rest) → 0 < v.pool.number → CanLook (TrialKept k) id need (λ n found version x. x) v
can_look k id need v caller = record {
  refuses = λ s h at small few. let n : ℕ = get_or s.words 0 0 in word_step k s id v (member (refused need n v.pool) v.rest) n h at refl (h.numbered id v at) (λ c t. t) (omega arith) (refused_kept k.layout.places k.callers k.layout s s.homes id v v.rest h.pool at need caller few);
  loads = λ s h at small room. let n : ℕ = get_or s.words 0 0 in word_step k s id v (member (loaded n v.pool) v.rest) n h at refl (h.numbered id v at) (λ c t. t) (omega arith) (loaded_kept k.layout.places k.callers k.layout s s.homes id v v.rest h.pool at);
}

can_take : (k : Setting) (id need n : ℕ) (v : Member Rest) → 0 < v.pool.number → need ≤ free_of n → 0 < v.rest.left → CanTake (TrialKept k) id need (λ n version x. one_less x) n v
can_take k id need n v caller room some_left = record {
  makes = λ s h at small hit. let bound = h.moves in let mine = left_in s.views id v at in let word : ℕ = get_or s.words 0 0 in
      let here : need ≤ free_of word = subst (λ (z : ℕ). need ≤ free_of z) (sym hit) room in
      word_step k s id v (member (reserved need word v.pool) (one_less v.rest)) (word + 16777216 - need) h at refl (h.numbered id v at) (λ c t. t) (omega arith)
      (reserved_kept k.layout.places k.callers k.layout s s.homes id v (one_less v.rest) h.pool at need caller here (omega arith));
  races = λ s h at small miss. let n : ℕ = get_or s.words 0 0 in word_step k s id v (member (raced n v.pool) v.rest) n h at refl (h.numbered id v at) (λ c t. t) (omega arith) (raced_kept k.layout.places k.callers k.layout s s.homes id v v.rest h.pool at);
}

pub may_reserve : (k : Setting) (id need : ℕ) (v : Member Rest) → 0 < v.pool.number → 0 < v.rest.left → MayReserve (TrialKept k) id need (λ n version x. one_less x) (λ n found version x. x) v
may_reserve k id need v caller some_left = record {
  looks = can_look k id need v caller;
  takes = λ n room known. can_take k id need n (member (loaded n v.pool) v.rest) caller room some_left;
}

pub may_give : (k : Setting) (id count : ℕ) (v : Member Rest) → 0 < v.pool.number → count ≤ v.pool.spares → 0 < v.rest.left → MayGive (TrialKept k) id count (λ n version x. one_less x) v
may_give k id count v caller enough some_left = record {
  gives = λ s h at small asked. let bound = h.moves in let mine = left_in s.views id v at in let word : ℕ = get_or s.words 0 0 in
      let fits = gave_fits k.layout.places k.callers k.layout s s.homes id v (one_less v.rest) h.pool at count enough in
      word_step k s id v (member (gave_back count word v.pool) (one_less v.rest)) (word + (16777216 + count)) h at refl (h.numbered id v at) (λ c t. t) (omega arith)
      (gave_kept k.layout.places k.callers k.layout s s.homes id v (one_less v.rest) h.pool at count caller enough (omega arith));
}

pub may_claim : (k : Setting) (id place : ℕ) (v : Member Rest) → place < k.layout.places → 0 < v.pool.number → 0 < v.pool.spares → MayClaim (TrialKept k) id (word_of k.layout place) place (1 + v.pool.number) with_place v
may_claim k id place v inside caller some_left = record {
  claims = λ s h at small vacant. place_step k s id place (1 + v.pool.number) v (member (claimed (word_of k.layout place) v.pool) (with_place place v.rest)) h at inside (h.numbered id v at) (λ c t. t) refl
      (λ c q ne i. ⊎_elim (λ e. absurd (ne (sym e.1))) (λ z. z) i) (λ c q ne i. inr i)
      (λ c i. ⊎_elim
      (λ e. let is : v.pool.number ≡ c = sym (h.numbered id v at) ∙ e.0 in (ap (λ (n : ℕ). 1 + n) is, subst (λ (n : ℕ). 0 < n) is caller, inl is))
      (λ z. let old = (h.taken id v c place at z).1 in absurd (omega arith)) i)
      (inr (v.rest.number, inl (refl, refl)))
      (λ j u c ne there i. let old = (h.taken j u c place there i).1 in absurd (omega arith))
      (claimed_kept k.layout.places k.callers k.layout s s.homes id v (with_place place v.rest) h.pool at place (1 + v.pool.number) inside vacant (omega arith) some_left);
  looks = λ s h at small taken. let i : ℕ = word_of k.layout place in let n : ℕ = get_or s.words i 0 in let same : set s.words i n ≡ s.words = set-get_or s.words i 0 in
      same_step k s (set s.words i n) id v (member (looked i n v.pool) v.rest) h at (λ p l. ap (λ (ws : List ℕ). get_or ws (word_of k.layout p) 0) same) refl (h.numbered id v at) (λ c t. t)
      (let e : version_of (get_or (set s.words i n) 0 0) ≡ version_of (get_or s.words 0 0) = ap (λ (ws : List ℕ). version_of (get_or ws 0 0)) same in omega arith)
      (looked_kept k.layout.places k.callers k.layout s s.homes id v v.rest h.pool at i);
}

pub may_vacate : (k : Setting) (id place : ℕ) (v : Member Rest) → Among v.rest.number place v.rest.claimed → MayVacate (TrialKept k) id (word_of k.layout place) place without_place v
may_vacate k id place v mine = record {
  holds_it = λ s h at. (h.taken id v v.rest.number place at mine).1 ∙ ap (λ (n : ℕ). 1 + n) (h.numbered id v at);
  frees = λ s h at small is. let old = h.taken id v v.rest.number place at mine in
      place_step k s id place 0 v (member (vacated (word_of k.layout place) v.pool) (without_place place v.rest)) h at old.0 (h.numbered id v at) (λ c t. t) refl
      (λ c q ne i. (among_out place c q v.rest.claimed i).1) (λ c q ne i. among_in place c q v.rest.claimed ne i)
      (λ c i. absurd ((among_out place c place v.rest.claimed i).0 refl)) (inl refl) (alone_there k s id place v.rest.number v h at mine)
      (vacated_kept k.layout.places k.callers k.layout s s.homes id v (without_place place v.rest) h.pool at place old.0 (λ z. omega arith));
}

pub may_note : (k : Setting) (id : ℕ) (v : Member Rest) → Splits (TrialKept k) id v v (noting (λ x. no_rest) v)
may_note k id v s h at = split_step k s id v v (noting (λ x. no_rest) v) h at refl (h.numbered id v at) refl (λ c t. t) refl (omega arith) (note_kept k.layout.places k.callers k.layout s id v h.pool at no_rest)

pub may_deal : (k : Setting) (id : ℕ) (v : Member Rest) → 0 < v.pool.dealing → v.pool.dealing ≤ k.callers → 4096 ≤ v.rest.left → Splits (TrialKept k) id v (dealing_view (λ c x. rest_less x) v) (dealt_view (λ c x. share c) v)
may_deal k id v deals fits room s h at =
    split_step k s id v (dealing_view (λ c x. rest_less x) v) (dealt_view (λ c x. share c) v) h at refl (h.numbered id v at) refl (λ c t. t) refl (omega arith)
    (deal_kept k.layout.places k.callers k.layout s id v h.pool at (share v.pool.dealing) (rest_less v.rest) deals fits)

still_there : (k : Setting) (s : State (Unit {0}) (Member Rest)) (id other : ℕ) (w u : Member Rest) → other ≢ id → get_elem? (set s.views id w) other ≡ some u → get_elem? s.views other ≡ some u
still_there k s id other w u ne e = sym (set_else s.views id other w ne) ∙ e

pub may_learn : (k : Setting) (id other : ℕ) (v u : Member Rest) → IsNote u.pool → u.rest ≡ no_rest → Joins (TrialKept k) id v other u (learning (λ x y. x) v u) (spent_view no_rest)
may_learn k id other v u note nothing s h at apart there =
    let was = still_there k s id other (learning (λ x y. x) v u) u apart there in
    join_step k s id other v u (learning (λ x y. x) v u) (spent_view no_rest) h at apart was
    (sym (append-nil v.rest.claimed) ∙ ap (λ (x : Rest). v.rest.claimed ++ x.claimed) (sym nothing)) (h.numbered id v at) refl (λ c t. t) (λ c p i k'. absurd (subst (λ (x : Rest). Among c p x.claimed) nothing i)) refl (omega arith)
    (learn_kept k.layout.places k.callers k.layout s id v h.pool at other u apart was v.rest no_rest note)

pub may_join : (k : Setting) (id other : ℕ) (v u : Member Rest) → Joins (TrialKept k) id v other u (joining both_rests v u) (spent_view no_rest)
may_join k id other v u s h at apart there =
    let was = still_there k s id other (joining both_rests v u) u apart there in
    join_step k s id other v u (joining both_rests v u) (spent_view no_rest) h at apart was refl (h.numbered id v at) refl
    (λ c t. has_left c (accounts v.pool) (accounts u.pool) t) (λ c p i t. has_right c (accounts v.pool) (accounts u.pool) t) refl (omega arith)
    (join_kept k.layout.places k.callers k.layout s id v h.pool at other u apart was (both_rests v.rest u.rest) no_rest)

-- four words: three free places, all of them vacant
abbrev start : List ℕ
start = 3 ∷ 0 ∷ 0 ∷ 0 ∷ []

laid_out : (k : Layout) → k.first ≡ 1 → k.step ≡ 1 → k.places ≡ 3 → IsLaidOut k start
laid_out k first step places = record {
  pool = omega arith;
  first = omega arith;
  step = omega arith;
  most = omega arith;
  states = λ p l. let a : p * k.step ≡ p * 1 = ap (λ (n : ℕ). p * n) step in omega arith;
}

none_claimed : (j : ℕ) (v : Member Rest) (c p : ℕ) → get_elem? (newcomer ∷ []) j ≡ some v → Among c p v.rest.claimed → ⊥
none_claimed zero v c p e i = subst (λ (y : Member Rest). Among c p y.rest.claimed) (sym (some-injective newcomer v e)) i
none_claimed (suc j) v c p e i = some-ne-none v (sym e)

unnumbered : (j : ℕ) (v : Member Rest) → get_elem? (newcomer ∷ []) j ≡ some v → v.rest.number ≡ v.pool.number
unnumbered zero v e = subst (λ (y : Member Rest). y.rest.number ≡ y.pool.number) (some-injective newcomer v e) refl
unnumbered (suc j) v e = absurd (some-ne-none v (sym e))

zero_state : (i : ℕ) → 0 < i → get_or start i 0 ≡ 0
zero_state zero l = absurd (omega arith)
zero_state (suc zero) l = refl
zero_state (suc (suc zero)) l = refl
zero_state (suc (suc (suc zero))) l = refl
zero_state (suc (suc (suc (suc i)))) l = refl

pub opens : (k : Setting) → k.layout.first ≡ 1 → k.layout.step ≡ 1 → k.layout.places ≡ 3 → TrialKept k (opening start [] newcomer)
opens k first step places =
    let all : vacant_in k.layout start ≡ 3 = ap (λ (z : ℕ × ℕ × ℕ). vacant start z.0 z.1 z.2) (λ i. (first i, step i, places i)) in record {
      pool = subst (λ (n : ℕ). Kept n k.callers k.layout start (first_part ∷ [])) (sym places) (pool_openings.opens k.callers k.layout start (laid_out k.layout first step places) all);
      numbered = unnumbered;
      taken = λ j v c p e i. absurd (none_claimed j v c p e i);
      held = λ p l. inl (zero_state (word_of k.layout p) (omega arith));
      moves = omega arith;
    }

-- the same for a layout and a number that the caller hands in
pub may_claim_as : (k : Setting) (l : Layout) (id place number : ℕ) (v : Member Rest) → l ≡ k.layout → number ≡ v.pool.number → place < l.places → 0 < number → 0 < v.pool.spares → MayClaim (TrialKept k) id (word_of l place) place (1 + number) with_place v
may_claim_as k l id place number v same is inside caller some_left =
    subst (λ (z : Layout × ℕ). MayClaim (TrialKept k) id (word_of z.0 place) place (1 + z.1) with_place v) (λ i. (sym same i, sym is i))
    (may_claim k id place v (subst (λ (z : Layout). place < z.places) same inside) (subst (λ (n : ℕ). 0 < n) is caller) some_left)

pub may_vacate_as : (k : Setting) (l : Layout) (id place : ℕ) (v : Member Rest) → l ≡ k.layout → Among v.rest.number place v.rest.claimed → MayVacate (TrialKept k) id (word_of l place) place without_place v
may_vacate_as k l id place v same mine = subst (λ (z : Layout). MayVacate (TrialKept k) id (word_of z place) place without_place v) (sym same) (may_vacate k id place v mine)
