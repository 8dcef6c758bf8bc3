-- The rule of the table is kept where one view changes, where seats are split and where they are joined.
use Rattle.std.proofs.Common.{◌≡◌, ◌≢◌, ℕ, zero, suc, ◌+◌, ◌<◌, ◌≤◌, ⊎_elim, ◌⊎◌, inl, inr, Bool, cond, List, [], ◌∷◌, ◌++◌, get_or, set, sym, refl, ap, ◌∙◌, subst, arith, eq-eqb, ne_eqb}
use Rattle.std.proofs.lemmas.List.{get_or-set_other, get_or-set_same}
use mathlib.Core.Option.{some, some-injective, some-ne-none}
use mathlib.Core.Logic.{dite}
use native.Mathlib.Decide.{ℕ_discrete}
use lib.ListN.{get_elem?}
use Rattle.atomic_table.specs.Table.{State}
use Rattle.atomic_table.proofs.Lists.{at_map, at_set, at_snoc, at_longer, set_else}
use Rattle.dl_pool.specs.declared.views.Member.{Member}
use Rattle.dl_pool.specs.Rule.{version_of, word_of, part, accounts, PoolKept}
use Rattle.dl_pool.specs.Log.{HasCaller}
use Rattle.dl_pool.proofs.Vacant.{word_apart}
use Rattle.dl_pool.proofs.Logs.{owner_of}
use Rattle.dl_pool_trial.specs.declared.rule.Hold.{Hold}
use Rattle.dl_pool_trial.specs.declared.rule.Rest.{Rest}
use Rattle.dl_pool_trial.specs.declared.rule.Setting.{Setting}
use Rattle.dl_pool_trial.specs.Trials.{Among, without, left_all, TrialKept}

abbrev pub St : Type 0
St = State (Unit {0}) (Member Rest)

-- the view keeps the account of the caller
abbrev pub Keeps : ℕ → Member Rest → Type 0
Keeps c v = HasCaller c (accounts v.pool)

pub left_set : (vs : List (Member Rest)) (j : ℕ) (v w : Member Rest) → get_elem? vs j ≡ some v → left_all (set vs j w) + v.rest.left ≡ left_all vs + w.rest.left
left_set [] j v w e = absurd (some-ne-none v (sym e))
left_set (x ∷ xs) zero v w e = let is : x.rest.left ≡ v.rest.left = ap (λ (y : Member Rest). y.rest.left) (some-injective x v e) in omega arith
left_set (x ∷ xs) (suc j) v w e = let r = left_set xs j v w e in omega arith

pub left_in : (vs : List (Member Rest)) (j : ℕ) (v : Member Rest) → get_elem? vs j ≡ some v → v.rest.left ≤ left_all vs
left_in [] j v e = absurd (some-ne-none v (sym e))
left_in (x ∷ xs) zero v e = let is : x.rest.left ≡ v.rest.left = ap (λ (y : Member Rest). y.rest.left) (some-injective x v e) in omega arith
left_in (x ∷ xs) (suc j) v e = let r = left_in xs j v e in omega arith

pub left_snoc : (vs : List (Member Rest)) (w : Member Rest) → left_all (vs ++ w ∷ []) ≡ left_all vs + w.rest.left
left_snoc [] w = omega arith
left_snoc (x ∷ xs) w = let r = left_snoc xs w in omega arith

pub put_here : (vs : List (Member Rest)) (j : ℕ) (v w : Member Rest) → get_elem? vs j ≡ some v → get_elem? (set vs j w) j ≡ some w
put_here [] j v w e = absurd (some-ne-none v (sym e))
put_here (x ∷ xs) zero v w e = refl
put_here (x ∷ xs) (suc j) v w e = put_here xs j v w e

pub among_left : (c p : ℕ) (xs ys : List Hold) → Among c p xs → Among c p (xs ++ ys)
among_left c p [] ys i = absurd i
among_left c p (x ∷ xs) ys i = ⊎_elim inl (λ t. inr (among_left c p xs ys t)) i

pub among_right : (c p : ℕ) (xs ys : List Hold) → Among c p ys → Among c p (xs ++ ys)
among_right c p [] ys i = i
among_right c p (x ∷ xs) ys i = inr (among_right c p xs ys i)

pub among_either : (c p : ℕ) (xs ys : List Hold) → Among c p (xs ++ ys) → Among c p xs ⊎ Among c p ys
among_either c p [] ys i = inr i
among_either c p (x ∷ xs) ys i = ⊎_elim (λ t. inl (inl t)) (λ t. ⊎_elim (λ a. inl (inr a)) inr (among_either c p xs ys t)) i

pub among_out : (p c q : ℕ) (xs : List Hold) → Among c q (without p xs) → (q ≢ p) × Among c q xs
among_out p c q [] i = absurd i
among_out p c q (x ∷ xs) i = dite (ℕ_discrete x.place p)
    (λ e. let gone : without p (x ∷ xs) ≡ without p xs = ap (λ (b : Bool). cond b (without p xs) (x ∷ without p xs)) (eq-eqb x.place p e) in
    let r = among_out p c q xs (subst (λ (ys : List Hold). Among c q ys) gone i) in (r.0, inr r.1))
    (λ ne. let stays : without p (x ∷ xs) ≡ x ∷ without p xs = ap (λ (b : Bool). cond b (without p xs) (x ∷ without p xs)) (ne_eqb x.place p ne) in
    ⊎_elim (λ z. ((λ t. ne (z.1 ∙ t)), inl z)) (λ z. let r = among_out p c q xs z in (r.0, inr r.1)) (subst (λ (ys : List Hold). Among c q ys) stays i))

pub among_in : (p c q : ℕ) (xs : List Hold) → q ≢ p → Among c q xs → Among c q (without p xs)
among_in p c q [] ne i = absurd i
among_in p c q (x ∷ xs) ne i = dite (ℕ_discrete x.place p)
    (λ e. let gone : without p (x ∷ xs) ≡ without p xs = ap (λ (b : Bool). cond b (without p xs) (x ∷ without p xs)) (eq-eqb x.place p e) in
    subst (λ (ys : List Hold). Among c q ys) (sym gone) (⊎_elim (λ z. absurd (ne (sym z.1 ∙ e))) (λ z. among_in p c q xs ne z) i))
    (λ no. let stays : without p (x ∷ xs) ≡ x ∷ without p xs = ap (λ (b : Bool). cond b (without p xs) (x ∷ without p xs)) (ne_eqb x.place p no) in
    subst (λ (ys : List Hold). Among c q ys) (sym stays) (⊎_elim inl (λ z. inr (among_in p c q xs ne z)) i))

-- the claims of a view that another one has too
claims_of : (c p : ℕ) (v w u : Member Rest) → w.rest.claimed ≡ v.rest.claimed → w ≡ u → Among c p u.rest.claimed → Among c p v.rest.claimed
claims_of c p v w u places is i = subst (λ (xs : List Hold). Among c p xs) places (subst (λ (y : Member Rest). Among c p y.rest.claimed) (sym is) i)

-- the view that stands at a number
at_one : (vs : List (Member Rest)) (j id : ℕ) (v u : Member Rest) → j ≡ id → get_elem? vs j ≡ some u → get_elem? vs id ≡ some v → u ≡ v
at_one vs j id v u e there at = some-injective u v (sym there ∙ ap (λ (n : ℕ). get_elem? vs n) e ∙ at)

-- one view changes, and neither its places nor the states of places
pub same_step : (k : Setting) (s : St) (ws : List ℕ) (id : ℕ) (v w : Member Rest) → TrialKept k s → get_elem? s.views id ≡ some v
    → ((p : ℕ) → p < k.layout.places → get_or ws (word_of k.layout p) 0 ≡ get_or s.words (word_of k.layout p) 0)
    → w.rest.claimed ≡ v.rest.claimed → w.rest.number ≡ w.pool.number → ((c : ℕ) → Keeps c v → Keeps c w) → version_of (get_or ws 0 0) + w.rest.left ≤ version_of (get_or s.words 0 0) + v.rest.left
    → PoolKept k.layout.places k.callers k.layout record { words = ws; homes = s.homes; views = set s.views id w } → TrialKept k record { words = ws; homes = s.homes; views = set s.views id w }
same_step k s ws id v w h at states places number keeps less pool = record {
  pool = pool;
  numbered = λ j u e. ⊎_elim (λ t. subst (λ (y : Member Rest). y.rest.number ≡ y.pool.number) t.1 number) (λ t. h.numbered j u t.1) (at_set s.views id j w u e);
  taken = λ j u c p e i. ⊎_elim
      (λ t. let old = h.taken id v c p at (claims_of c p v w u places t.1 i) in
      (old.0, states p old.0 ∙ old.1, old.2, subst (λ (y : Member Rest). Keeps c y) t.1 (keeps c old.3)))
      (λ t. let old = h.taken j u c p t.1 i in (old.0, states p old.0 ∙ old.1, old.2, old.3))
      (at_set s.views id j w u e);
  held = λ p l. ⊎_elim (λ z. inl (states p l ∙ z))
      (λ t. dite (ℕ_discrete t.0 id)
      (λ e. let same : t.1 ≡ v = at_one s.views t.0 id v t.1 e t.3 at in
      inr (id, w, t.2, put_here s.views id v w at, subst (λ (xs : List Hold). Among t.2 p xs) (sym places) (subst (λ (y : Member Rest). Among t.2 p y.rest.claimed) same t.4)))
      (λ ne. inr (t.0, t.1, t.2, set_else s.views id t.0 w ne ∙ t.3, t.4)))
      (h.held p l);
  moves = (let a = left_set s.views id v w at in let b = h.moves in omega arith);
}

-- a step on word 0
pub word_step : (k : Setting) (s : St) (id : ℕ) (v w : Member Rest) (word : ℕ) → TrialKept k s → get_elem? s.views id ≡ some v → w.rest.claimed ≡ v.rest.claimed → w.rest.number ≡ w.pool.number → ((c : ℕ) → Keeps c v → Keeps c w)
    → version_of word + w.rest.left ≤ version_of (get_or s.words 0 0) + v.rest.left
    → PoolKept k.layout.places k.callers k.layout record { words = set s.words 0 word; homes = s.homes; views = set s.views id w } → TrialKept k record { words = set s.words 0 word; homes = s.homes; views = set s.views id w }
word_step k s id v w word h at places number keeps less pool =
    let is : get_or (set s.words 0 word) 0 0 ≡ word = get_or-set_same s.words 0 word 0 h.pool.laid.pool in
    same_step k s (set s.words 0 word) id v w h at (λ p l. get_or-set_other s.words 0 (word_of k.layout p) word 0 (λ e. let a = h.pool.laid.first in omega arith)) places number keeps
    (subst (λ (n : ℕ). version_of n + w.rest.left ≤ version_of (get_or s.words 0 0) + v.rest.left) (sym is) less) pool

-- the state of a place changes, and the list of the stepping view
pub place_step : (k : Setting) (s : St) (id place x : ℕ) (v w : Member Rest) → TrialKept k s → get_elem? s.views id ≡ some v → place < k.layout.places → w.rest.number ≡ w.pool.number → ((c : ℕ) → Keeps c v → Keeps c w) → w.rest.left ≡ v.rest.left
    → ((c q : ℕ) → q ≢ place → Among c q w.rest.claimed → Among c q v.rest.claimed) → ((c q : ℕ) → q ≢ place → Among c q v.rest.claimed → Among c q w.rest.claimed)
    → ((c : ℕ) → Among c place w.rest.claimed → (x ≡ 1 + c) × (0 < c) × Keeps c w) → (x ≡ 0) ⊎ ((c : ℕ) × Among c place w.rest.claimed)
    → ((j : ℕ) (u : Member Rest) (c : ℕ) → j ≢ id → get_elem? s.views j ≡ some u → Among c place u.rest.claimed → ⊥)
    → PoolKept k.layout.places k.callers k.layout record { words = set s.words (word_of k.layout place) x; homes = s.homes; views = set s.views id w } → TrialKept k record { words = set s.words (word_of k.layout place) x; homes = s.homes; views = set s.views id w }
place_step k s id place x v w h at inside number keeps left out into here held alone pool =
    let laid = h.pool.laid in
    let i : ℕ = word_of k.layout place in
    let now : get_or (set s.words i x) i 0 ≡ x = get_or-set_same s.words i x 0 (laid.states place inside) in
    let else_where : (q : ℕ) → q ≢ place → get_or (set s.words i x) (word_of k.layout q) 0 ≡ get_or s.words (word_of k.layout q) 0 = λ q ne. get_or-set_other s.words i (word_of k.layout q) x 0 (λ e. word_apart k.layout q place laid.step ne e) in
    let word : get_or (set s.words i x) 0 0 ≡ get_or s.words 0 0 = get_or-set_other s.words i 0 x 0 (λ e. let a = laid.first in omega arith) in record {
      pool = pool;
      numbered = λ j u e. ⊎_elim (λ t. subst (λ (y : Member Rest). y.rest.number ≡ y.pool.number) t.1 number) (λ t. h.numbered j u t.1) (at_set s.views id j w u e);
      taken = λ j u c p e among. ⊎_elim
          (λ t. let among' : Among c p w.rest.claimed = subst (λ (y : Member Rest). Among c p y.rest.claimed) (sym t.1) among in
          subst (λ (y : Member Rest). (p < k.layout.places) × (get_or (set s.words i x) (word_of k.layout p) 0 ≡ 1 + c) × (0 < c) × Keeps c y) t.1
          (dite (ℕ_discrete p place)
          (λ z. let new = here c (subst (λ (n : ℕ). Among c n w.rest.claimed) z among') in (
            subst (λ (n : ℕ). n < k.layout.places) (sym z) inside,
            ap (λ (n : ℕ). get_or (set s.words i x) (word_of k.layout n) 0) z ∙ now ∙ new.0,
            new.1,
            new.2,
          ))
          (λ ne. let old = h.taken id v c p at (out c p ne among') in (old.0, else_where p ne ∙ old.1, old.2, keeps c old.3))))
          (λ t. let old = h.taken j u c p t.1 among in (old.0, else_where p (λ z. alone j u c t.0 t.1 (subst (λ (n : ℕ). Among c n u.rest.claimed) z among)) ∙ old.1, old.2, old.3))
          (at_set s.views id j w u e);
      held = λ p l. dite (ℕ_discrete p place)
          (λ z. ⊎_elim (λ a. inl (ap (λ (n : ℕ). get_or (set s.words i x) (word_of k.layout n) 0) z ∙ now ∙ a)) (λ a. inr (id, w, a.0, put_here s.views id v w at, subst (λ (n : ℕ). Among a.0 n w.rest.claimed) (sym z) a.1)) held)
          (λ ne. ⊎_elim (λ z. inl (else_where p ne ∙ z))
          (λ t. dite (ℕ_discrete t.0 id)
          (λ e. let same : t.1 ≡ v = at_one s.views t.0 id v t.1 e t.3 at in
          inr (id, w, t.2, put_here s.views id v w at, into t.2 p ne (subst (λ (y : Member Rest). Among t.2 p y.rest.claimed) same t.4)))
          (λ no. inr (t.0, t.1, t.2, set_else s.views id t.0 w no ∙ t.3, t.4)))
          (h.held p l));
      moves = (let a = left_set s.views id v w at in let b = h.moves in let c : version_of (get_or (set s.words i x) 0 0) ≡ version_of (get_or s.words 0 0) = ap version_of word in omega arith);
    }

-- no other seat has the place that this one has
pub alone_there : (k : Setting) (s : St) (id place d : ℕ) (v : Member Rest) → TrialKept k s → get_elem? s.views id ≡ some v → Among d place v.rest.claimed
    → (j : ℕ) (u : Member Rest) (c : ℕ) → j ≢ id → get_elem? s.views j ≡ some u → Among c place u.rest.claimed → ⊥
alone_there k s id place d v h at mine j u c ne there theirs =
    let a = h.taken id v d place at mine in
    let b = h.taken j u c place there theirs in
    let same : c ≡ d = (let x = a.1 in let y = b.1 in omega arith) in
    let o = owner_of h.pool.owner id d (accounts v.pool) a.2 (h.pool.owned id v.pool (at_map part s.views id v at)).0 a.3 in
    let o' = owner_of h.pool.owner j c (accounts u.pool) b.2 (h.pool.owned j u.pool (at_map part s.views j u there)).0 b.3 in
    ne (sym o' ∙ ap h.pool.owner same ∙ o)

-- a seat is split
pub split_step : (k : Setting) (s : St) (id : ℕ) (v w r : Member Rest) → TrialKept k s → get_elem? s.views id ≡ some v → w.rest.claimed ≡ v.rest.claimed → w.rest.number ≡ w.pool.number → r.rest.number ≡ r.pool.number
    → ((c : ℕ) → Keeps c v → Keeps c w) → r.rest.claimed ≡ [] → w.rest.left + r.rest.left ≤ v.rest.left
    → PoolKept k.layout.places k.callers k.layout record { words = s.words; homes = s.homes; views = set s.views id w ++ r ∷ [] } → TrialKept k record { words = s.words; homes = s.homes; views = set s.views id w ++ r ∷ [] }
split_step k s id v w r h at places number number' keeps empty less pool = record {
  pool = pool;
  numbered = λ j u e. ⊎_elim
      (λ x. ⊎_elim (λ t. subst (λ (y : Member Rest). y.rest.number ≡ y.pool.number) t.1 number) (λ t. h.numbered j u t.1) (at_set s.views id j w u x))
      (λ x. subst (λ (y : Member Rest). y.rest.number ≡ y.pool.number) x number')
      (at_snoc (set s.views id w) r u j e);
  taken = λ j u c p e i. ⊎_elim
      (λ x. ⊎_elim
      (λ t. let old = h.taken id v c p at (claims_of c p v w u places t.1 i) in (old.0, old.1, old.2, subst (λ (y : Member Rest). Keeps c y) t.1 (keeps c old.3)))
      (λ t. h.taken j u c p t.1 i)
      (at_set s.views id j w u x))
      (λ x. absurd (subst (λ (xs : List Hold). Among c p xs) empty (subst (λ (y : Member Rest). Among c p y.rest.claimed) (sym x) i)))
      (at_snoc (set s.views id w) r u j e);
  held = λ p l. ⊎_elim inl
      (λ t. dite (ℕ_discrete t.0 id)
      (λ e. let same : t.1 ≡ v = at_one s.views t.0 id v t.1 e t.3 at in
      inr (id, w, t.2, at_longer (set s.views id w) (r ∷ []) id w (put_here s.views id v w at), subst (λ (xs : List Hold). Among t.2 p xs) (sym places) (subst (λ (y : Member Rest). Among t.2 p y.rest.claimed) same t.4)))
      (λ ne. inr (t.0, t.1, t.2, at_longer (set s.views id w) (r ∷ []) t.0 t.1 (set_else s.views id t.0 w ne ∙ t.3), t.4)))
      (h.held p l);
  moves = (let a = left_set s.views id v w at in let c = left_snoc (set s.views id w) r in let b = h.moves in omega arith);
}

-- two seats are joined
pub join_step : (k : Setting) (s : St) (id other : ℕ) (v u w z : Member Rest) → TrialKept k s → get_elem? s.views id ≡ some v → other ≢ id → get_elem? s.views other ≡ some u
    → w.rest.claimed ≡ v.rest.claimed ++ u.rest.claimed → w.rest.number ≡ w.pool.number → z.rest.number ≡ z.pool.number → ((c : ℕ) → Keeps c v → Keeps c w) → ((c p : ℕ) → Among c p u.rest.claimed → Keeps c u → Keeps c w)
    → z.rest.claimed ≡ [] → w.rest.left + z.rest.left ≤ v.rest.left + u.rest.left
    → PoolKept k.layout.places k.callers k.layout record { words = s.words; homes = s.homes; views = set (set s.views id w) other z } → TrialKept k record { words = s.words; homes = s.homes; views = set (set s.views id w) other z }
join_step k s id other v u w z h at apart there places number number' keeps keeps' empty less pool =
    let vs : List (Member Rest) = set s.views id w in
    let still : get_elem? vs other ≡ some u = set_else s.views id other w apart ∙ there in
    let joined : get_elem? (set vs other z) id ≡ some w = set_else vs other id z (λ b. apart (sym b)) ∙ put_here s.views id v w at in record {
      pool = pool;
      numbered = λ j y e. ⊎_elim
          (λ x. subst (λ (q : Member Rest). q.rest.number ≡ q.pool.number) x.1 number')
          (λ x. ⊎_elim (λ t. subst (λ (q : Member Rest). q.rest.number ≡ q.pool.number) t.1 number) (λ t. h.numbered j y t.1) (at_set s.views id j w y x.1))
          (at_set vs other j z y e);
      taken = λ j y c p e i. ⊎_elim
          (λ x. absurd (subst (λ (xs : List Hold). Among c p xs) empty (subst (λ (q : Member Rest). Among c p q.rest.claimed) (sym x.1) i)))
          (λ x. ⊎_elim
          (λ t. let i' : Among c p (v.rest.claimed ++ u.rest.claimed) = subst (λ (xs : List Hold). Among c p xs) places (subst (λ (q : Member Rest). Among c p q.rest.claimed) (sym t.1) i) in
          subst (λ (q : Member Rest). (p < k.layout.places) × (get_or s.words (word_of k.layout p) 0 ≡ 1 + c) × (0 < c) × Keeps c q) t.1
          (⊎_elim
          (λ a. let old = h.taken id v c p at a in (old.0, old.1, old.2, keeps c old.3))
          (λ a. let old = h.taken other u c p there a in (old.0, old.1, old.2, keeps' c p a old.3))
          (among_either c p v.rest.claimed u.rest.claimed i')))
          (λ t. h.taken j y c p t.1 i)
          (at_set s.views id j w y x.1))
          (at_set vs other j z y e);
      held = λ p l. ⊎_elim inl
          (λ t. dite (ℕ_discrete t.0 id)
          (λ e. let same : t.1 ≡ v = at_one s.views t.0 id v t.1 e t.3 at in
          inr (id, w, t.2, joined, subst (λ (xs : List Hold). Among t.2 p xs) (sym places) (among_left t.2 p v.rest.claimed u.rest.claimed (subst (λ (y : Member Rest). Among t.2 p y.rest.claimed) same t.4))))
          (λ ne. dite (ℕ_discrete t.0 other)
          (λ e. let same : t.1 ≡ u = at_one s.views t.0 other u t.1 e t.3 there in
          inr (id, w, t.2, joined, subst (λ (xs : List Hold). Among t.2 p xs) (sym places) (among_right t.2 p v.rest.claimed u.rest.claimed (subst (λ (y : Member Rest). Among t.2 p y.rest.claimed) same t.4))))
          (λ no. inr (t.0, t.1, t.2, set_else vs other t.0 z no ∙ set_else s.views id t.0 w ne ∙ t.3, t.4))))
          (h.held p l);
      moves = (let a = left_set s.views id v w at in let c = left_set vs other u z still in let b = h.moves in omega arith);
    }
