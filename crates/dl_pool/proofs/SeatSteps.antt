-- The pool rule is kept where seats are split and joined, whatever the rests of the views become.
use Rattle.std.proofs.Common.{◌≡◌, ◌≢◌, ℕ, zero, suc, ◌+◌, ◌<◌, ◌≤◌, max, ⊎_elim, ◌⊎◌, inl, inr, Bool, cond, eqb, List, [], ◌∷◌, ◌++◌, length, get_or, set, sym, refl, ap, ◌∙◌, subst, arith, length-set, eq-eqb, ne_eqb, lt_of_not-le}
use Rattle.std.proofs.lemmas.List.{map-append}
use mathlib.Core.Option.{some, some-injective, some-ne-none}
use mathlib.Core.Logic.{dite}
use native.Mathlib.Decide.{dec_le}
use lib.ListN.{get_elem?}
use lib.Seq.{map-set}
use Rattle.atomic_table.specs.Table.{State}
use Rattle.atomic_table.proofs.Lists.{at_map, at_set, set_else}
use Rattle.dl_pool.specs.declared.views.Move.{Move}
use Rattle.dl_pool.specs.declared.views.Event.{Event}
use Rattle.dl_pool.specs.declared.views.Account.{Account}
use Rattle.dl_pool.specs.declared.views.Seen.TheVariants.{Nothing}
use Rattle.dl_pool.specs.declared.views.Part.{Part}
use Rattle.dl_pool.specs.declared.views.Member.{Member}
use Rattle.dl_pool.specs.declared.views.Layout.{Layout}
use Rattle.dl_pool.specs.Rule.{version_of, part, parts, accounts, weigh, weigh_each, Every, FitsList, Fits, OwnsOne, Owns, Kept, PoolKept}
use Rattle.dl_pool.specs.Views.{member, note_part, dealt_part, dealing_on, learnt, joined, spent_part}
use Rattle.dl_pool.specs.Steps.{IsNote}
use Rattle.dl_pool.proofs.Lists.{every_map, every_both, every_append, apart_append}
use Rattle.dl_pool.proofs.Weights.{held, total_set, total_snoc, spare_set, spare_snoc, weigh_both}
use Rattle.dl_pool.proofs.Moving.{still_kept}
use Rattle.dl_pool.proofs.WordSteps.{list_up}

-- the last of a longer list has the number of the others
at_end : {A : Type 0} (xs : List A) (a b : A) (j : ℕ) → get_elem? (xs ++ a ∷ []) j ≡ some b → (get_elem? xs j ≡ some b) ⊎ ((j ≡ length xs) × (a ≡ b))
at_end [] a b zero e = inr (refl, some-injective a b e)
at_end [] a b (suc j) e = absurd (some-ne-none b (sym e))
at_end (x ∷ xs) a b zero e = inl e
at_end (x ∷ xs) a b (suc j) e = ⊎_elim inl (λ t. inr (ap suc t.0, t.1)) (at_end xs a b j e)

-- a view that has looked at nothing yet, and has no lists
fresh_fits : (opening : ℕ) (ps : List Part) (now : ℕ) (p : Part) → p.known ≤ now → p.look.last ≡ Nothing → p.events ≡ [] → p.others ≡ [] → Fits opening ps now p
fresh_fits opening ps now p le look none_yet alone = (
  le,
  (λ w n e z. let no : ⊥ = cc (look, e) in absurd no),
  (subst (λ (es : List Event). FitsList opening ps p.known record { number = p.number; events = es }) (sym none_yet) (tt, tt), subst (λ (xs : List Account). Every (FitsList opening ps p.known) xs) (sym alone) tt),
)

-- a view without a number
nobody : (callers : ℕ) (owner : ℕ → ℕ) (j known : ℕ) → Owns callers owner j (record spent_part { known = known })
nobody callers owner j known = ((((λ pos. absurd (omega arith)), λ _. refl), tt), (tt, tt), (λ pos. absurd (omega arith)), ((omega arith, tt), omega arith))

-- a seat is split
splits : (opening callers : ℕ) (l : Layout) (ws : List ℕ) (ps : List Part) (id : ℕ) (p q r : Part) (owner : ℕ → ℕ) → get_elem? ps id ≡ some p → ((f : Move → ℕ) → held f q + held f r ≡ held f p) → q.spares + r.spares ≡ p.spares
    → Fits opening ps (version_of (get_or ws 0 0)) q → Fits opening ps (version_of (get_or ws 0 0)) r → Owns callers owner id q → Owns callers owner (length ps) r
    → ((j : ℕ) (u : Part) → j ≢ id → get_elem? ps j ≡ some u → Owns callers owner j u) → (k : Kept opening callers l ws ps) → Kept opening callers l ws (set ps id q ++ r ∷ [])
splits opening callers l ws ps id p q r owner at weight spares first second owns new others k =
    still_kept opening callers l ws ws ps (set ps id q ++ r ∷ []) owner refl refl
    (let a = spare_set ps id p q at in let b = spare_snoc (set ps id q) r in omega arith)
    (λ f. let a = total_set f ps id p q at in let b = total_snoc f (set ps id q) r in let c = weight f in omega arith)
    (λ j u e. ⊎_elim
    (λ t. ⊎_elim (λ x. subst (λ (y : Part). Fits opening ps (version_of (get_or ws 0 0)) y) x.1 first) (λ x. k.fits j u x.1) (at_set ps id j q u t))
    (λ t. subst (λ (y : Part). Fits opening ps (version_of (get_or ws 0 0)) y) t.1 second)
    (at_end (set ps id q) r u j e))
    (λ j u e. ⊎_elim
    (λ t. ⊎_elim (λ x. subst (λ (y : Part). Owns callers owner j y) x.1 (subst (λ (i : ℕ). Owns callers owner i q) (sym x.0) owns)) (λ x. others j u x.0 x.1) (at_set ps id j q u t))
    (λ t. subst (λ (y : Part). Owns callers owner j y) t.1 (subst (λ (i : ℕ). Owns callers owner i r) (sym (t.0 ∙ length-set ps id q)) new))
    (at_end (set ps id q) r u j e))
    k

-- two seats are joined
joins : (opening callers : ℕ) (l : Layout) (ws : List ℕ) (ps : List Part) (id other : ℕ) (p u both : Part) (owner : ℕ → ℕ) → get_elem? ps id ≡ some p → other ≢ id → get_elem? ps other ≡ some u
    → ((f : Move → ℕ) → held f both ≡ held f p + held f u) → both.spares ≡ p.spares + u.spares → Fits opening ps (version_of (get_or ws 0 0)) both → Owns callers owner id both
    → ((j : ℕ) (q : Part) → j ≢ id → j ≢ other → get_elem? ps j ≡ some q → Owns callers owner j q) → (k : Kept opening callers l ws ps) → Kept opening callers l ws (set (set ps id both) other spent_part)
joins opening callers l ws ps id other p u both owner at ne there weight spares fit owns others k =
    let qs : List Part = set ps id both in
    let still : get_elem? qs other ≡ some u = set_else ps id other both ne ∙ there in
    still_kept opening callers l ws ws ps (set qs other spent_part) owner refl refl
    (let a = spare_set ps id p both at in let b = spare_set qs other u spent_part still in omega arith)
    (λ f. let a = total_set f ps id p both at in let b = total_set f qs other u spent_part still in let c = weight f in omega arith)
    (λ j q e. ⊎_elim
    (λ t. subst (λ (y : Part). Fits opening ps (version_of (get_or ws 0 0)) y) t.1 (fresh_fits opening ps (version_of (get_or ws 0 0)) spent_part (omega arith) refl refl refl))
    (λ t. ⊎_elim (λ x. subst (λ (y : Part). Fits opening ps (version_of (get_or ws 0 0)) y) x.1 fit) (λ x. k.fits j q x.1) (at_set ps id j both q t.1))
    (at_set qs other j spent_part q e))
    (λ j q e. ⊎_elim
    (λ t. subst (λ (y : Part). Owns callers owner j y) t.1 (nobody callers owner j 0))
    (λ t. ⊎_elim (λ x. subst (λ (y : Part). Owns callers owner j y) x.1 (subst (λ (i : ℕ). Owns callers owner i both) (sym x.0) owns)) (λ x. others j q x.0 t.0 x.1) (at_set ps id j both q t.1))
    (at_set qs other j spent_part q e))
    k

-- the numbers that are sent to `at` by `asked` belong to the seat `id` now
abbrev pub given : (ℕ → ℕ) → ℕ → ℕ → ℕ → ℕ
given owner other id c = cond (eqb (owner c) other) id (owner c)

given_here : (owner : ℕ → ℕ) (other id c : ℕ) → owner c ≡ other → given owner other id c ≡ id
given_here owner other id c e = ap (λ (b : Bool). cond b id (owner c)) (eq-eqb (owner c) other e)

given_there : (owner : ℕ → ℕ) (other id c : ℕ) → owner c ≢ other → given owner other id c ≡ owner c
given_there owner other id c e = ap (λ (b : Bool). cond b id (owner c)) (ne_eqb (owner c) other e)

-- the number `dealt` belongs to the seat `id` now
abbrev pub dealt_to : (ℕ → ℕ) → ℕ → ℕ → ℕ → ℕ
dealt_to owner dealt id c = cond (eqb c dealt) id (owner c)

dealt_here : (owner : ℕ → ℕ) (dealt id c : ℕ) → c ≡ dealt → dealt_to owner dealt id c ≡ id
dealt_here owner dealt id c e = ap (λ (b : Bool). cond b id (owner c)) (eq-eqb c dealt e)

dealt_there : (owner : ℕ → ℕ) (dealt id c : ℕ) → c ≢ dealt → dealt_to owner dealt id c ≡ owner c
dealt_there owner dealt id c e = ap (λ (b : Bool). cond b id (owner c)) (ne_eqb c dealt e)

-- numbers that keep their owner
same_owner : (callers : ℕ) (owner after : ℕ → ℕ) (j : ℕ) (p : Part) → ((c : ℕ) → owner c ≡ j → after c ≡ j) → Owns callers owner j p → Owns callers after j p
same_owner callers owner after j p same h = (
  every_map (OwnsOne owner j) (OwnsOne after j) (λ a t. ((λ pos. same a.number (t.0 pos)), t.1)) (accounts p) h.0,
  h.1,
  (λ pos. ((λ c le. same c ((h.2 pos).0 c le)), (h.2 pos).1)),
  h.3,
)

module _ {S X : Type 0} (opening callers : ℕ) (l : Layout) (s : State S (Member X)) (id : ℕ) (v : Member X) (kept : PoolKept opening callers l s) (at : get_elem? s.views id ≡ some v) where
  abbrev ps : List Part
  ps = parts s.views

  mine : get_elem? ps id ≡ some v.pool
  mine = at_map part s.views id v at

  -- the parts of the views after a split
  split_parts : (w u : Member X) → parts (set s.views id w ++ u ∷ []) ≡ set ps id w.pool ++ u.pool ∷ []
  split_parts w u = map-append part (set s.views id w) (u ∷ []) ∙ ap (λ (qs : List Part). qs ++ u.pool ∷ []) (map-set part s.views id w)

  pub note_kept : (rest : X) → PoolKept opening callers l record { words = s.words; homes = s.homes; views = set s.views id v ++ member (note_part v.pool) rest ∷ [] }
  note_kept rest =
      let f = kept.fits id v.pool mine in
      subst (λ (qs : List Part). Kept opening callers l s.words qs) (sym (split_parts v (member (note_part v.pool) rest)))
      (splits opening callers l s.words ps id v.pool v.pool (note_part v.pool) kept.owner mine (λ f. omega arith) (omega arith) f
      (fresh_fits opening ps (version_of (get_or s.words 0 0)) (note_part v.pool) f.0 refl refl refl)
      (kept.owned id v.pool mine) (nobody callers kept.owner (length ps) v.pool.known) (λ j u _ e. kept.owned j u e) kept)

  pub deal_kept : (rest left : X) → 0 < v.pool.dealing → v.pool.dealing ≤ callers → PoolKept opening callers l record { words = s.words; homes = s.homes; views = set s.views id (member (dealing_on v.pool) left) ++ member (dealt_part v.pool) rest ∷ [] }
  deal_kept rest left deals room =
      let p : Part = v.pool in
      let d : ℕ = v.pool.dealing in
      let f = kept.fits id p mine in
      let o = kept.owned id p mine in
      let after : ℕ → ℕ = dealt_to kept.owner d (length ps) in
      let mine_still : (c : ℕ) → c < d → kept.owner c ≡ id → after c ≡ id = λ c less e. dealt_there kept.owner d (length ps) c (λ z. omega arith) ∙ e in
      let under = (o.2 deals).1 in
      subst (λ (qs : List Part). Kept opening callers l s.words qs) (sym (split_parts (member (dealing_on p) left) (member (dealt_part p) rest)))
      (splits opening callers l s.words ps id p (dealing_on p) (dealt_part p) after mine (λ f. omega arith) (omega arith) f
      (fresh_fits opening ps (version_of (get_or s.words 0 0)) (dealt_part p) f.0 refl refl refl) (
        every_both (OwnsOne kept.owner id) (λ a. a.number < d) (OwnsOne after id) (λ a t less. ((λ pos. mine_still a.number less (t.0 pos)), t.1)) (accounts p) o.0 under,
        o.1,
        (λ pos. ((λ c le. dealt_there kept.owner d (length ps) c (λ z. omega arith) ∙ (o.2 deals).0 c (omega arith)), every_map (λ a. a.number < d) (λ a. a.number < d + 1) (λ a less. omega arith) (accounts p) under)),
        (o.3.0, omega arith),
      )
      ((((λ pos. dealt_here kept.owner d (length ps) d refl), λ _. refl), tt), (tt, tt), (λ pos. absurd (omega arith)), ((room, tt), omega arith))
      (λ j u ne e. same_owner callers kept.owner after j u (λ c is. dealt_there kept.owner d (length ps) c (λ z. ne (sym is ∙ ap kept.owner z ∙ (o.2 deals).0 d (omega arith))) ∙ is) (kept.owned j u e))
      kept)

  module _ (other : ℕ) (u : Member X) (apart : other ≢ id) (there : get_elem? s.views other ≡ some u) where
    theirs : get_elem? ps other ≡ some u.pool
    theirs = at_map part s.views other u there

    -- the parts of the views after a join
    join_parts : (w z : Member X) → parts (set (set s.views id w) other z) ≡ set (set ps id w.pool) other z.pool
    join_parts w z = map-set part (set s.views id w) other z ∙ ap (λ (qs : List Part). set qs other z.pool) (map-set part s.views id w)

    pub learn_kept : (rest spent : X) → IsNote u.pool → PoolKept opening callers l record { words = s.words; homes = s.homes; views = set (set s.views id (member (learnt v.pool u.pool) rest)) other (member spent_part spent) }
    learn_kept rest spent note =
        let f = kept.fits id v.pool mine in
        let g = kept.fits other u.pool theirs in
        let known = f.0 in let known' = g.0 in
        subst (λ (qs : List Part). Kept opening callers l s.words qs) (sym (join_parts (member (learnt v.pool u.pool) rest) (member spent_part spent)))
        (joins opening callers l s.words ps id other v.pool u.pool (learnt v.pool u.pool) kept.owner mine apart theirs
        (λ f. let a : weigh f u.pool.events ≡ 0 = ap (weigh f) note.events in let b : weigh_each f u.pool.others ≡ 0 = ap (weigh_each f) note.alone in omega arith)
        (let a = note.spares in omega arith)
        (omega arith, f.1, every_map (FitsList opening ps v.pool.known) (FitsList opening ps (max v.pool.known u.pool.known)) (list_up opening ps v.pool.known (max v.pool.known u.pool.known) (omega arith)) (accounts v.pool) f.2)
        (kept.owned id v.pool mine) (λ j q _ _ e. kept.owned j q e) kept)

    pub join_kept : (rest spent : X) → PoolKept opening callers l record { words = s.words; homes = s.homes; views = set (set s.views id (member (joined v.pool u.pool) rest)) other (member spent_part spent) }
    join_kept rest spent =
        let p : Part = v.pool in
        let q : Part = u.pool in
        let f = kept.fits id p mine in
        let g = kept.fits other q theirs in
        let known = f.0 in let known' = g.0 in
        let most : ℕ = max p.known q.known in
        let o = kept.owned id p mine in
        let o' = kept.owned other q theirs in
        let after : ℕ → ℕ = given kept.owner other id in
        let stays : (c j : ℕ) → j ≢ other → kept.owner c ≡ j → after c ≡ j = λ c j ne e. given_there kept.owner other id c (λ z. ne (sym e ∙ z)) ∙ e in
        subst (λ (qs : List Part). Kept opening callers l s.words qs) (sym (join_parts (member (joined p q) rest) (member spent_part spent)))
        (joins opening callers l s.words ps id other p q (joined p q) after mine apart theirs
        (λ f. let a = weigh_both f p.others (accounts q) in omega arith)
        (omega arith) (
          omega arith,
          f.1,
          every_append (FitsList opening ps most) (accounts p) (accounts q)
              (every_map (FitsList opening ps p.known) (FitsList opening ps most) (list_up opening ps p.known most (omega arith)) (accounts p) f.2)
              (every_map (FitsList opening ps q.known) (FitsList opening ps most) (list_up opening ps q.known most (omega arith)) (accounts q) g.2),
        ) (
          every_append (OwnsOne after id) (accounts p) (accounts q)
              (every_map (OwnsOne kept.owner id) (OwnsOne after id) (λ a t. ((λ pos. stays a.number id (λ z. apart (sym z)) (t.0 pos)), t.1)) (accounts p) o.0)
              (every_map (OwnsOne kept.owner other) (OwnsOne after id) (λ a t. ((λ pos. given_here kept.owner other id a.number (t.0 pos)), t.1)) (accounts q) o'.0),
          apart_append (accounts p) (accounts q) (OwnsOne kept.owner id) (OwnsOne kept.owner other) (λ x y a b pos e. apart (sym (b.0 (subst (λ (n : ℕ). 0 < n) e pos)) ∙ ap kept.owner (sym e) ∙ a.0 pos)) o.1 o'.1 o.0 o'.0,
          (λ pos. (
            (λ c le. stays c id (λ z. apart (sym z)) ((o.2 pos).0 c le)),
            every_append (λ a. a.number < p.dealing) (accounts p) (accounts q) (o.2 pos).1
                (every_map (OwnsOne kept.owner other) (λ a. a.number < p.dealing) (λ a t. dite (dec_le p.dealing a.number) (λ le. absurd (apart (sym (t.0 (omega arith)) ∙ (o.2 pos).0 a.number le))) (λ no. lt_of_not-le no)) (accounts q) o'.0),
          )),
          (every_append (λ a. a.number ≤ callers) (accounts p) (accounts q) o.3.0 o'.3.0, o.3.1),
        )
        (λ j w ne ne' e. same_owner callers kept.owner after j w (λ c is. stays c j ne' is) (kept.owned j w e))
        kept)
