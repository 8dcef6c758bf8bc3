-- Where word 0 has a later version than a seat has seen, another caller made a move. So a seat that is alone never races.
use Rattle.std.proofs.Common.{◌≡◌, ◌≢◌, ℕ, suc, ◌+◌, ◌<◌, ◌≤◌, Bool, cond, List, [], ◌∷◌, get_or, sym, refl, ap, ◌∙◌, subst, arith, ne_eqb}
use Rattle.std.proofs.lemmas.Bool.Decides.{nat_tests}
use mathlib.Core.Option.{some, some-injective}
use mathlib.Core.Logic.{dite}
use native.Mathlib.Decide.{ℕ_discrete}
use lib.ListN.{get_elem?}
use Rattle.dl_pool.specs.declared.views.Move.{Move}
use Rattle.dl_pool.specs.declared.views.Event.{Event}
use Rattle.dl_pool.specs.declared.views.Event.TheVariants.{Moved, Refused}
use Rattle.dl_pool.specs.declared.views.Account.{Account}
use Rattle.dl_pool.specs.declared.views.Part.{Part}
use Rattle.dl_pool.specs.declared.views.Layout.{Layout}
use Rattle.dl_pool.specs.Rule.{version_of, weigh, weigh_each, total, accounts, makes, once_to, version_at, Every, Says, FitsList, OwnsOne, Kept}
use Rattle.dl_pool.proofs.Weights.{held}

-- a view that has some of the weight
heavier : (f : Move → ℕ) (ps : List Part) → 0 < total f ps → (j : ℕ) × (u : Part) × (get_elem? ps j ≡ some u) × (0 < held f u)
heavier f [] h = absurd (omega arith)
heavier f (p ∷ ps) h = dite (ℕ_discrete (held f p) 0) (λ z. let r = heavier f ps (omega arith) in (suc r.0, r.1, r.2, r.3)) (λ ne. (0, p, refl, omega arith))

list_before : (opening : ℕ) (ps : List Part) (known x : ℕ) (es : List Event) → known < x → Every (λ e. (version_at e ≤ known) × Says opening ps e) es → weigh (makes x) es ≡ 0
list_before opening ps known x [] l h = refl
list_before opening ps known x (Refused r ∷ es) l h = list_before opening ps known x es l h.1
list_before opening ps known x (Moved m ∷ es) l h =
    let r = list_before opening ps known x es l h.1 in
    let le = h.0.0 in
    let none : makes x m ≡ 0 = ap (λ (b : Bool). cond b 1 0) (ne_eqb m.version x (λ e. omega arith)) in
    omega arith

-- no list of a view has a version that the view does not know
lists_before : (opening : ℕ) (ps : List Part) (known x : ℕ) (as' : List Account) → known < x → Every (FitsList opening ps known) as' → weigh_each (makes x) as' ≡ 0
lists_before opening ps known x [] l h = refl
lists_before opening ps known x (a ∷ rest) l h = let r = lists_before opening ps known x rest l h.1 in let e = list_before opening ps known x a.events l h.0.1 in omega arith

-- an account that has some of the weight has the number of a caller
numbered : (f : Move → ℕ) (owner : ℕ → ℕ) (j callers : ℕ) (as' : List Account) → Every (OwnsOne owner j) as' → Every (λ a. a.number ≤ callers) as' → 0 < weigh_each f as'
    → (c : ℕ) × (0 < c) × (owner c ≡ j) × (c ≤ callers)
numbered f owner j callers [] h m l = absurd (omega arith)
numbered f owner j callers (a ∷ rest) h m l = dite (ℕ_discrete a.number 0)
    (λ z. let none : weigh f a.events ≡ 0 = ap (weigh f) (h.0.1 z) in numbered f owner j callers rest h.1 m.1 (omega arith))
    (λ ne. let pos : 0 < a.number = omega arith in (a.number, pos, h.0.0 pos, m.0))

once_here : (v now : ℕ) → v < now → once_to now (v + 1) ≡ 1
once_here v now l = grind (arith, nat_tests)

-- another seat, and the number of its caller
pub rival : (opening callers : ℕ) (l : Layout) (ws : List ℕ) (ps : List Part) (id n : ℕ) (p : Part) → (k : Kept opening callers l ws ps) → get_elem? ps id ≡ some p → p.known ≤ version_of n → version_of n < version_of (get_or ws 0 0)
    → (j : ℕ) × (u : Part) × (c : ℕ) × (j ≢ id) × (get_elem? ps j ≡ some u) × (0 < c) × (k.owner c ≡ j) × (c ≢ p.number) × (c ≤ callers)
rival opening callers l ws ps id n p k at known later =
    let x : ℕ = version_of n + 1 in
    let all : total (makes x) ps ≡ 1 = k.once x ∙ once_here (version_of n) (version_of (get_or ws 0 0)) later in
    let r = heavier (makes x) ps (omega arith) in
    let mine : held (makes x) p ≡ 0 = lists_before opening ps p.known x (accounts p) (omega arith) (k.fits id p at).2 in
    let apart : r.0 ≢ id = λ e.
    let same : r.1 ≡ p = some-injective r.1 p (sym r.2 ∙ ap (λ (i : ℕ). get_elem? ps i) e ∙ at) in
    let zero_held : held (makes x) r.1 ≡ 0 = ap (held (makes x)) same ∙ mine in
    let some_held = r.3 in omega arith in
    let o = k.owned r.0 r.1 r.2 in
    let c = numbered (makes x) k.owner r.0 callers (accounts r.1) o.0 o.3.0 r.3 in
    (r.0, r.1, c.0, apart, r.2, c.1, c.2, λ e. apart (sym c.2 ∙ ap k.owner e ∙ (k.owned id p at).0.0.0 (subst (λ (m : ℕ). 0 < m) e c.1)), c.3)

-- so there are several callers, where the seat is one of them
pub several : (opening callers : ℕ) (l : Layout) (ws : List ℕ) (ps : List Part) (id n : ℕ) (p : Part) → Kept opening callers l ws ps → get_elem? ps id ≡ some p → p.known ≤ version_of n → version_of n < version_of (get_or ws 0 0)
    → 0 < p.number → callers ≢ 1
several opening callers l ws ps id n p k at known later caller one =
    let r = rival opening callers l ws ps id n p k at known later in
    let mine : p.number ≤ callers = (k.owned id p at).3.0.0 in
    let positive = r.5 in
    let other = r.7 in
    let small = r.8 in
    other (omega arith)
