-- What the moves of all views add up to.
use Rattle.std.proofs.Common.{◌≡◌, ℕ, zero, suc, ◌+◌, ◌<◌, ◌≤◌, Bool, cond, eqb, leb, ◌&&◌, List, [], ◌∷◌, ◌++◌, set, get_or, sym, refl, ap, ◌∙◌, arith, eq-eqb, lt_of_not-le}
use Rattle.std.proofs.lemmas.Bool.{lt-leb, le-leb}
use Rattle.std.proofs.lemmas.Bool.Decides.{nat_tests}
use mathlib.Core.Option.{some, some-injective, some-ne-none}
use mathlib.Core.Logic.{dite}
use native.Mathlib.Decide.{dec_le}
use lib.ListN.{get_elem?}
use Rattle.dl_pool.specs.declared.views.Move.{Move}
use Rattle.dl_pool.specs.declared.views.Refusal.{Refusal}
use Rattle.dl_pool.specs.declared.views.Event.{Event}
use Rattle.dl_pool.specs.declared.views.Event.TheVariants.{Moved, Refused}
use Rattle.dl_pool.specs.declared.views.Account.{Account}
use Rattle.dl_pool.specs.declared.views.Part.{Part}
use Rattle.dl_pool.specs.declared.views.Layout.{Layout}
use Rattle.dl_pool.specs.Rule.{version_of, free_of, weigh, weigh_each, total, accounts, spare, makes, once_to, took, gave, up_to, WasFree, Kept}

-- what the accounts of a view weigh
abbrev pub held : (Move → ℕ) → Part → ℕ
held f p = weigh_each f (accounts p)

pub weigh_move : (f : Move → ℕ) (es : List Event) (m : Move) → weigh f (es ++ Moved m ∷ []) ≡ weigh f es + f m
weigh_move f [] m = omega arith
weigh_move f (Moved x ∷ es) m = let r = weigh_move f es m in omega arith
weigh_move f (Refused x ∷ es) m = weigh_move f es m

pub weigh_refusal : (f : Move → ℕ) (es : List Event) (r : Refusal) → weigh f (es ++ Refused r ∷ []) ≡ weigh f es
weigh_refusal f [] r = refl
weigh_refusal f (Moved x ∷ es) r = let i = weigh_refusal f es r in omega arith
weigh_refusal f (Refused x ∷ es) r = weigh_refusal f es r

pub weigh_both : (f : Move → ℕ) (xs ys : List Account) → weigh_each f (xs ++ ys) ≡ weigh_each f xs + weigh_each f ys
weigh_both f [] ys = omega arith
weigh_both f (x ∷ xs) ys = let r = weigh_both f xs ys in omega arith

pub total_set : (f : Move → ℕ) (ps : List Part) (j : ℕ) (p q : Part) → get_elem? ps j ≡ some p → total f (set ps j q) + held f p ≡ total f ps + held f q
total_set f [] j p q e = absurd (some-ne-none p (sym e))
total_set f (x ∷ xs) zero p q e = let is : held f x ≡ held f p = ap (held f) (some-injective x p e) in omega arith
total_set f (x ∷ xs) (suc j) p q e = let r = total_set f xs j p q e in omega arith

pub spare_set : (ps : List Part) (j : ℕ) (p q : Part) → get_elem? ps j ≡ some p → spare (set ps j q) + p.spares ≡ spare ps + q.spares
spare_set [] j p q e = absurd (some-ne-none p (sym e))
spare_set (x ∷ xs) zero p q e = let is : x.spares ≡ p.spares = ap (λ (y : Part). y.spares) (some-injective x p e) in omega arith
spare_set (x ∷ xs) (suc j) p q e = let r = spare_set xs j p q e in omega arith

pub total_snoc : (f : Move → ℕ) (ps : List Part) (q : Part) → total f (ps ++ q ∷ []) ≡ total f ps + held f q
total_snoc f [] q = omega arith
total_snoc f (x ∷ xs) q = let r = total_snoc f xs q in omega arith

pub spare_snoc : (ps : List Part) (q : Part) → spare (ps ++ q ∷ []) ≡ spare ps + q.spares
spare_snoc [] q = omega arith
spare_snoc (x ∷ xs) q = let r = spare_snoc xs q in omega arith

pub spare_in : (ps : List Part) (j : ℕ) (p : Part) → get_elem? ps j ≡ some p → p.spares ≤ spare ps
spare_in [] j p e = absurd (some-ne-none p (sym e))
spare_in (x ∷ xs) zero p e = let is : x.spares ≡ p.spares = ap (λ (y : Part). y.spares) (some-injective x p e) in omega arith
spare_in (x ∷ xs) (suc j) p e = let r = spare_in xs j p e in omega arith

-- the versions 1 to the next one
pub once_next : (v x : ℕ) → once_to (v + 1) x ≡ once_to v x + cond (eqb (v + 1) x) 1 0
once_next v x = grind (arith, nat_tests)

weigh_all : (f : Move → ℕ) (v : ℕ) (es : List Event) → ((x : ℕ) → v < x → weigh (makes x) es ≡ 0) → weigh (up_to f v) es ≡ weigh f es
weigh_all f v [] h = refl
weigh_all f v (Refused r ∷ es) h = weigh_all f v es h
weigh_all f v (Moved m ∷ es) h =
    let rest : weigh (up_to f v) es ≡ weigh f es = weigh_all f v es (λ x l. let t : makes x m + weigh (makes x) es ≡ 0 = h x l in omega arith) in
    let here : up_to f v m ≡ f m = dite (dec_le m.version v)
    (λ le. ap (λ (b : Bool). cond b (f m) 0) (le-leb m.version v le))
    (λ no. let t : makes m.version m + weigh (makes m.version) es ≡ 0 = h m.version (lt_of_not-le no) in
    let one : makes m.version m ≡ 1 = ap (λ (b : Bool). cond b 1 0) (eq-eqb m.version m.version refl) in absurd (omega arith)) in
    omega arith

each_all : (f : Move → ℕ) (v : ℕ) (accs : List Account) → ((x : ℕ) → v < x → weigh_each (makes x) accs ≡ 0) → weigh_each (up_to f v) accs ≡ weigh_each f accs
each_all f v [] h = refl
each_all f v (a ∷ accs) h =
    let here = weigh_all f v a.events (λ x l. let t : weigh (makes x) a.events + weigh_each (makes x) accs ≡ 0 = h x l in omega arith) in
    let rest = each_all f v accs (λ x l. let t : weigh (makes x) a.events + weigh_each (makes x) accs ≡ 0 = h x l in omega arith) in
    omega arith

total_all : (f : Move → ℕ) (v : ℕ) (ps : List Part) → ((x : ℕ) → v < x → total (makes x) ps ≡ 0) → total (up_to f v) ps ≡ total f ps
total_all f v [] h = refl
total_all f v (p ∷ ps) h =
    let here : held (up_to f v) p ≡ held f p = each_all f v (accounts p) (λ x l. let t : held (makes x) p + total (makes x) ps ≡ 0 = h x l in omega arith) in
    let rest : total (up_to f v) ps ≡ total f ps = total_all f v ps (λ x l. let t : held (makes x) p + total (makes x) ps ≡ 0 = h x l in omega arith) in
    omega arith

none_above : (v x : ℕ) → v < x → once_to v x ≡ 0
none_above v x l = ap (λ (b : Bool). cond (leb 1 x && b) 1 0) (lt-leb x v l) ∙ grind (arith)

-- where each version up to v is made once and none above it, no move is later than v
pub all_moves : (f : Move → ℕ) (v : ℕ) (ps : List Part) → ((x : ℕ) → total (makes x) ps ≡ once_to v x) → total (up_to f v) ps ≡ total f ps
all_moves f v ps once = total_all f v ps (λ x less. once x ∙ none_above v x less)

-- the number free now is the number free at the present version
pub now_free : (opening callers : ℕ) (l : Layout) (ws : List ℕ) (ps : List Part) → Kept opening callers l ws ps → WasFree opening ps (version_of (get_or ws 0 0)) (free_of (get_or ws 0 0))
now_free opening callers l ws ps k =
    let word : ℕ = get_or ws 0 0 in
    let a : total (up_to took (version_of word)) ps ≡ total took ps = all_moves took (version_of word) ps k.once in
    let b : total (up_to gave (version_of word)) ps ≡ total gave ps = all_moves gave (version_of word) ps k.once in
    let is : free_of word + total took ps ≡ opening + total gave ps = k.free in
    omega arith
