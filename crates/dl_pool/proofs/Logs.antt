-- A view that keeps the account of each caller has all moves, and so the whole log; and a log has as many moves as its last version.
use Rattle.std.proofs.Common.{◌≡◌, ◌≢◌, ℕ, zero, suc, ◌+◌, ◌<◌, ◌≤◌, ⊎_elim, inl, inr, List, [], ◌∷◌, ◌++◌, get_or, sym, refl, ap, ◌∙◌, subst, arith}
use Rattle.std.proofs.lemmas.Bool.Decides.{nat_tests}
use mathlib.Core.Option.{some, some-injective, some-ne-none}
use mathlib.Core.Logic.{dite}
use native.Mathlib.Decide.{ℕ_discrete}
use lib.ListN.{get_elem?}
use Rattle.dl_pool.specs.declared.views.Move.{Move}
use Rattle.dl_pool.specs.declared.views.Event.{Event}
use Rattle.dl_pool.specs.declared.views.Event.TheVariants.{Moved, Refused}
use Rattle.dl_pool.specs.declared.views.Account.{Account}
use Rattle.dl_pool.specs.declared.views.Part.{Part}
use Rattle.dl_pool.specs.declared.views.Layout.{Layout}
use Rattle.dl_pool.specs.Rule.{version_of, free_of, weigh, weigh_each, total, accounts, makes, once_to, up_to, Every, FitsList, OwnsOne, Kept}
use Rattle.dl_pool.specs.Log.{HasCaller, HasAllCallers, WholeLogs}
use Rattle.dl_pool.proofs.Lists.{every_map}
use Rattle.dl_pool.proofs.Weights.{held, all_moves, now_free}
use Rattle.dl_pool.proofs.Moving.{same_stays, list_on}
use Rattle.dl_pool.proofs.WordSteps.{list_up}

pub has_left : (c : ℕ) (xs ys : List Account) → HasCaller c xs → HasCaller c (xs ++ ys)
has_left c [] ys h = absurd h
has_left c (x ∷ xs) ys h = ⊎_elim inl (λ t. inr (has_left c xs ys t)) h

pub has_right : (c : ℕ) (xs ys : List Account) → HasCaller c ys → HasCaller c (xs ++ ys)
has_right c [] ys h = h
has_right c (x ∷ xs) ys h = inr (has_right c xs ys h)

-- the seat that keeps a caller's account owns the number
pub owner_of : (owner : ℕ → ℕ) (j c : ℕ) (as' : List Account) → 0 < c → Every (OwnsOne owner j) as' → HasCaller c as' → owner c ≡ j
owner_of owner j c [] pos o h = absurd h
owner_of owner j c (a ∷ rest) pos o h = ⊎_elim (λ e. ap owner (sym e) ∙ o.0.0 (subst (λ (n : ℕ). 0 < n) (sym e) pos)) (λ t. owner_of owner j c rest pos o.1 t) h

-- accounts that are of no caller weigh nothing
unowned : (f : Move → ℕ) (owner : ℕ → ℕ) (j callers : ℕ) (as' : List Account) → Every (OwnsOne owner j) as' → Every (λ a. a.number ≤ callers) as' → ((c : ℕ) → 0 < c → c ≤ callers → owner c ≢ j) → weigh_each f as' ≡ 0
unowned f owner j callers [] o m none = refl
unowned f owner j callers (a ∷ rest) o m none =
    let later = unowned f owner j callers rest o.1 m.1 none in
    let here : weigh f a.events ≡ 0 = dite (ℕ_discrete a.number 0)
    (λ z. ap (weigh f) (o.0.1 z))
    (λ ne. let pos : 0 < a.number = omega arith in absurd (none a.number pos m.0 (o.0.0 pos))) in
    omega arith

no_total : (f : Move → ℕ) (ps : List Part) → ((j : ℕ) (q : Part) → get_elem? ps j ≡ some q → held f q ≡ 0) → total f ps ≡ 0
no_total f [] h = refl
no_total f (p ∷ ps) h = let here : held f p ≡ 0 = h 0 p refl in let later = no_total f ps (λ j q e. h (suc j) q e) in omega arith

one_total : (f : Move → ℕ) (ps : List Part) (id : ℕ) (p : Part) → get_elem? ps id ≡ some p → ((j : ℕ) (q : Part) → j ≢ id → get_elem? ps j ≡ some q → held f q ≡ 0) → total f ps ≡ held f p
one_total f [] id p at h = absurd (some-ne-none p (sym at))
one_total f (x ∷ xs) zero p at h =
    let here : held f x ≡ held f p = ap (held f) (some-injective x p at) in
    let later = no_total f xs (λ j q e. h (suc j) q (λ z. omega arith) e) in omega arith
one_total f (x ∷ xs) (suc i) p at h =
    let here : held f x ≡ 0 = h 0 x (λ z. omega arith) refl in
    let later = one_total f xs i p at (λ j q ne e. h (suc j) q (λ z. ne (omega arith)) e) in omega arith

-- no other view has a move
pub all_here : (opening callers : ℕ) (l : Layout) (ws : List ℕ) (ps : List Part) (id : ℕ) (p : Part) → Kept opening callers l ws ps → get_elem? ps id ≡ some p → HasAllCallers callers p → (f : Move → ℕ) → total f ps ≡ held f p
all_here opening callers l ws ps id p k at all f =
    one_total f ps id p at (λ j q ne e. let o = k.owned j q e in unowned f k.owner j callers (accounts q) o.0 o.3.0
    (λ c pos small theirs. ne (sym theirs ∙ owner_of k.owner id c (accounts p) pos (k.owned id p at).0 (all c pos small))))

pub whole_logs : WholeLogs
whole_logs opening callers l ws ps id p k at all =
    let now : ℕ = version_of (get_or ws 0 0) in
    let same : (f : Move → ℕ) → total f (p ∷ []) ≡ total f ps = λ f. let a = all_here opening callers l ws ps id p k at all f in omega arith in
    let stays = same_stays opening ps (p ∷ []) now same in
    let f = k.fits id p at in record {
      once = λ x. same (makes x) ∙ k.once x;
      never_short = λ u le. let t = k.never_short u le in (t.0, stays u t.0 le t.1);
      free = stays now (free_of (get_or ws 0 0)) (omega arith) (now_free opening callers l ws ps k);
      lists = every_map (FitsList opening ps p.known) (FitsList opening (p ∷ []) now)
          (λ a t. list_up opening (p ∷ []) p.known now f.0 a (list_on opening ps (p ∷ []) now p.known stays f.0 a t)) (accounts p) f.2;
    }

module _ (f g h : Move → ℕ) (sum : (m : Move) → h m ≡ f m + g m) where
  weigh_sum : (es : List Event) → weigh h es ≡ weigh f es + weigh g es
  weigh_sum [] = refl
  weigh_sum (Moved m ∷ es) = let a = sum m in let r = weigh_sum es in omega arith
  weigh_sum (Refused r ∷ es) = weigh_sum es

  each_sum : (as' : List Account) → weigh_each h as' ≡ weigh_each f as' + weigh_each g as'
  each_sum [] = refl
  each_sum (a ∷ rest) = let x = weigh_sum a.events in let r = each_sum rest in omega arith

  total_sum : (ps : List Part) → total h ps ≡ total f ps + total g ps
  total_sum [] = refl
  total_sum (p ∷ ps) = let x : held h p ≡ held f p + held g p = each_sum (accounts p) in let r = total_sum ps in omega arith

-- 1 at each move
abbrev pub one : Move → ℕ
one m = 1

-- so many moves have versions up to n
counted_to : (v n : ℕ) (ps : List Part) → ((x : ℕ) → total (makes x) ps ≡ once_to v x) → n ≤ v → total (up_to one n) ps ≡ n
counted_to v zero ps once le =
    let nothing : total (λ (m : Move). 0) ps ≡ 0 = (let a = total_sum one (λ m. 0) one (λ m. refl) ps in omega arith) in
    let a = total_sum (makes 0) (λ m. 0) (up_to one 0) (λ m. grind (arith, nat_tests)) ps in
    let b = once 0 in
    let c : once_to v 0 ≡ 0 = refl in omega arith
counted_to v (suc n) ps once le =
    let before = counted_to v n ps once (omega arith) in
    let a = total_sum (up_to one n) (makes (suc n)) (up_to one (suc n)) (λ m. grind (arith, nat_tests)) ps in
    let b = once (suc n) in
    let c : once_to v (suc n) ≡ 1 = grind (arith, nat_tests) in omega arith

-- there are as many moves as the last version says
pub counted : (v : ℕ) (ps : List Part) → ((x : ℕ) → total (makes x) ps ≡ once_to v x) → total one ps ≡ v
counted v ps once = sym (all_moves one v ps once) ∙ counted_to v v ps once (omega arith)
