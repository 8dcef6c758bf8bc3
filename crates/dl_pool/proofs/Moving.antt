-- The pool rule is kept where views and words change together: where nothing moves, and where one seat makes a move.
use Rattle.std.proofs.Common.{◌≡◌, ℕ, ◌+◌, ◌<◌, ◌≤◌, ⊎_elim, Bool, cond, eqb, List, length, get_or, set, sym, ap, ◌∙◌, subst, arith}
use Rattle.std.proofs.lemmas.Bool.{lt-leb}
use mathlib.Core.Option.{some}
use mathlib.Core.Logic.{dite}
use native.Mathlib.Decide.{dec_le}
use lib.ListN.{get_elem?}
use Rattle.atomic_table.proofs.Lists.{at_set}
use Rattle.dl_pool.specs.declared.views.Move.{Move}
use Rattle.dl_pool.specs.declared.views.Event.{Event}
use Rattle.dl_pool.specs.declared.views.Event.TheVariants.{Moved, Refused}
use Rattle.dl_pool.specs.declared.views.Account.{Account}
use Rattle.dl_pool.specs.declared.views.Part.{Part}
use Rattle.dl_pool.specs.declared.views.Layout.{Layout}
use Rattle.dl_pool.specs.Rule.{version_of, free_of, total, spare, accounts, makes, once_to, took, gave, up_to, vacant_in, IsLaidOut, version_at, WasFree, Says, FitsList, Fits, Owns, Kept}
use Rattle.dl_pool.proofs.Lists.{every_map}
use Rattle.dl_pool.proofs.Weights.{held, total_set, spare_set, once_next, all_moves}

-- what was free at versions up to `now` is free still
abbrev pub Stays : ℕ → List Part → List Part → ℕ → Type 0
Stays opening ps qs now = (u n : ℕ) → u ≤ now → WasFree opening ps u n → WasFree opening qs u n

says_on : (opening : ℕ) (ps qs : List Part) (now : ℕ) → Stays opening ps qs now → (e : Event) → version_at e ≤ now → Says opening ps e → Says opening qs e
says_on opening ps qs now stays (Moved m) le h = h
says_on opening ps qs now stays (Refused r) le h = (h.0, stays r.version r.found le h.1)

pub list_on : (opening : ℕ) (ps qs : List Part) (now known : ℕ) → Stays opening ps qs now → known ≤ now → (a : Account) → FitsList opening ps known a → FitsList opening qs known a
list_on opening ps qs now known stays le a h =
    (h.0, every_map (λ e. (version_at e ≤ known) × Says opening ps e) (λ e. (version_at e ≤ known) × Says opening qs e) (λ e t. (t.0, says_on opening ps qs now stays e (omega (arith, t.0)) t.1)) a.events h.1)

-- what a view says stays so, at a later version too
pub fits_on : (opening : ℕ) (ps qs : List Part) (now later : ℕ) (p : Part) → Stays opening ps qs now → now ≤ later → Fits opening ps now p → Fits opening qs later p
fits_on opening ps qs now later p stays le h = (
  (let known = h.0 in omega arith),
  (λ w n last z. let t = h.1 w n last z in let t' = t.0 in (omega arith, stays (version_of n) (free_of n) t.0 t.1)),
  every_map (FitsList opening ps p.known) (FitsList opening qs p.known) (list_on opening ps qs now p.known stays h.0) (accounts p) h.2,
)

-- the same views, as far as moves go
pub same_stays : (opening : ℕ) (ps qs : List Part) (now : ℕ) → ((f : Move → ℕ) → total f qs ≡ total f ps) → Stays opening ps qs now
same_stays opening ps qs now same u n le h = let a = same (up_to took u) in let b = same (up_to gave u) in omega arith

pub laid_on : (l : Layout) (ws ws' : List ℕ) → length ws' ≡ length ws → IsLaidOut l ws → IsLaidOut l ws'
laid_on l ws ws' wide h = record {
  pool = (let a = h.pool in omega arith);
  first = h.first;
  step = h.step;
  most = h.most;
  states = λ p le. let a = h.states p le in omega arith;
}

-- no move is made
pub still_kept : (opening callers : ℕ) (l : Layout) (ws ws' : List ℕ) (ps qs : List Part) (owner : ℕ → ℕ) → length ws' ≡ length ws → get_or ws' 0 0 ≡ get_or ws 0 0 → vacant_in l ws' + spare ps ≡ vacant_in l ws + spare qs
    → ((f : Move → ℕ) → total f qs ≡ total f ps) → ((j : ℕ) (q : Part) → get_elem? qs j ≡ some q → Fits opening ps (version_of (get_or ws 0 0)) q)
    → ((j : ℕ) (q : Part) → get_elem? qs j ≡ some q → Owns callers owner j q) → Kept opening callers l ws ps → Kept opening callers l ws' qs
still_kept opening callers l ws ws' ps qs owner wide word places same fit own k =
    let now : ℕ = version_of (get_or ws 0 0) in record {
      laid = laid_on l ws ws' wide k.laid;
      once = λ x. same (makes x) ∙ k.once x ∙ ap (λ (n : ℕ). once_to (version_of n) x) (sym word);
      free = (let a = same took in let b = same gave in let c = k.free in let d : free_of (get_or ws' 0 0) ≡ free_of (get_or ws 0 0) = ap free_of word in omega arith);
      never_short = λ u le. let same_version : version_of (get_or ws' 0 0) ≡ now = ap version_of word in
          let t = k.never_short u (omega arith) in (t.0, same_stays opening ps qs u same u t.0 (omega arith) t.1);
      bounded = subst (λ (n : ℕ). version_of n ≤ 8388608) (sym word) k.bounded;
      states = (let c = k.states in let d : free_of (get_or ws' 0 0) ≡ free_of (get_or ws 0 0) = ap free_of word in omega arith);
      fits = λ j q e. subst (λ (n : ℕ). Fits opening qs (version_of n) q) (sym word) (fits_on opening ps qs now now q (same_stays opening ps qs now same) (omega arith) (fit j q e));
      owner = owner;
      owned = own;
    }

-- one seat's view changes, and no move is made
pub stayed : (opening callers : ℕ) (l : Layout) (ws ws' : List ℕ) (ps : List Part) (id : ℕ) (p q : Part) → get_elem? ps id ≡ some p → length ws' ≡ length ws → get_or ws' 0 0 ≡ get_or ws 0 0
    → vacant_in l ws' + p.spares ≡ vacant_in l ws + q.spares → ((f : Move → ℕ) → held f q ≡ held f p) → Fits opening ps (version_of (get_or ws 0 0)) q
    → ((owner : ℕ → ℕ) → Owns callers owner id p → Owns callers owner id q) → Kept opening callers l ws ps → Kept opening callers l ws' (set ps id q)
stayed opening callers l ws ws' ps id p q at wide word places same fit own k =
    still_kept opening callers l ws ws' ps (set ps id q) k.owner wide word
    (let a = spare_set ps id p q at in omega arith)
    (λ f. let a = total_set f ps id p q at in let b = same f in omega arith)
    (λ j u e. ⊎_elim (λ t. subst (λ (y : Part). Fits opening ps (version_of (get_or ws 0 0)) y) t.1 fit) (λ t. k.fits j u t.1) (at_set ps id j q u e))
    (λ j u e. ⊎_elim (λ t. subst (λ (y : Part). Owns callers k.owner j y) t.1 (subst (λ (i : ℕ). Owns callers k.owner i q) (sym t.0) (own k.owner (k.owned id p at)))) (λ t. k.owned j u t.1) (at_set ps id j q u e))
    k

-- one seat makes a move, whose version is the next one
pub moved : (opening callers : ℕ) (l : Layout) (ws ws' : List ℕ) (ps : List Part) (id : ℕ) (p q : Part) (m : Move) → get_elem? ps id ≡ some p → length ws' ≡ length ws
    → m.version ≡ version_of (get_or ws 0 0) + 1 → version_of (get_or ws' 0 0) ≡ version_of (get_or ws 0 0) + 1 → version_of (get_or ws' 0 0) ≤ 8388608
    → free_of (get_or ws' 0 0) + m.taken ≡ free_of (get_or ws 0 0) + m.back → q.spares + m.back ≡ p.spares + m.taken → vacant_in l ws' ≡ vacant_in l ws
    → ((f : Move → ℕ) → held f q ≡ held f p + f m)
    → ((qs : List Part) → Stays opening ps qs (version_of (get_or ws 0 0)) → Fits opening qs (version_of (get_or ws' 0 0)) q)
    → ((owner : ℕ → ℕ) → Owns callers owner id p → Owns callers owner id q) → Kept opening callers l ws ps → Kept opening callers l ws' (set ps id q)
moved opening callers l ws ws' ps id p q m at wide next ver small free spares places more fit own k =
    let qs : List Part = set ps id q in
    let now : ℕ = version_of (get_or ws 0 0) in
    let adds : (f : Move → ℕ) → total f qs ≡ total f ps + f m = λ f. let a = total_set f ps id p q at in let b = more f in omega arith in
    let stays : Stays opening ps qs now = λ u n le h.
    let a = adds (up_to took u) in
    let b = adds (up_to gave u) in
    let later : u < m.version = omega arith in
    let no_t : up_to took u m ≡ 0 = ap (λ (b : Bool). cond b m.taken 0) (lt-leb m.version u later) in
    let no_b : up_to gave u m ≡ 0 = ap (λ (b : Bool). cond b m.back 0) (lt-leb m.version u later) in
    omega arith in
    let once_more : (x : ℕ) → total (makes x) qs ≡ once_to (now + 1) x = λ x.
    let a : total (makes x) qs ≡ total (makes x) ps + makes x m = adds (makes x) in
    let b : makes x m ≡ cond (eqb (now + 1) x) 1 0 = ap (λ (v : ℕ). cond (eqb v x) 1 0) next in
    let o = k.once x in
    let n = once_next now x in omega arith in
    let free_now : free_of (get_or ws' 0 0) + total took qs ≡ opening + total gave qs =
    (let a : total took qs ≡ total took ps + took m = adds took in
    let b : total gave qs ≡ total gave ps + gave m = adds gave in
    let f = k.free in omega arith) in record {
      laid = laid_on l ws ws' wide k.laid;
      once = λ x. subst (λ (v : ℕ). total (makes x) qs ≡ once_to v x) (sym ver) (once_more x);
      free = free_now;
      never_short = λ u le. dite (dec_le u now)
          (λ before. let t = k.never_short u before in (t.0, stays u t.0 before t.1))
          (λ after. let is : u ≡ now + 1 = omega arith in
          let a : total (up_to took u) qs ≡ total took qs = ap (λ (v : ℕ). total (up_to took v) qs) is ∙ all_moves took (now + 1) qs once_more in
          let b : total (up_to gave u) qs ≡ total gave qs = ap (λ (v : ℕ). total (up_to gave v) qs) is ∙ all_moves gave (now + 1) qs once_more in
          (free_of (get_or ws' 0 0), omega arith));
      bounded = small;
      states = (let a = spare_set ps id p q at in let f = k.states in omega arith);
      fits = λ j u e. ⊎_elim
          (λ t. subst (λ (y : Part). Fits opening qs (version_of (get_or ws' 0 0)) y) t.1 (fit qs stays))
          (λ t. fits_on opening ps qs now (version_of (get_or ws' 0 0)) u stays (omega arith) (k.fits j u t.1))
          (at_set ps id j q u e);
      owner = k.owner;
      owned = λ j u e. ⊎_elim (λ t. subst (λ (y : Part). Owns callers k.owner j y) t.1 (subst (λ (i : ℕ). Owns callers k.owner i q) (sym t.0) (own k.owner (k.owned id p at)))) (λ t. k.owned j u t.1) (at_set ps id j q u e);
    }
