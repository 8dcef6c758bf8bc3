-- A table whose places are vacant or given out meets the pool rule when it is made.
use Rattle.std.proofs.Common.{◌≡◌, ℕ, zero, suc, ◌≤◌, List, [], ◌∷◌, get_or, sym, refl, subst, arith}
use Rattle.std.proofs.lemmas.Bool.Decides.{nat_tests}
use mathlib.Core.Option.{some, some-injective, some-ne-none}
use lib.ListN.{get_elem?}
use Rattle.dl_pool.specs.declared.views.Part.{Part}
use Rattle.dl_pool.specs.declared.views.Layout.{Layout}
use Rattle.dl_pool.specs.Rule.{version_of, once_to, vacant_in, IsLaidOut, Fits, Owns, Kept}
use Rattle.dl_pool.specs.Views.{first_part}
use Rattle.dl_pool.proofs.Vacant.{vacant_most}

none_yet : (x n : ℕ) → n ≤ 65536 → 0 ≡ once_to (version_of n) x
none_yet x n few = let z : version_of n ≡ 0 = omega arith in subst (λ (v : ℕ). 0 ≡ once_to v x) (sym z) (grind (arith, nat_tests))

first_fits : (opening now j : ℕ) (p : Part) → get_elem? (first_part ∷ []) j ≡ some p → Fits opening (first_part ∷ []) now p
first_fits opening now zero p e = subst (λ (q : Part). Fits opening (first_part ∷ []) now q) (some-injective first_part p e) (omega arith, (λ w k last _. cc last), ((tt, tt), tt))
first_fits opening now (suc j) p e = absurd (some-ne-none p (sym e))

first_owns : (callers j : ℕ) (p : Part) → get_elem? (first_part ∷ []) j ≡ some p → Owns callers (λ c. 0) j p
first_owns callers zero p e = subst (λ (q : Part). Owns callers (λ c. 0) 0 q) (some-injective first_part p e) ((((λ pos. absurd (omega arith)), λ _. refl), tt), (tt, tt), (λ pos. ((λ c le. refl), (omega arith, tt))), ((omega arith, tt), omega arith))
first_owns callers (suc j) p e = absurd (some-ne-none p (sym e))

-- word 0 is the number of vacant places, and one seat deals every number out
pub opens : (callers : ℕ) (l : Layout) (ws : List ℕ) → IsLaidOut l ws → vacant_in l ws ≡ get_or ws 0 0 → Kept (get_or ws 0 0) callers l ws (first_part ∷ [])
opens callers l ws laid is =
    let n : ℕ = get_or ws 0 0 in
    let most = vacant_most ws l.first l.step l.places in
    let few : n ≤ 65536 = (let a = laid.most in omega arith) in record {
      laid = laid;
      once = λ x. none_yet x n few;
      free = omega arith;
      never_short = λ u le. let z : u ≡ 0 = omega arith in (n, omega arith);
      bounded = omega arith;
      states = omega arith;
      fits = λ j p e. first_fits n (version_of n) j p e;
      owner = λ c. 0;
      owned = first_owns callers;
    }
