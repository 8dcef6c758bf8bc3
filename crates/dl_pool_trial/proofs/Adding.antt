-- What a round adds to the lists of a caller, and what the lists of all callers say of the pool word at the end.
use Rattle.std.proofs.Common.{◌≡◌, ◌≢◌, ℕ, ◌+◌, ◌*◌, inl, inr, List, [], ◌∷◌, get_or, sym, refl, ap, ◌∙◌, subst, arith, ◌<◌}
use mathlib.Core.Option.{some, some-injective, some-ne-none}
use mathlib.Core.Logic.{dite}
use native.Mathlib.Decide.{ℕ_discrete}
use lib.ListN.{get_elem?}
use Rattle.atomic_table.specs.Table.{State, Me, Final, Seen}
use Rattle.atomic_table.proofs.Lists.{at_map}
use Rattle.dl_pool.specs.declared.views.Part.{Part}
use Rattle.dl_pool.specs.declared.views.Member.{Member}
use Rattle.dl_pool.specs.declared.answers.Reserve.{Reserve}
use Rattle.dl_pool.specs.declared.answers.Reserve.TheVariants.{Got, NoRoom, Raced}
use Rattle.dl_pool.specs.Rule.{version_of, free_of, part, parts, accounts, total, took, gave, up_to}
use Rattle.dl_pool.specs.Views.{refused, reserved, loaded, raced, gave_back, joined, dealt_part}
use Rattle.dl_pool.specs.Steps.{ReserveAnswers, GiveAnswers}
use Rattle.dl_pool.specs.Log.{HasAllCallers, IsWholeLog}
use Rattle.dl_pool.proofs.Weights.{weigh_move, weigh_refusal, weigh_both, all_moves}
use Rattle.dl_pool.proofs.Logs.{whole_logs, counted, one, has_right}
use Rattle.dl_pool_trial.specs.declared.rule.Rest.{Rest}
use Rattle.dl_pool_trial.specs.declared.rule.Setting.{Setting}
use Rattle.dl_pool_trial.specs.Trials.{TrialKept, Adds, MakesRounds, moves_in, taken_in, given_in, one_less}

abbrev pub Sees : Type 0
Sees = Me (Unit {0}) (Member Rest)

-- what is added one after the other
pub adds_both : (m n t t' g g' : ℕ) (p q r : Part) → Adds m t g p q → Adds n t' g' q r → Adds (m + n) (t + t') (g + g') p r
adds_both m n t t' g g' p q r a b = record {
  number = b.number ∙ a.number;
  moves = (let x = a.moves in let y = b.moves in omega arith);
  taken = (let x = a.taken in let y = b.taken in omega arith);
  given = (let x = a.given in let y = b.given in omega arith);
}

races : (n k : ℕ) (p : Part) → Adds 0 0 0 p (raced k (loaded n p))
races n k p = record { number = refl; moves = omega arith; taken = omega arith; given = omega arith }

refuses : (need n : ℕ) (p : Part) → Adds 0 0 0 p (refused need n p)
refuses need n p = record {
  number = refl;
  moves = (let a = weigh_refusal one p.events record { need = need; found = free_of n; version = version_of n } in omega arith);
  taken = (let a = weigh_refusal took p.events record { need = need; found = free_of n; version = version_of n } in omega arith);
  given = (let a = weigh_refusal gave p.events record { need = need; found = free_of n; version = version_of n } in omega arith);
}

reserves : (need n : ℕ) (p : Part) → Adds 1 need 0 p (reserved need n (loaded n p))
reserves need n p = record {
  number = refl;
  moves = (let a = weigh_move one p.events record { version = version_of n + 1; taken = need; back = 0 } in omega arith);
  taken = (let a = weigh_move took p.events record { version = version_of n + 1; taken = need; back = 0 } in omega arith);
  given = (let a = weigh_move gave p.events record { version = version_of n + 1; taken = need; back = 0 } in omega arith);
}

gives : (count n : ℕ) (p : Part) → Adds 1 0 count p (gave_back count n p)
gives count n p = record {
  number = refl;
  moves = (let a = weigh_move one p.events record { version = version_of n + 1; taken = 0; back = count } in omega arith);
  taken = (let a = weigh_move took p.events record { version = version_of n + 1; taken = 0; back = count } in omega arith);
  given = (let a = weigh_move gave p.events record { version = version_of n + 1; taken = 0; back = count } in omega arith);
}

abbrev keeps_rest : ℕ → ℕ → ℕ → Rest → Rest
keeps_rest need found version x = x

abbrev spends : ℕ → ℕ → Rest → Rest
spends need version x = one_less x

pub got_adds : (callers need version : ℕ) (m m' : Sees) → ReserveAnswers callers need spends keeps_rest m (Got version) m' → Adds 1 need 0 m.0.pool m'.0.pool
got_adds callers need version m m' h = subst (λ (z : Sees). Adds 1 need 0 m.0.pool z.0.pool) (sym h.4) (reserves need h.0 m.0.pool)

-- a refusal and a race add nothing but steps
pub not_got_adds : (callers need : ℕ) (m m' : Sees) (a : Reserve) → ((version : ℕ) → a ≢ Got version) → ReserveAnswers callers need spends keeps_rest m a m'
    → Adds 0 0 0 m.0.pool m'.0.pool × (m'.1 ≡ m.1) × (m'.0.rest ≡ m.0.rest) × (m.0.pool.look.count < m'.0.pool.look.count)
not_got_adds callers need m m' (Got version) other h = absurd (other version refl)
not_got_adds callers need m m' (NoRoom k found version) other h =
    subst (λ (z : Sees). Adds 0 0 0 m.0.pool z.0.pool × (z.1 ≡ m.1) × (z.0.rest ≡ m.0.rest) × (m.0.pool.look.count < z.0.pool.look.count)) (sym h.6)
    (refuses need h.0 m.0.pool, refl, refl, omega arith)
not_got_adds callers need m m' (Raced seen now) other h =
    subst (λ (z : Sees). Adds 0 0 0 m.0.pool z.0.pool × (z.1 ≡ m.1) × (z.0.rest ≡ m.0.rest) × (m.0.pool.look.count < z.0.pool.look.count)) (sym h.7)
    (races h.0 h.1 m.0.pool, refl, refl, omega arith)

pub give_adds : (count version : ℕ) (m m' : Sees) → GiveAnswers count spends m version m' → Adds 1 0 count m.0.pool m'.0.pool
give_adds count version m m' h = subst (λ (z : Sees). Adds 1 0 count m.0.pool z.0.pool) (sym h.3) (gives count h.0 m.0.pool)

-- two callers and their joined view
pub both_callers : (callers : ℕ) (p q : Part) → callers ≡ 2 → p.number ≡ 1 → q.number ≡ 2 → HasAllCallers callers (joined p q)
both_callers callers p q two first second c pos le = dite (ℕ_discrete c 1)
    (λ e. inl (first ∙ sym e))
    (λ ne. inr (has_right c p.others (accounts q) (inl (second ∙ omega arith))))

word_at : (ws : List ℕ) (n : ℕ) → get_elem? ws 0 ≡ some n → get_or ws 0 0 ≡ n
word_at [] n e = absurd (some-ne-none n (sym e))
word_at (x ∷ xs) n e = some-injective x n e

-- the last state of a table has the whole log of the joined view
pub closes : (k : Setting) (id : ℕ) (v : Member Rest) (ws : List ℕ) (xs : List (Unit {0})) (n : ℕ) → Final (Seen (TrialKept k) id v) ws xs → get_elem? ws 0 ≡ some n → HasAllCallers k.callers v.pool → IsWholeLog k.layout.places n v.pool
closes k id v ws xs n f at all =
    let s : State (Unit {0}) (Member Rest) = f.0 in
    let is : get_or s.words 0 0 ≡ n = ap (λ (l : List ℕ). get_or l 0 0) f.2 ∙ word_at ws n at in
    subst (λ (z : ℕ). IsWholeLog k.layout.places z v.pool) is
    (whole_logs k.layout.places k.callers k.layout s.words (parts s.views) id v.pool f.1.0.pool (at_map part s.views id v f.1.1) all)

-- a view whose lists have no move
abbrev pub IsFresh : Part → Type 0
IsFresh p = (moves_in p ≡ 0) × (taken_in p ≡ 0) × (given_in p ≡ 0)

pub dealt_fresh : (p : Part) → IsFresh (dealt_part p)
dealt_fresh p = (refl, refl, refl)

-- rounds give back what they took
pub ends_as_begun : (opening word m n : ℕ) (p q p' q' : Part) → IsWholeLog opening word (joined p' q') → MakesRounds m p p' → MakesRounds n q q' → IsFresh p → IsFresh q → word ≡ 2 * (m + n) * 16777216 + opening
ends_as_begun opening word m n p q p' q' log first second fresh fresh' =
    let version : total one (joined p' q' ∷ []) ≡ version_of word = counted (version_of word) (joined p' q' ∷ []) log.once in
    let all_took : total (up_to took (version_of word)) (joined p' q' ∷ []) ≡ total took (joined p' q' ∷ []) = all_moves took (version_of word) (joined p' q' ∷ []) log.once in
    let all_gave : total (up_to gave (version_of word)) (joined p' q' ∷ []) ≡ total gave (joined p' q' ∷ []) = all_moves gave (version_of word) (joined p' q' ∷ []) log.once in
    let free = log.free in
    let both_one = weigh_both one p'.others (accounts q') in
    let both_took = weigh_both took p'.others (accounts q') in
    let both_gave = weigh_both gave p'.others (accounts q') in
    let a = first.moves in let b = second.moves in let c = first.taken in let d = second.taken in let e = first.given in let f = second.given in
    let u = fresh.0 in let v = fresh.1 in let w = fresh.2 in let x = fresh'.0 in let y = fresh'.1 in let z = fresh'.2 in
    let moves_all : version_of word ≡ 2 * (m + n) = omega arith in
    let free_all : free_of word ≡ opening = omega arith in
    omega arith
