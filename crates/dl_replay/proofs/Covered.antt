-- Each entry of a history that has operations of the files once, is that of one.
use Rattle.std.proofs.Common.{◌≡◌, ℕ, zero, suc, ◌+◌, ◌<◌, ◌==◌, ◌&&◌, Bool, true, List, [], ◌∷◌, length, get_or, cond, Option, Some, None, refl, ap, ◌∙◌, arith}
use Rattle.std.specs.Prelude.{count_by}
use Rattle.std.proofs.lemmas.Bool.Decides.{nat_tests}
use Rattle.std.proofs.lemmas.List.Sums.{sum_by-cons}
use Rattle.dl_ir.specs.declared.answers.Entry.{Entry}
use Rattle.dl_ir.specs.declared.calls.Call.{Call}
use Rattle.dl_ir.specs.Cover.{call_at, runs_of, refusals_of, one_if_there}
use Rattle.dl_replay.specs.Faults.{NamesOperation, CoveredEntriesNameOperations}

-- a count over a first element and the others
count-cons : {X : Type 0} (p : X → Bool) (x : X) (xs : List X) → count_by p (x ∷ xs) ≡ cond (p x) 1 0 + count_by p xs
count-cons p x xs = sum_by-cons (λ y. cond (p y) 1 0) x xs

-- an element that passes is counted
count_some : {X : Type 0} (p : X → Bool) (xs : List X) (k : ℕ) (d : X) → k < length xs → p (get_or xs k d) ≡ true → 0 < count_by p xs
count_some p [] k d within passes = absurd (omega arith)
count_some p (x ∷ xs) zero d within passes =
    omega (arith, count-cons p x xs ∙ ap (λ (b : Bool). cond b 1 0 + count_by p xs) passes)
count_some p (x ∷ xs) (suc k) d within passes =
    omega (arith, count-cons p x xs, count_some p xs k d (omega arith) passes)

-- a number is itself
same : (a b : ℕ) → ((a == a) && (b == b)) ≡ true
same a b = grind (arith, nat_tests)

-- what is there at least once, is there
there : (files : List (List Call)) (e : Entry) (found : Option Call) → call_at files e.caller e.index ≡ found → 0 < one_if_there found → NamesOperation files e
there files e (Some call) is some = record { call = call; is_there = is }
there files e None is some = absurd (omega arith)

pub covered_names : CoveredEntriesNameOperations
covered_names files history refusals covers k d within =
    let e = get_or history k d in
    let once : runs_of e.caller e.index history + refusals_of e.caller e.index refusals ≡ one_if_there (call_at files e.caller e.index) = covers.once e.caller e.index in
    let some : 0 < runs_of e.caller e.index history
    = count_some (λ (entry : Entry). (entry.caller == e.caller) && (entry.index == e.index)) history k d within (same e.caller e.index) in
    there files e (call_at files e.caller e.index) refl (omega (arith, once, some))
