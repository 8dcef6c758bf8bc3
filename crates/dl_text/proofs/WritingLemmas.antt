-- How the effects of puts follow one another.
use Rattle.std.proofs.Common.{◌≡◌, ℕ, ◌+◌, ◌<◌, ◌≤◌, List, [], ◌∷◌, ◌++◌, Option, Some, None, Result, Ok, Err, IsErr, length, take, drop, get_or, refl, ◌∙◌, ap, subst, arith, append_assoc, add-one, drop-cons}
use Rattle.std.proofs.Math.Nat.{le_trans}
use Rattle.std.proofs.lemmas.List.{append-nil, take-append-drop}
use Rattle.std.proofs.Math.Seq.{drop-length}
use Rattle.std.specs.List.{flat_map}
use Rattle.dl_io.specs.Faults.{Rose}
use Rattle.dl_io.specs.Taken.{Taken, Took}
use Rattle.dl_text.specs.Writing.{Buffered, Passes, Breaks, Puts, nothing, broken}

-- nothing was taken yet
pub Took-none : (told : Option (List ℕ)) → Took told told []
Took-none None = tt
Took-none (Some before) = rw append-nil refl

-- one piece after another
pub Took-both : (first then last : Option (List ℕ)) (a b : List ℕ) → Took first then a → Took then last b → Took first last (a ++ b)
Took-both None then last a b p q = tt
Took-both (Some before) then last a b p q =
    let seen : Took (Some (before ++ a)) last b = subst (λ (o : Option (List ℕ)). Took o last b) p q in
    seen ∙ ap Some (append_assoc before a b)

-- a rise is one from any earlier count
pub rose_later : {before now after : ℕ} → before ≤ now → Rose now after → Rose before after
rose_later {before = before} {now = now} {after = after} later rose = omega arith

-- one that passed, then another
pub passes_both : {s t u : Taken} {o p q : Buffered} {a b : List ℕ} → Passes s o a t p → Passes t p b u q → Passes s o (a ++ b) u q
passes_both {s = s} {t = t} {u = u} {o = o} {p = p} {q = q} {a = a} {b = b} first then = record {
  works = then.works;
  later = le_trans first.later then.later;
  taken = first.taken ++ then.taken;
  took = Took-both s.written t.written u.written first.taken then.taken first.took then.took;
  whole = rw (append_assoc first.taken then.taken q.bytes, then.whole, ← append_assoc, first.whole, append_assoc) refl;
}

-- one that passed, then a fault
pub passes_breaks : {s t u : Taken} {o p : Buffered} {a b : List ℕ} → Passes s o a t p → Breaks t p b u → Breaks s o (a ++ b) u
passes_breaks {s = s} {t = t} {u = u} {o = o} {p = p} {a = a} {b = b} first then = record {
  rose = rose_later first.later then.rose;
  later = le_trans first.later then.later;
  taken = first.taken ++ then.taken;
  lost = then.lost;
  took = Took-both s.written t.written u.written first.taken then.taken first.took then.took;
  whole = rw (append_assoc first.taken then.taken then.lost, then.whole, ← append_assoc, first.whole, append_assoc) refl;
}

-- a fault before more that would have come
pub breaks_more : {s t : Taken} {o : Buffered} {a : List ℕ} (b : List ℕ) → Breaks s o a t → Breaks s o (a ++ b) t
breaks_more {s = s} {t = t} {o = o} {a = a} b first = record {
  rose = first.rose;
  later = first.later;
  taken = first.taken;
  lost = first.lost ++ b;
  took = first.took;
  whole = rw (← append_assoc, first.whole, append_assoc) refl;
}

-- one that passed, then any
pub puts_both : {E : Type 0} {s t u : Taken} {o p q : Buffered} {a b : List ℕ} {r : Result (Unit {0}) E} →
    Passes s o a t p → Puts t p b r u q → Puts s o (a ++ b) r u q
puts_both {E = E} {s = s} {t = t} {u = u} {o = o} {p = p} {q = q} {a = a} {b = b} {r = Ok x} first then = record { ok = passes_both first then.ok; err = tt }
puts_both {E = E} {s = s} {t = t} {u = u} {o = o} {p = p} {q = q} {a = a} {b = b} {r = Err e} first then = record { ok = tt; err = (then.err.0, passes_breaks first then.err.1) }

-- a fault in whatever form it is handed on
fails : {E : Type 0} {s t : Taken} {o p : Buffered} {a : List ℕ} {r : Result (Unit {0}) E} → IsErr r → p ≡ broken → Breaks s o a t → Puts s o a r t p
fails {r = Ok x} is_err keeps breaks = cc
fails {r = Err e} is_err keeps breaks = record { ok = tt; err = (keeps, breaks) }

-- one that passed, then one that failed
pub passes_fails : {E F : Type 0} {s t u : Taken} {o p q : Buffered} {a b : List ℕ} {e : E} {r : Result (Unit {0}) F} → IsErr r →
    Passes s o a t p → Puts t p b (Err e) u q → Puts s o (a ++ b) r u q
passes_fails is_err first then = fails is_err then.err.0 (passes_breaks first then.err.1)

-- one that failed, before more that would have come
pub puts_fails : {E F : Type 0} {s t : Taken} {o p : Buffered} {a : List ℕ} (b : List ℕ) {e : E} {r : Result (Unit {0}) F} → IsErr r →
    Puts s o a (Err e) t p → Puts s o (a ++ b) r t p
puts_fails b is_err first = fails is_err first.err.0 (breaks_more b first.err.1)

-- the same, with a result that is a fault already
pub puts_more : {E : Type 0} {s t : Taken} {o p : Buffered} {a : List ℕ} (b : List ℕ) {r : Result (Unit {0}) E} → IsErr r →
    Puts s o a r t p → Puts s o (a ++ b) r t p
puts_more b {r = Ok x} is_err first = cc
puts_more b {r = Err e} is_err first = puts_fails b refl first

-- the same, where the whole is known by an equation
pub puts_short : {E F : Type 0} {s t : Taken} {o p : Buffered} {a : List ℕ} (b : List ℕ) {whole : List ℕ} {e : E} {r : Result (Unit {0}) F} → a ++ b ≡ whole →
    IsErr r → Puts s o a (Err e) t p → Puts s o whole r t p
puts_short b is is_err first = rw (← is) (puts_fails b is_err first)

-- texts of elements, put one after another: the next one
pub each_next : {A : Type 0} (line : A → List ℕ) (xs : List A) (i : ℕ) (x : A) (put : List ℕ) → i < length xs → x ≡ get_or xs i x →
    put ++ flat_map line (drop i xs) ≡ flat_map line xs → (put ++ line x) ++ flat_map line (drop (i + 1) xs) ≡ flat_map line xs
each_next line xs i x put within is so_far =
    let cut : drop i xs ≡ x ∷ drop (i + 1) xs = rw (add-one, drop-cons xs i x, ← is) refl in
    rw append_assoc (subst (λ rest. put ++ flat_map line rest ≡ flat_map line xs) cut so_far)

-- what a sink took of a text so far, of which the rest is still to come
pub record SoFar (start now : Taken) (text rest : List ℕ) : Type 0 where
  pub later : start.faults ≤ now.faults
  pub taken : List ℕ
  pub took : Took start.written now.written taken
  pub whole : taken ++ rest ≡ text

pub so_far_start : (start : Taken) (text : List ℕ) → SoFar start start text text
so_far_start start text = record { later = omega arith; taken = []; took = Took-none start.written; whole = refl }

pub so_far_step : {start now next : Taken} {text rest : List ℕ} (n : ℕ) → SoFar start now text rest → now.faults ≤ next.faults →
    Took now.written next.written (take n rest) → SoFar start next text (drop n rest)
so_far_step {start = start} {now = now} {next = next} {text = text} {rest = rest} n so_far later took = record {
  later = le_trans so_far.later later;
  taken = so_far.taken ++ take n rest;
  took = Took-both start.written now.written next.written so_far.taken (take n rest) so_far.took took;
  whole = rw (append_assoc so_far.taken (take n rest) (drop n rest), take-append-drop n rest) so_far.whole;
}

pub so_far_end : {start now : Taken} {text rest : List ℕ} → SoFar start now text rest → rest ≡ [] → Passes start nothing text now nothing
so_far_end {text = text} {rest = rest} so_far none = record { works = refl; later = so_far.later; taken = so_far.taken; took = so_far.took; whole = subst (λ r. so_far.taken ++ r ≡ text) none so_far.whole }

pub so_far_breaks : {start now next : Taken} {text rest : List ℕ} → SoFar start now text rest → now.faults ≤ next.faults → Rose now.faults next.faults →
    next.written ≡ now.written → Breaks start nothing text next
so_far_breaks {start = start} {rest = rest} so_far later rose same = record {
  rose = rose_later so_far.later rose;
  later = le_trans so_far.later later;
  taken = so_far.taken;
  lost = rest;
  took = rw same so_far.took;
  whole = so_far.whole;
}

-- texts of elements, put one after another: the last one was put
pub each_end : {A : Type 0} (line : A → List ℕ) (xs : List A) (put whole : List ℕ) →
    put ++ flat_map line (drop (length xs) xs) ≡ whole → put ≡ whole
each_end line xs put whole so_far =
    let none : drop (length xs) xs ≡ [] = drop-length xs in
    rw append-nil at (subst (λ rest. put ++ flat_map line rest ≡ whole) none so_far)
