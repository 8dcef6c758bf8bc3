-- Putting a text piece by piece, over the elements of a list.
use Rattle.std.proofs.Common.{◌≡◌, ℕ, ◌+◌, ◌<◌, false, List, [], ◌∷◌, ◌++◌, Result, Ok, Err, IsErr, IsOk, length, drop, get_or, refl, sym, ◌∙◌, ap, subst, arith, append_assoc, add-one, drop-cons}
use Rattle.std.proofs.lemmas.List.{append-nil}
use Rattle.std.proofs.Math.Seq.{drop-length}
use Rattle.std.specs.List.{flat_map}
use Rattle.dl_io.specs.Taken.{Taken}
use Rattle.dl_text.specs.Lists.{each_from}
use Rattle.dl_text.specs.Writing.{Buffered, Passes, Puts}
use Rattle.dl_text.proofs.WritingLemmas.{Took-none, passes_both, passes_fails, puts_more}

-- of a whole text some was put, and the rest is still to come
pub record PutSoFar (start now : Taken) (out out_now : Buffered) (whole rest : List ℕ) : Type 0 where
  pub put : List ℕ
  pub passes : Passes start out put now out_now
  pub splits : put ++ rest ≡ whole

-- nothing was put yet
pub put_start : (start : Taken) (out : Buffered) (whole : List ℕ) → out.failed ≡ false → PutSoFar start start out out whole whole
put_start start out whole works = record {
  put = [];
  passes = record { works = works; later = omega arith; taken = []; took = Took-none start.written; whole = rw append-nil refl };
  splits = refl;
}

-- a next piece was put
pub put_step : {start now next : Taken} {out out_now out_next : Buffered} {whole rest piece more : List ℕ} → PutSoFar start now out out_now whole rest →
    rest ≡ piece ++ more → Passes now out_now piece next out_next → PutSoFar start next out out_next whole more
put_step {whole = whole} {piece = piece} {more = more} so_far is passes = record {
  put = so_far.put ++ piece;
  passes = passes_both so_far.passes passes;
  splits = rw append_assoc (subst (λ text. so_far.put ++ text ≡ whole) is so_far.splits);
}

-- a next piece failed
pub put_fails : {E F : Type 0} {start now next : Taken} {out out_now out_next : Buffered} {whole rest piece : List ℕ} (more : List ℕ) {e : E} {r : Result (Unit {0}) F} →
    PutSoFar start now out out_now whole rest → rest ≡ piece ++ more → IsErr r → Puts now out_now piece (Err e) next out_next → Puts start out whole r next out_next
put_fails {start = start} {next = next} {out = out} {out_next = out_next} {whole = whole} {piece = piece} more {r = r} so_far is is_err fails =
    let all : (so_far.put ++ piece) ++ more ≡ whole = rw append_assoc (subst (λ rest. so_far.put ++ rest ≡ whole) is so_far.splits) in
    subst (λ text. Puts start out text r next out_next) all (puts_more more is_err (passes_fails is_err so_far.passes fails))

-- nothing is still to come
pub put_ends : {E : Type 0} {start now : Taken} {out out_now : Buffered} {whole rest : List ℕ} {r : Result (Unit {0}) E} →
    PutSoFar start now out out_now whole rest → rest ≡ [] → IsOk r → Puts start out whole r now out_now
put_ends {start = start} {now = now} {out = out} {out_now = out_now} {whole = whole} {r = Ok x} so_far none is_ok =
    let all : so_far.put ≡ whole = rw append-nil at (subst (λ rest. so_far.put ++ rest ≡ whole) none so_far.splits) in
    record { ok = subst (λ text. Passes start out text now out_now) all so_far.passes; err = tt }
put_ends {r = Err e} so_far none is_ok = cc

-- the texts of the elements from a place on begin with that of the element there
pub each_element : {A : Type 0} (line : A → List ℕ) (xs : List A) (i : ℕ) (d : A) → i < length xs →
    flat_map line (drop i xs) ≡ line (get_or xs i d) ++ flat_map line (drop (i + 1) xs)
each_element line xs i d within =
    let cut : drop i xs ≡ get_or xs i d ∷ drop (i + 1) xs = rw (add-one, drop-cons xs i d) refl in
    ap (flat_map line) cut

-- no element comes behind the last one
pub no_element : {A : Type 0} (line : A → List ℕ) (xs : List A) → flat_map line (drop (length xs) xs) ≡ []
no_element line xs = ap (flat_map line) (drop-length xs)

-- the texts of numbered elements from a place on begin with that of the element there
pub each_numbered : {A : Type 0} (text : ℕ → A → List ℕ) (number : ℕ) (xs : List A) (i : ℕ) (d : A) → i < length xs →
    each_from text number (drop i xs) ≡ text number (get_or xs i d) ++ each_from text (number + 1) (drop (i + 1) xs)
each_numbered text number xs i d within =
    let cut : drop i xs ≡ get_or xs i d ∷ drop (i + 1) xs = rw (add-one, drop-cons xs i d) refl in
    ap (each_from text number) cut

-- the same, of an element that is known to stand there
pub numbered_at : {A : Type 0} (text : ℕ → A → List ℕ) (number : ℕ) (xs : List A) (i : ℕ) (x : A) → i < length xs → x ≡ get_or xs i x →
    each_from text number (drop i xs) ≡ text number x ++ each_from text (number + 1) (drop (i + 1) xs)
numbered_at text number xs i x within is =
    each_numbered text number xs i x within ∙ ap (λ y. text number y ++ each_from text (number + 1) (drop (i + 1) xs)) (sym is)

-- no numbered element comes behind the last one
pub no_numbered : {A : Type 0} (text : ℕ → A → List ℕ) (number : ℕ) (xs : List A) → each_from text number (drop (length xs) xs) ≡ []
no_numbered text number xs = ap (each_from text number) (drop-length xs)

-- the text that was put, named otherwise
pub puts_is : {E : Type 0} {start now : Taken} {out out_now : Buffered} {text whole : List ℕ} {r : Result (Unit {0}) E} → text ≡ whole → Puts start out text r now out_now →
    Puts start out whole r now out_now
puts_is {start = start} {now = now} {out = out} {out_now = out_now} {r = r} is puts = subst (λ text. Puts start out text r now out_now) is puts
