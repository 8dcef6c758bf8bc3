-- Pieces that are put one behind the other.
use Rattle.std.proofs.Common.{◌≡◌, ℕ, ◌+◌, ◌<◌, false, List, [], ◌∷◌, ◌++◌, Result, Ok, Err, IsErr, IsOk, length, map, drop, get_or, refl, sym, ◌∙◌, ap, subst, append_assoc, arith, add-one, drop-cons}
use Rattle.std.proofs.lemmas.List.{append-nil}
use Rattle.std.proofs.lemmas.Grind.{flat_map-append}
use Rattle.std.proofs.Math.Seq.{drop-length}
use Rattle.std.specs.List.{flat_map}
use Rattle.dl_io.specs.Taken.{Taken}
use Rattle.dl_text.specs.Writing.{Buffered, Passes, Puts}
use Rattle.dl_text.proofs.WritingLemmas.{Took-none, passes_both, puts_both, puts_fails}
use Rattle.dl_grammar.specs.declared.tree.TreeStmt.{TreeStmt}
use Rattle.dl_print.specs.Canonical.{Piece, piece_text, text_of, statement_lines, lines_at}

-- pieces that were put, and then any
pub then_put : {E : Type 0} {s t u : Taken} {o p q : Buffered} {r : Result (Unit {0}) E} (a b : List Piece) → Passes s o (text_of a) t p → Puts t p (text_of b) r u q → Puts s o (text_of (a ++ b)) r u q
then_put {s = s} {u = u} {o = o} {q = q} {r = r} a b first then = subst (λ text. Puts s o text r u q) (sym (flat_map-append piece_text a b)) (puts_both first then)

-- pieces at which the sink failed, before more that would have come
pub stop_put : {E F : Type 0} {s t : Taken} {o p : Buffered} {e : E} {r : Result (Unit {0}) F} (a b : List Piece) → IsErr r → Puts s o (text_of a) (Err e) t p → Puts s o (text_of (a ++ b)) r t p
stop_put {s = s} {t = t} {o = o} {p = p} {r = r} a b is_err fails = subst (λ text. Puts s o text r t p) (sym (flat_map-append piece_text a b)) (puts_fails (text_of b) is_err fails)

-- of some pieces the first were put, and the rest is still to come
pub record PutSoFar (start now : Taken) (out out_now : Buffered) (whole rest : List Piece) : Type 0 where
  pub put : List Piece
  pub passes : Passes start out (text_of put) now out_now
  pub splits : put ++ rest ≡ whole

-- nothing was put yet
pub put_start : (start : Taken) (out : Buffered) (whole : List Piece) → out.failed ≡ false → PutSoFar start start out out whole whole
put_start start out whole works = record {
  put = [];
  passes = record { works = works; later = omega arith; taken = []; took = Took-none start.written; whole = rw append-nil refl };
  splits = refl;
}

-- a next piece was put
pub put_step : {start now next : Taken} {out out_now out_next : Buffered} {whole rest : List Piece} (piece more : List Piece) → PutSoFar start now out out_now whole rest →
    rest ≡ piece ++ more → Passes now out_now (text_of piece) next out_next → PutSoFar start next out out_next whole more
put_step {start = start} {next = next} {out = out} {out_next = out_next} {whole = whole} piece more so_far is passes = record {
  put = so_far.put ++ piece;
  passes = subst (λ text. Passes start out text next out_next) (sym (flat_map-append piece_text so_far.put piece)) (passes_both so_far.passes passes);
  splits = rw append_assoc (subst (λ text. so_far.put ++ text ≡ whole) is so_far.splits);
}

-- a next piece failed
pub put_fails : {E F : Type 0} {start now next : Taken} {out out_now out_next : Buffered} {whole rest : List Piece} {e : E} {r : Result (Unit {0}) F} (piece more : List Piece) →
    PutSoFar start now out out_now whole rest → rest ≡ piece ++ more → IsErr r → Puts now out_now (text_of piece) (Err e) next out_next → Puts start out (text_of whole) r next out_next
put_fails {start = start} {next = next} {out = out} {out_next = out_next} {whole = whole} {r = r} piece more so_far is is_err fails =
    let all : so_far.put ++ (piece ++ more) ≡ whole = subst (λ text. so_far.put ++ text ≡ whole) is so_far.splits in
    subst (λ text. Puts start out (text_of text) r next out_next) all (then_put so_far.put (piece ++ more) so_far.passes (stop_put piece more is_err fails))

-- nothing is still to come
pub put_ends : {E : Type 0} {start now : Taken} {out out_now : Buffered} {whole rest : List Piece} {r : Result (Unit {0}) E} →
    PutSoFar start now out out_now whole rest → rest ≡ [] → IsOk r → Puts start out (text_of whole) r now out_now
put_ends {start = start} {now = now} {out = out} {out_now = out_now} {whole = whole} {r = Ok x} so_far none is_ok =
    let all : so_far.put ≡ whole = rw append-nil at (subst (λ rest. so_far.put ++ rest ≡ whole) none so_far.splits) in
    record { ok = subst (λ ps. Passes start out (text_of ps) now out_now) all so_far.passes; err = tt }
put_ends {r = Err e} so_far none is_ok = cc

-- the pieces of the elements from a place on begin with those of the element there
pub each_at : {A : Type 0} (line : A → List Piece) (xs : List A) (i : ℕ) (x : A) → i < length xs → x ≡ get_or xs i x →
    flat_map line (drop i xs) ≡ line x ++ flat_map line (drop (i + 1) xs)
each_at line xs i x within is =
    let cut : drop i xs ≡ get_or xs i x ∷ drop (i + 1) xs = rw (add-one, drop-cons xs i x) refl in
    ap (flat_map line) cut ∙ ap (λ y. line y ++ flat_map line (drop (i + 1) xs)) (sym is)

-- no element comes behind the last one
pub no_element : {A : Type 0} (line : A → List Piece) (xs : List A) → flat_map line (drop (length xs) xs) ≡ []
no_element line xs = ap (flat_map line) (drop-length xs)

-- the lines of the statements from a place on begin with those of the statement there
pub statement_at : (block : List TreeStmt) (level i : ℕ) (x : TreeStmt) → i < length block → x ≡ get_or block i x →
    lines_at (map statement_lines (drop i block)) level ≡ statement_lines x level ++ lines_at (map statement_lines (drop (i + 1) block)) level
statement_at block level i x within is =
    let cut : drop i block ≡ get_or block i x ∷ drop (i + 1) block = rw (add-one, drop-cons block i x) refl in
    ap (λ (b : List TreeStmt). lines_at (map statement_lines b) level) cut ∙ ap (λ (y : TreeStmt). statement_lines y level ++ lines_at (map statement_lines (drop (i + 1) block)) level) (sym is)

-- no statement comes behind the last one
pub no_statement : (block : List TreeStmt) (level : ℕ) → lines_at (map statement_lines (drop (length block) block)) level ≡ []
no_statement block level = ap (λ (b : List TreeStmt). lines_at (map statement_lines b) level) (drop-length block)
