-- What comes first in some bytes, as the function says it and as the definition says it.
use Rattle.std.proofs.Common.{◌≡◌, ℕ, ◌+◌, ◌≤◌, ◌<◌, Bool, true, false, List, [], ◌∷◌, ◌++◌, length, take, drop, arith, refl, sym, ap, ◌∙◌, subst, inl, inr, cond, suc}
use Rattle.std.specs.Prelude.{Option, Some, None, nat_le, ◌⊎◌}
use Rattle.std.specs.List.{prefix_len, take_while}
use Rattle.std.proofs.lemmas.Bool.Decides.{nat_tests}
use Rattle.dl_text.specs.declared.class.Class.{Class}
use Rattle.dl_text.specs.declared.class.Class.TheVariants as class
use Rattle.dl_text.specs.declared.scan.Piece.{Piece}
use Rattle.dl_text.specs.declared.scan.Piece.TheVariants as piece
use Rattle.dl_text.specs.declared.token.TokenKind.{TokenKind}
use Rattle.dl_text.specs.declared.token.TokenKind.TheVariants.{Word, Number, Symbol}
use Rattle.dl_text.specs.Bytes.{class_of, is_digit, is_word, is_comment, is_pair, value, AllAre}
use Rattle.dl_text.specs.Text.{greatest, Ends, IsPiece, OneBlank, OneComment, OneWord, OneNumber, TwoMarks, OneMark, IsForeign, AboveAscii, IsStray, BeginsNothing, IsBig, AboveGreatest}
use Rattle.dl_text.specs.Scan as spec

-- the bytes are cut behind their longest front that passes a test
pub record Run (p : ℕ → Bool) (xs : List ℕ) (n : ℕ) : Type 0 where
  pub front : List ℕ
  pub back : List ℕ
  pub split : xs ≡ front ++ back
  pub len : n ≡ length front
  pub pass : AllAre p front
  pub ends : Ends p back

run_at : (p : ℕ → Bool) (x : ℕ) (xs : List ℕ) (b : Bool) → p x ≡ b → Run p xs (prefix_len p xs) → Run p (x ∷ xs) (cond b (1 + prefix_len p xs) 0)
run_at p x xs true h r = record {
  front = x ∷ r.front;
  back = r.back;
  split = ap (λ ys. x ∷ ys) r.split;
  len = omega (arith, r.len);
  pass = (h, r.pass);
  ends = r.ends;
}
run_at p x xs false h r = record { front = []; back = x ∷ xs; split = refl; len = refl; pass = tt; ends = h }

pub run : (p : ℕ → Bool) (xs : List ℕ) → Run p xs (prefix_len p xs)
run p [] = record { front = []; back = []; split = refl; len = refl; pass = tt; ends = tt }
run p (x ∷ xs) = run_at p x xs (p x) refl (run p xs)

-- and such a front is that long
pub prefix_len-run : (p : ℕ → Bool) (front back : List ℕ) → AllAre p front → Ends p back → prefix_len p (front ++ back) ≡ length front
prefix_len-run p [] [] pass ends = refl
prefix_len-run p [] (x ∷ back) pass ends = rw ends
prefix_len-run p (x ∷ front) back pass ends = rw pass.0 (omega (arith, prefix_len-run p front back pass.1 ends))

take-front : (front back : List ℕ) → take (length front) (front ++ back) ≡ front
take-front [] back = refl
take-front (x ∷ front) back = ap (λ ys. x ∷ ys) (take-front front back)

drop-front : (front back : List ℕ) → drop (length front) (front ++ back) ≡ back
drop-front [] back = refl
drop-front (x ∷ front) back = drop-front front back

pub take_while-run : (p : ℕ → Bool) (front back : List ℕ) → AllAre p front → Ends p back → take_while p (front ++ back) ≡ front
take_while-run p front back pass ends = ap (λ n. take n (front ++ back)) (prefix_len-run p front back pass ends) ∙ take-front front back

-- the bytes before n are a piece of the kind
pub record IsCutting (bytes : List ℕ) (n : ℕ) (kind : Option TokenKind) : Type 0 where
  pub text : List ℕ
  pub more : List ℕ
  pub split : bytes ≡ text ++ more
  pub len : n ≡ length text
  pub is : IsPiece text more kind

-- what each answer of the function means
abbrev pub Meaning : List ℕ → Piece → Type 0
Meaning bytes piece.End = bytes ≡ []
Meaning bytes piece.Feed = (b : ℕ) × (more : List ℕ) × (bytes ≡ b ∷ more) × (class_of b ≡ class.LineFeed)
Meaning bytes (piece.Skip n) = IsCutting bytes n None
Meaning bytes (piece.Take kind n) = IsCutting bytes n (Some kind)
Meaning bytes piece.Foreign = IsForeign bytes
Meaning bytes piece.Stray = IsStray bytes
Meaning bytes piece.Big = IsBig bytes

digit_passes : (b : ℕ) → class_of b ≡ class.Digit → is_digit b ≡ true
digit_passes b h = grind (arith, nat_tests, h)

pair_class : (b c : ℕ) → is_pair b c ≡ true → (class_of b ≡ class.Mark) ⊎ (class_of b ≡ class.Stray)
pair_class b c h = grind (arith, nat_tests, h)

pub take_while-passes : (p : ℕ → Bool) (xs : List ℕ) → AllAre p (take (prefix_len p xs) xs)
take_while-passes p xs =
    let r = run p xs in
    let is : take (prefix_len p xs) xs ≡ r.front = ap (λ ys. take (prefix_len p xs) ys) r.split ∙ ap (λ n. take n (r.front ++ r.back)) r.len ∙ take-front r.front r.back in
    subst (AllAre p) (sym is) r.pass

-- what the function says of a byte and what follows it is so
cut_one : (b : ℕ) (rest : List ℕ) (kind : Option TokenKind) → IsPiece (b ∷ []) rest kind → IsCutting (b ∷ rest) 1 kind
cut_one b rest kind h = record { text = b ∷ []; more = rest; split = refl; len = refl; is = h }

comment_means : (b : ℕ) (rest : List ℕ) → class_of b ≡ class.Hash → IsCutting (b ∷ rest) (1 + prefix_len is_comment rest) None
comment_means b rest h =
    let r = run is_comment rest in
    record { text = b ∷ r.front; more = r.back; split = ap (λ ys. b ∷ ys) r.split; len = omega (arith, r.len); is = OneComment h r.pass r.ends }

word_means : (b : ℕ) (rest : List ℕ) → class_of b ≡ class.Letter → IsCutting (b ∷ rest) (1 + prefix_len is_word rest) (Some Word)
word_means b rest h =
    let r = run is_word rest in
    record { text = b ∷ r.front; more = r.back; split = ap (λ ys. b ∷ ys) r.split; len = omega (arith, r.len); is = OneWord h r.pass r.ends }

-- a run of digits is a number, or one that is too big
number_at : (b : ℕ) (front back : List ℕ) (n : ℕ) → n ≡ suc (length front) → class_of b ≡ class.Digit → AllAre is_digit front → Ends is_digit back → (small : Bool) → nat_le (value (b ∷ front)) greatest ≡ small
    → Meaning (b ∷ front ++ back) (cond small (piece.Take (Number (value (b ∷ front))) n) piece.Big)
number_at b front back n len h pass ends true small = record { text = b ∷ front; more = back; split = refl; len = len; is = OneNumber h pass ends (grind (arith, nat_tests, small)) }
number_at b front back n len h pass ends false big = AboveGreatest front back h pass ends (grind (arith, nat_tests, big))

number_means : (b : ℕ) (rest : List ℕ) → class_of b ≡ class.Digit → Meaning (b ∷ rest) (spec.number (prefix_len is_digit (b ∷ rest)) (value (take_while is_digit (b ∷ rest))))
number_means b rest h =
    let r = run is_digit rest in
    let pass : AllAre is_digit (b ∷ r.front) = (digit_passes b h, r.pass) in
    let len : prefix_len is_digit ((b ∷ r.front) ++ r.back) ≡ suc (length r.front) = prefix_len-run is_digit (b ∷ r.front) r.back pass r.ends in
    let is : take_while is_digit ((b ∷ r.front) ++ r.back) ≡ b ∷ r.front = take_while-run is_digit (b ∷ r.front) r.back pass r.ends in
    subst (λ ys. Meaning (b ∷ ys) (spec.number (prefix_len is_digit (b ∷ ys)) (value (take_while is_digit (b ∷ ys))))) (sym r.split)
    (subst (λ ds. Meaning (b ∷ r.front ++ r.back) (spec.number (prefix_len is_digit (b ∷ r.front ++ r.back)) (value ds))) (sym is)
    (number_at b r.front r.back _ len h r.pass r.ends _ refl))

pair_at : (alone : Piece) (b c : ℕ) (rest : List ℕ) (pairs : Bool) → is_pair b c ≡ pairs → (is_pair b c ≡ false → Meaning (b ∷ c ∷ rest) alone) → Meaning (b ∷ c ∷ rest) (cond pairs (piece.Take Symbol 2) alone)
pair_at alone b c rest true h other = record { text = b ∷ c ∷ []; more = rest; split = refl; len = refl; is = TwoMarks h }
pair_at alone b c rest false h other = other h

symbol_means : (alone : Piece) (b : ℕ) (rest : List ℕ) → (Ends (is_pair b) rest → Meaning (b ∷ rest) alone) → Meaning (b ∷ rest) (spec.symbol alone b rest)
symbol_means alone b [] other = other tt
symbol_means alone b (c ∷ rest) other = pair_at alone b c rest (is_pair b c) refl other

means_of : (k : Class) (b : ℕ) (rest : List ℕ) → class_of b ≡ k → Meaning (b ∷ rest) (spec.piece_of k b rest)
means_of class.Foreign b rest h = AboveAscii h
means_of class.LineFeed b rest h = (b, rest, refl, h)
means_of class.Blank b rest h = cut_one b rest None (OneBlank h)
means_of class.Hash b rest h = comment_means b rest h
means_of class.Letter b rest h = word_means b rest h
means_of class.Digit b rest h = number_means b rest h
means_of class.Mark b rest h = symbol_means (piece.Take Symbol 1) b rest (λ ends. cut_one b rest (Some Symbol) (OneMark h ends))
means_of class.Stray b rest h = symbol_means piece.Stray b rest (λ ends. BeginsNothing h ends)

pub means : (bytes : List ℕ) → Meaning bytes (spec.first bytes)
means [] = refl
means (b ∷ rest) = means_of (class_of b) b rest refl

-- and what is so the function says
abbrev pub answer : Option TokenKind → ℕ → Piece
answer None n = piece.Skip n
answer (Some kind) n = piece.Take kind n

run_piece : (k : Class) (b : ℕ) (rest : List ℕ) (p : Piece) → class_of b ≡ k → spec.piece_of k b rest ≡ p → spec.first (b ∷ rest) ≡ p
run_piece k b rest p h is = ap (λ c. spec.piece_of c b rest) h ∙ is

symbol_pair : (alone : Piece) (b c : ℕ) (rest : List ℕ) → is_pair b c ≡ true → spec.symbol alone b (c ∷ rest) ≡ piece.Take Symbol 2
symbol_pair alone b c rest h = ap (λ t. cond t (piece.Take Symbol 2) alone) h

symbol_alone : (alone : Piece) (b : ℕ) (rest : List ℕ) → Ends (is_pair b) rest → spec.symbol alone b rest ≡ alone
symbol_alone alone b [] h = refl
symbol_alone alone b (c ∷ rest) h = ap (λ t. cond t (piece.Take Symbol 2) alone) h

number_first : (b : ℕ) (text rest : List ℕ) (p : Piece) → class_of b ≡ class.Digit → AllAre is_digit text → Ends is_digit rest → spec.number (suc (length text)) (value (b ∷ text)) ≡ p → spec.first (b ∷ text ++ rest) ≡ p
number_first b text rest p h pass ends is =
    let pass' : AllAre is_digit (b ∷ text) = (digit_passes b h, pass) in
    run_piece class.Digit b (text ++ rest) p h
    (ap (λ n. spec.number n (value (take_while is_digit ((b ∷ text) ++ rest)))) (prefix_len-run is_digit (b ∷ text) rest pass' ends)
    ∙ ap (λ ds. spec.number (suc (length text)) (value ds)) (take_while-run is_digit (b ∷ text) rest pass' ends) ∙ is)

number_small : (n v : ℕ) → v ≤ greatest → spec.number n v ≡ piece.Take (Number v) n
number_small n v h = let t : nat_le v greatest ≡ true = grind (arith, nat_tests, h) in ap (λ s. cond s (piece.Take (Number v) n) piece.Big) t

number_big : (n v : ℕ) → greatest < v → spec.number n v ≡ piece.Big
number_big n v h = let t : nat_le v greatest ≡ false = grind (arith, nat_tests, h) in ap (λ s. cond s (piece.Take (Number v) n) piece.Big) t

pub piece_first : {text more : List ℕ} {kind : Option TokenKind} → IsPiece text more kind → spec.first (text ++ more) ≡ answer kind (length text)
piece_first (OneBlank {b} {rest} h) = run_piece class.Blank b rest _ h refl
piece_first (OneComment {b} {text} {rest} h pass ends) = run_piece class.Hash b (text ++ rest) _ h (ap piece.Skip (omega (arith, prefix_len-run is_comment text rest pass ends)))
piece_first (OneWord {b} {text} {rest} h pass ends) = run_piece class.Letter b (text ++ rest) _ h (ap (piece.Take Word) (omega (arith, prefix_len-run is_word text rest pass ends)))
piece_first (OneNumber {b} {text} {rest} h pass ends small) = number_first b text rest _ h pass ends (number_small (suc (length text)) (value (b ∷ text)) small)
piece_first (TwoMarks {b} {c} {rest} h) =
    elim (pair_class b c h) [
      | inl mark ↦ run_piece class.Mark b (c ∷ rest) _ mark (symbol_pair (piece.Take Symbol 1) b c rest h)
      | inr stray ↦ run_piece class.Stray b (c ∷ rest) _ stray (symbol_pair piece.Stray b c rest h)
    ]
piece_first (OneMark {b} {rest} h ends) = run_piece class.Mark b rest _ h (symbol_alone (piece.Take Symbol 1) b rest ends)

pub feed_first : (b : ℕ) (rest : List ℕ) → class_of b ≡ class.LineFeed → spec.first (b ∷ rest) ≡ piece.Feed
feed_first b rest h = run_piece class.LineFeed b rest _ h refl

pub foreign_first : {rest : List ℕ} → IsForeign rest → spec.first rest ≡ piece.Foreign
foreign_first (AboveAscii {b} {rest} h) = run_piece class.Foreign b rest _ h refl

pub stray_first : {rest : List ℕ} → IsStray rest → spec.first rest ≡ piece.Stray
stray_first (BeginsNothing {b} {rest} h ends) = run_piece class.Stray b rest _ h (symbol_alone piece.Stray b rest ends)

pub big_first : {rest : List ℕ} → IsBig rest → spec.first rest ≡ piece.Big
big_first (AboveGreatest {b} text rest h pass ends big) = number_first b text rest _ h pass ends (number_big (suc (length text)) (value (b ∷ text)) big)
