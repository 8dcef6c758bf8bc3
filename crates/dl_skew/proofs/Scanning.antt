-- The tokens of a text, counted off by a function that computes. It knows no comments.
use Rattle.std.proofs.Common.{◌≡◌, ℕ, zero, suc, ◌+◌, Bool, true, false, List, [], ◌∷◌, ◌++◌, length, drop, refl, sym, ap, subst, ◌∙◌, Option, Some, None, arith, if◌then◌else◌}
use Rattle.std.specs.Prelude.{nat_le}
use Rattle.std.specs.List.{prefix_len, take_while}
use Rattle.std.proofs.Math.Seq.{drop-append_seam}
use Rattle.std.proofs.lemmas.Bool.Decides.{nat_tests}
use Rattle.dl_text.specs.declared.class.Class.{Class}
use Rattle.dl_text.specs.declared.class.Class.TheVariants as class
use Rattle.dl_text.specs.declared.token.Token.{Token}
use Rattle.dl_text.specs.declared.token.TokenKind.{TokenKind}
use Rattle.dl_text.specs.declared.token.TokenKind.TheVariants.{Word, Number, Symbol}
use Rattle.dl_text.specs.Bytes.{class_of, is_digit, is_word, is_pair, value, AllAre}
use Rattle.dl_text.specs.Text as text
use Rattle.dl_text.specs.Text.{greatest, Ends, IsPiece, OneBlank, OneWord, OneNumber, TwoMarks, OneMark, Cut, AreTokens}
use Rattle.dl_text.proofs.Pieces.{run, take_while-run, IsCutting}

-- what comes first in some bytes
pub data Piece : Type 0 where
  End : Piece
  Feed : Piece
  Blank : Piece
  Take : TokenKind → ℕ → Piece
  Wrong : Piece

abbrev symbol : Piece → ℕ → List ℕ → Piece
symbol alone b [] = alone
symbol alone b (c ∷ rest) = if is_pair b c then Take Symbol 2 else alone

abbrev number : ℕ → ℕ → Piece
number v n = if nat_le v greatest then Take (Number v) n else Wrong

abbrev piece : Class → ℕ → List ℕ → Piece
piece class.Foreign b rest = Wrong
piece class.LineFeed b rest = Feed
piece class.Blank b rest = Blank
piece class.Hash b rest = Wrong
piece class.Letter b rest = Take Word (1 + prefix_len is_word rest)
piece class.Digit b rest = number (value (b ∷ take_while is_digit rest)) (1 + prefix_len is_digit rest)
piece class.Mark b rest = symbol (Take Symbol 1) b rest
piece class.Stray b rest = symbol Wrong b rest

abbrev first : List ℕ → Piece
first [] = End
first (b ∷ rest) = piece (class_of b) b rest

-- what that means
abbrev Meaning : List ℕ → Piece → Type 0
Meaning bytes End = bytes ≡ []
Meaning bytes Feed = (b : ℕ) × (more : List ℕ) × (bytes ≡ b ∷ more) × (class_of b ≡ class.LineFeed)
Meaning bytes Blank = IsCutting bytes 1 None
Meaning bytes (Take kind n) = IsCutting bytes n (Some kind)
Meaning bytes Wrong = Unit {0}

cut_one : (b : ℕ) (rest : List ℕ) (kind : Option TokenKind) → IsPiece (b ∷ []) rest kind → IsCutting (b ∷ rest) 1 kind
cut_one b rest kind h = record { text = b ∷ []; more = rest; split = refl; len = refl; is = h }

word_means : (b : ℕ) (rest : List ℕ) → class_of b ≡ class.Letter → IsCutting (b ∷ rest) (1 + prefix_len is_word rest) (Some Word)
word_means b rest h =
    let r = run is_word rest in
    record { text = b ∷ r.front; more = r.back; split = ap (λ ys. b ∷ ys) r.split; len = omega (arith, r.len); is = OneWord h r.pass r.ends }

number_at : (b : ℕ) (rest front back : List ℕ) (n v : ℕ) → rest ≡ front ++ back → n ≡ suc (length front) → v ≡ value (b ∷ front) → class_of b ≡ class.Digit → AllAre is_digit front → Ends is_digit back
    → (small : Bool) → nat_le v greatest ≡ small → Meaning (b ∷ rest) (if small then Take (Number v) n else Wrong)
number_at b rest front back n v split len is h pass ends true small = record {
  text = b ∷ front;
  more = back;
  split = ap (λ ys. b ∷ ys) split;
  len = len;
  is = subst (λ u. IsPiece (b ∷ front) back (Some (Number u))) (sym is) (OneNumber h pass ends (grind (arith, nat_tests, small, is)));
}
number_at b rest front back n v split len is h pass ends false big = tt

number_means : (b : ℕ) (rest : List ℕ) → class_of b ≡ class.Digit → Meaning (b ∷ rest) (piece class.Digit b rest)
number_means b rest h =
    let r = run is_digit rest in
    let same : take_while is_digit rest ≡ r.front = ap (take_while is_digit) r.split ∙ take_while-run is_digit r.front r.back r.pass r.ends in
    number_at b rest r.front r.back (1 + prefix_len is_digit rest) (value (b ∷ take_while is_digit rest)) r.split (omega (arith, r.len)) (ap (λ ds. value (b ∷ ds)) same) h r.pass r.ends _ refl

pair_at : (alone : Piece) (b c : ℕ) (rest : List ℕ) (pairs : Bool) → is_pair b c ≡ pairs → (is_pair b c ≡ false → Meaning (b ∷ c ∷ rest) alone) → Meaning (b ∷ c ∷ rest) (if pairs then Take Symbol 2 else alone)
pair_at alone b c rest true h other = record { text = b ∷ c ∷ []; more = rest; split = refl; len = refl; is = TwoMarks h }
pair_at alone b c rest false h other = other h

symbol_means : (alone : Piece) (b : ℕ) (rest : List ℕ) → (Ends (is_pair b) rest → Meaning (b ∷ rest) alone) → Meaning (b ∷ rest) (symbol alone b rest)
symbol_means alone b [] other = other tt
symbol_means alone b (c ∷ rest) other = pair_at alone b c rest (is_pair b c) refl other

means_of : (k : Class) (b : ℕ) (rest : List ℕ) → class_of b ≡ k → Meaning (b ∷ rest) (piece k b rest)
means_of class.Foreign b rest h = tt
means_of class.LineFeed b rest h = (b, rest, refl, h)
means_of class.Blank b rest h = cut_one b rest None (OneBlank h)
means_of class.Hash b rest h = tt
means_of class.Letter b rest h = word_means b rest h
means_of class.Digit b rest h = number_means b rest h
means_of class.Mark b rest h = symbol_means (Take Symbol 1) b rest (λ ends. cut_one b rest (Some Symbol) (OneMark h ends))
means_of class.Stray b rest h = symbol_means Wrong b rest (λ ends. tt)

means : (bytes : List ℕ) → Meaning bytes (first bytes)
means [] = refl
means (b ∷ rest) = means_of (class_of b) b rest refl

-- ---- piece by piece
-- what finds tokens from a place, a line and bytes on
abbrev Scanner : Type 0
Scanner = ℕ → ℕ → List ℕ → Option (List Token)

-- a token in front of those that were found
abbrev with_token : Token → Option (List Token) → Option (List Token)
with_token t None = None
with_token t (Some ts) = Some (t ∷ ts)

-- the tokens where the first piece is known
abbrev after : Scanner → Piece → Scanner
after next End at line rest = Some []
after next Feed at line rest = next (at + 1) (line + 1) (drop 1 rest)
after next Blank at line rest = next (at + 1) line (drop 1 rest)
after next (Take kind n) at line rest = with_token (record { kind = kind; at = at; end = at + n; line = line }) (next (at + n) line (drop n rest))
after next Wrong at line rest = None

-- the tokens of bytes of so many pieces at most
abbrev pub scan : ℕ → Scanner
scan zero at line rest = None
scan (suc n) at line rest = after (scan n) (first rest) at line rest

-- the bytes are cut into the tokens up to their end
record Cuts (at line : ℕ) (rest : List ℕ) (ts : List Token) : Type 0 where
  to : ℕ
  end : ℕ
  cut : Cut at line rest ts to end []

abbrev IsSound : Scanner → Type 0
IsSound next = (at line : ℕ) (rest : List ℕ) (ts : List Token) → next at line rest ≡ Some ts → Cuts at line rest ts

left : (rest text more : List ℕ) (n : ℕ) → rest ≡ text ++ more → n ≡ length text → drop n rest ≡ more
left rest text more n split len = ap (λ k. drop k rest) len ∙ ap (λ xs. drop (length text) xs) split ∙ drop-append_seam text more

record Fronted (t : Token) (found : Option (List Token)) (ts : List Token) : Type 0 where
  later : List Token
  is : found ≡ Some later
  whole : t ∷ later ≡ ts

fronted : (t : Token) (found : Option (List Token)) (ts : List Token) → with_token t found ≡ Some ts → Fronted t found ts
fronted t None ts e = cc
fronted t (Some later) ts e = record { later = later; is = refl; whole = cc }

module _ (next : Scanner) (sound : IsSound next) where
  -- behind a piece the bytes that are left are cut
  behind : (at line n : ℕ) (rest text more : List ℕ) (ts : List Token) → rest ≡ text ++ more → n ≡ length text → next (at + n) line (drop n rest) ≡ Some ts → Cuts (at + length text) line more ts
  behind at line n rest text more ts split len is =
      subst (λ k. Cuts (at + k) line more ts) len (subst (λ r. Cuts (at + n) line r ts) (left rest text more n split len) (sound (at + n) line (drop n rest) ts is))

  after_cuts : (p : Piece) (at line : ℕ) (rest : List ℕ) (ts : List Token) → Meaning rest p → after next p at line rest ≡ Some ts → Cuts at line rest ts
  after_cuts End at line rest ts m is =
      let none : [] ≡ ts = cc in
      subst (Cuts at line rest) none (subst (λ r. Cuts at line r []) (sym m) (record { to = at; end = line; cut = text.Done }))
  after_cuts Feed at line rest ts m is =
      let c = sound (at + 1) (line + 1) m.1 ts (ap (λ r. next (at + 1) (line + 1) (drop 1 r)) (sym m.2) ∙ is) in
      subst (λ r. Cuts at line r ts) (sym m.2) (record { to = c.to; end = c.end; cut = text.Feed m.3 c.cut })
  after_cuts Blank at line rest ts m is =
      let c = behind at line 1 rest m.text m.more ts m.split m.len is in
      subst (λ r. Cuts at line r ts) (sym m.split) (record { to = c.to; end = c.end; cut = text.Skip m.is c.cut })
  after_cuts (Take kind n) at line rest ts m is =
      let t : Token = record { kind = kind; at = at; end = at + n; line = line } in
      let f = fronted t (next (at + n) line (drop n rest)) ts is in
      let c = behind at line n rest m.text m.more f.later m.split m.len f.is in
      let whole : record { kind = kind; at = at; end = at + length m.text; line = line } ∷ f.later ≡ ts = ap (λ k. record { kind = kind; at = at; end = at + k; line = line } ∷ f.later) (sym m.len) ∙ f.whole in
      subst (Cuts at line rest) whole (subst (λ r. Cuts at line r (record { kind = kind; at = at; end = at + length m.text; line = line } ∷ f.later)) (sym m.split)
      (record { to = c.to; end = c.end; cut = text.Take m.is c.cut }))
  after_cuts Wrong at line rest ts m is = cc

scan_cuts : (n : ℕ) → IsSound (scan n)
scan_cuts zero at line rest ts is = cc
scan_cuts (suc n) at line rest ts is = after_cuts (scan n) (scan_cuts n) (first rest) at line rest ts (means rest) is

-- what is found are the tokens
pub scanned : (n : ℕ) (bytes : List ℕ) (ts : List Token) → scan n 0 1 bytes ≡ Some ts → AreTokens bytes ts
scanned n bytes ts is = let c = scan_cuts n 0 1 bytes ts is in (c.to, c.end, c.cut)
