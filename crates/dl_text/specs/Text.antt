-- The tokens of a text, and its first fault.
use Rattle.std.specs.Prelude.{◌≡◌, ℕ, ◌+◌, ◌≤◌, ◌<◌, Bool, true, false, List, [], ◌∷◌, ◌++◌, length, Option, Some, None}
use Rattle.dl_text.specs.declared.class.Class.TheVariants as class
use Rattle.dl_text.specs.declared.token.Token.{Token}
use Rattle.dl_text.specs.declared.token.TokenKind.{TokenKind}
use Rattle.dl_text.specs.declared.token.TokenKind.TheVariants.{Word, Number, Symbol}
use Rattle.dl_text.specs.declared.token.TextFault.{TextFault}
use Rattle.dl_text.specs.declared.token.TextFault.TheVariants.{NotAscii, BadByte, BigNumber, Memory}
use Rattle.dl_text.specs.Bytes.{class_of, is_digit, is_word, is_comment, is_pair, value, AllAre}

-- the greatest number that a text may have
abbrev pub greatest : ℕ
greatest = 9223372036854775808

-- no byte that passes the test comes next
abbrev pub Ends : (ℕ → Bool) → List ℕ → Type 0
Ends test [] = Unit {0}
Ends test (b ∷ rest) = test b ≡ false

-- The bytes of the first list, before the rest, are one token of the kind, or, where there is no kind, a blank or a
-- comment. They are as long as they can be.
pub data IsPiece : List ℕ → List ℕ → Option TokenKind → Type 0 where
  OneBlank : {b : ℕ} {rest : List ℕ} → class_of b ≡ class.Blank → IsPiece (b ∷ []) rest None
  OneComment : {b : ℕ} {text rest : List ℕ} → class_of b ≡ class.Hash → AllAre is_comment text → Ends is_comment rest → IsPiece (b ∷ text) rest None
  OneWord : {b : ℕ} {text rest : List ℕ} → class_of b ≡ class.Letter → AllAre is_word text → Ends is_word rest → IsPiece (b ∷ text) rest (Some Word)
  OneNumber : {b : ℕ} {text rest : List ℕ} → class_of b ≡ class.Digit → AllAre is_digit text → Ends is_digit rest → value (b ∷ text) ≤ greatest
      → IsPiece (b ∷ text) rest (Some (Number (value (b ∷ text))))
  TwoMarks : {b c : ℕ} {rest : List ℕ} → is_pair b c ≡ true → IsPiece (b ∷ c ∷ []) rest (Some Symbol)
  OneMark : {b : ℕ} {rest : List ℕ} → class_of b ≡ class.Mark → Ends (is_pair b) rest → IsPiece (b ∷ []) rest (Some Symbol)

-- From a place and a line on, the bytes are cut into these tokens, up to a place, its line and the bytes that are left.
-- A line feed begins the next line.
pub data Cut : ℕ → ℕ → List ℕ → List Token → ℕ → ℕ → List ℕ → Type 0 where
  Done : {at line : ℕ} {rest : List ℕ} → Cut at line rest [] at line rest
  Feed : {at line to end b : ℕ} {more rest : List ℕ} {ts : List Token} → class_of b ≡ class.LineFeed → Cut (at + 1) (line + 1) more ts to end rest
      → Cut at line (b ∷ more) ts to end rest
  Skip : {at line to end : ℕ} {text more rest : List ℕ} {ts : List Token} → IsPiece text more None → Cut (at + length text) line more ts to end rest
      → Cut at line (text ++ more) ts to end rest
  Take : {at line to end : ℕ} {text more rest : List ℕ} {kind : TokenKind} {ts : List Token} → IsPiece text more (Some kind)
      → Cut (at + length text) line more ts to end rest
      → Cut at line (text ++ more) (record { kind = kind; at = at; end = at + length text; line = line } ∷ ts) to end rest

-- the tokens are the tokens of the text
abbrev pub AreTokens : List ℕ → List Token → Type 0
AreTokens bytes ts = (at : ℕ) × (line : ℕ) × Cut 0 1 bytes ts at line []

-- a byte above 127 comes next
pub data IsForeign : List ℕ → Type 0 where
  AboveAscii : {b : ℕ} {rest : List ℕ} → class_of b ≡ class.Foreign → IsForeign (b ∷ rest)

-- a byte comes next that begins neither a token nor white space nor a comment
pub data IsStray : List ℕ → Type 0 where
  BeginsNothing : {b : ℕ} {rest : List ℕ} → class_of b ≡ class.Stray → Ends (is_pair b) rest → IsStray (b ∷ rest)

-- a number comes next that is above the greatest
pub data IsBig : List ℕ → Type 0 where
  AboveGreatest : {b : ℕ} (text rest : List ℕ) → class_of b ≡ class.Digit → AllAre is_digit text → Ends is_digit rest → greatest < value (b ∷ text)
      → IsBig (b ∷ text ++ rest)

-- up to the place and its line the text is cut into tokens, and what comes there is wrong
abbrev pub StopsAt : (List ℕ → Type 0) → List ℕ → ℕ → ℕ → Type 0
StopsAt IsWrong bytes at line = (ts : List Token) × (rest : List ℕ) × (Cut 0 1 bytes ts at line rest) × IsWrong rest

-- the fault is the first one of the text
abbrev pub IsTextFault : List ℕ → TextFault → Type 0
IsTextFault bytes (NotAscii at line) = StopsAt IsForeign bytes at line
IsTextFault bytes (BadByte at line) = StopsAt IsStray bytes at line
IsTextFault bytes (BigNumber at line) = StopsAt IsBig bytes at line
IsTextFault bytes Memory = ⊥

-- each token ends behind its place, the next one begins no earlier, and the last one ends within the length
abbrev pub InOrder : ℕ → ℕ → List Token → Type 0
InOrder from size [] = from ≤ size
InOrder from size (t ∷ ts) = (from ≤ t.at) × (t.at < t.end) × InOrder t.end size ts
