-- What comes first in some bytes, as a function: what the scanner finds.
use Rattle.std.specs.Prelude.{ℕ, ◌+◌, List, [], ◌∷◌, if◌then◌else◌, nat_le}
use Rattle.std.specs.List.{prefix_len, take_while}
use Rattle.dl_text.specs.declared.class.Class.{Class}
use Rattle.dl_text.specs.declared.class.Class.TheVariants as class
use Rattle.dl_text.specs.declared.scan.Piece.{Piece}
use Rattle.dl_text.specs.declared.scan.Piece.TheVariants.{End, Feed, Skip, Take, Foreign, Stray, Big}
use Rattle.dl_text.specs.declared.token.TokenKind.TheVariants.{Word, Number, Symbol}
use Rattle.dl_text.specs.Bytes.{class_of, is_digit, is_word, is_comment, is_pair, value}
use Rattle.dl_text.specs.Text.{greatest}

-- a number of so many digits, or one that is too big
abbrev pub number : ℕ → ℕ → Piece
number len n = if nat_le n greatest then Take (Number n) len else Big

-- a symbol of two bytes, or else what the first byte is alone
abbrev pub symbol : Piece → ℕ → List ℕ → Piece
symbol alone b [] = alone
symbol alone b (c ∷ rest) = if is_pair b c then Take Symbol 2 else alone

-- the piece that begins with the byte, of the class
abbrev pub piece_of : Class → ℕ → List ℕ → Piece
piece_of class.Foreign b rest = Foreign
piece_of class.LineFeed b rest = Feed
piece_of class.Blank b rest = Skip 1
piece_of class.Hash b rest = Skip (1 + prefix_len is_comment rest)
piece_of class.Letter b rest = Take Word (1 + prefix_len is_word rest)
piece_of class.Digit b rest = number (prefix_len is_digit (b ∷ rest)) (value (take_while is_digit (b ∷ rest)))
piece_of class.Mark b rest = symbol (Take Symbol 1) b rest
piece_of class.Stray b rest = symbol Stray b rest

-- what comes first in the bytes
abbrev pub first : List ℕ → Piece
first [] = End
first (b ∷ rest) = piece_of (class_of b) b rest
