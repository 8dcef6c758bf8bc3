-- How a text is cut into lines and a line into words, and what a number says.
use Rattle.std.specs.Prelude.{ℕ, ◌+◌, ◌-◌, ◌*◌, ◌^◌, Bool, true, false, ◌&&◌, ◌||◌, not, ◌==◌, nat_le, nat_lt, if◌then◌else◌, List, [], ◌∷◌, filter, Option, Some, None, ℤ, pos, neg_ℤ}
use Rattle.std.specs.List.{take_while}
use Rattle.dl_text.specs.Bytes.{is_blank, is_digit}

-- the byte that ends a line
abbrev pub is_feed : ℕ → Bool
is_feed b = b == 10

-- the byte that begins a comment
abbrev pub is_hash : ℕ → Bool
is_hash b = b == 35

-- a byte that no operation file has: above 127, or below 32 and no blank, or 127
abbrev pub is_wrong : ℕ → Bool
is_wrong b = nat_le 127 b || (nat_lt b 32 && not (is_blank b))

-- the first of some pieces with one more byte at its front
abbrev pub with_first : ℕ → List (List ℕ) → List (List ℕ)
with_first b [] = (b ∷ []) ∷ []
with_first b (piece ∷ pieces) = (b ∷ piece) ∷ pieces

-- the pieces before, between and behind the bytes that pass a test
abbrev pub pieces : (ℕ → Bool) → List ℕ → List (List ℕ)
pieces test [] = [] ∷ []
pieces test (b ∷ rest) = if test b then [] ∷ pieces test rest else with_first b (pieces test rest)

-- a piece that has a byte
abbrev pub is_filled : List ℕ → Bool
is_filled [] = false
is_filled (b ∷ rest) = true

-- The lines of a text. Where a line feed ends the last one, an empty line stands behind it, which says nothing.
abbrev pub lines_of : List ℕ → List (List ℕ)
lines_of text = pieces is_feed text

-- the words of some bytes: the longest runs of bytes that are no blanks
abbrev pub words_of : List ℕ → List (List ℕ)
words_of bytes = filter is_filled (pieces is_blank bytes)

-- a line without its comment
abbrev pub before_comment : List ℕ → List ℕ
before_comment line = take_while (λ b. not (is_hash b)) line

-- what digits say in decimal behind a number that was read; none where a byte is no digit
abbrev pub digits_from : ℕ → List ℕ → Option ℕ
digits_from n [] = Some n
digits_from n (b ∷ rest) = if is_digit b then digits_from (10 * n + (b - 48)) rest else None

-- what digits say; none where there is none
abbrev pub digits_of : List ℕ → Option ℕ
digits_of [] = None
digits_of (b ∷ rest) = digits_from 0 (b ∷ rest)

-- a number that is at most the greatest one
abbrev pub at_most : ℕ → Option ℕ → Option ℕ
at_most most None = None
at_most most (Some n) = if nat_le n most then Some n else None

-- the number itself
abbrev pub positive : Option ℕ → Option ℤ
positive None = None
positive (Some n) = Some (pos n)

-- the number with a minus
abbrev pub negative : Option ℕ → Option ℤ
negative None = None
negative (Some n) = Some (neg_ℤ (pos n))

-- what a word says: digits, with or without a minus before them, of a value in signed 64 bits
abbrev pub number_of : List ℕ → Option ℤ
number_of [] = None
number_of (b ∷ rest) =
    if b == 45 then negative (at_most (2 ^ 63) (digits_of rest)) else positive (at_most (2 ^ 63 - 1) (digits_of (b ∷ rest)))

-- one more number before some
abbrev pub with_number : Option ℤ → Option (List ℤ) → Option (List ℤ)
with_number (Some n) (Some ns) = Some (n ∷ ns)
with_number _ _ = None

-- the numbers that words say; none where one of them says none
abbrev pub numbers_of : List (List ℕ) → Option (List ℤ)
numbers_of [] = Some []
numbers_of (word ∷ words) = with_number (number_of word) (numbers_of words)
