-- The classes of the bytes of a text, and the value of a run of digits.
use Rattle.std.specs.Prelude.{◌≡◌, ℕ, ◌+◌, ◌-◌, ◌*◌, Bool, true, ◌&&◌, ◌||◌, not, ◌==◌, nat_le, if◌then◌else◌, List, [], ◌∷◌, fold}
use Rattle.dl_text.specs.declared.class.Class.{Class}
use Rattle.dl_text.specs.declared.class.Class.TheVariants.{Foreign, LineFeed, Blank, Hash, Letter, Digit, Mark, Stray}

-- space, tab or carriage return
abbrev pub is_blank : ℕ → Bool
is_blank b = b == 32 || b == 9 || b == 13

-- a letter or the low line
abbrev pub is_letter : ℕ → Bool
is_letter b = (nat_le 97 b && nat_le b 122) || (nat_le 65 b && nat_le b 90) || b == 95

-- a decimal digit
abbrev pub is_digit : ℕ → Bool
is_digit b = nat_le 48 b && nat_le b 57

-- one of { } ( ) , : ; = . + - * / % <
abbrev pub is_mark : ℕ → Bool
is_mark b =
    b == 123 || b == 125 || b == 40 || b == 41 || b == 44 || b == 58 || b == 59 || b == 61
    || b == 46 || b == 43 || b == 45 || b == 42 || b == 47 || b == 37 || b == 60

-- the class of a byte: no two of the tests above hold of one byte
abbrev pub class_of : ℕ → Class
class_of b =
    if nat_le 128 b then Foreign
    else (if b == 10 then LineFeed
    else (if is_blank b then Blank
    else (if b == 35 then Hash
    else (if is_letter b then Letter
    else (if is_digit b then Digit
    else (if is_mark b then Mark
    else Stray))))))

-- a byte of a word behind its first: a letter, the low line or a digit
abbrev pub is_word : ℕ → Bool
is_word b = is_letter b || is_digit b

-- a byte of a comment: none of the end of the line, and none above 127
abbrev pub is_comment : ℕ → Bool
is_comment b = nat_le b 127 && not (b == 10)

-- the two bytes are one symbol: <= == or !=
abbrev pub is_pair : ℕ → ℕ → Bool
is_pair b c = (b == 60 || b == 61 || b == 33) && c == 61

-- each byte passes the test
abbrev pub AllAre : (ℕ → Bool) → List ℕ → Type 0
AllAre test [] = Unit {0}
AllAre test (b ∷ bytes) = (test b ≡ true) × AllAre test bytes

-- what a run of digits says in decimal, one more digit after a number
abbrev pub next_value : ℕ → ℕ → ℕ
next_value n digit = 10 * n + (digit - 48)

-- what a run of digits says in decimal
abbrev pub value : List ℕ → ℕ
value digits = fold next_value 0 digits
