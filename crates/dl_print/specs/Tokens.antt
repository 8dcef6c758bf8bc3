-- What the canonical text says to the grammar.
use Rattle.std.specs.Prelude.{◌≡◌, ℕ, ◌≤◌, true, List, [], ◌∷◌, map, None}
use Rattle.std.specs.List.{AllByRecursion}
use Rattle.dl_text.specs.declared.token.Token.{Token}
use Rattle.dl_text.specs.Bytes.{is_letter, is_word, AllAre}
use Rattle.dl_text.specs.Text.{greatest, AreTokens}
use Rattle.dl_grammar.specs.declared.lexeme.Fixed.{Fixed}
use Rattle.dl_grammar.specs.declared.lexeme.Fixed.TheVariants as f
use Rattle.dl_grammar.specs.declared.lexeme.Lexis.{Lexis}
use Rattle.dl_grammar.specs.declared.lexeme.Lexeme.{Lexeme}
use Rattle.dl_grammar.specs.declared.tree.Tree.{Tree}
use Rattle.dl_grammar.specs.Texts.{reserved, lexemes_of}
use Rattle.dl_print.specs.Canonical.{Piece, Word, Name, Number, Space, Indent, Feed, lexes_of, pieces_of, canonical}

-- a reserved word of a text of the version, or a symbol: emit is reserved in version 2 alone
abbrev pub IsReserved : ℕ → Fixed → Type 0
IsReserved version f.Emit = version ≡ 2
IsReserved version g = Unit {0}

-- a name of a text of the version: a letter or the low line, and then letters, digits and low lines; it is no reserved word
abbrev pub IsName : ℕ → List ℕ → Type 0
IsName version [] = ⊥
IsName version (b ∷ rest) = (is_letter b ≡ true) × AllAre is_word rest × (reserved version (b ∷ rest) ≡ None)

-- a text of the version may have the piece: what is reserved there, a name, or a number no greater than the greatest of a text
abbrev pub IsToken : ℕ → Piece → Type 0
IsToken version (Word g) = IsReserved version g
IsToken version (Name text) = IsName version text
IsToken version (Number n) = n ≤ greatest
IsToken version Space = Unit {0}
IsToken version (Indent level) = Unit {0}
IsToken version Feed = Unit {0}

-- a text of the module's version may have each piece of its canonical text
abbrev pub HasTokens : Tree → Type 0
HasTokens tree = AllByRecursion (IsToken tree.version) (pieces_of tree)

-- what some tokens of a text say to the grammar
abbrev pub lexes_in : List ℕ → List Token → List Lexis
lexes_in bytes ts = map (λ (t : Lexeme). t.lexis) (lexemes_of bytes ts)

-- the canonical text of a module has tokens, which say to the grammar what its pieces say
abbrev pub PiecesAreTokens : Type 0
PiecesAreTokens = (tree : Tree) → HasTokens tree → (ts : List Token) × AreTokens (canonical tree) ts × (lexes_in (canonical tree) ts ≡ lexes_of (pieces_of tree))
