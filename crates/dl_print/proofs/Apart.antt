-- The test that pieces next to each other stay apart, when they are scanned.
use Rattle.std.specs.Prelude.{ℕ, Bool, true, ◌&&◌, not, List, [], ◌∷◌}
use Rattle.dl_grammar.specs.declared.lexeme.Fixed.{Fixed}
use Rattle.dl_grammar.specs.declared.lexeme.Fixed.TheVariants as f
use Rattle.dl_text.specs.Bytes.{is_word, is_pair}
use Rattle.dl_print.specs.Canonical.{Piece, Word, Name, Number, Space, Indent, Feed, text_of}

-- no byte that passes the test comes next
abbrev pub stops : (ℕ → Bool) → List ℕ → Bool
stops test [] = true
stops test (b ∷ rest) = not (test b)

-- a reserved word or a symbol is not drawn out by the bytes behind it
abbrev pub stops_fixed : Fixed → List ℕ → Bool
stops_fixed f.Domlock bytes = stops is_word bytes
stops_fixed f.Root bytes = stops is_word bytes
stops_fixed f.Node bytes = stops is_word bytes
stops_fixed f.Op bytes = stops is_word bytes
stops_fixed f.Allocs bytes = stops is_word bytes
stops_fixed f.Fuel bytes = stops is_word bytes
stops_fixed f.Var bytes = stops is_word bytes
stops_fixed f.Int bytes = stops is_word bytes
stops_fixed f.New bytes = stops is_word bytes
stops_fixed f.Null bytes = stops is_word bytes
stops_fixed f.If bytes = stops is_word bytes
stops_fixed f.Else bytes = stops is_word bytes
stops_fixed f.While bytes = stops is_word bytes
stops_fixed f.Return bytes = stops is_word bytes
stops_fixed f.Emit bytes = stops is_word bytes
stops_fixed f.Less bytes = stops (is_pair 60) bytes
stops_fixed f.Assign bytes = stops (is_pair 61) bytes
stops_fixed f.LBrace bytes = true
stops_fixed f.RBrace bytes = true
stops_fixed f.LParen bytes = true
stops_fixed f.RParen bytes = true
stops_fixed f.Comma bytes = true
stops_fixed f.Colon bytes = true
stops_fixed f.Semicolon bytes = true
stops_fixed f.Dot bytes = true
stops_fixed f.Plus bytes = true
stops_fixed f.Minus bytes = true
stops_fixed f.Star bytes = true
stops_fixed f.Slash bytes = true
stops_fixed f.Percent bytes = true
stops_fixed f.LessEq bytes = true
stops_fixed f.Equal bytes = true
stops_fixed f.NotEqual bytes = true

-- a piece is not drawn out by the bytes behind it
abbrev pub stops_piece : Piece → List ℕ → Bool
stops_piece (Word g) bytes = stops_fixed g bytes
stops_piece (Name text) bytes = stops is_word bytes
stops_piece (Number n) bytes = stops is_word bytes
stops_piece Space bytes = true
stops_piece (Indent level) bytes = true
stops_piece Feed bytes = true

-- no piece is drawn out by the pieces behind it
abbrev pub are_apart : List Piece → Bool
are_apart [] = true
are_apart (p ∷ ps) = stops_piece p (text_of ps) && are_apart ps
