-- Which bytes spell which module, and the first fault of the others.
use Rattle.std.specs.Prelude.{◌≡◌, ℕ, Bool, ◌==◌, ◌&&◌, if◌then◌else◌, List, [], ◌∷◌, ◌++◌, map, slice_range, codes, Option, Some, None, Result, Ok, Err}
use Rattle.std.specs.Str.{bytes_eq}
use Rattle.dl_text.specs.declared.token.Token.{Token}
use Rattle.dl_text.specs.declared.token.TokenKind.{TokenKind}
use Rattle.dl_text.specs.declared.token.TokenKind.TheVariants as kind
use Rattle.dl_text.specs.declared.token.TextFault.{TextFault}
use Rattle.dl_text.specs.declared.token.TextFault.TheVariants as text
use Rattle.dl_text.specs.Text.{AreTokens, IsTextFault}
use Rattle.dl_grammar.specs.declared.lexeme.Fixed.{Fixed}
use Rattle.dl_grammar.specs.declared.lexeme.Fixed.TheVariants as f
use Rattle.dl_grammar.specs.declared.lexeme.Lexis.{Lexis}
use Rattle.dl_grammar.specs.declared.lexeme.Lexis.TheVariants as lexis
use Rattle.dl_grammar.specs.declared.lexeme.Lexeme.{Lexeme}
use Rattle.dl_grammar.specs.declared.fault.Bound.TheVariants.{Levels, Limit}
use Rattle.dl_grammar.specs.declared.fault.Fault.{Fault}
use Rattle.dl_grammar.specs.declared.fault.Fault.TheVariants as fault
use Rattle.dl_grammar.specs.declared.fault.SyntaxFault.{SyntaxFault}
use Rattle.dl_grammar.specs.declared.fault.SyntaxFault.TheVariants as syntax
use Rattle.dl_grammar.specs.declared.declarations.Declared.{Declared}
use Rattle.dl_grammar.specs.declared.tree.Tree.{Tree}
use Rattle.dl_grammar.specs.Grammar.{Read, StandsAt}
use Rattle.dl_grammar.specs.Rules.{module_text}

-- the bytes of two texts are the same
unfoldable pub is_text : List ℕ → List ℕ → Bool
is_text a b = bytes_eq a b

-- the reserved word that a word is in a text of the version: emit is one in version 2 alone
abbrev pub reserved : ℕ → List ℕ → Option Fixed
reserved version word =
    if is_text word (codes "domlock") then Some f.Domlock
    else (if is_text word (codes "root") then Some f.Root
    else (if is_text word (codes "node") then Some f.Node
    else (if is_text word (codes "op") then Some f.Op
    else (if is_text word (codes "allocs") then Some f.Allocs
    else (if is_text word (codes "fuel") then Some f.Fuel
    else (if is_text word (codes "var") then Some f.Var
    else (if is_text word (codes "int") then Some f.Int
    else (if is_text word (codes "new") then Some f.New
    else (if is_text word (codes "null") then Some f.Null
    else (if is_text word (codes "if") then Some f.If
    else (if is_text word (codes "else") then Some f.Else
    else (if is_text word (codes "while") then Some f.While
    else (if is_text word (codes "return") then Some f.Return
    else (if version == 2 && is_text word (codes "emit") then Some f.Emit
    else None))))))))))))))

-- the symbol that a symbol's text is: one of these, and else !=
abbrev pub symbol : List ℕ → Fixed
symbol bytes =
    if is_text bytes (codes "{") then f.LBrace
    else (if is_text bytes (codes "}") then f.RBrace
    else (if is_text bytes (codes "(") then f.LParen
    else (if is_text bytes (codes ")") then f.RParen
    else (if is_text bytes (codes ",") then f.Comma
    else (if is_text bytes (codes ":") then f.Colon
    else (if is_text bytes (codes ";") then f.Semicolon
    else (if is_text bytes (codes "=") then f.Assign
    else (if is_text bytes (codes ".") then f.Dot
    else (if is_text bytes (codes "+") then f.Plus
    else (if is_text bytes (codes "-") then f.Minus
    else (if is_text bytes (codes "*") then f.Star
    else (if is_text bytes (codes "/") then f.Slash
    else (if is_text bytes (codes "%") then f.Percent
    else (if is_text bytes (codes "<") then f.Less
    else (if is_text bytes (codes "<=") then f.LessEq
    else (if is_text bytes (codes "==") then f.Equal
    else f.NotEqual))))))))))))))))

-- a word that is reserved, or a name
abbrev pub word_lexis : List ℕ → Option Fixed → Lexis
word_lexis bytes (Some g) = lexis.Fixed g
word_lexis bytes None = lexis.Name bytes

-- a number, apart from the two that name a version
abbrev pub digits_lexis : List ℕ → ℕ → Lexis
digits_lexis bytes n = if is_text bytes (codes "1") then lexis.One else (if is_text bytes (codes "2") then lexis.Two else lexis.Number n)

-- what a token of these bytes says to the grammar in a text of the version
abbrev pub lexis_of : ℕ → TokenKind → List ℕ → Lexis
lexis_of version kind.Word bytes = word_lexis bytes (reserved version bytes)
lexis_of version (kind.Number n) bytes = digits_lexis bytes n
lexis_of version kind.Symbol bytes = lexis.Fixed (symbol bytes)

-- a token of a text of the version as the grammar sees it
abbrev pub lexeme_of : ℕ → List ℕ → Token → Lexeme
lexeme_of version bytes t = record { lexis = lexis_of version t.kind (slice_range bytes t.at t.end); line = t.line }

-- the tokens of a text of the version as the grammar sees them
abbrev pub lexemes_in : ℕ → List ℕ → List Token → List Lexeme
lexemes_in version bytes ts = map (lexeme_of version bytes) ts

-- the version of a text: 2 where its second token is 2, and else 1
abbrev pub version_of : List ℕ → List Token → ℕ
version_of bytes (first ∷ second ∷ ts) = if is_text (slice_range bytes second.at second.end) (codes "2") then 2 else 1
version_of bytes (first ∷ []) = 1
version_of bytes [] = 1

-- the tokens of a text as the grammar sees them: what its version reserves is reserved in all of it
abbrev pub lexemes_of : List ℕ → List Token → List Lexeme
lexemes_of bytes ts = lexemes_in (version_of bytes ts) bytes ts

-- the line of the last one, or of what is before
abbrev pub last_line : ℕ → List Lexeme → ℕ
last_line line [] = line
last_line line (t ∷ ts) = last_line t.line ts

-- the line of the first of the rest, or of the last of all at the end of the text
abbrev pub line_at : List Lexeme → List Lexeme → ℕ
line_at all [] = last_line 1 all
line_at all (t ∷ rest) = t.line

-- the tree of what a module declares
abbrev pub tree_of : Declared → List Lexeme → Tree
tree_of d all = record { version = d.version; kinds = d.kinds; ops = d.ops; last = last_line 1 all }

-- the bytes spell the tree
abbrev pub Spells : List ℕ → Tree → Type 0
Spells bytes tree = (ts : List Token) × (d : Declared) × AreTokens bytes ts × module_text (Read d) (lexemes_of bytes ts) × (tree ≡ tree_of d (lexemes_of bytes ts))

-- the tokens of the bytes are at fault, first at one that stands in the line
abbrev pub FaultAt : List ℕ → Fault → ℕ → Type 0
FaultAt bytes cause line =
    (ts : List Token) × (before : List Lexeme) × (rest : List Lexeme) × AreTokens bytes ts × (lexemes_of bytes ts ≡ before ++ rest) × (line ≡ line_at (lexemes_of bytes ts) rest) × StandsAt module_text cause before rest

-- the fault is the first one of the text
abbrev pub IsSyntaxFault : List ℕ → SyntaxFault → Type 0
IsSyntaxFault bytes (syntax.NotAscii at line) = IsTextFault bytes (text.NotAscii at line)
IsSyntaxFault bytes (syntax.BadByte at line) = IsTextFault bytes (text.BadByte at line)
IsSyntaxFault bytes (syntax.BigNumber at line) = IsTextFault bytes (text.BigNumber at line)
IsSyntaxFault bytes (syntax.Expected line) = FaultAt bytes fault.Expected line
IsSyntaxFault bytes (syntax.TooDeep line) = FaultAt bytes (fault.Passed Levels) line
IsSyntaxFault bytes (syntax.Limit line which) = FaultAt bytes (fault.Passed (Limit which)) line
IsSyntaxFault bytes syntax.Memory = ⊥

-- a fault at a line, as it is answered
abbrev pub fault_in : Fault → ℕ → SyntaxFault
fault_in fault.Expected line = syntax.Expected line
fault_in (fault.Passed Levels) line = syntax.TooDeep line
fault_in (fault.Passed (Limit which)) line = syntax.Limit line which
fault_in fault.Memory line = syntax.Memory

-- a fault of a token, as it is answered
abbrev pub text_fault : TextFault → SyntaxFault
text_fault (text.NotAscii at line) = syntax.NotAscii at line
text_fault (text.BadByte at line) = syntax.BadByte at line
text_fault (text.BigNumber at line) = syntax.BigNumber at line
text_fault text.Memory = syntax.Memory

-- the answer is what was made of all lexemes, unless memory runs out
abbrev pub Answers : Result Declared (Fault × List Lexeme) → List Lexeme → Result Tree SyntaxFault → Type 0
Answers made all (Err syntax.Memory) = Unit {0}
Answers (Ok d) all (Ok tree) = tree ≡ tree_of d all
Answers (Ok d) all (Err g) = ⊥
Answers (Err x) all (Ok tree) = ⊥
Answers (Err x) all (Err g) = g ≡ fault_in x.0 (line_at all x.1)
