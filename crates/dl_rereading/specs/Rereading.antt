-- That the canonical text of a tree that is spelled spells it again.
use Rattle.std.specs.Prelude.{◌≡◌, ℕ, List, map}
use Rattle.dl_grammar.specs.declared.lexeme.Lexis.{Lexis}
use Rattle.dl_grammar.specs.declared.lexeme.Lexeme.{Lexeme}
use Rattle.dl_grammar.specs.declared.declarations.Declared.{Declared}
use Rattle.dl_grammar.specs.declared.tree.Tree.{Tree}
use Rattle.dl_grammar.specs.Grammar.{Read}
use Rattle.dl_grammar.specs.Rules.{module_text}
use Rattle.dl_grammar.specs.Texts.{tree_of, Spells}
use Rattle.dl_print.specs.Canonical.{pieces_of, lexes_of, canonical}
use Rattle.dl_print.specs.Tokens.{HasTokens}
use Rattle.dl_rereading.specs.Lines.{unlined}

-- trees that are the same but for their lines have the same canonical text
abbrev pub CanonicalKeepsNoLines : Type 0
CanonicalKeepsNoLines = (a b : Tree) → unlined a ≡ unlined b → canonical a ≡ canonical b

-- what lexemes say, whatever their lines
abbrev pub said : List Lexeme → List Lexis
said lexemes = map (λ (t : Lexeme). t.lexis) lexemes

-- where lexemes are a module text, lexemes that say what the pieces of its tree say are a module text of the same tree but for the lines
abbrev pub PiecesAreAText : Type 0
PiecesAreAText = (d : Declared) (ws vs : List Lexeme) → module_text (Read d) ws → said vs ≡ lexes_of (pieces_of (tree_of d ws))
    → (again : Declared) × module_text (Read again) vs × (unlined (tree_of again vs) ≡ unlined (tree_of d ws))

-- where bytes spell a tree, a text may have each piece of its canonical text
abbrev pub SpelledHasTokens : Type 0
SpelledHasTokens = (bytes : List ℕ) (tree : Tree) → Spells bytes tree → HasTokens tree

-- the canonical text of the tree spells a tree that is the same but for the lines, and no other; the canonical text of that one is the same text
pub record IsReread (tree : Tree) : Type 0 where
  pub again : Tree
  pub spelled : Spells (canonical tree) again
  pub only : (other : Tree) → Spells (canonical tree) other → other ≡ again
  pub same : unlined again ≡ unlined tree
  pub stays : canonical again ≡ canonical tree

-- the canonical text of each tree that some bytes spell spells it again
abbrev pub CanonicalIsReread : Type 0
CanonicalIsReread = (bytes : List ℕ) (tree : Tree) → Spells bytes tree → IsReread tree
