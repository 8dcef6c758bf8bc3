-- The canonical text of a tree that is spelled spells it again.
use Rattle.std.proofs.Common.{◌≡◌, List, ℕ, refl, sym, ap, ◌∙◌}
use Rattle.dl_text.specs.declared.token.Token.{Token}
use Rattle.dl_text.specs.Text.{AreTokens}
use Rattle.dl_grammar.specs.declared.declarations.Declared.{Declared}
use Rattle.dl_grammar.specs.declared.lexeme.Lexeme.{Lexeme}
use Rattle.dl_grammar.specs.declared.tree.Tree.{Tree}
use Rattle.dl_grammar.specs.Grammar.{Read}
use Rattle.dl_grammar.specs.Rules.{module_text}
use Rattle.dl_grammar.specs.Texts.{lexemes_of, tree_of, Spells}
use Rattle.dl_print.specs.Canonical.{pieces_of, lexes_of, canonical}
use Rattle.dl_print.specs.Tokens.{lexes_in, PiecesAreTokens}
use Rattle.dl_rereading.specs.Lines.{unlined}
use Rattle.dl_rereading.specs.Rereading.{CanonicalIsReread}
use Rattle.dl_rereading.proofs.Lexemes.{spelled_has_tokens}
use Rattle.dl_rereading.proofs.Modules.{pieces_are_a_text}
use Rattle.dl_rereading.proofs.SameText.{keeps_no_lines}

pub reread : PiecesAreTokens → ((bytes : List ℕ) (a b : Tree) → Spells bytes a → Spells bytes b → a ≡ b) → CanonicalIsReread
reread tokens one_tree bytes tree h = record {
  again = again;
  spelled = spelled;
  only = λ other is. one_tree (canonical tree) other again is spelled;
  same = same;
  stays = keeps_no_lines again tree same;
}
  where
    found : (ts : List Token) × AreTokens (canonical tree) ts × (lexes_in (canonical tree) ts ≡ lexes_of (pieces_of tree))
    found = tokens tree (spelled_has_tokens bytes tree h)

    ws : List Lexeme
    ws = lexemes_of (canonical tree) found.0

    read : (d : Declared) × module_text (Read d) ws × (unlined (tree_of d ws) ≡ unlined (tree_of h.1 (lexemes_of bytes h.0)))
    read = pieces_are_a_text h.1 (lexemes_of bytes h.0) ws h.3 (found.2 ∙ ap (λ t. lexes_of (pieces_of t)) h.4)

    again : Tree
    again = tree_of read.0 ws

    spelled : Spells (canonical tree) again
    spelled = (found.0, read.0, found.1, read.1, refl)

    same : unlined again ≡ unlined tree
    same = read.2 ∙ ap unlined (sym h.4)
