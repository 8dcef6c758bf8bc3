-- The names and numbers of the lexemes of a text.
use Rattle.std.proofs.Common.{◌≡◌, ℕ, ◌+◌, ◌≤◌, Bool, true, false, List, [], ◌∷◌, ◌++◌, length, Option, Some, None, refl, sym, ap, ◌∙◌, subst, if◌then◌else◌, arith, length-append, append_assoc}
use Rattle.std.specs.Prelude.{◌==◌, ◌&&◌, slice_range, codes}
use Rattle.std.proofs.lemmas.Bool.{eqb-true}
use Rattle.std.specs.List.{AllByRecursion}
use Rattle.std.proofs.lemmas.Bool.Decides.{nat_tests}
use Rattle.dl_text.specs.declared.class.Class.TheVariants as class
use Rattle.dl_text.specs.declared.token.Token.{Token}
use Rattle.dl_text.specs.declared.token.TokenKind.{TokenKind}
use Rattle.dl_text.specs.declared.token.TokenKind.TheVariants as kind
use Rattle.dl_text.specs.Bytes.{class_of, is_letter, value}
use Rattle.dl_text.specs.Text.{greatest, IsPiece, OneBlank, OneComment, OneWord, OneNumber, TwoMarks, OneMark, Cut, AreTokens}
use Rattle.dl_text.specs.Text as text
use Rattle.dl_grammar.specs.declared.lexeme.Fixed.{Fixed}
use Rattle.dl_grammar.specs.declared.lexeme.Lexis.TheVariants as lexis
use Rattle.dl_grammar.specs.declared.lexeme.Fixed.TheVariants as f
use Rattle.dl_grammar.specs.Texts.{is_text, reserved, symbol, word_lexis, lexis_of, lexemes_in, lexemes_of, version_of}
use Rattle.dl_grammar.proofs.Versions.{read_version}
use Rattle.dl_print.specs.Tokens.{IsReserved, HasTokens, IsName}
use Rattle.dl_print.proofs.Scanning.{slice_between}
use Rattle.dl_rereading.specs.Rereading.{SpelledHasTokens}
use Rattle.dl_rereading.proofs.Tokens.{LexisSo, LexemeSo}
use Rattle.dl_rereading.proofs.TokensOfModules.{module_has_tokens}

class_letter : (b : ℕ) → class_of b ≡ class.Letter → is_letter b ≡ true
class_letter b h = grind (arith, nat_tests, h)

module _ (v : ℕ) where
  -- what a word may be: the reserved word emit is one in version 2 alone
  abbrev FoundSo : Option Fixed → Type 0
  FoundSo None = Unit {0}
  FoundSo (Some g) = IsReserved v g

  record IsFound (found : Option Fixed) : Type 0 where
    so : FoundSo found

  word_by : (b : Bool) (g : Fixed) (rest : Option Fixed) → IsReserved v g → IsFound rest → IsFound (if b then Some g else rest)
  word_by true g rest h k = record { so = h }
  word_by false g rest h k = k

  emit_by : (two is_emit : Bool) → (v == 2) ≡ two → IsFound (if two && is_emit then Some f.Emit else None)
  emit_by true true h = record { so = eqb-true v 2 h }
  emit_by true false h = record { so = tt }
  emit_by false is_emit h = record { so = tt }

  reserved_so : (bytes : List ℕ) → IsFound (reserved v bytes)
  reserved_so bytes =
      word_by (is_text bytes (codes "domlock")) f.Domlock _ tt (word_by (is_text bytes (codes "root")) f.Root _ tt (word_by (is_text bytes (codes "node")) f.Node _ tt (word_by (is_text bytes (codes "op")) f.Op _ tt
      (word_by (is_text bytes (codes "allocs")) f.Allocs _ tt (word_by (is_text bytes (codes "fuel")) f.Fuel _ tt (word_by (is_text bytes (codes "var")) f.Var _ tt (word_by (is_text bytes (codes "int")) f.Int _ tt
      (word_by (is_text bytes (codes "new")) f.New _ tt (word_by (is_text bytes (codes "null")) f.Null _ tt (word_by (is_text bytes (codes "if")) f.If _ tt (word_by (is_text bytes (codes "else")) f.Else _ tt
      (word_by (is_text bytes (codes "while")) f.While _ tt (word_by (is_text bytes (codes "return")) f.Return _ tt (emit_by (v == 2) (is_text bytes (codes "emit")) refl))))))))))))))

  record IsSymbol (g : Fixed) : Type 0 where
    so : IsReserved v g

  symbol_by : (b : Bool) (g rest : Fixed) → IsReserved v g → IsSymbol rest → IsSymbol (if b then g else rest)
  symbol_by true g rest h k = record { so = h }
  symbol_by false g rest h k = k

  symbol_so : (bytes : List ℕ) → IsSymbol (symbol bytes)
  symbol_so bytes =
      symbol_by (is_text bytes (codes "{")) f.LBrace _ tt (symbol_by (is_text bytes (codes "}")) f.RBrace _ tt (symbol_by (is_text bytes (codes "(")) f.LParen _ tt (symbol_by (is_text bytes (codes ")")) f.RParen _ tt
      (symbol_by (is_text bytes (codes ",")) f.Comma _ tt (symbol_by (is_text bytes (codes ":")) f.Colon _ tt (symbol_by (is_text bytes (codes ";")) f.Semicolon _ tt (symbol_by (is_text bytes (codes "=")) f.Assign _ tt
      (symbol_by (is_text bytes (codes ".")) f.Dot _ tt (symbol_by (is_text bytes (codes "+")) f.Plus _ tt (symbol_by (is_text bytes (codes "-")) f.Minus _ tt (symbol_by (is_text bytes (codes "*")) f.Star _ tt
      (symbol_by (is_text bytes (codes "/")) f.Slash _ tt (symbol_by (is_text bytes (codes "%")) f.Percent _ tt (symbol_by (is_text bytes (codes "<")) f.Less _ tt (symbol_by (is_text bytes (codes "<=")) f.LessEq _ tt
      (symbol_by (is_text bytes (codes "==")) f.Equal _ tt (record { so = tt })))))))))))))))))

  word_so : (bytes : List ℕ) (found : Option Fixed) → reserved v bytes ≡ found → (reserved v bytes ≡ None → IsName v bytes) → LexisSo v (word_lexis bytes found)
  word_so bytes (Some g) is h = subst FoundSo is (reserved_so bytes).so
  word_so bytes None is h = h is

  number_by : (n : ℕ) (one two : Bool) → n ≤ greatest → LexisSo v (if one then lexis.One else (if two then lexis.Two else lexis.Number n))
  number_by n true two h = tt
  number_by n false true h = tt
  number_by n false false h = h

  -- what a token says, by its bytes
  piece_so : (bytes rest : List ℕ) (found : Option TokenKind) → IsPiece bytes rest found → (k : TokenKind) → found ≡ Some k → LexisSo v (lexis_of v k bytes)
  piece_so _ _ _ (OneBlank h) k is = absurd (cc)
  piece_so _ _ _ (OneComment h pass ends) k is = absurd (cc)
  piece_so _ _ _ (OneWord {b} {text = letters} {rest} h pass ends) k is =
      let same : kind.Word ≡ k = cc in
      subst (λ k. LexisSo v (lexis_of v k (b ∷ letters))) same (word_so (b ∷ letters) (reserved v (b ∷ letters)) refl (λ none. (class_letter b h, pass, none)))
  piece_so _ _ _ (OneNumber {b} {text = digits} {rest} h pass ends small) k is =
      let same : kind.Number (value (b ∷ digits)) ≡ k = cc in
      subst (λ k. LexisSo v (lexis_of v k (b ∷ digits))) same (number_by (value (b ∷ digits)) (is_text (b ∷ digits) (codes "1")) (is_text (b ∷ digits) (codes "2")) small)
  piece_so _ _ _ (TwoMarks {b} {c} {rest} h) k is = let same : kind.Symbol ≡ k = cc in subst (λ k. LexisSo v (lexis_of v k (b ∷ c ∷ []))) same (symbol_so (b ∷ c ∷ [])).so
  piece_so _ _ _ (OneMark {b} {rest} h ends) k is = let same : kind.Symbol ≡ k = cc in subst (λ k. LexisSo v (lexis_of v k (b ∷ []))) same (symbol_so (b ∷ [])).so

  -- the lexemes of the bytes that a text is cut into, behind others
  cut_so : (before : List ℕ) (at line : ℕ) (bytes : List ℕ) (ts : List Token) (to end : ℕ) (rest : List ℕ) → Cut at line bytes ts to end rest → length before ≡ at
      → AllByRecursion (LexemeSo v) (lexemes_in v (before ++ bytes) ts)
  cut_so before at line bytes ts to end rest text.Done here = tt
  cut_so before at line _ ts to end rest (text.Feed {b = b} {more = more} is cut) here =
      subst (λ all. AllByRecursion (LexemeSo v) (lexemes_in v all ts)) (append_assoc before (b ∷ []) more)
      (cut_so (before ++ b ∷ []) (at + 1) (line + 1) more ts to end rest cut (length-append before (b ∷ []) ∙ ap (λ n. n + 1) here))
  cut_so before at line _ ts to end rest (text.Skip {text = piece} {more = more} is cut) here =
      subst (λ all. AllByRecursion (LexemeSo v) (lexemes_in v all ts)) (append_assoc before piece more)
      (cut_so (before ++ piece) (at + length piece) line more ts to end rest cut (length-append before piece ∙ ap (λ n. n + length piece) here))
  cut_so before at line _ _ to end rest (text.Take {text = piece} {more = more} {kind = k} {ts = ts} is cut) here = (
    subst (λ n. LexisSo v (lexis_of v k (slice_range (before ++ (piece ++ more)) n (n + length piece)))) here
        (subst (λ bytes. LexisSo v (lexis_of v k bytes)) (sym (slice_between before piece more)) (piece_so piece more (Some k) is k refl)),
    subst (λ all. AllByRecursion (LexemeSo v) (lexemes_in v all ts)) (append_assoc before piece more)
        (cut_so (before ++ piece) (at + length piece) line more ts to end rest cut (length-append before piece ∙ ap (λ n. n + length piece) here)),
  )

  pub tokens_so : (bytes : List ℕ) (ts : List Token) → AreTokens bytes ts → AllByRecursion (LexemeSo v) (lexemes_in v bytes ts)
  tokens_so bytes ts are = cut_so [] 0 1 bytes ts are.0 are.1 [] are.2 refl

pub spelled_has_tokens : SpelledHasTokens
spelled_has_tokens bytes tree h =
    let version = version_of bytes h.0 in
    subst HasTokens (sym h.4) (module_has_tokens version h.1 (lexemes_of bytes h.0) h.3 (sym (read_version version bytes h.0 h.1 h.3)) (tokens_so version bytes h.0 h.2))
