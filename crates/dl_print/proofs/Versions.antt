-- The tokens of a canonical text say the same in the version of the text and in that of the module.
use Rattle.std.proofs.Common.{◌≡◌, ℕ, ◌==◌, Bool, true, false, List, [], ◌∷◌, Option, Some, None, if◌then◌else◌, refl, sym, ap, ◌∙◌, subst}
use Rattle.std.specs.Prelude.{codes, slice_range}
use Rattle.std.proofs.lemmas.Bool.{eqb-true}
use Rattle.dl_text.specs.declared.token.Token.{Token}
use Rattle.dl_text.specs.declared.token.TokenKind.{TokenKind}
use Rattle.dl_text.specs.declared.token.TokenKind.TheVariants as kind
use Rattle.dl_grammar.specs.declared.lexeme.Fixed.{Fixed}
use Rattle.dl_grammar.specs.declared.lexeme.Lexis.{Lexis}
use Rattle.dl_grammar.specs.declared.lexeme.Lexis.TheVariants as lexis
use Rattle.dl_grammar.specs.Rules.{version_in}
use Rattle.dl_grammar.specs.Texts.{is_text, reserved, word_lexis, lexis_of, version_of}
use Rattle.dl_grammar.proofs.Versions.{version_said}
use Rattle.dl_print.specs.Canonical.{number_lexis}
use Rattle.dl_print.proofs.Scanning.{lexes_by}

-- ---- what the second token says

word_no_number : (bytes : List ℕ) (found : Option Fixed) (n : ℕ) → word_lexis bytes found ≡ lexis.Number n → ⊥
word_no_number bytes (Some g) n is = cc
word_no_number bytes None n is = cc

digits_no_two : (m n : ℕ) (one two : Bool) → (if one then lexis.One else (if two then lexis.Two else lexis.Number m)) ≡ lexis.Number n → two ≡ false
digits_no_two m n true two is = absurd (cc)
digits_no_two m n false true is = absurd (cc)
digits_no_two m n false false is = refl

-- a token that says another number is not the text of version 2
no_two : (w : ℕ) (k : TokenKind) (bytes : List ℕ) (n : ℕ) → lexis_of w k bytes ≡ lexis.Number n → is_text bytes (codes "2") ≡ false
no_two w kind.Word bytes n is = absurd (word_no_number bytes (reserved w bytes) n is)
no_two w (kind.Number m) bytes n is = digits_no_two m n (is_text bytes (codes "1")) (is_text bytes (codes "2")) is
no_two w kind.Symbol bytes n is = absurd (cc)

-- the version that a test names
abbrev named : Bool → ℕ
named b = if b then 2 else 1

if_one : (b : Bool) → named b ≡ 1 → b ≡ false
if_one true h = absurd (cc)
if_one false h = refl

if_two : (b : Bool) → named b ≡ 2 → b ≡ true
if_two true h = refl
if_two false h = absurd (cc)

two_by : (w : ℕ) (k : TokenKind) (bytes : List ℕ) (n : ℕ) (one two : Bool) → (n == 1) ≡ one → (n == 2) ≡ two
    → lexis_of w k bytes ≡ (if one then lexis.One else (if two then lexis.Two else lexis.Number n)) → is_text bytes (codes "2") ≡ (n == 2)
two_by w k bytes n true two h j is =
    subst (λ m. is_text bytes (codes "2") ≡ (m == 2)) (sym (eqb-true n 1 h)) (if_one (is_text bytes (codes "2")) (sym (version_said w k bytes 1 (ap version_in is))))
two_by w k bytes n false true h j is = if_two (is_text bytes (codes "2")) (sym (version_said w k bytes 2 (ap version_in is))) ∙ sym j
two_by w k bytes n false false h j is = no_two w k bytes n is ∙ sym j

test_of : (b : Bool) → (named b == 2) ≡ b
test_of true = refl
test_of false = refl

-- where the second token says a number, the text is of version 2 where the number is 2
pub version_fits : (w n : ℕ) (bytes : List ℕ) (ts : List Token) (x : Lexis) (more : List Lexis) → lexes_by w bytes ts ≡ x ∷ number_lexis n ∷ more → (version_of bytes ts == 2) ≡ (n == 2)
version_fits w n bytes [] x more says = absurd (cc)
version_fits w n bytes (a ∷ []) x more says = absurd (cc)
version_fits w n bytes (a ∷ b ∷ ts) x more says =
    let same : lexis_of w b.kind (slice_range bytes b.at b.end) ≡ number_lexis n = cc in
    test_of (is_text (slice_range bytes b.at b.end) (codes "2")) ∙ two_by w b.kind (slice_range bytes b.at b.end) n (n == 1) (n == 2) refl refl same

-- ---- versions that reserve the same words

same_reserved : (v w : ℕ) → (v == 2) ≡ (w == 2) → (word : List ℕ) → reserved v word ≡ reserved w word
same_reserved v w h word = cc

same_lexis : (v w : ℕ) → (v == 2) ≡ (w == 2) → (k : TokenKind) (bytes : List ℕ) → lexis_of v k bytes ≡ lexis_of w k bytes
same_lexis v w h kind.Word bytes = ap (word_lexis bytes) (same_reserved v w h bytes)
same_lexis v w h (kind.Number n) bytes = refl
same_lexis v w h kind.Symbol bytes = refl

pub same_lexes : (v w : ℕ) → (v == 2) ≡ (w == 2) → (bytes : List ℕ) (ts : List Token) → lexes_by v bytes ts ≡ lexes_by w bytes ts
same_lexes v w h bytes [] = refl
same_lexes v w h bytes (t ∷ ts) =
    ap (λ (x : Lexis). x ∷ lexes_by v bytes ts) (same_lexis v w h t.kind (slice_range bytes t.at t.end)) ∙ ap (λ xs. lexis_of w t.kind (slice_range bytes t.at t.end) ∷ xs) (same_lexes v w h bytes ts)
