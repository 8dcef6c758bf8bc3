-- The version of a text, by what its second token says.
use Rattle.std.proofs.Common.{◌≡◌, ℕ, Bool, true, false, List, [], ◌∷◌, ◌++◌, Option, Some, None, if◌then◌else◌, refl, sym, ap, ◌∙◌, subst}
use Rattle.std.specs.Prelude.{codes, slice_range}
use Rattle.std.specs.Str.{bytes_eq}
use Rattle.std.proofs.lemmas.Slice.Eq.{bytes_eq-Decides}
use Rattle.dl_text.specs.declared.token.Token.{Token}
use Rattle.dl_text.specs.declared.token.TokenKind.{TokenKind}
use Rattle.dl_text.specs.declared.token.TokenKind.TheVariants as kind
use Rattle.dl_grammar.specs.declared.lexeme.Fixed.{Fixed}
use Rattle.dl_grammar.specs.declared.lexeme.Lexis.TheVariants as lexis
use Rattle.dl_grammar.specs.declared.lexeme.Lexeme.{Lexeme}
use Rattle.dl_grammar.specs.declared.fault.Bound.{Bound}
use Rattle.dl_grammar.specs.declared.declarations.Declared.{Declared}
use Rattle.dl_grammar.specs.Grammar.{Read, Rule, One, Within, Nothing, Then, Both, Many}
use Rattle.dl_grammar.specs.Rules as rule
use Rattle.dl_grammar.specs.Rules.{version, version_in, free, module_text}
use Rattle.dl_grammar.specs.Texts.{is_text, reserved, word_lexis, lexis_of, lexeme_of, lexemes_in, version_of}
use Rattle.dl_grammar.proofs.Always.{Always, always_nothing, always_behind}

one_is_not_two : (bytes : List ℕ) → is_text bytes (codes "1") ≡ true → is_text bytes (codes "2") ≡ false
unfolding is_text
one_is_not_two bytes h = let is : bytes ≡ codes "1" = (bytes_eq-Decides bytes (codes "1")).0 h in subst (λ text. bytes_eq text (codes "2") ≡ false) (sym is) refl

digits_say : (bytes : List ℕ) (n : ℕ) (one two : Bool) → is_text bytes (codes "1") ≡ one → is_text bytes (codes "2") ≡ two → (v : ℕ)
    → version_in (if one then lexis.One else (if two then lexis.Two else lexis.Number n)) ≡ Some v → v ≡ (if two then 2 else 1)
digits_say bytes n true true h k v is = let no = one_is_not_two bytes h in absurd (cc)
digits_say bytes n true false h k v is = cc
digits_say bytes n false true h k v is = cc
digits_say bytes n false false h k v is = absurd (cc)

word_says : (bytes : List ℕ) (found : Option Fixed) (v : ℕ) → version_in (word_lexis bytes found) ≡ Some v → ⊥
word_says bytes (Some g) v is = cc
word_says bytes None v is = cc

-- a token that says a version is the text of that version
pub version_said : (w : ℕ) (k : TokenKind) (bytes : List ℕ) (v : ℕ) → version_in (lexis_of w k bytes) ≡ Some v → v ≡ (if is_text bytes (codes "2") then 2 else 1)
version_said w kind.Word bytes v is = absurd (word_says bytes (reserved w bytes) v is)
version_said w (kind.Number n) bytes v is = digits_say bytes n (is_text bytes (codes "1")) (is_text bytes (codes "2")) refl refl v is
version_said w kind.Symbol bytes v is = absurd (cc)

one_of : {A : Type 0} (value : Lexeme → Option A) (limit : A → Option Bound) (a : A) (xs : List Lexeme) → One value limit (Read a) xs → (t : Lexeme) × (xs ≡ t ∷ []) × (value t ≡ Some a)
one_of value limit _ _ (Within t a is some) = (t, refl, is)

-- what a module declares, behind its version
abbrev Behind : ℕ → Rule Declared
Behind v = Then (Many rule.kind ([], 0)) (λ ks. Then (Many rule.op_behind []) (λ os. Nothing (record { version = v; kinds = ks.0; ops = os })))

behind_version : (v : ℕ) → Always (λ (d : Declared). d.version ≡ v) (Behind v)
behind_version v = always_behind (λ ks. always_behind (λ os. always_nothing _ _ refl))

second_says : (d : Declared) (ys : List Lexeme) → Then (One version free) Behind (Read d) ys → (u : Lexeme) × (rest : List Lexeme) × (ys ≡ u ∷ rest) × (version u ≡ Some d.version)
second_says d _ (Both {xs = xs} {ys = rest} v one behind) =
    let u = one_of version free v xs one in
    (u.0, rest, ap (λ zs. zs ++ rest) u.1, u.2 ∙ ap Some (sym ((behind_version v).kept (Read d) rest behind)))

says_version : (d : Declared) (ws : List Lexeme) → module_text (Read d) ws → (t u : Lexeme) × (rest : List Lexeme) × (ws ≡ t ∷ u ∷ rest) × (version u ≡ Some d.version)
says_version d _ (Both {xs = xs} {ys = ys} l one next) =
    let t = one_of _ _ l xs one in
    let u = second_says d ys next in
    (t.0, u.0, u.1, ap (λ zs. zs ++ ys) t.1 ∙ ap (λ zs. t.0 ∷ zs) u.2, u.3)

by_second : (w : ℕ) (bytes : List ℕ) (ts : List Token) (v : ℕ) (t u : Lexeme) (rest : List Lexeme) → lexemes_in w bytes ts ≡ t ∷ u ∷ rest → version u ≡ Some v → v ≡ version_of bytes ts
by_second w bytes [] v t u rest is says = absurd (cc)
by_second w bytes (a ∷ []) v t u rest is says = absurd (cc)
by_second w bytes (a ∷ b ∷ ts) v t u rest is says =
    let same : lexeme_of w bytes b ≡ u = cc in
    version_said w b.kind (slice_range bytes b.at b.end) v (ap version same ∙ says)

-- a module text that is read declares the version of the text
pub read_version : (w : ℕ) (bytes : List ℕ) (ts : List Token) (d : Declared) → module_text (Read d) (lexemes_in w bytes ts) → d.version ≡ version_of bytes ts
read_version w bytes ts d text =
    let s = says_version d (lexemes_in w bytes ts) text in
    by_second w bytes ts d.version s.0 s.1 s.2 s.3 s.4
