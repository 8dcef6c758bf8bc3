-- What is made of all lexemes is what the clauses on texts say.
use Rattle.std.proofs.Common.{◌≡◌, ◌≢◌, ℕ, ◌≤◌, ◌<◌, List, [], ◌∷◌, ◌++◌, length, get_or, Result, Ok, Err, refl, sym, ap, ◌∙◌, subst, arith}
use Rattle.std.specs.Prelude.{MatchResult, IfOk, IfErr}
use Rattle.dl_text.specs.declared.token.Token.{Token}
use Rattle.dl_text.specs.declared.token.TextFault.{TextFault}
use Rattle.dl_text.specs.declared.token.TextFault.TheVariants as text
use Rattle.dl_text.specs.Text.{AreTokens, IsTextFault, InOrder}
use Rattle.dl_text.proofs.Cuts.{one_list, one_fault, not_both}
use Rattle.dl_grammar.specs.declared.lexeme.Lexeme.{Lexeme}
use Rattle.dl_grammar.specs.declared.fault.Bound.TheVariants.{Levels, Limit}
use Rattle.dl_grammar.specs.declared.fault.Fault.{Fault}
use Rattle.dl_grammar.specs.declared.fault.Fault.TheVariants as fault
use Rattle.dl_grammar.specs.declared.fault.SyntaxFault.{SyntaxFault}
use Rattle.dl_grammar.specs.declared.fault.SyntaxFault.TheVariants as syntax
use Rattle.dl_grammar.specs.declared.declarations.Declared.{Declared}
use Rattle.dl_grammar.specs.declared.tree.Tree.{Tree}
use Rattle.dl_grammar.specs.Grammar.{Read, StandsAt, finish}
use Rattle.dl_grammar.specs.Rules.{module_text}
use Rattle.dl_grammar.specs.Readers as read
use Rattle.dl_grammar.specs.Texts.{lexemes_of, line_at, tree_of, Spells, FaultAt, IsSyntaxFault, fault_in, text_fault, Answers}
use Rattle.dl_grammar.proofs.Exact.{only_read, judged, Judged, only_fault}
use Rattle.dl_grammar.proofs.GoodDeclarations.{good_module}

-- ---- places of tokens
in_order_le : (from size : ℕ) (ts : List Token) → InOrder from size ts → from ≤ size
in_order_le from size [] h = h
in_order_le from size (t ∷ ts) h = let later = in_order_le t.end size ts h.2 in omega (arith, h.0, h.1, later)

pub first_in_order : (from size : ℕ) (ts : List Token) (d : Token) → InOrder from size ts → 0 < length ts → ((get_or ts 0 d).at ≤ (get_or ts 0 d).end) × ((get_or ts 0 d).end ≤ size)
first_in_order from size [] d h l = absurd (omega arith)
first_in_order from size (t ∷ ts) d h l = let later = in_order_le t.end size ts h.2 in (omega (arith, h.1), later)

pub second_in_order : (from size : ℕ) (ts : List Token) (d : Token) → InOrder from size ts → 1 < length ts → ((get_or ts 1 d).at ≤ (get_or ts 1 d).end) × ((get_or ts 1 d).end ≤ size)
second_in_order from size [] d h l = absurd (omega arith)
second_in_order from size (t ∷ ts) d h l = first_in_order t.end size ts d h.2 (omega arith)

-- ---- one kind of fault or the other
pub data View (bytes : List ℕ) (g : SyntaxFault) : Type 0 where
  Textual : (t : TextFault) → IsTextFault bytes t → g ≡ text_fault t → View bytes g
  Grammatical : (c : Fault) (line : ℕ) → FaultAt bytes c line → g ≡ fault_in c line → View bytes g

pub view_of : (bytes : List ℕ) (g : SyntaxFault) → IsSyntaxFault bytes g → View bytes g
view_of bytes (syntax.NotAscii at line) h = Textual (text.NotAscii at line) h refl
view_of bytes (syntax.BadByte at line) h = Textual (text.BadByte at line) h refl
view_of bytes (syntax.BigNumber at line) h = Textual (text.BigNumber at line) h refl
view_of bytes (syntax.Expected line) h = Grammatical fault.Expected line h refl
view_of bytes (syntax.TooDeep line) h = Grammatical (fault.Passed Levels) line h refl
view_of bytes (syntax.Limit line w) h = Grammatical (fault.Passed (Limit w)) line h refl
view_of bytes syntax.Memory h = absurd h

-- the tokens of the bytes are these, so what is said of others is said of them
pub fault_here : (bytes : List ℕ) (ts : List Token) → AreTokens bytes ts → (c : Fault) (line : ℕ) → FaultAt bytes c line
    → (rest : List Lexeme) × (finish (read.module_text (lexemes_of bytes ts)) ≡ Err (c, rest)) × (line ≡ line_at (lexemes_of bytes ts) rest)
fault_here bytes ts are c line h =
    let same : lexemes_of bytes h.0 ≡ lexemes_of bytes ts = ap (lexemes_of bytes) (one_list bytes h.0 ts h.3 are) in (
      h.2,
      ap (λ ls. finish (read.module_text ls)) (sym same ∙ h.4) ∙ only_fault good_module refl c h.1 h.2 h.6,
      h.5 ∙ ap (λ ls. line_at ls h.2) same,
    )

pub value_here : (bytes : List ℕ) (ts : List Token) → AreTokens bytes ts → (tree : Tree) → Spells bytes tree → (d : Declared) × (finish (read.module_text (lexemes_of bytes ts)) ≡ Ok d) × (tree ≡ tree_of d (lexemes_of bytes ts))
value_here bytes ts are tree h =
    let same : lexemes_of bytes h.0 ≡ lexemes_of bytes ts = ap (lexemes_of bytes) (one_list bytes h.0 ts h.2 are) in
    (h.1, only_read good_module refl h.1 (lexemes_of bytes ts) (subst (module_text (Read h.1)) same h.3), h.4 ∙ ap (tree_of h.1) same)

-- ---- answers that are no want of memory
abbrev AnswersFault : Result Declared (Fault × List Lexeme) → List Lexeme → SyntaxFault → Type 0
AnswersFault (Ok d) all g = ⊥
AnswersFault (Err x) all g = g ≡ fault_in x.0 (line_at all x.1)

no_memory : (o : Result Declared (Fault × List Lexeme)) (all : List Lexeme) (g : SyntaxFault) → g ≢ syntax.Memory → Answers o all (Err g) → AnswersFault o all g
no_memory o all syntax.Memory real a = absurd (real refl)
no_memory (Ok d) all (syntax.NotAscii at line) real a = a
no_memory (Ok d) all (syntax.BadByte at line) real a = a
no_memory (Ok d) all (syntax.BigNumber at line) real a = a
no_memory (Ok d) all (syntax.Expected line) real a = a
no_memory (Ok d) all (syntax.TooDeep line) real a = a
no_memory (Ok d) all (syntax.Limit line w) real a = a
no_memory (Err x) all (syntax.NotAscii at line) real a = a
no_memory (Err x) all (syntax.BadByte at line) real a = a
no_memory (Err x) all (syntax.BigNumber at line) real a = a
no_memory (Err x) all (syntax.Expected line) real a = a
no_memory (Err x) all (syntax.TooDeep line) real a = a
no_memory (Err x) all (syntax.Limit line w) real a = a

only_memory : (d : Declared) (all : List Lexeme) (g : SyntaxFault) → Answers (Ok d) all (Err g) → g ≡ syntax.Memory
only_memory d all syntax.Memory a = refl
only_memory d all (syntax.NotAscii at line) a = absurd a
only_memory d all (syntax.BadByte at line) a = absurd a
only_memory d all (syntax.BigNumber at line) a = absurd a
only_memory d all (syntax.Expected line) a = absurd a
only_memory d all (syntax.TooDeep line) a = absurd a
only_memory d all (syntax.Limit line w) a = absurd a

stands_so : (bytes : List ℕ) (ts : List Token) → AreTokens bytes ts → (c : Fault) (before rest : List Lexeme) → lexemes_of bytes ts ≡ before ++ rest → StandsAt module_text c before rest → IsSyntaxFault bytes (fault_in c (line_at (lexemes_of bytes ts) rest))
stands_so bytes ts are fault.Expected before rest split stands = (ts, before, rest, are, split, refl, stands)
stands_so bytes ts are (fault.Passed Levels) before rest split stands = (ts, before, rest, are, split, refl, stands)
stands_so bytes ts are (fault.Passed (Limit w)) before rest split stands = (ts, before, rest, are, split, refl, stands)
stands_so bytes ts are fault.Memory before rest split stands = absurd stands

module _ (bytes : List ℕ) (ts : List Token) (are : AreTokens bytes ts) where
  found_at : (o : Result Declared (Fault × List Lexeme)) → Judged good_module refl (lexemes_of bytes ts) o → (result : Result Tree SyntaxFault) → Answers o (lexemes_of bytes ts) result → IfOk result (Spells bytes)
  found_at (Ok d) j (Ok tree) a = (ts, d, are, j, a)
  found_at (Err x) j (Ok tree) a = absurd a
  found_at o j (Err g) a = tt

  pub whole_found : (result : Result Tree SyntaxFault) → Answers (finish (read.module_text (lexemes_of bytes ts))) (lexemes_of bytes ts) result → IfOk result (Spells bytes)
  whole_found result a = found_at (finish (read.module_text (lexemes_of bytes ts))) (judged good_module refl (lexemes_of bytes ts)) result a

  fault_at : (o : Result Declared (Fault × List Lexeme)) → Judged good_module refl (lexemes_of bytes ts) o → (g : SyntaxFault) → AnswersFault o (lexemes_of bytes ts) g → IsSyntaxFault bytes g
  fault_at (Ok d) j g a = absurd a
  fault_at (Err x) j g a = subst (IsSyntaxFault bytes) (sym a) (stands_so bytes ts are x.0 j.before x.1 j.splits j.stands)

  pub whole_fault : (result : Result Tree SyntaxFault) → Answers (finish (read.module_text (lexemes_of bytes ts))) (lexemes_of bytes ts) result → IfErr result (λ g. g ≢ syntax.Memory → IsSyntaxFault bytes g)
  whole_fault (Ok tree) a = tt
  whole_fault (Err g) a = λ real. fault_at (finish (read.module_text (lexemes_of bytes ts))) (judged good_module refl (lexemes_of bytes ts)) g (no_memory _ _ g real a)

  only_at : (tree : Tree) (d : Declared) → tree ≡ tree_of d (lexemes_of bytes ts) → (result : Result Tree SyntaxFault) → Answers (Ok d) (lexemes_of bytes ts) result → MatchResult result (λ found. found ≡ tree) (λ g. g ≡ syntax.Memory)
  only_at tree d is (Ok found) a = a ∙ sym is
  only_at tree d is (Err g) a = only_memory d (lexemes_of bytes ts) g a

  pub whole_only : (result : Result Tree SyntaxFault) → Answers (finish (read.module_text (lexemes_of bytes ts))) (lexemes_of bytes ts) result → (tree : Tree) → Spells bytes tree → MatchResult result (λ found. found ≡ tree) (λ g. g ≡ syntax.Memory)
  whole_only result a tree h =
      let v = value_here bytes ts are tree h in
      only_at tree v.0 v.2 result (subst (λ o. Answers o (lexemes_of bytes ts) result) v.1 a)

  only_fault_at : (g : SyntaxFault) (c : Fault) (rest : List Lexeme) → g ≡ fault_in c (line_at (lexemes_of bytes ts) rest) → (result : Result Tree SyntaxFault) → Answers (Err (c, rest)) (lexemes_of bytes ts) result → MatchResult result (λ x. ⊥) (λ h. h ≢ syntax.Memory → h ≡ g)
  only_fault_at g c rest is (Ok tree) a = a
  only_fault_at g c rest is (Err h) a = λ real. no_memory (Err (c, rest)) (lexemes_of bytes ts) h real a ∙ sym is

  pub whole_only_fault : (result : Result Tree SyntaxFault) → Answers (finish (read.module_text (lexemes_of bytes ts))) (lexemes_of bytes ts) result → (g : SyntaxFault) → IsSyntaxFault bytes g → MatchResult result (λ x. ⊥) (λ h. h ≢ syntax.Memory → h ≡ g)
  whole_only_fault result a g h = go (view_of bytes g h)
    where
      go : View bytes g → MatchResult result (λ x. ⊥) (λ h. h ≢ syntax.Memory → h ≡ g)
      go (Textual t is eq) = absurd (not_both bytes ts t are is)
      go (Grammatical c line is eq) =
          let w = fault_here bytes ts are c line is in
          only_fault_at g c w.0 (eq ∙ ap (fault_in c) w.2) result (subst (λ o. Answers o (lexemes_of bytes ts) result) w.1 a)

-- ---- one tree, or one fault
err_parts : (x y : Fault × List Lexeme) → (let o : Result Declared (Fault × List Lexeme) = Err x in o) ≡ Err y → x ≡ y
err_parts x y h = cc

ok_parts : (x y : Declared) → (let o : Result Declared (Fault × List Lexeme) = Ok x in o) ≡ Ok y → x ≡ y
ok_parts x y h = cc

pub one_tree : (bytes : List ℕ) (a b : Tree) → Spells bytes a → Spells bytes b → a ≡ b
one_tree bytes a b h k =
    let v = value_here bytes h.0 h.2 a h in
    let w = value_here bytes h.0 h.2 b k in
    v.2 ∙ ap (λ d. tree_of d (lexemes_of bytes h.0)) (ok_parts v.0 w.0 (sym v.1 ∙ w.1)) ∙ sym w.2

pub tree_or_fault : (bytes : List ℕ) (tree : Tree) (g : SyntaxFault) → Spells bytes tree → IsSyntaxFault bytes g → ⊥
tree_or_fault bytes tree g h k = go (view_of bytes g k)
  where
    go : View bytes g → ⊥
    go (Textual t is eq) = not_both bytes h.0 t h.2 is
    go (Grammatical c line is eq) =
        let w = fault_here bytes h.0 h.2 c line is in
        let v = value_here bytes h.0 h.2 tree h in
        let same = sym v.1 ∙ w.1 in absurd (cc)

views_same : (bytes : List ℕ) (e g : SyntaxFault) → View bytes e → View bytes g → e ≡ g
views_same bytes e g (Textual t is eq) (Textual u us fq) = eq ∙ ap text_fault (one_fault bytes t u is us) ∙ sym fq
views_same bytes e g (Textual t is eq) (Grammatical c line at fq) = absurd (not_both bytes at.0 t at.3 is)
views_same bytes e g (Grammatical c line at eq) (Textual t is fq) = absurd (not_both bytes at.0 t at.3 is)
views_same bytes e g (Grammatical c line at eq) (Grammatical d more bt fq) =
    let w = fault_here bytes at.0 at.3 c line at in
    let v = fault_here bytes at.0 at.3 d more bt in
    let same : (c, w.0) ≡ (d, v.0) = err_parts (c, w.0) (d, v.0) (sym w.1 ∙ v.1) in
    eq ∙ ap (fault_in c) w.2 ∙ ap (λ (x : Fault × List Lexeme). fault_in x.0 (line_at (lexemes_of bytes at.0) x.1)) same ∙ sym (fq ∙ ap (fault_in d) v.2)

pub one_syntax_fault : (bytes : List ℕ) (e g : SyntaxFault) → IsSyntaxFault bytes e → IsSyntaxFault bytes g → e ≡ g
one_syntax_fault bytes e g h k = views_same bytes e g (view_of bytes e h) (view_of bytes g k)

-- a fault of the tokens is the only one
pub text_only_fault : (bytes : List ℕ) (f : TextFault) → ((ts : List Token) → AreTokens bytes ts → f ≡ text.Memory) → ((t : TextFault) → IsTextFault bytes t → f ≢ text.Memory → f ≡ t)
    → (g : SyntaxFault) → IsSyntaxFault bytes g → text_fault f ≢ syntax.Memory → text_fault f ≡ g
text_only_fault bytes f no_tokens only g h real = go (view_of bytes g h)
  where
    go : View bytes g → text_fault f ≡ g
    go (Textual t is eq) = ap text_fault (only t is (λ m. real (ap text_fault m))) ∙ sym eq
    go (Grammatical c line at eq) = absurd (real (ap text_fault (no_tokens at.0 at.3)))
