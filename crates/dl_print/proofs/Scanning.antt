-- Pieces that stay apart are scanned one by one.
use Rattle.std.proofs.Common.{◌≡◌, ℕ, ◌+◌, ◌*◌, ◌-◌, ◌≤◌, ◌<◌, ◌/◌, ◌%◌, zero, suc, Bool, true, false, List, [], ◌∷◌, ◌++◌, length, refl, sym, ◌∙◌, ap, subst, arith, append_assoc, length-append}
use Rattle.std.specs.Prelude.{Some, None, ◌==◌, if◌then◌else◌, map, decimal, codes, slice_range}
use Rattle.std.specs.Str.{bytes_eq}
use Rattle.std.specs.List.{AllByRecursion}
use Rattle.std.proofs.lemmas.Bool.{and_parts, not-true}
use Rattle.std.proofs.lemmas.Bool.Decides.{nat_tests, Decides-eqb, same_from_decides}
use Rattle.std.proofs.lemmas.Slice.Eq.{bytes_eq-Decides}
use Rattle.std.proofs.lemmas.Fmt.{decimal_by_steps, decimal_digit}
use Rattle.std.proofs.lemmas.List.Sums.{fold-append}
use Rattle.std.proofs.Math.Seq.{drop-append_seam, take-append_seam}
use Rattle.dl_text.specs.declared.class.Class.TheVariants as class
use Rattle.dl_text.specs.declared.token.Token.{Token}
use Rattle.dl_text.specs.declared.token.TokenKind.{TokenKind}
use Rattle.dl_text.specs.declared.token.TokenKind.TheVariants as kind
use Rattle.dl_text.specs.Bytes.{class_of, is_digit, is_letter, is_word, is_pair, value, next_value, AllAre}
use Rattle.dl_text.specs.Text.{greatest, Ends, IsPiece, OneBlank, OneWord, OneNumber, OneMark, TwoMarks, Cut}
use Rattle.dl_text.specs.Text as text
use Rattle.dl_grammar.specs.declared.lexeme.Fixed.{Fixed}
use Rattle.dl_grammar.specs.declared.lexeme.Fixed.TheVariants as f
use Rattle.dl_grammar.specs.declared.lexeme.Lexis.{Lexis}
use Rattle.dl_grammar.specs.declared.lexeme.Lexis.TheVariants as lexis
use Rattle.dl_grammar.specs.declared.lexeme.Lexeme.{Lexeme}
use Rattle.dl_grammar.specs.Texts.{is_text, reserved, word_lexis, lexis_of, lexemes_in}
use Rattle.dl_print.specs.Canonical.{Piece, Word, Name, Number, Space, Indent, Feed, fixed_text, indentation, piece_text, text_of, number_lexis, piece_lexes, lexes_of}
use Rattle.dl_print.specs.Tokens.{IsReserved, IsToken}
use Rattle.dl_print.proofs.Apart.{stops, stops_fixed, stops_piece, are_apart}

-- what some tokens say to the grammar in a text of the version
abbrev pub lexes_by : ℕ → List ℕ → List Token → List Lexis
lexes_by v bytes ts = map (λ (t : Lexeme). t.lexis) (lexemes_in v bytes ts)

-- the token at its place
pub slice_between : (before piece more : List ℕ) → slice_range (before ++ (piece ++ more)) (length before) (length before + length piece) ≡ piece
slice_between before piece more =
    let size : (length before + length piece) - length before ≡ length piece = omega arith in
    rw (drop-append_seam before (piece ++ more), size) (take-append_seam piece more)

module _ (v : ℕ) where
  -- ---- one step behind another

  -- bytes behind others are cut into tokens, which say this to the grammar
  pub record Scanned (before : List ℕ) (line : ℕ) (bytes : List ℕ) (lexes : List Lexis) : Type 0 where
    pub tokens : List Token
    pub to : ℕ
    pub last : ℕ
    pub cut : Cut (length before) line bytes tokens to last []
    pub says : lexes_by v (before ++ bytes) tokens ≡ lexes

  -- nothing is left
  pub scan_none : (before : List ℕ) (line : ℕ) → Scanned before line [] []
  scan_none before line = record { tokens = []; to = length before; last = line; cut = text.Done; says = refl }

  -- the end of a line
  pub scan_feed : (before : List ℕ) (line : ℕ) (more : List ℕ) (lexes : List Lexis) → Scanned (before ++ 10 ∷ []) (line + 1) more lexes → Scanned before line (10 ∷ more) lexes
  scan_feed before line more lexes later =
      let at : length (before ++ 10 ∷ []) ≡ length before + 1 = length-append before (10 ∷ []) in
      record {
        tokens = later.tokens;
        to = later.to;
        last = later.last;
        cut = text.Feed refl (subst (λ n. Cut n (line + 1) more later.tokens later.to later.last []) at later.cut);
        says = subst (λ all. lexes_by v all later.tokens ≡ lexes) (append_assoc before (10 ∷ []) more) later.says;
      }

  -- white space
  pub scan_skip : (before : List ℕ) (line : ℕ) (piece more : List ℕ) (lexes : List Lexis) → IsPiece piece more None → Scanned (before ++ piece) line more lexes → Scanned before line (piece ++ more) lexes
  scan_skip before line piece more lexes is later = record {
    tokens = later.tokens;
    to = later.to;
    last = later.last;
    cut = text.Skip is (subst (λ n. Cut n line more later.tokens later.to later.last []) (length-append before piece) later.cut);
    says = subst (λ all. lexes_by v all later.tokens ≡ lexes) (append_assoc before piece more) later.says;
  }

  -- a token
  pub scan_take : (before : List ℕ) (line : ℕ) (k : TokenKind) (piece more : List ℕ) (lexes : List Lexis) → IsPiece piece more (Some k) → Scanned (before ++ piece) line more lexes
      → Scanned before line (piece ++ more) (lexis_of v k piece ∷ lexes)
  scan_take before line k piece more lexes is later =
      let says : lexes_by v (before ++ (piece ++ more)) later.tokens ≡ lexes = subst (λ all. lexes_by v all later.tokens ≡ lexes) (append_assoc before piece more) later.says in
      record {
        tokens = record { kind = k; at = length before; end = length before + length piece; line = line } ∷ later.tokens;
        to = later.to;
        last = later.last;
        cut = text.Take is (subst (λ n. Cut n line more later.tokens later.to later.last []) (length-append before piece) later.cut);
        says = ap (λ bytes. lexis_of v k bytes ∷ lexes_by v (before ++ (piece ++ more)) later.tokens) (slice_between before piece more) ∙ ap (λ ls. lexis_of v k piece ∷ ls) says;
      }

  -- ---- what ends a piece

  pub stops_ends : (test : ℕ → Bool) (bytes : List ℕ) → stops test bytes ≡ true → Ends test bytes
  stops_ends test [] h = tt
  stops_ends test (b ∷ rest) h = not-true (test b) h

  -- where no byte of a word comes, no digit comes
  digit_ends : (bytes : List ℕ) → Ends is_word bytes → Ends is_digit bytes
  digit_ends [] h = tt
  digit_ends (b ∷ rest) h = grind (arith, nat_tests, h)

  -- a byte that begins no pair
  alone : (b : ℕ) (more : List ℕ) → ((c : ℕ) → is_pair b c ≡ false) → Ends (is_pair b) more
  alone b [] h = tt
  alone b (c ∷ rest) h = h c

  -- ---- reserved words and symbols

  -- a reserved word or a symbol is one token
  pub record IsFixed (g : Fixed) (more : List ℕ) : Type 0 where
    pub kind : TokenKind
    pub is : IsPiece (fixed_text g) more (Some kind)
    pub says : lexis_of v kind (fixed_text g) ≡ lexis.Fixed g

  pub fixed_is : (g : Fixed) (more : List ℕ) → stops_fixed g more ≡ true → IsReserved v g → IsFixed g more
  unfolding is_text
  fixed_is f.Domlock more h is = record { kind = kind.Word; is = OneWord refl (refl, (refl, (refl, (refl, (refl, (refl, tt)))))) (stops_ends is_word more h); says = refl }
  fixed_is f.Root more h is = record { kind = kind.Word; is = OneWord refl (refl, (refl, (refl, tt))) (stops_ends is_word more h); says = refl }
  fixed_is f.Node more h is = record { kind = kind.Word; is = OneWord refl (refl, (refl, (refl, tt))) (stops_ends is_word more h); says = refl }
  fixed_is f.Op more h is = record { kind = kind.Word; is = OneWord refl (refl, tt) (stops_ends is_word more h); says = refl }
  fixed_is f.Allocs more h is = record { kind = kind.Word; is = OneWord refl (refl, (refl, (refl, (refl, (refl, tt))))) (stops_ends is_word more h); says = refl }
  fixed_is f.Fuel more h is = record { kind = kind.Word; is = OneWord refl (refl, (refl, (refl, tt))) (stops_ends is_word more h); says = refl }
  fixed_is f.Var more h is = record { kind = kind.Word; is = OneWord refl (refl, (refl, tt)) (stops_ends is_word more h); says = refl }
  fixed_is f.Int more h is = record { kind = kind.Word; is = OneWord refl (refl, (refl, tt)) (stops_ends is_word more h); says = refl }
  fixed_is f.New more h is = record { kind = kind.Word; is = OneWord refl (refl, (refl, tt)) (stops_ends is_word more h); says = refl }
  fixed_is f.Null more h is = record { kind = kind.Word; is = OneWord refl (refl, (refl, (refl, tt))) (stops_ends is_word more h); says = refl }
  fixed_is f.If more h is = record { kind = kind.Word; is = OneWord refl (refl, tt) (stops_ends is_word more h); says = refl }
  fixed_is f.Else more h is = record { kind = kind.Word; is = OneWord refl (refl, (refl, (refl, tt))) (stops_ends is_word more h); says = refl }
  fixed_is f.While more h is = record { kind = kind.Word; is = OneWord refl (refl, (refl, (refl, (refl, tt)))) (stops_ends is_word more h); says = refl }
  fixed_is f.Return more h is = record { kind = kind.Word; is = OneWord refl (refl, (refl, (refl, (refl, (refl, tt))))) (stops_ends is_word more h); says = refl }
  fixed_is f.Emit more h is = record {
    kind = kind.Word;
    is = OneWord refl (refl, (refl, (refl, tt))) (stops_ends is_word more h);
    says = ap (λ n. word_lexis (codes "emit") (reserved n (codes "emit"))) is;
  }
  fixed_is f.LBrace more h is = record { kind = kind.Symbol; is = OneMark refl (alone 123 more (λ c. refl)); says = refl }
  fixed_is f.RBrace more h is = record { kind = kind.Symbol; is = OneMark refl (alone 125 more (λ c. refl)); says = refl }
  fixed_is f.LParen more h is = record { kind = kind.Symbol; is = OneMark refl (alone 40 more (λ c. refl)); says = refl }
  fixed_is f.RParen more h is = record { kind = kind.Symbol; is = OneMark refl (alone 41 more (λ c. refl)); says = refl }
  fixed_is f.Comma more h is = record { kind = kind.Symbol; is = OneMark refl (alone 44 more (λ c. refl)); says = refl }
  fixed_is f.Colon more h is = record { kind = kind.Symbol; is = OneMark refl (alone 58 more (λ c. refl)); says = refl }
  fixed_is f.Semicolon more h is = record { kind = kind.Symbol; is = OneMark refl (alone 59 more (λ c. refl)); says = refl }
  fixed_is f.Dot more h is = record { kind = kind.Symbol; is = OneMark refl (alone 46 more (λ c. refl)); says = refl }
  fixed_is f.Plus more h is = record { kind = kind.Symbol; is = OneMark refl (alone 43 more (λ c. refl)); says = refl }
  fixed_is f.Minus more h is = record { kind = kind.Symbol; is = OneMark refl (alone 45 more (λ c. refl)); says = refl }
  fixed_is f.Star more h is = record { kind = kind.Symbol; is = OneMark refl (alone 42 more (λ c. refl)); says = refl }
  fixed_is f.Slash more h is = record { kind = kind.Symbol; is = OneMark refl (alone 47 more (λ c. refl)); says = refl }
  fixed_is f.Percent more h is = record { kind = kind.Symbol; is = OneMark refl (alone 37 more (λ c. refl)); says = refl }
  fixed_is f.Less more h is = record { kind = kind.Symbol; is = OneMark refl (stops_ends (is_pair 60) more h); says = refl }
  fixed_is f.Assign more h is = record { kind = kind.Symbol; is = OneMark refl (stops_ends (is_pair 61) more h); says = refl }
  fixed_is f.LessEq more h is = record { kind = kind.Symbol; is = TwoMarks refl; says = refl }
  fixed_is f.Equal more h is = record { kind = kind.Symbol; is = TwoMarks refl; says = refl }
  fixed_is f.NotEqual more h is = record { kind = kind.Symbol; is = TwoMarks refl; says = refl }

  -- ---- names

  name_says : (bytes : List ℕ) → reserved v bytes ≡ None → lexis_of v kind.Word bytes ≡ lexis.Name bytes
  name_says bytes h = ap (word_lexis bytes) h

  letter_class : (b : ℕ) → is_letter b ≡ true → class_of b ≡ class.Letter
  letter_class b h = grind (arith, nat_tests, h)

  name_piece : (b : ℕ) (rest more : List ℕ) → is_letter b ≡ true → AllAre is_word rest → Ends is_word more → IsPiece (b ∷ rest) more (Some kind.Word)
  name_piece b rest more h pass ends = OneWord (letter_class b h) pass ends

  -- ---- numbers

  -- digits that say a number
  record Says (n : ℕ) (digits : List ℕ) : Type 0 where
    first : ℕ
    rest : List ℕ
    are : digits ≡ first ∷ rest
    pass : AllAre is_digit (first ∷ rest)
    is : value digits ≡ n

  digit_is : (d : ℕ) → d < 10 → is_digit (48 + d) ≡ true
  digit_is d h = grind (arith, nat_tests, h)

  digits_more : (digits : List ℕ) (d : ℕ) → AllAre is_digit digits → is_digit d ≡ true → AllAre is_digit (digits ++ d ∷ [])
  digits_more [] d pass h = (h, tt)
  digits_more (x ∷ digits) d pass h = (pass.0, digits_more digits d pass.1 h)

  one_says : (n : ℕ) → n < 10 → Says n ((48 + n) ∷ [])
  one_says n h = record { first = 48 + n; rest = []; are = refl; pass = (digit_is n h, tt); is = omega arith }

  last_digit : (n : ℕ) → 10 * (n / 10) + n % 10 ≡ n
  last_digit n = omega arith

  small_rest : (n : ℕ) → n % 10 < 10
  small_rest n = omega arith

  more_says : (n : ℕ) (digits : List ℕ) → 10 ≤ n → Says (n / 10) digits → Says n (digits ++ ((48 + n % 10) ∷ []))
  more_says n digits h says =
      let d = 48 + n % 10 in
      let pass : AllAre is_digit (says.first ∷ (says.rest ++ d ∷ [])) = digits_more (says.first ∷ says.rest) d says.pass (digit_is (n % 10) (small_rest n)) in
      let whole : value (digits ++ d ∷ []) ≡ next_value (value digits) d = fold-append next_value 0 digits (d ∷ []) in
      record {
        first = says.first;
        rest = says.rest ++ d ∷ [];
        are = ap (λ ds. ds ++ d ∷ []) says.are;
        pass = pass;
        is = whole ∙ ap (λ v. next_value v d) says.is ∙ omega (arith, last_digit n);
      }

  decimal_says : (n : ℕ) → n ≤ greatest → Says n (decimal n)
  decimal_says n h = decimal_by_steps Says one_says more_says n (omega (arith, h))

  digit_class : (b : ℕ) → is_digit b ≡ true → class_of b ≡ class.Digit
  digit_class b h = grind (arith, nat_tests, h)

  digits_piece : (n b : ℕ) (rest more : List ℕ) → AllAre is_digit (b ∷ rest) → value (b ∷ rest) ≡ n → n ≤ greatest → Ends is_digit more → IsPiece (b ∷ rest) more (Some (kind.Number n))
  digits_piece n b rest more pass is h ends =
      subst (λ k. IsPiece (b ∷ rest) more (Some (kind.Number k))) is (OneNumber (digit_class b pass.0) pass.1 ends (subst (λ k. k ≤ greatest) (sym is) h))

  number_piece : (n : ℕ) (more : List ℕ) → n ≤ greatest → Ends is_digit more → IsPiece (decimal n) more (Some (kind.Number n))
  number_piece n more h ends =
      let says = decimal_says n h in
      subst (λ ds. IsPiece ds more (Some (kind.Number n))) (sym says.are) (digits_piece n says.first says.rest more says.pass (ap value (sym says.are) ∙ says.is) h ends)

  -- the text of a number is a digit where the number is that digit
  is_digit_of : (d n : ℕ) → n ≤ greatest → decimal n ≡ (48 + d) ∷ [] → n ≡ d
  is_digit_of d n h e = sym (decimal_says n h).is ∙ ap value e ∙ omega arith

  digit_text : (d n : ℕ) → d < 10 → n ≤ greatest → is_text (decimal n) ((48 + d) ∷ []) ≡ (n == d)
  unfolding is_text
  digit_text d n small h =
      let tests = Decides-eqb n d in
      same_from_decides {P = n ≡ d} (bytes_eq (decimal n) ((48 + d) ∷ [])) (n == d)
      ((λ e. is_digit_of d n h ((bytes_eq-Decides (decimal n) ((48 + d) ∷ [])).0 e)), (λ e. (bytes_eq-Decides (decimal n) ((48 + d) ∷ [])).1 (ap decimal e ∙ decimal_digit d small))) tests

  number_says : (n : ℕ) → n ≤ greatest → lexis_of v (kind.Number n) (decimal n) ≡ number_lexis n
  number_says n h =
      ap (λ b. if b then lexis.One else (if is_text (decimal n) (codes "2") then lexis.Two else lexis.Number n)) (digit_text 1 n (omega arith) h)
      ∙ ap (λ b. if n == 1 then lexis.One else (if b then lexis.Two else lexis.Number n)) (digit_text 2 n (omega arith) h)

  -- ---- all pieces

  -- spaces before a line
  scan_indent : (level : ℕ) (before : List ℕ) (line : ℕ) (more : List ℕ) (lexes : List Lexis) → ((b : List ℕ) → Scanned b line more lexes) → Scanned before line (indentation level ++ more) lexes
  scan_indent zero before line more lexes later = later before
  scan_indent (suc level) before line more lexes later =
      scan_skip before line (32 ∷ []) (32 ∷ (indentation level ++ more)) lexes (OneBlank refl)
      (scan_skip (before ++ 32 ∷ []) line (32 ∷ []) (indentation level ++ more) lexes (OneBlank refl) (scan_indent level ((before ++ 32 ∷ []) ++ 32 ∷ []) line more lexes later))

  scan_piece : (p : Piece) (more : List ℕ) (lexes : List Lexis) → stops_piece p more ≡ true → IsToken v p → ((b : List ℕ) (l : ℕ) → Scanned b l more lexes) → (before : List ℕ) (line : ℕ)
      → Scanned before line (piece_text p ++ more) (piece_lexes p ++ lexes)
  scan_piece (Word g) more lexes h is later before line =
      let one = fixed_is g more h is in
      subst (λ l. Scanned before line (fixed_text g ++ more) (l ∷ lexes)) one.says (scan_take before line one.kind (fixed_text g) more lexes one.is (later (before ++ fixed_text g) line))
  scan_piece (Name []) more lexes h is later before line = absurd is
  scan_piece (Name (b ∷ rest)) more lexes h is later before line =
      subst (λ l. Scanned before line ((b ∷ rest) ++ more) (l ∷ lexes)) (name_says (b ∷ rest) is.2)
      (scan_take before line kind.Word (b ∷ rest) more lexes (name_piece b rest more is.0 is.1 (stops_ends is_word more h)) (later (before ++ b ∷ rest) line))
  scan_piece (Number n) more lexes h is later before line =
      subst (λ l. Scanned before line (decimal n ++ more) (l ∷ lexes)) (number_says n is)
      (scan_take before line (kind.Number n) (decimal n) more lexes (number_piece n more is (digit_ends more (stops_ends is_word more h))) (later (before ++ decimal n) line))
  scan_piece Space more lexes h is later before line = scan_skip before line (32 ∷ []) more lexes (OneBlank refl) (later (before ++ 32 ∷ []) line)
  scan_piece (Indent level) more lexes h is later before line = scan_indent level before line more lexes (λ b. later b line)
  scan_piece Feed more lexes h is later before line = scan_feed before line more lexes (later (before ++ 10 ∷ []) (line + 1))

  -- pieces that stay apart
  pub scan : (ps : List Piece) → are_apart ps ≡ true → AllByRecursion (IsToken v) ps → (before : List ℕ) (line : ℕ) → Scanned before line (text_of ps) (lexes_of ps)
  scan [] h are before line = scan_none before line
  scan (p ∷ ps) h are before line =
      let first : stops_piece p (text_of ps) ≡ true = (and_parts (stops_piece p (text_of ps)) (are_apart ps) h).0 in
      let rest : are_apart ps ≡ true = (and_parts (stops_piece p (text_of ps)) (are_apart ps) h).1 in
      scan_piece p (text_of ps) (lexes_of ps) first are.0 (scan ps rest are.1) before line
