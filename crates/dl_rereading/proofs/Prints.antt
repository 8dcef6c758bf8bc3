-- How lexemes that say what some pieces say are a text of a rule.
use Rattle.std.proofs.Common.{◌≡◌, ℕ, Bool, true, false, List, [], ◌∷◌, ◌++◌, Option, Some, None, refl, sym, ap, ◌∙◌, map, subst, inl, inr, if◌then◌else◌}
use Rattle.std.specs.Prelude.{◌==◌}
use Rattle.std.specs.List.{flat_map}
use Rattle.std.proofs.lemmas.Bool.{eqb-true}
use Rattle.std.proofs.lemmas.Grind.{flat_map-append}
use Rattle.std.proofs.lemmas.List.{append-nil, append_assoc, map-append}
use denote.Enum.Bare.{sameb}
use Rattle.dl_grammar.specs.contracts.lexeme.Fixed.{the_type}
use Rattle.dl_grammar.specs.declared.lexeme.Fixed.{Fixed}
use Rattle.dl_grammar.specs.declared.lexeme.Lexis.{Lexis}
use Rattle.dl_grammar.specs.declared.lexeme.Lexis.TheVariants as lexis
use Rattle.dl_grammar.specs.declared.lexeme.Lexeme.{Lexeme}
use Rattle.dl_grammar.specs.declared.fault.Bound.{Bound}
use Rattle.dl_grammar.specs.declared.tree.Word.{Word as Words}
use Rattle.dl_grammar.specs.Grammar.{Read, Rule, One, Within, Nothing, Empty, Then, Both, Or, Many, NoMore, OneMore}
use Rattle.dl_grammar.specs.Rules.{fixed, name, number, number_in, word, free}
use Rattle.dl_print.specs.Canonical.{Piece, Word, Name, Number, Space, Indent, Feed, piece_lexes, number_lexis, lexes_of}
use Rattle.dl_rereading.specs.Rereading.{said}

-- a text of the rule, whose value is so
pub record Made {A : Type 0} (L : Rule A) (vs : List Lexeme) (P : A → Type 0) : Type 0 where
  pub value : A
  pub text : L (Read value) vs
  pub so : P value

-- whatever lexemes say what the pieces say, they are a text of the rule, whose value is so
pub record Prints {A : Type 0} (L : Rule A) (pieces : List Piece) (P : A → Type 0) : Type 0 where
  pub made : (vs : List Lexeme) → said vs ≡ lexes_of pieces → Made L vs P

record Split (xs ys : List Lexis) (vs : List Lexeme) : Type 0 where
  left : List Lexeme
  right : List Lexeme
  whole : vs ≡ left ++ right
  left_says : said left ≡ xs
  right_says : said right ≡ ys

split : (xs ys : List Lexis) (vs : List Lexeme) → said vs ≡ xs ++ ys → Split xs ys vs
split [] ys vs h = record { left = []; right = vs; whole = refl; left_says = refl; right_says = h }
split (x ∷ xs) ys [] h = absurd (cc)
split (x ∷ xs) ys (v ∷ vs) h =
    let tails : said vs ≡ xs ++ ys = cc in
    let heads : v.lexis ≡ x = cc in
    let rest = split xs ys vs tails in
    record {
      left = v ∷ rest.left;
      right = rest.right;
      whole = ap (λ ws. v ∷ ws) rest.whole;
      left_says = ap (λ y. y ∷ said rest.left) heads ∙ ap (λ ys. x ∷ ys) rest.left_says;
      right_says = rest.right_says;
    }

pub prints_then : {A B : Type 0} {L : Rule A} {M : A → Rule B} {ps qs : List Piece} {P : A → Type 0} {Q : B → Type 0}
    → Prints L ps P → ((a : A) → P a → Prints (M a) qs Q) → Prints (Then L M) (ps ++ qs) Q
prints_then {A} {B} {L} {M} {ps} {qs} {P} {Q} first second = record { made = go }
  where
    go : (vs : List Lexeme) → said vs ≡ lexes_of (ps ++ qs) → Made (Then L M) vs Q
    go vs h =
        let parts = split (lexes_of ps) (lexes_of qs) vs (h ∙ flat_map-append piece_lexes ps qs) in
        let one = first.made parts.left parts.left_says in
        let two = (second one.value one.so).made parts.right parts.right_says in
        record { value = two.value; text = subst (λ ws. Then L M (Read two.value) ws) (sym parts.whole) (Both one.value one.text two.text); so = two.so }

pub prints_nothing : {A : Type 0} {a : A} {P : A → Type 0} → P a → Prints (Nothing a) [] P
prints_nothing {A} {a} {P} h = record { made = go }
  where
    go : (vs : List Lexeme) → said vs ≡ [] → Made (Nothing a) vs P
    go [] e = record { value = a; text = Empty; so = h }
    go (v ∷ vs) e = absurd (cc)

-- what a lexeme that says this is to a rule of one lexeme, whatever its line
pub record Taken {A : Type 0} (value : Lexeme → Option A) (limit : A → Option Bound) (x : Lexis) (P : A → Type 0) (line : ℕ) : Type 0 where
  pub is : A
  pub valued : value (record { lexis = x; line = line }) ≡ Some is
  pub free : limit is ≡ None
  pub so : P is

pub prints_one : {A : Type 0} {value : Lexeme → Option A} {limit : A → Option Bound} {P : A → Type 0} (p : Piece) (x : Lexis) → piece_lexes p ≡ x ∷ []
    → ((line : ℕ) → Taken value limit x P line) → Prints (One value limit) (p ∷ []) P
prints_one {A} {value} {limit} {P} p x one h = record { made = λ vs e. go vs (e ∙ ap (λ xs. xs ++ []) one) }
  where
    go : (vs : List Lexeme) → said vs ≡ x ∷ [] → Made (One value limit) vs P
    go [] e = absurd (cc)
    go (v ∷ w ∷ vs) e = absurd (cc)
    go (v ∷ []) e =
        let same : v.lexis ≡ x = cc in
        let it = h v.line in
        record { value = it.is; text = Within v it.is (ap (λ y. value (record { lexis = y; line = v.line })) same ∙ it.valued) it.free; so = it.so }

-- white space says nothing
pub spaced : {A : Type 0} {L : Rule A} {ps : List Piece} {P : A → Type 0} → Prints L ps P → Prints L (Space ∷ ps) P
spaced h = record { made = h.made }

pub indented : {A : Type 0} {L : Rule A} {level : ℕ} {ps : List Piece} {P : A → Type 0} → Prints L ps P → Prints L (Indent level ∷ ps) P
indented h = record { made = h.made }

pub fed : {A : Type 0} {L : Rule A} {ps : List Piece} {P : A → Type 0} → Prints L ps P → Prints L (Feed ∷ ps) P
fed h = record { made = h.made }

pub in_first : {A : Type 0} {L M : Rule A} {ps : List Piece} {P : A → Type 0} → Prints L ps P → Prints (Or L M) ps P
in_first {A} {L} {M} {ps} {P} h = record { made = λ vs e. let one = h.made vs e in record { value = one.value; text = inl one.text; so = one.so } }

pub in_second : {A : Type 0} {L M : Rule A} {ps : List Piece} {P : A → Type 0} → Prints M ps P → Prints (Or L M) ps P
in_second {A} {L} {M} {ps} {P} h = record { made = λ vs e. let one = h.made vs e in record { value = one.value; text = inr one.text; so = one.so } }

pub prints_so : {A : Type 0} {L : Rule A} {ps : List Piece} {P Q : A → Type 0} → ((a : A) → P a → Q a) → Prints L ps P → Prints L ps Q
prints_so h all = record { made = λ vs e. let one = all.made vs e in record { value = one.value; text = one.text; so = h one.value one.so } }

-- pieces that are the same
pub prints_as : {A : Type 0} {L : Rule A} {ps qs : List Piece} {P : A → Type 0} → ps ≡ qs → Prints L ps P → Prints L qs P
prints_as {A} {L} {ps} {qs} {P} same h = subst (λ rs. Prints L rs P) same h

-- ---- repetitions

many_append : {A : Type 0} {N : A → Rule A} {a b c : A} {xs ys : List Lexeme} → Many N a (Read b) xs → N b (Read c) ys → Many N a (Read c) (xs ++ ys)
many_append {A} {N} {a} {b} {c} {xs} {ys} before turn = go a b xs before turn
  where
    go : (a b : A) (xs : List Lexeme) → Many N a (Read b) xs → N b (Read c) ys → Many N a (Read c) (xs ++ ys)
    go a _ _ (NoMore) turn = subst (λ ws. Many N a (Read c) ws) (append-nil ys) (OneMore c turn NoMore)
    go a b _ (OneMore {xs = us} {ys = ws} next is more) turn = subst (λ ts. Many N a (Read c) ts) (sym (append_assoc us ws ys)) (OneMore next is (go next b ws more turn))

-- a text of a rule, and no turn behind it
pub prints_once : {A : Type 0} {L : Rule A} {N : A → Rule A} {ps : List Piece} {P : A → Type 0} → Prints L ps P → Prints (Then L (Many N)) ps P
prints_once {A} {L} {N} {ps} {P} h = record { made = go }
  where
    go : (vs : List Lexeme) → said vs ≡ lexes_of ps → Made (Then L (Many N)) vs P
    go vs e =
        let one = h.made vs e in
        record { value = one.value; text = subst (λ ws. Then L (Many N) (Read one.value) ws) (append-nil vs) (Both one.value one.text NoMore); so = one.so }

then_turn : {A : Type 0} {L : Rule A} {N : A → Rule A} {b c : A} {xs ys : List Lexeme} → Then L (Many N) (Read b) xs → N b (Read c) ys → Then L (Many N) (Read c) (xs ++ ys)
then_turn {A} {L} {N} {b} {c} {xs} {ys} before turn = go xs before
  where
    go : (xs : List Lexeme) → Then L (Many N) (Read b) xs → Then L (Many N) (Read c) (xs ++ ys)
    go _ (Both {xs = us} {ys = ws} a is more) = subst (λ ts. Then L (Many N) (Read c) ts) (sym (append_assoc us ws ys)) (Both a is (many_append more turn))

-- one turn more
pub prints_turn : {A : Type 0} {L : Rule A} {N : A → Rule A} {ps qs : List Piece} {P Q : A → Type 0}
    → Prints (Then L (Many N)) ps P → ((a : A) → P a → Prints (N a) qs Q) → Prints (Then L (Many N)) (ps ++ qs) Q
prints_turn {A} {L} {N} {ps} {qs} {P} {Q} first second = record { made = go }
  where
    go : (vs : List Lexeme) → said vs ≡ lexes_of (ps ++ qs) → Made (Then L (Many N)) vs Q
    go vs h =
        let parts = split (lexes_of ps) (lexes_of qs) vs (h ∙ flat_map-append piece_lexes ps qs) in
        let one = first.made parts.left parts.left_says in
        let two = (second one.value one.so).made parts.right parts.right_says in
        record { value = two.value; text = subst (λ ws. Then L (Many N) (Read two.value) ws) (sym parts.whole) (then_turn one.text two.text); so = two.so }

prints_none : {A : Type 0} {N : A → Rule A} {a : A} {P : A → Type 0} → P a → Prints (Many N a) [] P
prints_none {A} {N} {a} {P} h = record { made = go }
  where
    go : (vs : List Lexeme) → said vs ≡ [] → Made (Many N a) vs P
    go [] e = record { value = a; text = NoMore; so = h }
    go (v ∷ vs) e = absurd (cc)

prints_more : {A : Type 0} {N : A → Rule A} {a : A} {ps qs : List Piece} {P Q : A → Type 0}
    → Prints (N a) ps P → ((b : A) → P b → Prints (Many N b) qs Q) → Prints (Many N a) (ps ++ qs) Q
prints_more {A} {N} {a} {ps} {qs} {P} {Q} first second = record { made = go }
  where
    go : (vs : List Lexeme) → said vs ≡ lexes_of (ps ++ qs) → Made (Many N a) vs Q
    go vs h =
        let parts = split (lexes_of ps) (lexes_of qs) vs (h ∙ flat_map-append piece_lexes ps qs) in
        let one = first.made parts.left parts.left_says in
        let two = (second one.value one.so).made parts.right parts.right_says in
        record { value = two.value; text = subst (λ ws. Many N a (Read two.value) ws) (sym parts.whole) (OneMore one.value one.text two.text); so = two.so }

-- ---- shorter forms

-- a lexeme, and what follows it
pub prints_lead : {A B : Type 0} {value : Lexeme → Option A} {limit : A → Option Bound} {M : A → Rule B} {p : Piece} {qs : List Piece} {P : A → Type 0} {Q : B → Type 0}
    → Prints (One value limit) (p ∷ []) P → ((a : A) → P a → Prints (M a) qs Q) → Prints (Then (One value limit) M) (p ∷ qs) Q
prints_lead {A} {B} {value} {limit} {M} {p} {qs} {P} {Q} first second = prints_then {ps = p ∷ []} {qs = qs} first second

-- a text, and nothing behind it
pub prints_last : {A B : Type 0} {L : Rule A} {M : A → Rule B} {ps : List Piece} {P : A → Type 0} {Q : B → Type 0}
    → Prints L ps P → ((a : A) → P a → Prints (M a) [] Q) → Prints (Then L M) ps Q
prints_last {A} {B} {L} {M} {ps} {P} {Q} first second = prints_as (append-nil ps) (prints_then {ps = ps} {qs = []} first second)

-- pieces that are grouped otherwise
pub prints_grouped : {A : Type 0} {L : Rule A} {P : A → Type 0} (ps qs rs : List Piece) → Prints L (ps ++ (qs ++ rs)) P → Prints L ((ps ++ qs) ++ rs) P
prints_grouped ps qs rs h = prints_as (sym (append_assoc ps qs rs)) h

-- a reserved word or a symbol, whatever its limit
pub prints_fixed : (g : Fixed) (limit : ℕ → Option Bound) → sameb the_type g g ≡ true → ((line : ℕ) → limit line ≡ None) → Prints (One (fixed g) limit) (Word g ∷ []) (λ l. Unit {0})
prints_fixed g limit same h = prints_one (Word g) (lexis.Fixed g) refl (λ line. record { is = line; valued = ap (λ (b : Bool). if b then Some line else None) same; free = h line; so = tt })

-- a reserved word or a symbol, and what follows it
pub prints_word : {B : Type 0} {M : ℕ → Rule B} {qs : List Piece} {Q : B → Type 0} (g : Fixed) → sameb the_type g g ≡ true
    → ((l : ℕ) → Prints (M l) qs Q) → Prints (Then (word g) M) (Word g ∷ qs) Q
prints_word {B} {M} {qs} {Q} g same second = prints_lead (prints_fixed g free same (λ line. refl)) (λ l t. second l)

-- a name
pub prints_name : (limit : Words → Option Bound) (text : List ℕ) → ((w : Words) → limit w ≡ None) → Prints (One name limit) (Name text ∷ []) (λ w. w.text ≡ text)
prints_name limit text h = prints_one (Name text) (lexis.Name text) refl (λ line. record { is = record { text = text; line = line }; valued = refl; free = h (record { text = text; line = line }); so = refl })

-- a name and what follows it, where no limit is tested
pub prints_free_name : {B : Type 0} {M : Words → Rule B} {qs : List Piece} {Q : B → Type 0} (text : List ℕ)
    → ((w : Words) → w.text ≡ text → Prints (M w) qs Q) → Prints (Then (One name free) M) (Name text ∷ qs) Q
prints_free_name {B} {M} {qs} {Q} text second = prints_lead (prints_name free text (λ w. refl)) second

-- what a number says is its value
valued_number : (n : ℕ) (one two : Bool) → (n == 1) ≡ one → (n == 2) ≡ two → number_in (if one then lexis.One else (if two then lexis.Two else lexis.Number n)) ≡ Some n
valued_number n true two h k = ap Some (sym (eqb-true n 1 h))
valued_number n false true h k = ap Some (sym (eqb-true n 2 k))
valued_number n false false h k = refl

-- a number
pub prints_number : (limit : ℕ → Option Bound) (n : ℕ) → limit n ≡ None → Prints (One number limit) (Number n ∷ []) (λ m. m ≡ n)
prints_number limit n h = prints_one (Number n) (number_lexis n) refl (λ line. record { is = n; valued = valued_number n (n == 1) (n == 2) refl refl; free = h; so = refl })

-- ---- lists

module _ {S : Type 0} (May : List S → S → Type 0) where
  -- each may stand behind those before it
  abbrev pub AllMay : List S → List S → Type 0
  AllMay done [] = Unit {0}
  AllMay done (s ∷ more) = May done s × AllMay (done ++ s ∷ []) more

  pub all_may_push : (done more : List S) (s : S) → AllMay done more → May (done ++ more) s → AllMay done (more ++ s ∷ [])
  all_may_push done [] s h may = (subst (λ xs. May xs s) (append-nil done) may, tt)
  all_may_push done (t ∷ more) s h may = (h.0, all_may_push (done ++ t ∷ []) more s h.1 (subst (λ xs. May xs s) (sym (append_assoc done (t ∷ []) more)) may))

  -- each of a list, where the first ones make a value ready for what may stand behind them
  pub prints_list : {A : Type 0} (Ready : List S → A → Type 0) (N : A → Rule A) (pieces : S → List Piece)
      → ((done : List S) (s : S) (a : A) → Ready done a → May done s → Prints (N a) (pieces s) (Ready (done ++ s ∷ [])))
      → (done more : List S) → AllMay done more → (a : A) → Ready done a → Prints (Many N a) (flat_map pieces more) (Ready (done ++ more))
  prints_list Ready N pieces turn done [] h a ready = prints_none (subst (λ xs. Ready xs a) (sym (append-nil done)) ready)
  prints_list Ready N pieces turn done (s ∷ more) h a ready =
      prints_more (turn done s a ready h.0) (λ b again. subst (λ xs. Prints (Many N b) (flat_map pieces more) (Ready xs)) (append_assoc done (s ∷ []) more)
      (prints_list Ready N pieces turn (done ++ s ∷ []) more h.1 b again))

-- lists that are the same in a way stay so with one more each
pub same_push : {S K : Type 0} (key : S → K) (xs ys : List S) (x y : S) → map key xs ≡ map key ys → key x ≡ key y → map key (xs ++ x ∷ []) ≡ map key (ys ++ y ∷ [])
same_push key xs ys x y h last =
    map-append key xs (x ∷ []) ∙ ap (λ ks. ks ++ key x ∷ []) h ∙ ap (λ k. map key ys ++ k ∷ []) last ∙ sym (map-append key ys (y ∷ []))
