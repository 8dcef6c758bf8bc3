-- The readers of sides, conditions and right sides read the texts of their rules.
use Rattle.std.proofs.Common.{◌≡◌, ℕ, zero, suc, Bool, true, false, List, [], ◌++◌, refl, sym, ap, ◌∙◌, subst, inl, inr, append_assoc}
use Rattle.std.specs.Prelude.{not, is_some, ◌&&◌}
use Rattle.std.proofs.lemmas.Bool.{and_parts, not-true}
use Rattle.dl_ir.specs.declared.expressions.Rel.TheVariants as rel
use Rattle.dl_grammar.specs.declared.lexeme.Fixed.{Fixed}
use Rattle.dl_grammar.specs.declared.lexeme.Fixed.TheVariants as f
use Rattle.dl_grammar.specs.declared.lexeme.Lexis.TheVariants as lexis
use Rattle.dl_grammar.specs.declared.lexeme.Lexeme.{Lexeme}
use Rattle.dl_grammar.specs.declared.fault.Bound.TheVariants.{Limit}
use Rattle.dl_grammar.specs.declared.fault.Which.TheVariants as which
use Rattle.dl_grammar.specs.declared.tree.Word.{Word}
use Rattle.dl_grammar.specs.declared.tree.Rhs.{Rhs}
use Rattle.dl_grammar.specs.declared.tree.Rhs.TheVariants as rhs
use Rattle.dl_grammar.specs.declared.tree.Side.{Side}
use Rattle.dl_grammar.specs.declared.tree.Side.TheVariants as side
use Rattle.dl_grammar.specs.declared.tree.TreeCond.{TreeCond}
use Rattle.dl_grammar.specs.declared.tree.TreeExpr.{TreeExpr}
use Rattle.dl_grammar.specs.declared.tree.TreeExpr.TheVariants as e
use Rattle.dl_grammar.specs.Grammar.{Ending, Read, Passed, Rule, One, Nothing, Empty, Then, Both, Cut, Or, Many, NoMore, OneMore, CutShort, Ahead, ahead, ◌>>=◌, pure, one, choose}
use Rattle.dl_grammar.specs.Rules as rule
use Rattle.dl_grammar.specs.Rules.{fixed, name, number, adding, scaling_in, scaling, one_more, relation_in, relation, free, Counted}
use Rattle.dl_grammar.specs.Readers as read
use Rattle.dl_grammar.specs.Readers.{comes}
use Rattle.dl_grammar.proofs.Good.{tail, Follows, Good, any, good_one}
use Rattle.dl_grammar.proofs.Rules.{Starts, starts_then, starts_or, good_narrow, good_then, good_follow, good_choose, Chosen, good_branch}
use Rattle.dl_grammar.proofs.GoodLexemes.{sample, seen, good_word, good_map, good_before, starts_fixed, starts_name, starts_number, starts_relation, starts_scaling, starts_adding}
use Rattle.dl_grammar.proofs.GoodExpressions.{Shows, ends_sum, ends_term, good_expression, expression_starts, good_term_behind, good_sum_behind, good_factor, behind_term}

-- a name, with any limit
pub good_name : Good (one name free) (One name free) any
good_name = good_one name free (sample (lexis.Name [])) (record { text = []; line = 1 }) refl

-- an expression begins with no other word or symbol than these
abbrev pub apart : (g : Fixed) → Type 0
apart g = Shows (comes (fixed g)) false

null_apart : apart f.Null
null_apart = record { minus = λ line. refl; bracket = λ line. refl; one_is = λ line. refl; two_is = λ line. refl; number_is = λ n line. refl; name_is = λ text line. refl }

new_apart : apart f.New
new_apart = record { minus = λ line. refl; bracket = λ line. refl; one_is = λ line. refl; two_is = λ line. refl; number_is = λ n line. refl; name_is = λ text line. refl }

no_bound : (o : Ahead) → ends_sum o ≡ true → any o ≡ true
no_bound o h = refl

word_starts : (g : Fixed) (test : Ahead → Bool) (b : Bool) → ((line : ℕ) → seen test (lexis.Fixed g) line ≡ b) → Starts (rule.word g) test b
word_starts g test b h = starts_fixed g free test b h

-- ---- sides and conditions
pub good_side : (room : ℕ) → Good (read.side_of room) (rule.side_of room) ends_sum
unfolding read.side_of
good_side room =
    good_choose (comes (fixed f.Null)) (good_narrow (good_map (λ (l : ℕ). side.Null) (good_word f.Null refl)) ends_sum no_bound) (good_map (λ (x : TreeExpr). side.Sum x) (good_expression room))
    (starts_then _ _ (comes (fixed f.Null)) true (word_starts f.Null (comes (fixed f.Null)) true (λ line. refl)))
    (λ e ws rest is h. starts_then _ _ (comes (fixed f.Null)) false (expression_starts room (comes (fixed f.Null)) false null_apart) e ws rest is)

relation_ends : (g : Fixed) (line : ℕ) → is_some (relation_in (lexis.Fixed g)) ≡ true → seen ends_sum (lexis.Fixed g) line ≡ true
relation_ends f.Less line h = refl
relation_ends f.LessEq line h = refl
relation_ends f.Equal line h = refl
relation_ends f.NotEqual line h = refl
relation_ends g line h = absurd (cc)

pub good_condition : (room : ℕ) → Good (read.condition room) (rule.condition room) ends_sum
unfolding read.condition
good_condition room =
    good_before (good_side room) (λ a. starts_then _ _ ends_sum true (starts_relation free ends_sum true relation_ends))
    (λ a. good_then (good_one relation free (sample (lexis.Fixed f.Less)) rel.Less refl)
    (λ r. good_map (λ (b : Side). let x : TreeCond = record { rel = r; left = a; right = b } in x) (good_side room)))

-- ---- right sides: a field, and a sum that begins with a name, begin alike
good_followed_from : (p : Word) → Good (read.followed_from p) (Then (rule.word f.Dot) (λ l. Then (One name free) (λ g. Nothing (rhs.Field p g)))) any
unfolding read.followed_from
good_followed_from p = good_then (good_word f.Dot refl) (λ l. good_map (λ g. rhs.Field p g) good_name)

-- what is left of a sum behind its first factor, a name
abbrev SumFrom : ℕ → Word → Rule Rhs
SumFrom room w = Then (Many (rule.operation scaling (rule.factor room)) (e.Name w, 0)) (λ t. Then (Many (rule.operation adding (rule.term (rule.factor room))) t) (λ x. Nothing (rhs.Sum x.0)))

good_sum_from : (room : ℕ) (w : Word) → Good (read.sum_from room w) (SumFrom room w) ends_sum
unfolding read.sum_from
good_sum_from room w =
    good_follow (good_term_behind (good_factor room) (e.Name w, 0)) (λ t. good_map (λ (x : Counted). rhs.Sum x.0) (good_sum_behind (good_factor room) t)) follows
  where
    follows : (t : Counted) (e : Ending Rhs) (ws rest : List Lexeme) → Then (Many (rule.operation adding (rule.term (rule.factor room))) t) (λ x. Nothing (rhs.Sum x.0)) e ws → Follows ends_sum e rest → ends_term (ahead (ws ++ tail e rest)) ≡ true
    follows t _ _ rest (Both {xs = xs} x is (Empty)) h = ap (λ ts. ends_term (ahead ts)) (append_assoc xs [] rest) ∙ behind_term (good_factor room) t (Read x) xs rest is h
    follows t _ ws rest (Cut {b = b} {t = u} is) h = behind_term (good_factor room) t (Passed b u) ws rest is tt

-- the same texts, grouped otherwise
assoc_to : {A B C : Type 0} (L : Rule A) (M : A → Rule B) (N : B → Rule C) (e : Ending C) (ws : List Lexeme) → Then (Then L M) N e ws → Then L (λ a. Then (M a) N) e ws
assoc_to L M N e _ (Both {ys = zs} b (Both {xs = xs} {ys = ys} a l m) n) = subst (Then L (λ a. Then (M a) N) e) (sym (append_assoc xs ys zs)) (Both a l (Both b m n))
assoc_to L M N _ ws (Cut (Both a l m)) = Both a l (Cut m)
assoc_to L M N _ ws (Cut (Cut l)) = Cut l

assoc_from : {A B C : Type 0} (L : Rule A) (M : A → Rule B) (N : B → Rule C) (e : Ending C) (ws : List Lexeme) → Then L (λ a. Then (M a) N) e ws → Then (Then L M) N e ws
assoc_from L M N e _ (Both {xs = xs} a l (Both {xs = ys} {ys = zs} b m n)) = subst (Then (Then L M) N e) (append_assoc xs ys zs) (Both b (Both a l m) n)
assoc_from L M N _ _ (Both a l (Cut m)) = Cut (Both a l m)
assoc_from L M N _ ws (Cut l) = Cut (Cut l)

then_map : {A B : Type 0} (L : Rule A) (M N : A → Rule B) → ((a : A) (e : Ending B) (ws : List Lexeme) → M a e ws → N a e ws) → (e : Ending B) (ws : List Lexeme) → Then L M e ws → Then L N e ws
then_map L M N h e _ (Both {ys = ys} a l m) = Both a l (h a e ys m)
then_map L M N h _ ws (Cut l) = Cut l

nothing_to : {A B : Type 0} (a : A) (M : A → Rule B) (e : Ending B) (ws : List Lexeme) → Then (Nothing a) M e ws → M a e ws
nothing_to a M e _ (Both _ (Empty) m) = m
nothing_to a M _ ws (Cut n) = absurd (never a _ _ ws n)
  where
    never : {A : Type 0} (a : A) (b : _) (t : Lexeme) (ws : List Lexeme) → Nothing a (Passed b t) ws → ⊥
    never a b t ws n = elim n [ ]

nothing_from : {A B : Type 0} (a : A) (M : A → Rule B) (e : Ending B) (ws : List Lexeme) → M a e ws → Then (Nothing a) M e ws
nothing_from a M e ws m = Both a Empty m

or_to : {A B : Type 0} (K L : Rule A) (M : A → Rule B) (e : Ending B) (ws : List Lexeme) → Then (Or K L) M e ws → Or (Then K M) (Then L M) e ws
or_to K L M e _ (Both a (inl k) m) = inl (Both a k m)
or_to K L M e _ (Both a (inr l) m) = inr (Both a l m)
or_to K L M _ ws (Cut (inl k)) = inl (Cut k)
or_to K L M _ ws (Cut (inr l)) = inr (Cut l)

-- a sum as its first factor and what is left
abbrev SumBehind : ℕ → Counted → Rule Rhs
SumBehind room x = Then (Many (rule.operation scaling (rule.factor room)) x) (λ t. Then (Many (rule.operation adding (rule.term (rule.factor room))) t) (λ y. Nothing (rhs.Sum y.0)))

abbrev SumRule : ℕ → Rule Rhs
SumRule room = Then (rule.expression room) (λ x. Nothing (rhs.Sum x))

module _ (room : ℕ) where
  abbrev F : Rule Counted
  F = rule.factor room 0

  abbrev Mu : Counted → Rule Counted
  Mu = Many (rule.operation scaling (rule.factor room))

  abbrev A : Counted → Rule Counted
  A = Many (rule.operation adding (rule.term (rule.factor room)))

  abbrev N1 : Counted → Rule TreeExpr
  N1 x = Nothing x.0

  abbrev N2 : TreeExpr → Rule Rhs
  N2 x = Nothing (rhs.Sum x)

  abbrev N : Counted → Rule Rhs
  N y = Nothing (rhs.Sum y.0)

  to_first : (e : Ending Rhs) (ws : List Lexeme) → SumRule room e ws → Then F (SumBehind room) e ws
  to_first e ws is =
      let one : Then (Then (Then F Mu) A) (λ x. Then (N1 x) N2) e ws = assoc_to (Then (Then F Mu) A) N1 N2 e ws is in
      let two : Then (Then (Then F Mu) A) N e ws = then_map (Then (Then F Mu) A) (λ x. Then (N1 x) N2) N (λ x f us n. nothing_to x.0 N2 f us n) e ws one in
      assoc_to F Mu (λ t. Then (A t) N) e ws (assoc_to (Then F Mu) A N e ws two)

  from_first : (e : Ending Rhs) (ws : List Lexeme) → Then F (SumBehind room) e ws → SumRule room e ws
  from_first e ws is =
      let two : Then (Then (Then F Mu) A) N e ws = assoc_from (Then F Mu) A N e ws (assoc_from F Mu (λ t. Then (A t) N) e ws is) in
      assoc_from (Then (Then F Mu) A) N1 N2 e ws (then_map (Then (Then F Mu) A) N (λ x. Then (N1 x) N2) (λ x f us n. nothing_from x.0 N2 f us n) e ws two)

-- a factor that is a name
abbrev Named : ℕ → (ℕ → Rule Counted) → Type 0
Named room inner = (e : Ending Counted) (ws : List Lexeme) → rule.variable 0 e ws → rule.factor_over room inner 0 e ws

variable_factor : (room : ℕ) (e : Ending Counted) (ws : List Lexeme) → rule.variable 0 e ws → rule.factor room 0 e ws
variable_factor zero e ws is = inr (inr (inr is))
variable_factor (suc room) e ws is = inr (inr (inr is))

then_first : {A B : Type 0} (K L : Rule A) (M : A → Rule B) → ((e : Ending A) (ws : List Lexeme) → K e ws → L e ws) → (e : Ending B) (ws : List Lexeme) → Then K M e ws → Then L M e ws
then_first K L M h e _ (Both {xs = xs} a k m) = Both a (h (Read a) xs k) m
then_first K L M h _ ws (Cut {b = b} {t = t} k) = Cut (h (Passed b t) ws k)

-- a name and what is left of a sum are a sum
name_sum : (room : ℕ) (g : Ending Rhs) (ws : List Lexeme) → Then (One name free) (SumFrom room) g ws → SumRule room g ws
name_sum room g ws is =
    from_first room g ws (then_first (rule.variable 0) (rule.factor room 0) (SumBehind room) (variable_factor room) g ws
    (assoc_from (One name free) (λ w. Nothing (e.Name w, 0)) (SumBehind room) g ws
    (then_map (One name free) (SumFrom room) (λ w. Then (Nothing (e.Name w, 0)) (SumBehind room)) (λ w f us m. nothing_from (e.Name w, 0) (SumBehind room) f us m) g ws is)))

-- and a sum that begins with a name is so
sum_name_over : (room : ℕ) (inner : ℕ → Rule Counted) (T : Counted → Rule Rhs) (g : Ending Rhs) (ws rest : List Lexeme) → Then (rule.factor_over room inner 0) T g ws → comes name (ahead (ws ++ tail g rest)) ≡ true → Then (rule.variable 0) T g ws
sum_name_over room inner T g ws rest is named =
    elim (or_to (rule.negation room inner 0) (Or (rule.bracket room inner 0) (Or (rule.literal 0) (rule.variable 0))) T g ws is) [
      | inl n ↦ let no = starts_then _ _ (comes name) false (starts_then _ _ (comes name) false (starts_fixed f.Minus (rule.level room) (comes name) false (λ line. refl))) g ws rest n in absurd (cc)
      | inr m ↦ elim (or_to (rule.bracket room inner 0) (Or (rule.literal 0) (rule.variable 0)) T g ws m) [
        | inl n ↦ let no = starts_then _ _ (comes name) false (starts_then _ _ (comes name) false (starts_fixed f.LParen (rule.level room) (comes name) false (λ line. refl))) g ws rest n in absurd (cc)
        | inr k ↦ elim (or_to (rule.literal 0) (rule.variable 0) T g ws k) [
          | inl n ↦ let no = starts_then _ _ (comes name) false (starts_then _ _ (comes name) false (starts_number (rule.at_most 9223372036854775807 (Limit which.Literal)) (comes name) false (λ line. refl) (λ line. refl) (λ n line. refl))) g ws rest n in absurd (cc)
          | inr v ↦ v
        ]
      ]
    ]

sum_name_factor : (room : ℕ) (T : Counted → Rule Rhs) (g : Ending Rhs) (ws rest : List Lexeme) → Then (rule.factor room 0) T g ws → comes name (ahead (ws ++ tail g rest)) ≡ true → Then (rule.variable 0) T g ws
sum_name_factor zero T g ws rest is h = sum_name_over zero (λ x. Or (rule.literal x) (rule.variable x)) T g ws rest is h
sum_name_factor (suc room) T g ws rest is h = sum_name_over (suc room) (rule.factor room) T g ws rest is h

sum_name : (room : ℕ) (g : Ending Rhs) (ws rest : List Lexeme) → SumRule room g ws → comes name (ahead (ws ++ tail g rest)) ≡ true → Then (One name free) (SumFrom room) g ws
sum_name room g ws rest is h =
    then_map (One name free) (λ w. Then (Nothing (e.Name w, 0)) (SumBehind room)) (SumFrom room) (λ w f us m. nothing_to (e.Name w, 0) (SumBehind room) f us m) g ws
    (assoc_to (One name free) (λ w. Nothing (e.Name w, 0)) (SumBehind room) g ws (sum_name_factor room (SumBehind room) g ws rest (to_first room g ws is) h))

abbrev FieldFrom : Word → Rule Rhs
FieldFrom p = Then (rule.word f.Dot) (λ l. Then (One name free) (λ g. Nothing (rhs.Field p g)))

abbrev NameSide : ℕ → Rule Rhs
NameSide room = Then (One name free) (λ w. Or (FieldFrom w) (SumFrom room w))

field_ends : (o : Ahead) → ends_sum o ≡ true → any o ≡ true
field_ends o h = refl

-- ---- what a repetition begins with
pub many_shows : {A : Type 0} (N : A → Rule A) (test : Ahead → Bool) (b : Bool) → ((a : A) → Starts (N a) test b) → (end : Ahead → Bool) → ((o : Ahead) → end o ≡ true → test o ≡ b) → (a : A) (e : Ending A) (ws rest : List Lexeme) → Many N a e ws → Follows end e rest → test (ahead (ws ++ tail e rest)) ≡ b
many_shows N test b starts end ends a _ _ rest (NoMore) h = ends (ahead rest) h
many_shows N test b starts end ends a e _ rest (OneMore {xs = xs} {ys = ys} c is next) h = ap (λ ts. test (ahead ts)) (append_assoc xs ys (tail e rest)) ∙ starts a (Read c) xs (ys ++ tail e rest) is
many_shows N test b starts end ends a _ ws rest (CutShort {b = c} {t} is) h = starts a (Passed c t) ws rest is

-- no operator and no dot comes next
abbrev pub no_dot : Ahead → Bool
no_dot o = not (comes (fixed f.Dot) o)

abbrev pub ends_right : Ahead → Bool
ends_right o = ends_sum o && no_dot o

right_sum : (o : Ahead) → ends_right o ≡ true → ends_sum o ≡ true
right_sum o h = (and_parts (ends_sum o) (no_dot o) h).0

right_dot : (o : Ahead) → ends_right o ≡ true → no_dot o ≡ true
right_dot o h = (and_parts (ends_sum o) (no_dot o) h).1

scaling_no_dot : (g : Fixed) (line : ℕ) → is_some (scaling_in (lexis.Fixed g)) ≡ true → seen no_dot (lexis.Fixed g) line ≡ true
scaling_no_dot f.Star line h = refl
scaling_no_dot f.Slash line h = refl
scaling_no_dot f.Percent line h = refl
scaling_no_dot g line h = absurd (cc)

same_end : (o : Ahead) → no_dot o ≡ true → no_dot o ≡ true
same_end o h = h

added_dot : (room : ℕ) (t : Counted) (g : Ending Rhs) (ws rest : List Lexeme) → Then (Many (rule.operation adding (rule.term (rule.factor room))) t) (λ x. Nothing (rhs.Sum x.0)) g ws → Follows ends_right g rest → no_dot (ahead (ws ++ tail g rest)) ≡ true
added_dot room t _ _ rest (Both {xs = xs} x is (Empty)) h =
    ap (λ ts. no_dot (ahead ts)) (append_assoc xs [] rest)
    ∙ many_shows (rule.operation adding (rule.term (rule.factor room))) no_dot true (λ c. starts_then _ _ no_dot true (starts_adding (one_more 256 c.1 (Limit which.Operators)) no_dot true (λ line. refl) (λ line. refl))) ends_right right_dot t (Read x) xs rest is h
added_dot room t _ ws rest (Cut {b = b} {t = u} is) h =
    many_shows (rule.operation adding (rule.term (rule.factor room))) no_dot true (λ c. starts_then _ _ no_dot true (starts_adding (one_more 256 c.1 (Limit which.Operators)) no_dot true (λ line. refl) (λ line. refl))) ends_right right_dot t (Passed b u) ws rest is tt

-- what is left of a sum behind a name does not begin with a dot
not_dot : (room : ℕ) (w : Word) (g : Ending Rhs) (ws rest : List Lexeme) → SumFrom room w g ws → Follows ends_right g rest → no_dot (ahead (ws ++ tail g rest)) ≡ true
not_dot room w g _ rest (Both {xs = xs} {ys = ys} t is next) h =
    ap (λ ts. no_dot (ahead ts)) (append_assoc xs ys (tail g rest))
    ∙ many_shows (rule.operation scaling (rule.factor room)) no_dot true (λ c. starts_then _ _ no_dot true (starts_scaling (one_more 256 c.1 (Limit which.Operators)) no_dot true scaling_no_dot)) no_dot same_end (e.Name w, 0) (Read t) xs (ys ++ tail g rest) is (added_dot room t g ys rest next h)
not_dot room w _ ws rest (Cut {b = b} {t = u} is) h =
    many_shows (rule.operation scaling (rule.factor room)) no_dot true (λ c. starts_then _ _ no_dot true (starts_scaling (one_more 256 c.1 (Limit which.Operators)) no_dot true scaling_no_dot)) no_dot same_end (e.Name w, 0) (Passed b u) ws rest is tt

right_any : (o : Ahead) → ends_right o ≡ true → any o ≡ true
right_any o h = refl

good_named_side : (room : ℕ) → Good (read.named_side room) (NameSide room) ends_right
unfolding read.named_side
good_named_side room = good_then good_name (λ w. good_choose (comes (fixed f.Dot)) (good_narrow (good_followed_from w) ends_right right_any) (good_narrow (good_sum_from room w) ends_right right_sum)
    (starts_then _ _ (comes (fixed f.Dot)) true (word_starts f.Dot (comes (fixed f.Dot)) true (λ line. refl)))
    (λ g ws rest is h. not-true _ (not_dot room w g ws rest is h)))

-- NAME "." NAME, or a sum
abbrev FieldOrSum : ℕ → Rule Rhs
FieldOrSum room = Or rule.followed (SumRule room)

named_to : (room : ℕ) (g : Ending Rhs) (ws : List Lexeme) → NameSide room g ws → FieldOrSum room g ws
named_to room g _ (Both w nm (inl fld)) = inl (Both w nm fld)
named_to room g _ (Both {xs = xs} {ys = ys} w nm (inr sm)) = inr (name_sum room g (xs ++ ys) (Both w nm sm))
named_to room _ ws (Cut nm) = inl (Cut nm)

named_back : (room : ℕ) (g : Ending Rhs) (ws : List Lexeme) → Then (One name free) (SumFrom room) g ws → NameSide room g ws
named_back room g _ (Both w nm sm) = Both w nm (inr sm)
named_back room _ ws (Cut nm) = Cut nm

followed_back : (room : ℕ) (g : Ending Rhs) (ws : List Lexeme) → rule.followed g ws → NameSide room g ws
followed_back room g _ (Both w nm fld) = Both w nm (inl fld)
followed_back room _ ws (Cut nm) = Cut nm

side_apart : (room : ℕ) (g : Ending Rhs) (ws rest : List Lexeme) → FieldOrSum room g ws → (b : Bool) → comes name (ahead (ws ++ tail g rest)) ≡ b → Chosen b (NameSide room g ws) (SumRule room g ws)
side_apart room g ws rest (inl fld) true h = followed_back room g ws fld
side_apart room g ws rest (inl fld) false h = let yes = starts_then _ _ (comes name) true (starts_name free (comes name) true (λ text line. refl)) g ws rest fld in absurd (cc)
side_apart room g ws rest (inr sm) true h = named_back room g ws (sum_name room g ws rest sm h)
side_apart room g ws rest (inr sm) false h = sm

good_field_or_sum : (room : ℕ) → Good (choose (comes name) (read.named_side room) (read.expression room >>= λ x. pure (rhs.Sum x))) (FieldOrSum room) ends_right
good_field_or_sum room =
    good_branch (comes name) (good_named_side room) (good_narrow (good_map (λ (x : TreeExpr). rhs.Sum x) (good_expression room)) ends_right right_sum)
    (named_to room) (λ g ws is. inr is) (side_apart room)

field_or_sum_starts : (room : ℕ) (g : Fixed) → apart g → ((text : List ℕ) (line : ℕ) → seen (comes (fixed g)) (lexis.Name text) line ≡ false) → Starts (FieldOrSum room) (comes (fixed g)) false
field_or_sum_starts room g s n = starts_or rule.followed (SumRule room) (comes (fixed g)) false (starts_then _ _ (comes (fixed g)) false (starts_name free (comes (fixed g)) false n)) (starts_then _ _ (comes (fixed g)) false (expression_starts room (comes (fixed g)) false s))

pub good_right_side : (room : ℕ) → Good (read.right_side room) (rule.right_side room) ends_right
unfolding read.right_side
good_right_side room =
    good_choose (comes (fixed f.Null)) (good_narrow (good_map (λ (l : ℕ). rhs.Null) (good_word f.Null refl)) ends_right right_any)
    (good_choose (comes (fixed f.New)) (good_narrow (good_then (good_word f.New refl) (λ l. good_map (λ k. rhs.New k) good_name)) ends_right right_any) (good_field_or_sum room)
    (starts_then _ _ (comes (fixed f.New)) true (word_starts f.New (comes (fixed f.New)) true (λ line. refl)))
    (λ g ws rest is h. field_or_sum_starts room f.New new_apart (λ text line. refl) g ws rest is))
    (starts_then _ _ (comes (fixed f.Null)) true (word_starts f.Null (comes (fixed f.Null)) true (λ line. refl)))
    (λ g ws rest is h. starts_or (Then (rule.word f.New) (λ l. Then (One name free) (λ k. Nothing (rhs.New k)))) (FieldOrSum room) (comes (fixed f.Null)) false
    (starts_then _ _ (comes (fixed f.Null)) false (word_starts f.New (comes (fixed f.Null)) false (λ line. refl))) (field_or_sum_starts room f.Null null_apart (λ text line. refl)) g ws rest is)
