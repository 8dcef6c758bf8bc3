-- Fields, kinds and vars that are spelled are spelled by their pieces.
use Rattle.std.proofs.Common.{◌≡◌, ℕ, ◌+◌, Bool, true, false, List, [], ◌∷◌, ◌++◌, map, length, None, refl, sym, ap, ◌∙◌, subst, if◌then◌else◌, arith}
use Rattle.std.specs.Prelude.{sum_by, codes}
use Rattle.std.specs.Str.{bytes_eq}
use Rattle.std.specs.List.{flat_map}
use Rattle.std.proofs.lemmas.List.{length-map}
use Rattle.std.proofs.lemmas.List.Sums.{sum_by_push}
use Rattle.std.proofs.lemmas.Slice.Eq.{bytes_eq-Decides}
use Rattle.dl_grammar.specs.declared.lexeme.Fixed.TheVariants as f
use Rattle.dl_grammar.specs.declared.lexeme.Lexis.TheVariants as lexis
use Rattle.dl_grammar.specs.declared.fault.Bound.{Bound}
use Rattle.dl_grammar.specs.declared.fault.Bound.TheVariants.{Limit}
use Rattle.dl_grammar.specs.declared.fault.Which.TheVariants as which
use Rattle.dl_grammar.specs.declared.tree.Word.{Word as Words}
use Rattle.dl_grammar.specs.declared.tree.TreeField.{TreeField}
use Rattle.dl_grammar.specs.declared.tree.TreeKind.{TreeKind}
use Rattle.dl_grammar.specs.Grammar.{One, Then, Nothing, Many}
use Rattle.dl_grammar.specs.Rules as rule
use Rattle.dl_grammar.specs.Rules.{name, type_name, number, free, one_more, more_roots, word, Kinds}
use Rattle.dl_grammar.proofs.Always.{Always, always_one, always_nothing, always_then, always_behind, always_weaken, always_or, always_many}
use Rattle.dl_print.specs.Canonical.{Word, Name, Number, Space, Feed, type_piece, field_pieces, next_field, fields_pieces, kind_fields, kind_line, vars_line}
use Rattle.dl_rereading.specs.Lines.{unlined_word, unlined_field, unlined_kind}
use Rattle.dl_rereading.proofs.Prints.{Prints, AllMay, all_may_push, prints_list, same_push, prints_then, prints_last, prints_lead, prints_nothing, prints_one, prints_word, prints_name, prints_number, spaced, indented, fed, in_first, in_second}
use Rattle.dl_rereading.proofs.Equations.{same_word}

-- ---- one field

type_by : (text : List ℕ) (b : Bool) → bytes_eq text (codes "int") ≡ b → Prints (One type_name free) ((if b then Word f.Int else Name text) ∷ []) (λ w. w.text ≡ text)
type_by text true is = prints_one (Word f.Int) (lexis.Fixed f.Int) refl
    (λ line. record { is = record { text = codes "int"; line = line }; valued = refl; free = refl; so = sym ((bytes_eq-Decides text (codes "int")).0 is) })
type_by text false is = prints_one (Name text) (lexis.Name text) refl (λ line. record { is = record { text = text; line = line }; valued = refl; free = refl; so = refl })

prints_type : (text : List ℕ) → Prints (One type_name free) (type_piece text ∷ []) (λ w. w.text ≡ text)
prints_type text = type_by text (bytes_eq text (codes "int")) refl

same_field : (w t : Words) (x : TreeField) → w.text ≡ x.name.text → t.text ≡ x.ty.text → unlined_field (record { name = w; ty = t }) ≡ unlined_field x
same_field w t x named typed =
    ap (λ (u : Words). let y : TreeField = record { name = u; ty = unlined_word t } in y) (same_word w x.name named)
    ∙ ap (λ (u : Words). let y : TreeField = record { name = unlined_word x.name; ty = u } in y) (same_word t x.ty typed)

prints_field : (most stand : ℕ) (bound : Bound) (x : TreeField) → one_more most stand bound x ≡ None → Prints (rule.field most bound stand) (field_pieces x) (λ y. unlined_field y ≡ unlined_field x)
prints_field most stand bound x some =
    prints_lead (prints_name (one_more most stand bound) x.name.text (λ w. some)) (λ w is. prints_word f.Colon refl (λ l. spaced
    (prints_last (prints_type x.ty.text) (λ t is_t. prints_nothing (same_field w t x is is_t)))))

-- ---- fields with commas between

abbrev pub SameFields : List TreeField → List TreeField → Type 0
SameFields all other = map unlined_field other ≡ map unlined_field all

pub as_many : (all other : List TreeField) → SameFields all other → length all ≡ length other
as_many all other same = sym (length-map all unlined_field) ∙ ap length (sym same) ∙ length-map other unlined_field

-- a field may stand behind others
abbrev FieldMay : ℕ → ℕ → Bound → List TreeField → TreeField → Type 0
FieldMay most stand bound done x = one_more most (stand + length done) bound x ≡ None

-- there is a field, and each may stand where it is
pub record FieldsSo (most stand : ℕ) (bound : Bound) (all : List TreeField) : Type 0 where
  pub first : TreeField
  pub more : List TreeField
  pub is : all ≡ first ∷ more
  pub may : AllMay (FieldMay most stand bound) [] (first ∷ more)

always_field : (most : ℕ) (bound : Bound) (stand : ℕ) → Always (λ x. one_more most stand bound x ≡ None) (rule.field most bound stand)
always_field most bound stand =
    always_then (always_one (λ (w : Words). one_more most stand bound w ≡ None) _ _ (λ t w is some. some)) (λ w some. always_behind (λ l. always_behind (λ t. always_nothing _ _ some)))

first_so : (most stand : ℕ) (bound : Bound) (first : TreeField) → one_more most stand bound first ≡ None → FieldsSo most stand bound (first ∷ [])
first_so most stand bound first some =
    let none : stand ≡ stand + 0 = omega arith in
    record { first = first; more = []; is = refl; may = (subst (λ k. one_more most k bound first ≡ None) none some, tt) }

next_so : (most stand : ℕ) (bound : Bound) (before : List TreeField) → FieldsSo most stand bound before → (x : TreeField) → FieldMay most stand bound before x → FieldsSo most stand bound (before ++ x ∷ [])
next_so most stand bound before h x some = record {
  first = h.first;
  more = h.more ++ x ∷ [];
  is = ap (λ xs. xs ++ x ∷ []) h.is;
  may = all_may_push (FieldMay most stand bound) [] (h.first ∷ h.more) x h.may (subst (λ xs. FieldMay most stand bound xs x) h.is some);
}

pub always_fields_behind : (most : ℕ) (bound : Bound) (stand : ℕ) → Always (FieldsSo most stand bound) (rule.fields_behind most bound stand)
always_fields_behind most bound stand = always_then (always_field most bound stand) (λ first some. always_many
    (λ before h. always_behind (λ l. always_then (always_field most bound (stand + length before)) (λ x more. always_nothing _ _ (next_so most stand bound before h x more))))
    (first ∷ []) (first_so most stand bound first some))

field_turn : (most stand : ℕ) (bound : Bound) (done : List TreeField) (x : TreeField) (before : List TreeField) → SameFields done before → FieldMay most stand bound done x
    → Prints (Then (word f.Comma) (λ l. Then (rule.field most bound (stand + length before)) (λ y. Nothing (before ++ y ∷ [])))) (next_field x) (SameFields (done ++ x ∷ []))
field_turn most stand bound done x before ready some = prints_word f.Comma refl (λ l. spaced
    (prints_last (prints_field most (stand + length before) bound x (subst (λ k. one_more most (stand + k) bound x ≡ None) (as_many done before ready) some))
    (λ y same. prints_nothing (same_push unlined_field before done y x ready same))))

prints_some : (most stand : ℕ) (bound : Bound) (first : TreeField) (more : List TreeField) → AllMay (FieldMay most stand bound) [] (first ∷ more)
    → Prints (rule.fields_behind most bound stand) (fields_pieces (first ∷ more)) (SameFields (first ∷ more))
prints_some most stand bound first more h =
    let none : stand + 0 ≡ stand = omega arith in
    prints_then (prints_field most stand bound first (subst (λ k. one_more most k bound first ≡ None) none h.0)) (λ y same.
    prints_list (FieldMay most stand bound) SameFields (λ before. Then (word f.Comma) (λ l. Then (rule.field most bound (stand + length before)) (λ y. Nothing (before ++ y ∷ [])))) next_field
    (field_turn most stand bound) (first ∷ []) more h.1 (y ∷ []) (ap (λ u. u ∷ []) same))

pub prints_fields : (most stand : ℕ) (bound : Bound) (all : List TreeField) → FieldsSo most stand bound all → Prints (rule.fields_behind most bound stand) (fields_pieces all) (SameFields all)
prints_fields most stand bound all h =
    subst (λ xs. Prints (rule.fields_behind most bound stand) (fields_pieces xs) (SameFields xs)) (sym h.is) (prints_some most stand bound h.first h.more h.may)

-- ---- the fields of a kind, and vars

abbrev FieldsAt : List TreeField → Type 0
FieldsAt all = Prints rule.fields (kind_fields all) (SameFields all)

no_fields : FieldsAt []
no_fields = prints_word f.LBrace refl (λ l. spaced (prints_then {ps = []} {qs = Word f.RBrace ∷ []} (in_second (prints_nothing refl)) (λ all same. prints_word f.RBrace refl (λ m. prints_nothing same))))

some_fields : (first : TreeField) (more : List TreeField) → AllMay (FieldMay 16 0 (Limit which.Fields)) [] (first ∷ more) → FieldsAt (first ∷ more)
some_fields first more h = prints_word f.LBrace refl (λ l. spaced (prints_then (in_first (prints_some 16 0 (Limit which.Fields) first more h)) (λ all same. spaced (prints_word f.RBrace refl (λ m. prints_nothing same)))))

always_fields : Always FieldsAt rule.fields
always_fields = always_behind (λ l. always_then
    (always_or (always_weaken (λ all h. subst FieldsAt (sym h.is) (some_fields h.first h.more h.may)) (always_fields_behind 16 (Limit which.Fields) 0)) (always_nothing FieldsAt [] no_fields))
    (λ all at. always_behind (λ m. always_nothing _ _ at)))

abbrev pub VarsAt : ℕ → List TreeField → Type 0
VarsAt params all = Prints (rule.vars params) (vars_line all) (SameFields all)

no_vars : (params : ℕ) → VarsAt params []
no_vars params = in_second (prints_nothing refl)

some_vars : (params : ℕ) (first : TreeField) (more : List TreeField) → AllMay (FieldMay 32 params (Limit which.Locals)) [] (first ∷ more) → VarsAt params (first ∷ more)
some_vars params first more h = indented (in_first (prints_word f.Var refl (λ l. spaced
    (prints_then (prints_some 32 params (Limit which.Locals) first more h) (λ all same. prints_word f.Semicolon refl (λ m. fed (prints_nothing same)))))))

pub always_vars : (params : ℕ) → Always (VarsAt params) (rule.vars params)
always_vars params = always_or
    (always_behind (λ l. always_then (always_fields_behind 32 (Limit which.Locals) params) (λ all h. always_behind (λ m.
    always_nothing _ _ (subst (VarsAt params) (sym h.is) (some_vars params h.first h.more h.may))))))
    (always_nothing (VarsAt params) [] (no_vars params))

-- ---- kinds

abbrev roots_of : List TreeKind → ℕ
roots_of = sum_by (λ (kind : TreeKind). kind.count)

-- a kind may stand behind others
pub record KindMay (done : List TreeKind) (kind : TreeKind) : Type 0 where
  few : one_more 16 (length done) (Limit which.Kinds) kind ≡ None
  rooted : kind.is_root ≡ true → more_roots (roots_of done) kind.count ≡ None
  bare : kind.is_root ≡ false → kind.count ≡ 0
  fields : FieldsAt kind.fields

record KindsSo (all : Kinds) : Type 0 where
  may : AllMay KindMay [] all.0
  roots : all.1 ≡ roots_of all.0

next_kind : (before : Kinds) → KindsSo before → (kind : TreeKind) → KindMay before.0 kind → (roots : ℕ) → roots ≡ before.1 + kind.count → KindsSo (before.0 ++ kind ∷ [], roots)
next_kind before h kind may roots is = record {
  may = all_may_push KindMay [] before.0 kind h.may may;
  roots = is ∙ ap (λ k. k + kind.count) h.roots ∙ sym (sum_by_push (λ (kind : TreeKind). kind.count) before.0 kind);
}

always_kind_name : (stand : ℕ) → Always (λ (w : Words). one_more 16 stand (Limit which.Kinds) w ≡ None) (One name (one_more 16 stand (Limit which.Kinds)))
always_kind_name stand = always_one (λ (w : Words). one_more 16 stand (Limit which.Kinds) w ≡ None) _ _ (λ t w is some. some)

always_root_kind : (before : Kinds) → KindsSo before → Always KindsSo (rule.root_kind before)
always_root_kind before h =
    always_behind (λ l. always_then (always_kind_name (length before.0)) (λ w few.
    always_then (always_one (λ n. more_roots before.1 n ≡ None) _ _ (λ t n is some. some)) (λ n some.
    always_then always_fields (λ all at.
    always_nothing _ _ (next_kind before h (record { name = w; is_root = true; count = n; fields = all })
    (record { few = few; rooted = λ r. subst (λ k. more_roots k n ≡ None) h.roots some; bare = λ r. absurd (cc); fields = at }) (before.1 + n) refl)))))

always_node_kind : (before : Kinds) → KindsSo before → Always KindsSo (rule.node_kind before)
always_node_kind before h =
    always_behind (λ l. always_then (always_kind_name (length before.0)) (λ w few.
    always_then always_fields (λ all at.
    always_nothing _ _ (next_kind before h (record { name = w; is_root = false; count = 0; fields = all })
    (record { few = few; rooted = λ r. absurd (cc); bare = λ r. refl; fields = at }) before.1 (omega arith)))))

pub always_kinds : Always (λ (all : Kinds). AllMay KindMay [] all.0) (Many rule.kind ([], 0))
always_kinds = always_weaken (λ all h. h.may) (always_many (λ before h. always_or (always_root_kind before h) (always_node_kind before h)) ([], 0) (record { may = tt; roots = refl }))

-- the same kinds but for lines, with as many roots
abbrev pub SameKinds : List TreeKind → Kinds → Type 0
SameKinds done a = (map unlined_kind a.0 ≡ map unlined_kind done) × (a.1 ≡ roots_of done)

abbrev kind_with : Words → Bool → ℕ → List TreeField → TreeKind
kind_with w b n all = record { name = w; is_root = b; count = n; fields = all }

same_kind : (w : Words) (b : Bool) (n : ℕ) (all : List TreeField) (kind : TreeKind) → w.text ≡ kind.name.text → b ≡ kind.is_root → n ≡ kind.count → SameFields kind.fields all
    → unlined_kind (kind_with w b n all) ≡ unlined_kind kind
same_kind w b n all kind named root count same =
    ap (λ u. kind_with u b n (map unlined_field all)) (same_word w kind.name named) ∙ ap (λ c. kind_with (unlined_word kind.name) c n (map unlined_field all)) root
    ∙ ap (λ k. kind_with (unlined_word kind.name) kind.is_root k (map unlined_field all)) count ∙ ap (λ fs. kind_with (unlined_word kind.name) kind.is_root kind.count fs) same

few_kinds : (done : List TreeKind) (kind : TreeKind) (a : Kinds) → SameKinds done a → KindMay done kind → one_more 16 (length a.0) (Limit which.Kinds) kind ≡ None
few_kinds done kind a ready may = subst (λ k. one_more 16 k (Limit which.Kinds) kind ≡ None) (sym (length-map done unlined_kind) ∙ ap length (sym ready.0) ∙ length-map a.0 unlined_kind) may.few

kind_by : (done : List TreeKind) (kind : TreeKind) (a : Kinds) → SameKinds done a → KindMay done kind → (b : Bool) → kind.is_root ≡ b
    → Prints (rule.kind a) ((if b then Word f.Root ∷ Space ∷ Name kind.name.text ∷ Space ∷ Number kind.count ∷ Space ∷ [] else Word f.Node ∷ Space ∷ Name kind.name.text ∷ Space ∷ []) ++ (kind_fields kind.fields ++ Feed ∷ [])) (SameKinds (done ++ kind ∷ []))
kind_by done kind a ready may true is = in_first (prints_word f.Root refl (λ l. spaced
    (prints_lead (prints_name (one_more 16 (length a.0) (Limit which.Kinds)) kind.name.text (λ w. few_kinds done kind a ready may)) (λ w named. spaced
    (prints_lead (prints_number (more_roots a.1) kind.count (subst (λ k. more_roots k kind.count ≡ None) (sym ready.1) (may.rooted is))) (λ n count. spaced
    (prints_then may.fields (λ all same. fed (prints_nothing (
      same_push unlined_kind a.0 done (kind_with w true n all) kind ready.0 (same_kind w true n all kind named (sym is) count same),
      ap (λ k. k + n) ready.1 ∙ ap (λ k. roots_of done + k) count ∙ sym (sum_by_push (λ (kind : TreeKind). kind.count) done kind),
    ))))))))))
kind_by done kind a ready may false is =
    let none : roots_of done ≡ roots_of done + kind.count = omega (arith, may.bare is) in
    in_second (prints_word f.Node refl (λ l. spaced
    (prints_lead (prints_name (one_more 16 (length a.0) (Limit which.Kinds)) kind.name.text (λ w. few_kinds done kind a ready may)) (λ w named. spaced
    (prints_then may.fields (λ all same. fed (prints_nothing (
      same_push unlined_kind a.0 done (kind_with w false 0 all) kind ready.0 (same_kind w false 0 all kind named (sym is) (sym (may.bare is)) same),
      ready.1 ∙ none ∙ sym (sum_by_push (λ (kind : TreeKind). kind.count) done kind),
    ))))))))

kind_turn : (done : List TreeKind) (kind : TreeKind) (a : Kinds) → SameKinds done a → KindMay done kind → Prints (rule.kind a) (kind_line kind) (SameKinds (done ++ kind ∷ []))
kind_turn done kind a ready may = kind_by done kind a ready may kind.is_root refl

pub prints_kinds : (kinds : List TreeKind) → AllMay KindMay [] kinds → Prints (Many rule.kind ([], 0)) (flat_map kind_line kinds) (SameKinds kinds)
prints_kinds kinds all = prints_list KindMay SameKinds rule.kind kind_line kind_turn [] kinds all ([], 0) (refl, refl)
