-- The names in a tree of which a text may have each piece are words.
use Rattle.std.proofs.Common.{ℕ, Bool, true, false, List, [], ◌∷◌, ◌++◌, ap, arith, if◌then◌else◌}
use Rattle.std.specs.Prelude.{◌||◌}
use Rattle.std.specs.List.{AllByRecursion, flat_map}
use Rattle.dl_text.specs.Bytes.{is_digit}
use Rattle.dl_grammar.specs.declared.tree.Tree.{Tree}
use Rattle.dl_grammar.specs.declared.tree.TreeField.{TreeField}
use Rattle.dl_grammar.specs.declared.tree.TreeKind.{TreeKind}
use Rattle.dl_print.specs.Canonical.{Piece, field_pieces, next_field, fields_pieces, kind_fields, root_head, node_head, kind_head, kind_line, op_lines}
use Rattle.dl_print.specs.Tokens as print
use Rattle.dl_print.specs.Tokens.{IsToken, HasTokens}
use Rattle.dl_heapfile.specs.Names.{IsName}

-- ---- lists
all_left : {A : Type 0} (P : A → Type 0) (xs ys : List A) → AllByRecursion P (xs ++ ys) → AllByRecursion P xs
all_left P [] ys h = tt
all_left P (x ∷ xs) ys h = (h.0, all_left P xs ys h.1)

all_right : {A : Type 0} (P : A → Type 0) (xs ys : List A) → AllByRecursion P (xs ++ ys) → AllByRecursion P ys
all_right P [] ys h = h
all_right P (x ∷ xs) ys h = all_right P xs ys h.1

-- ---- names
word_name : (version : ℕ) (text : List ℕ) → print.IsName version text → IsName text
word_name version [] h = absurd h
word_name version (b ∷ rest) h = record { some = omega arith; word = (ap (λ v. v || is_digit b) h.0, h.1) }

abbrev pub FieldSo : TreeField → Type 0
FieldSo field = IsName field.name.text

pub record KindSo (kind : TreeKind) : Type 0 where
  pub named : IsName kind.name.text
  pub fields : AllByRecursion FieldSo kind.fields

module _ (version : ℕ) where
  abbrev So : List Piece → Type 0
  So pieces = AllByRecursion (IsToken version) pieces

  each_so : {A : Type 0} (P : A → Type 0) (pieces : A → List Piece) → ((a : A) → So (pieces a) → P a) → (list : List A) → So (flat_map pieces list) → AllByRecursion P list
  each_so P pieces one [] h = tt
  each_so P pieces one (a ∷ more) h =
      (one a (all_left (IsToken version) (pieces a) (flat_map pieces more) h), each_so P pieces one more (all_right (IsToken version) (pieces a) (flat_map pieces more) h))

  field_so : (field : TreeField) → So (field_pieces field) → FieldSo field
  field_so field h = word_name version field.name.text h.0

  next_so : (field : TreeField) → So (next_field field) → FieldSo field
  next_so field h = field_so field h.1.1

  fields_so : (fields : List TreeField) → So (fields_pieces fields) → AllByRecursion FieldSo fields
  fields_so [] h = tt
  fields_so (first ∷ more) h = (
    field_so first (all_left (IsToken version) (field_pieces first) (flat_map next_field more) h),
    each_so FieldSo next_field next_so more (all_right (IsToken version) (field_pieces first) (flat_map next_field more) h),
  )

  kind_fields_so : (fields : List TreeField) → So (kind_fields fields) → AllByRecursion FieldSo fields
  kind_fields_so [] h = tt
  kind_fields_so (first ∷ more) h = fields_so (first ∷ more) (all_left (IsToken version) (fields_pieces (first ∷ more)) _ h.1.1)

  head_so : (kind : TreeKind) (is_root : Bool) → So (if is_root then root_head kind else node_head kind) → IsName kind.name.text
  head_so kind true h = word_name version kind.name.text h.1.1.0
  head_so kind false h = word_name version kind.name.text h.1.1.0

  kind_so : (kind : TreeKind) → So (kind_line kind) → KindSo kind
  kind_so kind h = record {
    named = head_so kind kind.is_root (all_left (IsToken version) (kind_head kind) _ h);
    fields = kind_fields_so kind.fields (all_left (IsToken version) (kind_fields kind.fields) _ (all_right (IsToken version) (kind_head kind) _ h));
  }

-- the names of the kinds of a tree and of their fields are words
pub kinds_so : (tree : Tree) → HasTokens tree → AllByRecursion KindSo tree.kinds
kinds_so tree h =
    each_so tree.version KindSo kind_line (kind_so tree.version) tree.kinds (all_left (IsToken tree.version) (flat_map kind_line tree.kinds) (flat_map op_lines tree.ops) h.1.1.1.1)
