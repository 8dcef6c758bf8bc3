-- A module has the names of its tree, and no kind has the name of another one.
use Rattle.std.proofs.Common.{◌≡◌, ℕ, zero, suc, List, [], ◌∷◌, ◌++◌, length, refl, sym, ap, subst, ◌∙◌, Some, Ok, inl, inr, slice_get}
use Rattle.std.specs.Prelude.{◌⊎◌, Result}
use Rattle.std.specs.List.{AllByRecursion}
use Rattle.dl_ir.specs.declared.modules.FieldDecl.{FieldDecl}
use Rattle.dl_ir.specs.declared.modules.KindDecl.{KindDecl}
use Rattle.dl_ir.specs.declared.modules.Module.{Module}
use Rattle.dl_grammar.specs.declared.tree.Tree.{Tree}
use Rattle.dl_grammar.specs.declared.tree.TreeField.{TreeField}
use Rattle.dl_grammar.specs.declared.tree.TreeKind.{TreeKind}
use Rattle.dl_types.specs.declared.fault.TypeFault.{TypeFault}
use Rattle.dl_types.specs.DeclarationRules.{IsUnnamed, EachIs, kind_name, IsField, IsKind}
use Rattle.dl_types.specs.Rules.{IsTree, Types}
use Rattle.dl_print.specs.Tokens.{HasTokens}
use Rattle.dl_heapfile.specs.Names.{IsName, HasNames}
use Rattle.dl_naming.proofs.Words.{FieldSo, KindSo, kinds_so}

-- ---- lists
all_at : {A : Type 0} (P : A → Type 0) (xs : List A) (at : ℕ) (a : A) → AllByRecursion P xs → slice_get xs at ≡ Some a → P a
all_at P [] at a all there = cc
all_at P (x ∷ xs) zero a all there = let same : x ≡ a = cc in subst P same all.0
all_at P (x ∷ xs) (suc at) a all there = all_at P xs at a all.1 there

all_push : {A : Type 0} (P : A → Type 0) (xs : List A) (a : A) → AllByRecursion P xs → P a → AllByRecursion P (xs ++ a ∷ [])
all_push P [] a all last = (last, tt)
all_push P (x ∷ xs) a all last = (all.0, all_push P xs a all.1 last)

-- what holds of each value that a rule gives, holds of all that it gives of a list
each_so : {A B : Type 0} (is : List B → A → Result B TypeFault → Type 0) (Q : A → Type 0) (P : B → Type 0) → ((before : List B) (a : A) (b : B) → is before a (Ok b) → Q a → P b)
    → (done : List B) (list : List A) (all : List B) → AllByRecursion P done → AllByRecursion Q list → EachIs is done list (Ok all) → AllByRecursion P all
each_so is Q P one done [] all so ok same = let whole : done ≡ all = cc in subst (AllByRecursion P) whole so
each_so is Q P one done (a ∷ more) all so ok (inl (fault, holds, same)) = absurd (cc)
each_so is Q P one done (a ∷ more) all so ok (inr (b, holds, rest)) = each_so is Q P one (done ++ b ∷ []) more all (all_push P done b so (one done a b holds ok.0)) ok.1 rest

-- ---- names
abbrev FieldNamed : FieldDecl → Type 0
FieldNamed field = IsName field.name

record KindNamed (kind : KindDecl) : Type 0 where
  named : IsName kind.name
  fields : AllByRecursion FieldNamed kind.fields

field_named : (kinds : List TreeKind) (before : List FieldDecl) (field : TreeField) (declared : FieldDecl) → IsField kinds before field (Ok declared) → FieldSo field → FieldNamed declared
field_named kinds before field declared (IsField.declared new is) so = so

kind_named : (kinds : List TreeKind) (before : List KindDecl) (kind : TreeKind) (declared : KindDecl) → IsKind kinds before kind (Ok declared) → KindSo kind → KindNamed declared
kind_named kinds before kind declared (IsKind.root fields new are sort) so =
    record { named = so.named; fields = each_so (IsField kinds) FieldSo FieldNamed (field_named kinds) [] kind.fields fields tt so.fields are }
kind_named kinds before kind declared (IsKind.node fields new are sort) so =
    record { named = so.named; fields = each_so (IsField kinds) FieldSo FieldNamed (field_named kinds) [] kind.fields fields tt so.fields are }

-- ---- names of their own
abbrev AreApart : List KindDecl → Type 0
AreApart kinds = (at other : ℕ) (kind same : KindDecl) → slice_get kinds at ≡ Some kind → slice_get kinds other ≡ Some same → kind.name ≡ same.name → at ≡ other

-- what stands in a longer list stands in the list, or is the last one
in_longer : (kinds : List KindDecl) (last : KindDecl) (at : ℕ) (kind : KindDecl) → slice_get (kinds ++ last ∷ []) at ≡ Some kind → (slice_get kinds at ≡ Some kind) ⊎ ((at ≡ length kinds) × (last ≡ kind))
in_longer [] last zero kind there = let same : last ≡ kind = cc in inr (refl, same)
in_longer [] last (suc at) kind there = cc
in_longer (k ∷ kinds) last zero kind there = inl there
in_longer (k ∷ kinds) last (suc at) kind there = elim (in_longer kinds last at kind there) [
  | inl before ↦ inl before
  | inr (end, same) ↦ let next : suc at ≡ suc (length kinds) = ap suc end in inr (next, same)
]

longer_apart : (kinds : List KindDecl) (last : KindDecl) → AreApart kinds → IsUnnamed kind_name kinds last.name → AreApart (kinds ++ last ∷ [])
longer_apart kinds last apart new at other kind same here there names = elim (in_longer kinds last at kind here) [
  | inl before ↦ elim (in_longer kinds last other same there) [
    | inl also ↦ apart at other kind same before also names
    | inr (end, is) ↦ absurd (new at kind before (names ∙ sym (ap kind_name is)))
  ]
  | inr (end, is) ↦ elim (in_longer kinds last other same there) [
    | inl before ↦ absurd (new other same before (sym names ∙ sym (ap kind_name is)))
    | inr (also, it) ↦ end ∙ sym also
  ]
]

new_name : (kinds : List TreeKind) (before : List KindDecl) (kind : TreeKind) (declared : KindDecl) → IsKind kinds before kind (Ok declared) → IsUnnamed kind_name before declared.name
new_name kinds before kind declared (IsKind.root fields new are sort) = new
new_name kinds before kind declared (IsKind.node fields new are sort) = new

each_apart : (kinds : List TreeKind) (done : List KindDecl) (list : List TreeKind) (all : List KindDecl) → AreApart done → EachIs (IsKind kinds) done list (Ok all) → AreApart all
each_apart kinds done [] all apart same = let whole : done ≡ all = cc in subst AreApart whole apart
each_apart kinds done (kind ∷ more) all apart (inl (fault, holds, same)) = absurd (cc)
each_apart kinds done (kind ∷ more) all apart (inr (b, holds, rest)) = each_apart kinds (done ++ b ∷ []) more all (longer_apart done b apart (new_name kinds done kind b holds)) rest

none_apart : AreApart []
none_apart at other kind same here there names = cc

-- ---- modules
pub has_names : (tree : Tree) (source : Module) → HasTokens tree → Types tree source → HasNames source
has_names tree source tokens (IsTree.fits kinds ops are all root) =
    let named = each_so (IsKind tree.kinds) KindSo KindNamed (kind_named tree.kinds) [] tree.kinds kinds tt (kinds_so tree tokens) are in
    record {
      kinds = λ at kind there. (all_at KindNamed kinds at kind named there).named;
      fields = λ at place kind field there has. all_at FieldNamed kind.fields place field (all_at KindNamed kinds at kind named there).fields has;
      apart = each_apart tree.kinds [] tree.kinds kinds none_apart are;
    }
