-- The module that a tree within the limits is, is checked.
use Rattle.std.proofs.Common.{◌≡◌, ℕ, ◌+◌, ◌≤◌, Bool, true, false, List, [], ◌∷◌, ◌++◌, length, refl, sym, ap, subst, ◌∙◌, Some, Ok, Err, arith, inl, inr, All, slice_get, option_map, sum_by, if◌then◌else◌}
use Rattle.std.specs.Prelude.{is_some, IfOk, Result}
use Rattle.std.specs.List.{list_any}
use Rattle.std.proofs.lemmas.List.Elements.{All-nil, All-weaker, recursion_from_All}
use Rattle.std.proofs.lemmas.List.Sums.{sum_by-cons, sum_by_push}
use Rattle.std.proofs.lemmas.Option.{slice_get-map}
use Rattle.dl_ir.specs.declared.modules.FieldDecl.{FieldDecl}
use Rattle.dl_ir.specs.declared.modules.KindDecl.{KindDecl}
use Rattle.dl_ir.specs.declared.modules.Module.{Module}
use Rattle.dl_ir.specs.declared.modules.Ty.{Ty}
use Rattle.dl_ir.specs.declared.modules.Ty.TheVariants.{Int, Of}
use Rattle.dl_ir.specs.Checked.{HasRoot, IsOperation, IsChecked, is_root}
use Rattle.dl_ir.specs.Heap.{HasRootsAt, StandInRow, IsNodeKind}
use Rattle.dl_ir.specs.Typed.{FieldsReferToNodes}
use Rattle.dl_grammar.specs.declared.tree.Tree.{Tree}
use Rattle.dl_grammar.specs.declared.tree.TreeField.{TreeField}
use Rattle.dl_grammar.specs.declared.tree.TreeKind.{TreeKind}
use Rattle.dl_grammar.specs.declared.tree.Word.{Word}
use Rattle.dl_grammar.specs.Limits.{IsKindInLimits, IsOpInLimits, IsInLimits}
use Rattle.dl_types.specs.declared.fault.TypeFault.{TypeFault}
use Rattle.dl_types.specs.declared.fault.TypeFault.TheVariants.{Twice, NoRoots}
use Rattle.dl_types.specs.declared.declarations.Place.TheVariants.{InField}
use Rattle.dl_types.specs.Checks.{Gives, each}
use Rattle.dl_types.specs.Names.{kind_named, tree_kind_named, field_named}
use Rattle.dl_types.specs.Declarations.{type_of, field_typed, kind_typed}
use Rattle.dl_types.specs.Typing.{op_typed, typed}
use Rattle.dl_types.specs.Limits.{TypedIsChecked}
use Rattle.dl_types.proofs.TreeLaws.{is_tree}
use Rattle.dl_types.proofs.Checking.{bind_ok, unless_ok, where_ok, same_ok, each_all, each_map, each_length}
use Rattle.dl_types.proofs.Found.{Found, first_found}
use Rattle.dl_types.proofs.OperationsFit.{nothing_asked, type_refers, operation_fits}
use Rattle.dl_types.proofs.Rows.{row_push}
use Rattle.dl_lemmas.proofs.Places.{all_at, mapped}
use Rattle.std.proofs.lemmas.Bool.{not-true}

-- the number of roots of a kind
abbrev count_of : KindDecl → ℕ
count_of kind = kind.count

abbrev tree_count : TreeKind → ℕ
tree_count kind = kind.count

abbrev tree_root : TreeKind → Bool
tree_root kind = kind.is_root

-- what a kind has of the kind of the tree
record Declares (kinds : List TreeKind) (before : List KindDecl) (kind : TreeKind) (declared : KindDecl) : Type 0 where
  root : declared.is_root ≡ kind.is_root
  start : declared.first ≡ (if kind.is_root then sum_by count_of before else 0)
  roots : declared.count ≡ (if kind.is_root then kind.count else 0)
  inner : each (field_typed kinds) [] kind.fields ≡ Ok declared.fields

declares : (kinds : List TreeKind) (before : List KindDecl) (kind : TreeKind) (declared : KindDecl) → kind_typed kinds before kind ≡ Ok declared → Declares kinds before kind declared
declares kinds before kind declared e =
    let named = unless_ok (is_some (kind_named 0 before kind.name.text)) (Twice kind.name.line) _ declared e in
    let fields = bind_ok (each (field_typed kinds) [] kind.fields) _ declared named.1 in
    let same = same_ok _ declared fields.2 in
    record {
      root = sym (ap (λ (k : KindDecl). k.is_root) same);
      start = sym (ap (λ (k : KindDecl). k.first) same);
      roots = sym (ap (λ (k : KindDecl). k.count) same);
      inner = fields.1 ∙ ap (λ (k : KindDecl). Ok k.fields) same;
    }

-- the roots of a kind stand behind those of the kinds before
roots_at : (root : Bool) (next count : ℕ) (kind : KindDecl) → kind.is_root ≡ root → kind.first ≡ (if root then next else 0) → kind.count ≡ (if root then count else 0) → HasRootsAt next kind × (kind.count ≤ count)
roots_at true next count kind r s c = (record { of_root = λ yes. s; of_node = λ no. cc }, omega (arith, c))
roots_at false next count kind r s c = (record { of_root = λ yes. cc; of_node = λ no. (s, c) }, omega (arith, c))

in_row : (kinds : List TreeKind) (done : List KindDecl) (rest : List TreeKind) (all : List KindDecl) → StandInRow 0 done → sum_by count_of done + sum_by tree_count rest ≤ 1024
    → each (kind_typed kinds) done rest ≡ Ok all → StandInRow 0 all
in_row kinds done [] all row few e = subst (StandInRow 0) (same_ok done all e) row
in_row kinds done (kind ∷ rest) all row few e =
    let first = bind_ok (kind_typed kinds done kind) _ all e in
    let has = declares kinds done kind first.0 first.1 in
    let roots = roots_at kind.is_root (sum_by count_of done) kind.count first.0 has.root has.start has.roots in
    let whole = sum_by-cons tree_count kind rest in
    let pushed = sum_by_push count_of done first.0 in
    in_row kinds (done ++ first.0 ∷ []) rest all (row_push 0 (sum_by count_of done) done first.0 (omega arith) row roots.0 (omega (arith, few, whole, roots.1))) (omega (arith, few, whole, pushed, roots.1)) first.2

-- a root kind has a root
has_root : (root : Bool) (count : ℕ) (kind : KindDecl) → (root ≡ true → 1 ≤ count) → kind.is_root ≡ root → kind.count ≡ (if root then count else 0) → HasRoot kind
has_root true count kind some r c = λ yes. omega (arith, some refl, c)
has_root false count kind some r c = λ yes. cc

-- what is asked of a kind of the tree: that it has a root, and few fields
abbrev HasSomeRoot : TreeKind → Type 0
HasSomeRoot kind = kind.is_root ≡ true → 1 ≤ kind.count

module _ (kinds : List TreeKind) where
  -- a type is that of numbers, or refers to a node kind of the tree
  abbrev IsFieldType : Ty → Type 0
  IsFieldType Int = Unit {0}
  IsFieldType (Of kind) = (declared : TreeKind) × (slice_get kinds kind ≡ Some declared) × (declared.is_root ≡ false)

  abbrev IsField : FieldDecl → Type 0
  IsField field = IsFieldType field.ty

  field_type : (word : Word) (t : Ty) → type_of (tree_kind_named 0 kinds) InField word ≡ Ok t → IsFieldType t
  field_type word t e = elim (type_refers (tree_kind_named 0 kinds) InField word t e) [
    | inl number ↦ subst IsFieldType number tt
    | inr refers ↦
        let k : Found (λ (kind : TreeKind). kind.is_root) kinds 0 refers.kind = first_found (λ (kind : TreeKind). kind.name.text) (λ (kind : TreeKind). kind.is_root) 0 kinds word.text refers.kind refers.found in
        let same : refers.kind.0 ≡ k.place = omega (arith, k.number) in
        subst IsFieldType refers.is (k.element, ap (slice_get kinds) same ∙ k.is_there, k.means ∙ not-true refers.kind.1 refers.taken)
  ]

  field_fits : (before : List FieldDecl) (field : TreeField) (d : FieldDecl) → Unit {0} → field_typed kinds before field ≡ Ok d → IsField d
  field_fits before field d u e =
      let named = unless_ok (is_some (field_named 0 before field.name.text)) (Twice field.name.line) _ d e in
      let t = bind_ok (type_of (tree_kind_named 0 kinds) InField field.ty) _ d named.1 in
      subst IsField (same_ok _ d t.2) (field_type field.ty t.0 t.1)

  abbrev HasFields : KindDecl → Type 0
  HasFields kind = All IsField kind.fields

  kind_fields : (before : List KindDecl) (kind : TreeKind) (d : KindDecl) → Unit {0} → kind_typed kinds before kind ≡ Ok d → HasFields d
  kind_fields before kind d u e =
      each_all IsField (λ (x : TreeField). Unit {0}) (field_typed kinds) field_fits [] kind.fields d.fields (All-nil IsField) (nothing_asked kind.fields) (declares kinds before kind d e).inner

  few_fields : (before : List KindDecl) (kind : TreeKind) (d : KindDecl) → length kind.fields ≤ 16 → kind_typed kinds before kind ≡ Ok d → length d.fields ≤ 16
  few_fields before kind d few e = let same = each_length (field_typed kinds) [] kind.fields d.fields (declares kinds before kind d e).inner in omega (arith, same, few)

  some_root : (before : List KindDecl) (kind : TreeKind) (d : KindDecl) → HasSomeRoot kind → kind_typed kinds before kind ≡ Ok d → HasRoot d
  some_root before kind d some e = let has = declares kinds before kind d e in has_root kind.is_root kind.count d some has.root has.roots

  same_root : (before : List KindDecl) (kind : TreeKind) (d : KindDecl) → kind_typed kinds before kind ≡ Ok d → d.is_root ≡ kind.is_root
  same_root before kind d e = (declares kinds before kind d e).root

  -- a node kind of the tree is one of the module
  node_there : (source : Module) → each (kind_typed kinds) [] kinds ≡ Ok source.kinds → (target : ℕ) → IsFieldType (Of target) → IsNodeKind source target
  node_there source e target is =
      let roots = each_map is_root tree_root (kind_typed kinds) same_root [] kinds source.kinds e in
      let found = mapped is_root (slice_get source.kinds target) false (
      sym (slice_get-map is_root source.kinds target)
      ∙ ap (λ (l : List Bool). slice_get l target) roots
      ∙ slice_get-map tree_root kinds target
      ∙ ap (option_map tree_root) is.1
      ∙ ap (λ b. Some b) is.2) in
      record { declared = found.0; is_there = found.1; is_node = found.2 }

  fields_fit : (source : Module) → each (kind_typed kinds) [] kinds ≡ Ok source.kinds → FieldsReferToNodes source
  fields_fit source e kind f target has =
      let all = each_all HasFields (λ (x : TreeKind). Unit {0}) (kind_typed kinds) kind_fields [] kinds source.kinds (All-nil HasFields) (nothing_asked kinds) e in
      let one = all_at IsField has.declared.fields f has.field (all_at HasFields source.kinds kind has.declared all has.is_there) has.is_its_field in
      node_there source e target (subst IsFieldType has.of_type one)

given_is_checked : (tree : Tree) (source : Module) → IsInLimits tree → typed tree ≡ Ok source → IsChecked source
given_is_checked tree source limits e =
    let kinds = bind_ok (each (kind_typed tree.kinds) [] tree.kinds) _ source e in
    let ops = bind_ok (each (op_typed kinds.0) [] tree.ops) _ source kinds.2 in
    let rooted = where_ok (list_any is_root kinds.0) (NoRoots tree.last) _ source ops.2 in
    let answer : Module = record { version = tree.version; kinds = kinds.0; ops = ops.0 } in
    let few_kinds = each_length (kind_typed tree.kinds) [] tree.kinds kinds.0 kinds.1 in
    let few_ops = each_length (op_typed kinds.0) [] tree.ops ops.0 ops.1 in
    let each_few = All-weaker IsKindInLimits (λ (k : TreeKind). length k.fields ≤ 16) (λ k l. l.few_fields) tree.kinds limits.kinds in
    let each_some = All-weaker IsKindInLimits HasSomeRoot (λ k l. l.rooted) tree.kinds limits.kinds in
    let fields = each_all (λ (k : KindDecl). length k.fields ≤ 16) (λ (k : TreeKind). length k.fields ≤ 16) (kind_typed tree.kinds) (few_fields tree.kinds) [] tree.kinds kinds.0 (All-nil (λ (k : KindDecl). length k.fields ≤ 16)) (recursion_from_All (λ (k : TreeKind). length k.fields ≤ 16) tree.kinds each_few) kinds.1 in
    subst IsChecked (same_ok answer source rooted.1) (record {
      start = record {
        few_kinds = omega (arith, few_kinds, limits.few_kinds);
        few_fields = recursion_from_All (λ (k : KindDecl). length k.fields ≤ 16) kinds.0 fields;
        row = in_row tree.kinds [] tree.kinds kinds.0 (omega arith) (omega (arith, limits.few_roots)) kinds.1;
      };
      some_roots = each_all HasRoot HasSomeRoot (kind_typed tree.kinds) (some_root tree.kinds) [] tree.kinds kinds.0 (All-nil HasRoot) (recursion_from_All HasSomeRoot tree.kinds each_some) kinds.1;
      rooted = rooted.0;
      fields = fields_fit tree.kinds answer kinds.1;
      few_ops = omega (arith, few_ops, limits.few_ops);
      ops = each_all (IsOperation answer) IsOpInLimits (op_typed kinds.0) (operation_fits answer) [] tree.ops ops.0 (All-nil (IsOperation answer)) (recursion_from_All IsOpInLimits tree.ops limits.ops) ops.1;
    })

pub typed_is_checked : TypedIsChecked
typed_is_checked tree source limits is = given_is_checked tree source limits (is_tree tree (Ok source) is)

-- what is answered is checked
pub gives_checked : (tree : Tree) (result : Result Module TypeFault) → IsInLimits tree → Gives (typed tree) result → IfOk result IsChecked
gives_checked tree (Ok source) limits gives = given_is_checked tree source limits gives
gives_checked tree (Err fault) limits gives = tt
