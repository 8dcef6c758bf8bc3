-- What stands where an object may be named fits the types of an operation's locals.
use Rattle.std.proofs.Common.{◌≡◌, ℕ, Bool, false, List, refl, sym, ap, subst, ◌∙◌, Option, Some, None, Ok, arith, slice_get}
use Rattle.dl_ir.specs.declared.expressions.Op.{Op}
use Rattle.dl_ir.specs.declared.expressions.Expr.{Expr}
use Rattle.dl_ir.specs.declared.expressions.Expr.TheVariants as expr
use Rattle.dl_ir.specs.declared.modules.FieldDecl.{FieldDecl}
use Rattle.dl_ir.specs.declared.modules.KindDecl.{KindDecl}
use Rattle.dl_ir.specs.declared.modules.LocalDecl.{LocalDecl}
use Rattle.dl_ir.specs.declared.modules.Module.{Module}
use Rattle.dl_ir.specs.declared.modules.Ty.{Ty}
use Rattle.dl_ir.specs.declared.modules.Ty.TheVariants.{Int, Of}
use Rattle.dl_ir.specs.Heap.{IsNodeKind}
use Rattle.dl_ir.specs.Typed as typed
use Rattle.dl_ir.specs.Typed.{IsTypedExpr, IsLocalOf, HasFieldOf}
use Rattle.dl_grammar.specs.declared.tree.Word.{Word}
use Rattle.dl_grammar.specs.declared.tree.Rhs.{Rhs}
use Rattle.dl_grammar.specs.declared.tree.Rhs.TheVariants as rhs
use Rattle.dl_grammar.specs.declared.tree.Side.{Side}
use Rattle.dl_grammar.specs.declared.tree.Side.TheVariants as side
use Rattle.dl_grammar.specs.declared.tree.TreeExpr.{TreeExpr, TreeExpr-F, out-TreeExpr}
use Rattle.dl_grammar.specs.declared.tree.TreeExpr.TheFolds.{map-TreeExpr, ind-TreeExpr, fold-roll-TreeExpr}
use Rattle.dl_types.specs.declared.fault.TypeFault.TheVariants.{Unknown}
use Rattle.dl_types.specs.declared.operands.Given.{Given}
use Rattle.dl_types.specs.declared.operands.Given.TheVariants as given
use Rattle.dl_types.specs.Checks.{or_fault}
use Rattle.dl_types.specs.Names.{local_of, field_named, kind_named, fields_in, fields_of, is_root_in, is_root_kind}
use Rattle.dl_types.specs.Statements.{local_typed, number_local, both, negated, Numbers, number_step, number_typed, local_given, number_given, sum_in, sum_given, side_given, field_given, place_given, rhs_given}
use Rattle.dl_types.proofs.Checking.{bind_ok, fault_or_some, same_ok}
use Rattle.dl_types.proofs.Found.{Found, first_found, types_in, local_found}

-- a kind is there
abbrev pub IsKindThere : Module → ℕ → Type 0
IsKindThere source kind = (declared : KindDecl) × (slice_get source.kinds kind ≡ Some declared)

-- a kind that is there and is no root kind is a node kind
pub node_kind : (source : Module) (kind : ℕ) → IsKindThere source kind → is_root_kind source.kinds kind ≡ false → IsNodeKind source kind
node_kind source kind there no_root = record { declared = there.0; is_there = there.1; is_node = sym (ap is_root_in there.1) ∙ no_root }

-- ---- expressions of numbers
module _ (params vars : List LocalDecl) where
  abbrev types : List Ty
  types = types_in params vars

  pub word_found : (word : Word) (found : ℕ × Ty) → local_typed params vars word ≡ Ok found → slice_get types found.0 ≡ Some found.1
  word_found word found e = local_found params vars word.text found (fault_or_some (local_of params vars word.text) (Unknown word.line) found e)

  number_fits : (x : ℕ) (t : Ty) (r : Expr) → slice_get types x ≡ Some t → number_local x t ≡ Some r → IsTypedExpr types r
  number_fits x Int r is e = let same : expr.Local x ≡ r = cc in subst (IsTypedExpr types) same (typed.local is)
  number_fits x (Of kind) r is e = cc

  -- what holds of an expression
  abbrev Fits : TreeExpr → Type 0
  Fits e = (r : Expr) → number_typed params vars e ≡ Ok (Some r) → IsTypedExpr types r

  negated_fits : (a : Option Expr) (r : Expr) → ((b : Expr) → a ≡ Some b → IsTypedExpr types b) → negated a ≡ Some r → IsTypedExpr types r
  negated_fits None r part e = cc
  negated_fits (Some a) r part e = let same : expr.Neg a ≡ r = cc in subst (IsTypedExpr types) same (typed.neg (part a refl))

  both_fit : (op : Op) (a b : Option Expr) (r : Expr) → ((c : Expr) → a ≡ Some c → IsTypedExpr types c) → ((c : Expr) → b ≡ Some c → IsTypedExpr types c) → both op a b ≡ Some r → IsTypedExpr types r
  both_fit op None b r left right e = cc
  both_fit op (Some a) None r left right e = cc
  both_fit op (Some a) (Some b) r left right e =
      let same : expr.Bin op a b ≡ r = cc in
      subst (IsTypedExpr types) same (typed.bin op (left a refl) (right b refl))

  -- one level
  level_fits : (y : TreeExpr-F ((e : TreeExpr) × Fits e)) (r : Expr)
      → number_step params vars (map-TreeExpr TreeExpr Numbers (number_typed params vars) (map-TreeExpr ((e : TreeExpr) × Fits e) TreeExpr (λ p. p.0) y)) ≡ Ok (Some r) → IsTypedExpr types r
  level_fits (TreeExpr-F.Num n) r e = let same : expr.Num n ≡ r = cc in subst (IsTypedExpr types) same (typed.num n)
  level_fits (TreeExpr-F.Name word) r e =
      let local = bind_ok (local_typed params vars word) _ (Some r) e in
      number_fits local.0.0 local.0.1 r (word_found word local.0 local.1) (same_ok _ (Some r) local.2)
  level_fits (TreeExpr-F.Neg p) r e =
      let part = bind_ok (number_typed params vars p.0) _ (Some r) e in
      negated_fits part.0 r (λ b same. p.1 b (part.1 ∙ ap (λ o. Ok o) same)) (same_ok _ (Some r) part.2)
  level_fits (TreeExpr-F.Bin op p q) r e =
      let first = bind_ok (number_typed params vars p.0) _ (Some r) e in
      let second = bind_ok (number_typed params vars q.0) _ (Some r) first.2 in
      both_fit op first.0 second.0 r (λ b same. p.1 b (first.1 ∙ ap (λ o. Ok o) same)) (λ b same. q.1 b (second.1 ∙ ap (λ o. Ok o) same)) (same_ok _ (Some r) second.2)

  -- an expression of numbers has number locals alone
  pub expression_fits : (e : TreeExpr) → Fits e
  expression_fits = ind-TreeExpr Fits (λ x y is r e.
      level_fits y r (ap (λ l. number_step params vars (map-TreeExpr TreeExpr Numbers (number_typed params vars) l)) is ∙ sym (fold-roll-TreeExpr Numbers (number_step params vars) x) ∙ e))

  -- ---- what is given
  module _ (source : Module) where
    -- what is given fits the types of the locals
    abbrev pub IsRight : Given → Type 0
    IsRight given.Null = Unit {0}
    IsRight (given.New kind) = IsKindThere source kind
    IsRight (given.Field p f t) = (kind : ℕ) × IsLocalOf types p kind × HasFieldOf source kind f t
    IsRight (given.Number e) = IsTypedExpr types e
    IsRight (given.Reference p kind) = IsLocalOf types p kind
    IsRight given.Unfit = Unit {0}

    local_right : (x : ℕ) (t : Ty) → slice_get types x ≡ Some t → IsRight (local_given x t)
    local_right x Int is = typed.local is
    local_right x (Of kind) is = is

    number_right : (o : Option Expr) → ((r : Expr) → o ≡ Some r → IsTypedExpr types r) → IsRight (number_given o)
    number_right None fits = tt
    number_right (Some e) fits = fits e refl

    sum_of_level : (e : TreeExpr) (l : TreeExpr-F TreeExpr) (g : Given) → sum_in params vars (number_typed params vars e) l ≡ Ok g → IsRight g
    sum_of_level e (TreeExpr-F.Name word) g is =
        let local = bind_ok (local_typed params vars word) _ g is in
        subst IsRight (same_ok _ g local.2) (local_right local.0.0 local.0.1 (word_found word local.0 local.1))
    sum_of_level e other g is =
        let number = bind_ok (number_typed params vars e) _ g is in
        subst IsRight (same_ok _ g number.2) (number_right number.0 (λ r same. expression_fits e r (number.1 ∙ ap (λ o. Ok o) same)))

    pub sum_right : (e : TreeExpr) (g : Given) → sum_given params vars e ≡ Ok g → IsRight g
    sum_right e g is = sum_of_level e (out-TreeExpr e) g is

    pub side_right : (s : Side) (g : Given) → side_given params vars s ≡ Ok g → IsRight g
    side_right side.Null g is = subst IsRight (same_ok _ g is) tt
    side_right (side.Sum e) g is = sum_right e g is

    -- the field of a kind
    field_there : (kind : ℕ) (o : Option KindDecl) (text : List ℕ) (found : ℕ × Ty) → slice_get source.kinds kind ≡ o → field_named 0 (fields_in o) text ≡ Some found → HasFieldOf source kind found.0 found.1
    field_there kind None text found is e = cc
    field_there kind (Some declared) text found is e =
        let f : Found (λ (field : FieldDecl). field.ty) declared.fields 0 found = first_found (λ (field : FieldDecl). field.name) (λ (field : FieldDecl). field.ty) 0 declared.fields text found e in
        let same : found.0 ≡ f.place = omega (arith, f.number) in
        record { declared = declared; is_there = is; field = f.element; is_its_field = ap (slice_get declared.fields) same ∙ f.is_there; of_type = f.means }

    field_right : (p : ℕ) (t : Ty) (word : Word) (g : Given) → slice_get types p ≡ Some t → field_given source.kinds p t word ≡ Ok g → IsRight g
    field_right p Int word g is e = subst IsRight (same_ok _ g e) tt
    field_right p (Of kind) word g is e =
        let field = bind_ok (or_fault (field_named 0 (fields_of source.kinds kind) word.text) (Unknown word.line)) _ g e in
        let found = fault_or_some (field_named 0 (fields_of source.kinds kind) word.text) (Unknown word.line) field.0 field.1 in
        subst IsRight (same_ok _ g field.2) (kind, is, field_there kind (slice_get source.kinds kind) word.text field.0 refl found)

    pub place_right : (p f : Word) (g : Given) → place_given source.kinds params vars p f ≡ Ok g → IsRight g
    place_right p f g e =
        let local = bind_ok (local_typed params vars p) _ g e in
        field_right local.0.0 local.0.1 f g (word_found p local.0 local.1) local.2

    -- the kind that a word means
    kind_there : (text : List ℕ) (found : ℕ × Bool) → kind_named 0 source.kinds text ≡ Some found → IsKindThere source found.0
    kind_there text found e =
        let k : Found (λ (kind : KindDecl). kind.is_root) source.kinds 0 found = first_found (λ (kind : KindDecl). kind.name) (λ (kind : KindDecl). kind.is_root) 0 source.kinds text found e in
        let same : found.0 ≡ k.place = omega (arith, k.number) in
        (k.element, ap (slice_get source.kinds) same ∙ k.is_there)

    pub right_side_right : (right : Rhs) (g : Given) → rhs_given source.kinds params vars right ≡ Ok g → IsRight g
    right_side_right rhs.Null g e = subst IsRight (same_ok _ g e) tt
    right_side_right (rhs.New word) g e =
        let kind = bind_ok (or_fault (kind_named 0 source.kinds word.text) (Unknown word.line)) _ g e in
        subst IsRight (same_ok _ g kind.2) (kind_there word.text kind.0 (fault_or_some (kind_named 0 source.kinds word.text) (Unknown word.line) kind.0 kind.1))
    right_side_right (rhs.Field p f) g e = place_right p f g e
    right_side_right (rhs.Sum x) g e = sum_right x g e
