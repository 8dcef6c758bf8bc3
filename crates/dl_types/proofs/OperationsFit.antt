-- What an operation of a tree is, is an operation of a checked module.
use Rattle.std.proofs.Common.{◌≡◌, ℕ, Bool, true, false, List, [], ◌∷◌, ◌++◌, refl, sym, ap, subst, ◌∙◌, Option, Some, None, Result, Ok, arith, ◌⊎◌, inl, inr, All, slice_get, if◌then◌else◌}
use Rattle.std.specs.Prelude.{codes, is_some}
use Rattle.std.specs.List.{AllByRecursion, list_any}
use Rattle.std.specs.Str.{bytes_eq}
use Rattle.std.proofs.lemmas.List.Elements.{All-nil, All-append, All-weaker}
use Rattle.std.proofs.lemmas.Option.{slice_get-map}
use Rattle.dl_ir.specs.declared.modules.KindDecl.{KindDecl}
use Rattle.dl_ir.specs.declared.modules.LocalDecl.{LocalDecl}
use Rattle.dl_ir.specs.declared.modules.Module.{Module}
use Rattle.dl_ir.specs.declared.modules.OpDecl.{OpDecl}
use Rattle.dl_ir.specs.declared.modules.Ty.{Ty}
use Rattle.dl_ir.specs.declared.modules.Ty.TheVariants.{Int, Of}
use Rattle.dl_ir.specs.Checked.{IsParamType, IsVarType, IsOperation, is_reference_local}
use Rattle.dl_grammar.specs.declared.tree.TreeField.{TreeField}
use Rattle.dl_grammar.specs.declared.tree.TreeOp.{TreeOp}
use Rattle.dl_grammar.specs.declared.tree.Word.{Word}
use Rattle.dl_grammar.specs.Limits.{IsOpInLimits}
use Rattle.dl_types.specs.declared.fault.TypeFault.{TypeFault}
use Rattle.dl_types.specs.declared.fault.TypeFault.TheVariants.{Twice, KindClash}
use Rattle.dl_types.specs.declared.declarations.Place.{Place}
use Rattle.dl_types.specs.declared.declarations.Place.TheVariants.{InParam, InVar}
use Rattle.dl_types.specs.Checks.{each}
use Rattle.dl_types.specs.Names.{kind_named, local_named, local_of, has_op}
use Rattle.dl_types.specs.Declarations.{takes, sort_fault, kind_type, type_of, param_typed, var_typed}
use Rattle.dl_types.specs.Statements.{block_typed}
use Rattle.dl_types.specs.Typing.{op_typed}
use Rattle.dl_types.proofs.Checking.{bind_ok, unless_ok, where_ok, same_ok, each_all, each_length}
use Rattle.dl_types.proofs.Found.{Found, first_found, type_in}
use Rattle.dl_types.proofs.Givens.{IsKindThere}
use Rattle.dl_types.proofs.StatementsFit.{KindsAreThere, block_fits}
use Rattle.dl_lemmas.proofs.Places.{all_at, mapped}
use Rattle.std.proofs.lemmas.Bool.{not-true}

-- nothing is asked of the elements
pub nothing_asked : {A : Type 0} (xs : List A) → AllByRecursion (λ (x : A). Unit {0}) xs
nothing_asked [] = tt
nothing_asked (x ∷ xs) = (tt, nothing_asked xs)

one_or_the_other : {A : Type 0} (test : Bool) (r q : Result A TypeFault) (a : A) → (if test then r else q) ≡ Ok a → (r ≡ Ok a) ⊎ (q ≡ Ok a)
one_or_the_other true r q a e = inl e
one_or_the_other false r q a e = inr e

-- a type that refers to a kind that a name means, of a sort that may stand there
pub record Refers (kind_of : List ℕ → Option (ℕ × Bool)) (place : Place) (word : Word) (t : Ty) : Type 0 where
  pub kind : ℕ × Bool
  pub found : kind_of word.text ≡ Some kind
  pub taken : takes place kind.1 ≡ true
  pub is : Of kind.0 ≡ t

kind_refers : (kind_of : List ℕ → Option (ℕ × Bool)) (place : Place) (word : Word) (t : Ty) (o : Option (ℕ × Bool)) → kind_of word.text ≡ o → kind_type place word.line o ≡ Ok t → Refers kind_of place word t
kind_refers kind_of place word t None is e = cc
kind_refers kind_of place word t (Some kind) is e =
    let taken = where_ok (takes place kind.1) (sort_fault place word.line) (Ok (Of kind.0)) t e in
    record { kind = kind; found = is; taken = taken.0; is = same_ok _ t taken.1 }

-- a type is that of numbers, or refers to a kind
pub type_refers : (kind_of : List ℕ → Option (ℕ × Bool)) (place : Place) (word : Word) (t : Ty) → type_of kind_of place word ≡ Ok t → (Int ≡ t) ⊎ Refers kind_of place word t
type_refers kind_of place word t e = elim (one_or_the_other (bytes_eq word.text (codes "int")) (Ok Int) (kind_type place word.line (kind_of word.text)) t e) [
  | inl number ↦ inl (same_ok Int t number)
  | inr refers ↦ inr (kind_refers kind_of place word t (kind_of word.text) refl refers)
]

module _ (source : Module) where
  -- the kind that is found
  kind_found : (text : List ℕ) (found : ℕ × Bool) → kind_named 0 source.kinds text ≡ Some found → (d : KindDecl) × (slice_get source.kinds found.0 ≡ Some d) × (d.is_root ≡ found.1)
  kind_found text found e =
      let k : Found (λ (kind : KindDecl). kind.is_root) source.kinds 0 found = first_found (λ (kind : KindDecl). kind.name) (λ (kind : KindDecl). kind.is_root) 0 source.kinds text found e in
      let same : found.0 ≡ k.place = omega (arith, k.number) in
      (k.element, ap (slice_get source.kinds) same ∙ k.is_there, k.means)

  param_type : (word : Word) (t : Ty) → type_of (kind_named 0 source.kinds) InParam word ≡ Ok t → IsParamType source t
  param_type word t e = elim (type_refers (kind_named 0 source.kinds) InParam word t e) [
    | inl number ↦ subst (IsParamType source) number tt
    | inr refers ↦
        let kind = kind_found word.text refers.kind refers.found in
        subst (IsParamType source) refers.is (record { declared = kind.0; is_there = kind.1; is_root = kind.2 ∙ refers.taken })
  ]

  var_type : (word : Word) (t : Ty) → type_of (kind_named 0 source.kinds) InVar word ≡ Ok t → IsVarType source t
  var_type word t e = elim (type_refers (kind_named 0 source.kinds) InVar word t e) [
    | inl number ↦ subst (IsVarType source) number tt
    | inr refers ↦
        let kind = kind_found word.text refers.kind refers.found in
        subst (IsVarType source) refers.is (record { declared = kind.0; is_there = kind.1; is_node = kind.2 ∙ not-true refers.kind.1 refers.taken })
  ]

  abbrev IsParam : LocalDecl → Type 0
  IsParam param = IsParamType source param.ty

  abbrev IsVar : LocalDecl → Type 0
  IsVar var = IsVarType source var.ty

  param_fits : (before : List LocalDecl) (param : TreeField) (d : LocalDecl) → Unit {0} → param_typed source.kinds before param ≡ Ok d → IsParam d
  param_fits before param d u e =
      let named = unless_ok (is_some (local_named 0 before param.name.text)) (Twice param.name.line) _ d e in
      let t = bind_ok (type_of (kind_named 0 source.kinds) InParam param.ty) _ d named.1 in
      subst IsParam (same_ok _ d t.2) (param_type param.ty t.0 t.1)

  var_fits : (params before : List LocalDecl) (var : TreeField) (d : LocalDecl) → Unit {0} → var_typed source.kinds params before var ≡ Ok d → IsVar d
  var_fits params before var d u e =
      let named = unless_ok (is_some (local_of params before var.name.text)) (Twice var.name.line) _ d e in
      let t = bind_ok (type_of (kind_named 0 source.kinds) InVar var.ty) _ d named.1 in
      subst IsVar (same_ok _ d t.2) (var_type var.ty t.0 t.1)

  -- the kind of a type is there
  abbrev TypeIsThere : Ty → Type 0
  TypeIsThere Int = Unit {0}
  TypeIsThere (Of kind) = IsKindThere source kind

  param_there : (t : Ty) → IsParamType source t → TypeIsThere t
  param_there Int is = tt
  param_there (Of kind) is = (is.declared, is.is_there)

  var_there : (t : Ty) → IsVarType source t → TypeIsThere t
  var_there Int is = tt
  var_there (Of kind) is = (is.declared, is.is_there)

  abbrev IsThere : LocalDecl → Type 0
  IsThere local = TypeIsThere local.ty

  kinds_there : (params vars : List LocalDecl) → All IsParam params → All IsVar vars → KindsAreThere params vars source
  kinds_there params vars all_params all_vars x kind is =
      let local = mapped type_in (slice_get (params ++ vars) x) (Of kind) (sym (slice_get-map type_in (params ++ vars) x) ∙ is) in
      let all = All-append IsThere params vars (All-weaker IsParam IsThere (λ d fits. param_there d.ty fits) params all_params) (All-weaker IsVar IsThere (λ d fits. var_there d.ty fits) vars all_vars) in
      subst TypeIsThere local.2 (all_at IsThere (params ++ vars) x local.0 all local.1)

  pub operation_fits : (before : List OpDecl) (op : TreeOp) (o : OpDecl) → IsOpInLimits op → op_typed source.kinds before op ≡ Ok o → IsOperation source o
  operation_fits before op o limits e =
      let named = unless_ok (has_op before op.name.text) (Twice op.name.line) _ o e in
      let params = bind_ok (each (param_typed source.kinds) [] op.params) _ o named.1 in
      let rooted = where_ok (list_any is_reference_local params.0) (KindClash op.name.line) _ o params.2 in
      let vars = bind_ok (each (var_typed source.kinds params.0) [] op.vars) _ o rooted.1 in
      let body = bind_ok (block_typed source.kinds params.0 vars.0 op.body) _ o vars.2 in
      let all_params = each_all IsParam (λ (x : TreeField). Unit {0}) (param_typed source.kinds) param_fits [] op.params params.0 (All-nil IsParam) (nothing_asked op.params) params.1 in
      let all_vars = each_all IsVar (λ (x : TreeField). Unit {0}) (var_typed source.kinds params.0) (var_fits params.0) [] op.vars vars.0 (All-nil IsVar) (nothing_asked op.vars) vars.1 in
      let params_count = each_length (param_typed source.kinds) [] op.params params.0 params.1 in
      let vars_count = each_length (var_typed source.kinds params.0) [] op.vars vars.0 vars.1 in
      subst (IsOperation source) (same_ok _ o body.2) (record {
        params = all_params;
        rooted = rooted.0;
        vars = all_vars;
        few_locals = omega (arith, params_count, vars_count, limits.few_locals);
        few_allocs = limits.few_allocs;
        little_fuel = limits.little_fuel;
        body = block_fits params.0 vars.0 source (kinds_there params.0 vars.0 all_params all_vars) op.body body.0 body.1;
      })
