-- Which module a tree is by the rules, or its first fault, is what the function gives.
use Rattle.std.proofs.Common.{◌≡◌, ℕ, zero, suc, ◌+◌, Bool, true, false, ◌||◌, List, [], ◌∷◌, ◌++◌, refl, sym, ap, subst, ◌∙◌, Option, Some, None, Result, Ok, Err, slice_get, MatchOption, if◌then◌else◌}
use Rattle.std.specs.Prelude.{is_some, IfOk, IfErr, ◌≢◌}
use Rattle.std.specs.List.{list_any}
use Rattle.std.specs.Str.{bytes_eq}
use Rattle.std.proofs.lemmas.Bool.{false≢true, false_from_ne_true}
use Rattle.dl_ir.specs.declared.modules.KindDecl.{KindDecl}
use Rattle.dl_ir.specs.declared.modules.LocalDecl.{LocalDecl}
use Rattle.dl_ir.specs.declared.modules.Module.{Module}
use Rattle.dl_ir.specs.declared.modules.OpDecl.{OpDecl}
use Rattle.dl_ir.specs.declared.modules.Ty.{Ty}
use Rattle.dl_ir.specs.declared.modules.Ty.TheVariants.{Int, Of}
use Rattle.dl_ir.specs.declared.statements.Stmt.{Stmt}
use Rattle.dl_ir.specs.Checked.{is_reference, is_reference_local, is_root}
use Rattle.dl_grammar.specs.declared.tree.Tree.{Tree}
use Rattle.dl_grammar.specs.declared.tree.TreeField.{TreeField}
use Rattle.dl_grammar.specs.declared.tree.TreeOp.{TreeOp}
use Rattle.dl_types.specs.declared.declarations.Place.TheVariants.{InParam, InVar}
use Rattle.dl_types.specs.declared.fault.TypeFault.{TypeFault}
use Rattle.dl_types.specs.declared.fault.TypeFault.TheVariants.{Twice, KindClash, NoRoots, Memory}
use Rattle.dl_types.specs.Checks.{◌>>=◌, each, Gives}
use Rattle.dl_types.specs.Names.{first_named, has_op, local_named}
use Rattle.dl_types.specs.Declarations.{kind_typed, param_typed, var_typed}
use Rattle.dl_types.specs.DeclarationRules.{IsUnnamed, EachIs, IsKind, IsLocal}
use Rattle.dl_types.specs.Rules.{op_name, HasRootParam, HasParams, AreVars, IsOp, HasRootKind, IsTree, Types, IsTypeFault}
use Rattle.dl_types.specs.StatementRules.{IsBlock}
use Rattle.dl_types.specs.Statements.{block_typed}
use Rattle.dl_types.specs.Typing.{op_behind, op_with, op_typed, typed}
use Rattle.dl_types.proofs.DeclarationLaws.{Finds, name_tells, none_found, one_found, each_is, is_each, local_is, is_local, local_after, local_in_both, kind_is, is_kind}
use Rattle.dl_types.proofs.StatementLaws.{block_is, is_typed_block}

-- ---- names of operations
has_named : (start : ℕ) (ops : List OpDecl) (text : List ℕ) → has_op ops text ≡ is_some (first_named op_name op_name start ops text)
has_named start [] text = refl
has_named start (op ∷ more) text = from (bytes_eq op.name text) (has_named (start + 1) more text)
  where
    from : (v : Bool) → has_op more text ≡ is_some (first_named op_name op_name (start + 1) more text)
        → (if v then true else has_op more text) ≡ is_some (if v then Some (start, op.name) else first_named op_name op_name (start + 1) more text)
    from true rest = refl
    from false rest = rest

-- ---- parameters and vars
module _ (kinds : List KindDecl) where
  pub params_are : (params : List TreeField) → EachIs (IsLocal kinds InParam) [] params (each (param_typed kinds) [] params)
  params_are params = each_is (IsLocal kinds InParam) (param_typed kinds) (λ before param. local_is kinds InParam before param) [] params

  pub are_params : (params : List TreeField) (r : Result (List LocalDecl) TypeFault) → EachIs (IsLocal kinds InParam) [] params r → each (param_typed kinds) [] params ≡ r
  are_params params r are = is_each (IsLocal kinds InParam) (param_typed kinds) (λ before param s is. is_local kinds InParam before param s is) [] params r are

  var_after : (params before : List LocalDecl) (var : TreeField) → var_typed kinds params before var ≡ local_after kinds InVar (params ++ before) var (local_named 0 (params ++ before) var.name.text)
  var_after params before var = ap (local_after kinds InVar (params ++ before) var) (local_in_both params before var.name.text)

  module _ (params : List LocalDecl) (op : TreeOp) where
    pub vars_are : AreVars kinds params op (each (var_typed kinds params) [] op.vars)
    vars_are = each_is (λ before. IsLocal kinds InVar (params ++ before)) (var_typed kinds params)
        (λ before var. subst (IsLocal kinds InVar (params ++ before) var) (sym (var_after params before var)) (local_is kinds InVar (params ++ before) var)) [] op.vars

    pub are_vars : (r : Result (List LocalDecl) TypeFault) → AreVars kinds params op r → each (var_typed kinds params) [] op.vars ≡ r
    are_vars r are = is_each (λ before. IsLocal kinds InVar (params ++ before)) (var_typed kinds params)
        (λ before var s is. var_after params before var ∙ is_local kinds InVar (params ++ before) var s is) [] op.vars r are

-- ---- roots
refers : (t : Ty) → is_reference t ≡ true → (kind : ℕ) × (t ≡ Of kind)
refers Int e = cc
refers (Of kind) e = (kind, refl)

some_param : (params : List LocalDecl) (v : Bool) → list_any is_reference_local params ≡ v → v ≡ true → HasRootParam params
some_param params v is holds = found params (is ∙ holds)
  where
    more : (p : LocalDecl) (params : List LocalDecl) → HasRootParam params → HasRootParam (p ∷ params)
    more p params there = (suc there.0, there.1, there.2, there.3, there.4)

    first : (p : LocalDecl) (params : List LocalDecl) (v : Bool) → is_reference_local p ≡ v → (v || list_any is_reference_local params) ≡ true
        → (list_any is_reference_local params ≡ true → HasRootParam params) → HasRootParam (p ∷ params)
    first p params true is e rest = let kind = refers p.ty is in (0, p, kind.0, refl, kind.1)
    first p params false is e rest = more p params (rest e)

    found : (params : List LocalDecl) → list_any is_reference_local params ≡ true → HasRootParam params
    found [] e = cc
    found (p ∷ params) e = first p params (is_reference_local p) refl e (λ later. found params later)

param_is : (params : List LocalDecl) (at : ℕ) (param : LocalDecl) (kind : ℕ) → slice_get params at ≡ Some param → param.ty ≡ Of kind → list_any is_reference_local params ≡ true
param_is [] at param kind there is = cc
param_is (p ∷ params) zero param kind there is = let one : p ≡ param = cc in ap (λ v. v || list_any is_reference_local params) (ap is_reference_local one ∙ ap is_reference is)
param_is (p ∷ params) (suc at) param kind there is = either (is_reference_local p) (param_is params at param kind there is)
  where
    either : (v : Bool) → list_any is_reference_local params ≡ true → (v || list_any is_reference_local params) ≡ true
    either true e = refl
    either false e = e

has_root_param : (params : List LocalDecl) → HasRootParam params → list_any is_reference_local params ≡ true
has_root_param params there = param_is params there.0 there.1 there.2 there.3 there.4

root_kind : (kinds : List KindDecl) → list_any is_root kinds ≡ true → HasRootKind kinds
root_kind [] e = cc
root_kind (k ∷ kinds) e = first k.is_root refl e (λ later. root_kind kinds later)
  where
    first : (v : Bool) → k.is_root ≡ v → (v || list_any is_root kinds) ≡ true → (list_any is_root kinds ≡ true → HasRootKind kinds) → HasRootKind (k ∷ kinds)
    first true is e rest = (0, k, refl, is)
    first false is e rest = let there = rest e in (suc there.0, there.1, there.2, there.3)

kind_there : (kinds : List KindDecl) (at : ℕ) (kind : KindDecl) → slice_get kinds at ≡ Some kind → kind.is_root ≡ true → list_any is_root kinds ≡ true
kind_there [] at kind there is = cc
kind_there (k ∷ kinds) zero kind there is = let one : k ≡ kind = cc in ap (λ v. v || list_any is_root kinds) (ap is_root one ∙ is)
kind_there (k ∷ kinds) (suc at) kind there is = either k.is_root (kind_there kinds at kind there is)
  where
    either : (v : Bool) → list_any is_root kinds ≡ true → (v || list_any is_root kinds) ≡ true
    either true e = refl
    either false e = e

has_root_kind : (kinds : List KindDecl) → HasRootKind kinds → list_any is_root kinds ≡ true
has_root_kind kinds there = kind_there kinds there.0 there.1 there.2 there.3

-- ---- operations
module _ (kinds : List KindDecl) (before : List OpDecl) (op : TreeOp) where
  -- an operation with these parts, as the function has it
  abbrev op_of : List LocalDecl → List LocalDecl → List Stmt → OpDecl
  op_of params vars body = record { name = op.name.text; params = params; vars = vars; allocs = op.allocs; fuel = op.fuel; body = body }

  with_body : (params vars : List LocalDecl) (r : Result (List Stmt) TypeFault) → HasParams kinds before op params → HasRootParam params → AreVars kinds params op (Ok vars)
      → IsBlock kinds (params ++ vars) op.body r → IsOp kinds before op (r >>= λ body. Ok (op_of params vars body))
  with_body params vars (Err fault) has root are is = IsOp.bad_body vars has root are is
  with_body params vars (Ok body) has root are is = IsOp.declared vars has root are is

  with_vars : (params : List LocalDecl) (r : Result (List LocalDecl) TypeFault) → HasParams kinds before op params → HasRootParam params → AreVars kinds params op r
      → IsOp kinds before op (r >>= λ vars. block_typed kinds params vars op.body >>= λ body. Ok (op_of params vars body))
  with_vars params (Err fault) has root are = IsOp.bad_var has root are
  with_vars params (Ok vars) has root are = with_body params vars (block_typed kinds params vars op.body) has root are (block_is kinds params vars op.body)

  with_root : (params : List LocalDecl) (v : Bool) → list_any is_reference_local params ≡ v → HasParams kinds before op params
      → IsOp kinds before op (if v then op_behind kinds op params else Err (KindClash op.name.line))
  with_root params true root has = with_vars params (each (var_typed kinds params) [] op.vars) has (some_param params true root refl) (vars_are kinds params op)
  with_root params false none has = IsOp.no_root_param has (λ root. false≢true (sym none ∙ has_root_param params root))

  with_params : (r : Result (List LocalDecl) TypeFault) → IsUnnamed op_name before op.name.text → EachIs (IsLocal kinds InParam) [] op.params r
      → IsOp kinds before op (r >>= λ params. op_with kinds op params)
  with_params (Err fault) new are = IsOp.bad_param new are
  with_params (Ok params) new are = with_root params (list_any is_reference_local params) refl (record { new = new; are_params = are })

  with_name : (o : Option (ℕ × List ℕ)) → MatchOption o (IsUnnamed op_name before op.name.text) (Finds op_name op_name 0 before op.name.text)
      → IsOp kinds before op (if is_some o then Err (Twice op.name.line) else (each (param_typed kinds) [] op.params >>= λ params. op_with kinds op params))
  with_name None new = with_params (each (param_typed kinds) [] op.params) new (params_are kinds op.params)
  with_name (Some found) there = IsOp.twice there.named

  pub op_is : IsOp kinds before op (op_typed kinds before op)
  op_is = subst (λ v. IsOp kinds before op (if v then Err (Twice op.name.line) else (each (param_typed kinds) [] op.params >>= λ params. op_with kinds op params)))
      (sym (has_named 0 before op.name.text)) (with_name (first_named op_name op_name 0 before op.name.text) (name_tells op_name op_name 0 before op.name.text))

  named_op : (o : Option (ℕ × List ℕ)) → first_named op_name op_name 0 before op.name.text ≡ o
      → op_typed kinds before op ≡ (if is_some o then Err (Twice op.name.line) else (each (param_typed kinds) [] op.params >>= λ params. op_with kinds op params))
  named_op o is =
      ap (λ v. if v then Err (Twice op.name.line) else (each (param_typed kinds) [] op.params >>= λ params. op_with kinds op params)) (has_named 0 before op.name.text ∙ ap is_some is)

  new_op : (r : Result (List LocalDecl) TypeFault) → IsUnnamed op_name before op.name.text → EachIs (IsLocal kinds InParam) [] op.params r → op_typed kinds before op ≡ (r >>= λ params. op_with kinds op params)
  new_op r new are =
      named_op None (none_found op_name op_name 0 before op.name.text new)
      ∙ ap (λ (o : Result (List LocalDecl) TypeFault). o >>= λ params. op_with kinds op params) (are_params kinds op.params r are)

  rooted_op : (params : List LocalDecl) → HasParams kinds before op params → HasRootParam params → op_typed kinds before op ≡ op_behind kinds op params
  rooted_op params has root =
      new_op (Ok params) has.new has.are_params ∙ ap (λ v. if v then op_behind kinds op params else Err (KindClash op.name.line)) (has_root_param params root)

  vars_op : (params : List LocalDecl) (r : Result (List LocalDecl) TypeFault) → HasParams kinds before op params → HasRootParam params → AreVars kinds params op r
      → op_typed kinds before op ≡ (r >>= λ vars. block_typed kinds params vars op.body >>= λ body. Ok (op_of params vars body))
  vars_op params r has root are =
      rooted_op params has root
      ∙ ap (λ (o : Result (List LocalDecl) TypeFault). o >>= λ vars. block_typed kinds params vars op.body >>= λ body. Ok (op_of params vars body)) (are_vars kinds params op r are)

  pub is_op : (r : Result OpDecl TypeFault) → IsOp kinds before op r → op_typed kinds before op ≡ r
  is_op r (IsOp.twice {at = at} {other = other} named) = named_op (Some (0 + at, op_name other)) (one_found op_name op_name 0 before op.name.text at other named)
  is_op r (IsOp.bad_param {fault = fault} new are) = new_op (Err fault) new are
  is_op r (IsOp.no_root_param {params = params} has none) =
      new_op (Ok params) has.new has.are_params
      ∙ ap (λ v. if v then op_behind kinds op params else Err (KindClash op.name.line)) (false_from_ne_true (list_any is_reference_local params) (λ holds. none (some_param params true holds refl)))
  is_op r (IsOp.bad_var {params = params} {fault = fault} has root are) = vars_op params (Err fault) has root are
  is_op r (IsOp.bad_body {params = params} vars {fault = fault} has root are is) =
      vars_op params (Ok vars) has root are ∙ ap (λ (o : Result (List Stmt) TypeFault). o >>= λ body. Ok (op_of params vars body)) (is_typed_block kinds params vars op.body (Err fault) is)
  is_op r (IsOp.declared {params = params} vars {body = body} has root are is) =
      vars_op params (Ok vars) has root are ∙ ap (λ (o : Result (List Stmt) TypeFault). o >>= λ body. Ok (op_of params vars body)) (is_typed_block kinds params vars op.body (Ok body) is)

-- ---- trees
module _ (tree : Tree) where
  -- the module with these parts, as the function has it
  abbrev source_of : List KindDecl → List OpDecl → Module
  source_of kinds ops = record { version = tree.version; kinds = kinds; ops = ops }

  abbrev closed : List KindDecl → List OpDecl → Bool → Result Module TypeFault
  closed kinds ops v = if v then Ok (source_of kinds ops) else Err (NoRoots tree.last)

  with_roots : (kinds : List KindDecl) (ops : List OpDecl) (v : Bool) → list_any is_root kinds ≡ v → EachIs (IsKind tree.kinds) [] tree.kinds (Ok kinds) → EachIs (IsOp kinds) [] tree.ops (Ok ops)
      → IsTree tree (closed kinds ops v)
  with_roots kinds ops true root are all = IsTree.fits kinds ops are all (root_kind kinds root)
  with_roots kinds ops false none are all = IsTree.no_roots kinds ops are all (λ root. false≢true (sym none ∙ has_root_kind kinds root))

  with_ops : (kinds : List KindDecl) (r : Result (List OpDecl) TypeFault) → EachIs (IsKind tree.kinds) [] tree.kinds (Ok kinds) → EachIs (IsOp kinds) [] tree.ops r
      → IsTree tree (r >>= λ ops. closed kinds ops (list_any is_root kinds))
  with_ops kinds (Err fault) are all = IsTree.bad_op kinds are all
  with_ops kinds (Ok ops) are all = with_roots kinds ops (list_any is_root kinds) refl are all

  with_kinds : (r : Result (List KindDecl) TypeFault) → EachIs (IsKind tree.kinds) [] tree.kinds r
      → IsTree tree (r >>= λ kinds. each (op_typed kinds) [] tree.ops >>= λ ops. closed kinds ops (list_any is_root kinds))
  with_kinds (Err fault) are = IsTree.bad_kind are
  with_kinds (Ok kinds) are = with_ops kinds (each (op_typed kinds) [] tree.ops) are (each_is (IsOp kinds) (op_typed kinds) (op_is kinds) [] tree.ops)

  pub tree_is : IsTree tree (typed tree)
  tree_is = with_kinds (each (kind_typed tree.kinds) [] tree.kinds) (each_is (IsKind tree.kinds) (kind_typed tree.kinds) (kind_is tree.kinds) [] tree.kinds)

  after_kinds : (r : Result (List KindDecl) TypeFault) → EachIs (IsKind tree.kinds) [] tree.kinds r
      → typed tree ≡ (r >>= λ kinds. each (op_typed kinds) [] tree.ops >>= λ ops. closed kinds ops (list_any is_root kinds))
  after_kinds r are =
      ap (λ (o : Result (List KindDecl) TypeFault). o >>= λ kinds. each (op_typed kinds) [] tree.ops >>= λ ops. closed kinds ops (list_any is_root kinds))
      (is_each (IsKind tree.kinds) (kind_typed tree.kinds) (is_kind tree.kinds) [] tree.kinds r are)

  after_ops : (kinds : List KindDecl) (r : Result (List OpDecl) TypeFault) → EachIs (IsKind tree.kinds) [] tree.kinds (Ok kinds) → EachIs (IsOp kinds) [] tree.ops r
      → typed tree ≡ (r >>= λ ops. closed kinds ops (list_any is_root kinds))
  after_ops kinds r are all =
      after_kinds (Ok kinds) are ∙ ap (λ (o : Result (List OpDecl) TypeFault). o >>= λ ops. closed kinds ops (list_any is_root kinds)) (is_each (IsOp kinds) (op_typed kinds) (is_op kinds) [] tree.ops r all)

  pub is_tree : (r : Result Module TypeFault) → IsTree tree r → typed tree ≡ r
  is_tree r (IsTree.bad_kind {fault = fault} are) = after_kinds (Err fault) are
  is_tree r (IsTree.bad_op kinds {fault = fault} are all) = after_ops kinds (Err fault) are all
  is_tree r (IsTree.no_roots kinds ops are all none) = after_ops kinds (Ok ops) are all ∙ ap (closed kinds ops) (false_from_ne_true (list_any is_root kinds) (λ holds. none (root_kind kinds holds)))
  is_tree r (IsTree.fits kinds ops are all root) = after_ops kinds (Ok ops) are all ∙ ap (closed kinds ops) (has_root_kind kinds root)

-- the rules and the function say the same of each tree
pub tree_says : (tree : Tree) (r : Result Module TypeFault) → typed tree ≡ r → IsTree tree r
tree_says tree r is = subst (IsTree tree) is (tree_is tree)

-- a tree is one module, or has one fault
pub one_outcome : (tree : Tree) (a b : Result Module TypeFault) → IsTree tree a → IsTree tree b → a ≡ b
one_outcome tree a b is_a is_b = sym (is_tree tree a is_a) ∙ is_tree tree b is_b

-- what is answered by a checker that gives the outcome, the rules say
pub gives_said : (tree : Tree) (result : Result Module TypeFault) → Gives (typed tree) result → IfOk result (Types tree)
gives_said tree (Ok source) gives = tree_says tree (Ok source) gives
gives_said tree (Err fault) gives = tt

pub gives_why : (tree : Tree) (result : Result Module TypeFault) → Gives (typed tree) result → IfErr result (λ fault. fault ≢ Memory → IsTypeFault tree fault)
gives_why tree (Ok source) gives = tt
gives_why tree (Err fault) gives = λ other. tree_says tree (Err fault) (gives other)
