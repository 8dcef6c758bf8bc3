-- What a statement of a tree is, is typed.
use Rattle.std.proofs.Common.{◌≡◌, ℕ, Bool, false, ◌&&◌, ◌==◌, List, [], ◌∷◌, ◌++◌, map, sym, ap, subst, ◌∙◌, Option, Some, None, Ok, slice_get}
use Rattle.std.specs.Prelude.{not}
use Rattle.std.proofs.lemmas.Bool.{eqb-true}
use Rattle.std.proofs.lemmas.Option.{cond_some}
use Rattle.dl_ir.specs.declared.expressions.Cond.{Cond}
use Rattle.dl_ir.specs.declared.expressions.Cond.TheVariants as cond
use Rattle.dl_ir.specs.declared.expressions.Expr.{Expr}
use Rattle.dl_ir.specs.declared.expressions.RefSide.TheVariants as ref_side
use Rattle.dl_ir.specs.declared.expressions.Rel.{Rel}
use Rattle.dl_ir.specs.declared.modules.LocalDecl.{LocalDecl}
use Rattle.dl_ir.specs.declared.modules.Module.{Module}
use Rattle.dl_ir.specs.declared.modules.Ty.{Ty}
use Rattle.dl_ir.specs.declared.modules.Ty.TheVariants.{Int, Of}
use Rattle.dl_ir.specs.declared.statements.Stmt.{Stmt}
use Rattle.dl_ir.specs.declared.statements.Stmt.TheVariants as stmt
use Rattle.dl_ir.specs.Typed as typed
use Rattle.dl_ir.specs.Typed.{IsTypedExpr, IsTypedCond, IsTyped, IsTypedBlock, IsLocalOf, HasFieldOf}
use Rattle.dl_grammar.specs.declared.tree.Word.{Word}
use Rattle.dl_grammar.specs.declared.tree.Rhs.{Rhs}
use Rattle.dl_grammar.specs.declared.tree.Side.{Side}
use Rattle.dl_grammar.specs.declared.tree.TreeCond.{TreeCond}
use Rattle.dl_grammar.specs.declared.tree.TreeExpr.{TreeExpr}
use Rattle.dl_grammar.specs.declared.tree.TreeStmt.{TreeStmt, TreeStmt-F}
use Rattle.dl_grammar.specs.declared.tree.What.{What, What-F}
use Rattle.dl_grammar.specs.declared.tree.What.TheFolds.{fold-What, map-What, ind-TreeStmt, fold-roll-What, fold-roll-TreeStmt}
use Rattle.dl_types.specs.declared.fault.TypeFault.TheVariants.{KindClash, NewRoot, AssignRoot}
use Rattle.dl_types.specs.declared.operands.Given.{Given}
use Rattle.dl_types.specs.declared.operands.Given.TheVariants as given
use Rattle.dl_types.specs.Checks.{or_fault, each}
use Rattle.dl_types.specs.Names.{is_root_kind}
use Rattle.dl_types.specs.Statements.{is_null, is_new_root, refers_to_root, field_assigned, number_assigned, null_assigned, assigned, assign_typed, rhs_given, local_typed, stored_as, stored, store_typed, place_given, side_given, sameness, refs_compared, refs_related, compared, cond_typed, number_typed, return_typed, emit_typed, Typed, in_turn, what_step, stmt_typed, block_typed}
use Rattle.dl_types.proofs.Checking.{bind_ok, unless_ok, fault_or_some, same_ok, and_true}
use Rattle.dl_types.proofs.Found.{types_in}
use Rattle.dl_types.proofs.Givens.{IsKindThere, node_kind, word_found, expression_fits, IsRight, side_right, place_right, right_side_right}

-- a typed block with one more typed statement
block_push : (source : Module) (types : List Ty) (ds : List Stmt) (d : Stmt) → IsTypedBlock source types ds → IsTyped source types d → IsTypedBlock source types (ds ++ d ∷ [])
block_push source types [] d all one = typed.more one typed.nothing
block_push source types (x ∷ ds) d (typed.more first rest) one = typed.more first (block_push source types ds d rest one)

module _ (params vars : List LocalDecl) (source : Module) where
  abbrev types : List Ty
  types = types_in params vars

  -- the kinds of the locals are there
  abbrev pub KindsAreThere : Type 0
  KindsAreThere = (x kind : ℕ) → IsLocalOf types x kind → IsKindThere source kind

  abbrev Right : Given → Type 0
  Right = IsRight params vars source

  -- ---- assignments
  abbrev Fit : Stmt → Type 0
  Fit = IsTyped source types

  field_fits : (x : ℕ) (t : Ty) (p f : ℕ) (of : Ty) (s : Stmt) → KindsAreThere → slice_get types x ≡ Some t → Right (given.Field p f of) → refers_to_root source.kinds t ≡ false → field_assigned x t p f of ≡ Some s → Fit s
  field_fits x Int p f Int s there is right no_root e = let same : stmt.Load x p f ≡ s = cc in subst Fit same (typed.load is right.1 right.2)
  field_fits x Int p f (Of kind) s there is right no_root e = cc
  field_fits x (Of kind) p f Int s there is right no_root e = cc
  field_fits x (Of kind) p f (Of other) s there is right no_root e =
      let found = cond_some (kind == other) (stmt.Follow x p f) s e in
      let one : kind ≡ other = eqb-true kind other found.0 in
      subst Fit found.1 (typed.follow is (node_kind source kind (there x kind is) no_root) right.1 (subst (λ k. HasFieldOf source right.0 f (Of k)) (sym one) right.2))

  null_fits : (x : ℕ) (t : Ty) (s : Stmt) → slice_get types x ≡ Some t → null_assigned x t ≡ Some s → Fit s
  null_fits x Int s is e = cc
  null_fits x (Of kind) s is e = let same : stmt.Null x ≡ s = cc in subst Fit same (typed.null is)

  number_fits : (x : ℕ) (t : Ty) (value : Expr) (s : Stmt) → slice_get types x ≡ Some t → IsTypedExpr types value → number_assigned x t value ≡ Some s → Fit s
  number_fits x Int value s is right e = let same : stmt.SetInt x value ≡ s = cc in subst Fit same (typed.set_int is right)
  number_fits x (Of kind) value s is right e = cc

  assigned_fits : (x : ℕ) (t : Ty) (what : Given) (s : Stmt) → KindsAreThere → slice_get types x ≡ Some t → Right what → (refers_to_root source.kinds t && not (is_null what)) ≡ false → is_new_root source.kinds what ≡ false
      → assigned x t what ≡ Some s → Fit s
  assigned_fits x t given.Null s there is right no_root no_new e = null_fits x t s is e
  assigned_fits x Int (given.New kind) s there is right no_root no_new e = cc
  assigned_fits x (Of other) (given.New kind) s there is right no_root no_new e =
      let found = cond_some (other == kind) (stmt.New x kind) s e in
      let one : other ≡ kind = eqb-true other kind found.0 in
      subst Fit found.1 (typed.new (subst (λ k. IsLocalOf types x k) one is) (node_kind source kind right no_new))
  assigned_fits x t (given.Field p f of) s there is right no_root no_new e = field_fits x t p f of s there is right (and_true (refers_to_root source.kinds t) no_root) e
  assigned_fits x t (given.Number value) s there is right no_root no_new e = number_fits x t value s is right e
  assigned_fits x Int (given.Reference p kind) s there is right no_root no_new e = cc
  assigned_fits x (Of other) (given.Reference p kind) s there is right no_root no_new e =
      let found = cond_some (other == kind) (stmt.Copy x p) s e in
      let one : other ≡ kind = eqb-true other kind found.0 in
      subst Fit found.1 (typed.copy is (subst (λ k. IsLocalOf types p k) (sym one) right) (node_kind source other (there x other is) (and_true (is_root_kind source.kinds other) no_root)))
  assigned_fits x t given.Unfit s there is right no_root no_new e = cc

  assignment_fits : (line : ℕ) (x : Word) (right : Rhs) (s : Stmt) → KindsAreThere → assign_typed source.kinds params vars line x right ≡ Ok s → Fit s
  assignment_fits line x right s there e =
      let local = bind_ok (local_typed params vars x) _ s e in
      let what = bind_ok (rhs_given source.kinds params vars right) _ s local.2 in
      let no_root = unless_ok (refers_to_root source.kinds local.0.1 && not (is_null what.0)) (AssignRoot line) _ s what.2 in
      let no_new = unless_ok (is_new_root source.kinds what.0) (NewRoot line) _ s no_root.1 in
      assigned_fits local.0.0 local.0.1 what.0 s there (word_found params vars x local.0 local.1) (right_side_right params vars source right what.0 what.1) no_root.0 no_new.0
      (fault_or_some (assigned local.0.0 local.0.1 what.0) (KindClash line) s no_new.1)

  -- ---- stores
  stored_in_fits : (q f : ℕ) (t : Ty) (what : Given) (s : Stmt) → Right (given.Field q f t) → Right what → stored_as q f t what ≡ Some s → Fit s
  stored_in_fits q f Int (given.Number value) s place right e = let same : stmt.Store q f value ≡ s = cc in subst Fit same (typed.store place.1 place.2 right)
  stored_in_fits q f (Of kind) given.Null s place right e = let same : stmt.Cut q f ≡ s = cc in subst Fit same (typed.cut place.1 place.2)
  stored_in_fits q f (Of kind) (given.Reference p other) s place right e =
      let found = cond_some (kind == other) (stmt.Link q f p) s e in
      let one : kind ≡ other = eqb-true kind other found.0 in
      subst Fit found.1 (typed.link place.1 place.2 (subst (λ k. IsLocalOf types p k) (sym one) right))
  stored_in_fits q f t what s place right e = cc

  stored_fits : (place what : Given) (s : Stmt) → Right place → Right what → stored place what ≡ Some s → Fit s
  stored_fits (given.Field q f t) what s place right e = stored_in_fits q f t what s place right e
  stored_fits other what s place right e = cc

  store_fits : (line : ℕ) (p f : Word) (right : Side) (s : Stmt) → store_typed source.kinds params vars line p f right ≡ Ok s → Fit s
  store_fits line p f right s e =
      let place = bind_ok (place_given source.kinds params vars p f) _ s e in
      let what = bind_ok (side_given params vars right) _ s place.2 in
      stored_fits place.0 what.0 s (place_right params vars source p f place.0 place.1) (side_right params vars source right what.0 what.1)
      (fault_or_some (stored place.0 what.0) (KindClash line) s what.2)

  -- ---- conditions
  abbrev FitCond : Cond → Type 0
  FitCond = IsTypedCond types

  references_fit : (same : Bool) (a b : Given) (c : Cond) → Right a → Right b → refs_compared same a b ≡ Some c → FitCond c
  references_fit same (given.Reference p kind) (given.Reference q other) c left right e =
      let found = cond_some (kind == other) (cond.Refs same (ref_side.Local p) (ref_side.Local q)) c e in
      let one : kind ≡ other = eqb-true kind other found.0 in
      subst FitCond found.1 (typed.references same left (subst (λ k. IsLocalOf types q k) (sym one) right))
  references_fit same (given.Reference p kind) given.Null c left right e = let is : cond.Refs same (ref_side.Local p) ref_side.Null ≡ c = cc in subst FitCond is (typed.null_right same left)
  references_fit same given.Null (given.Reference q kind) c left right e = let is : cond.Refs same ref_side.Null (ref_side.Local q) ≡ c = cc in subst FitCond is (typed.null_left same right)
  references_fit same a b c left right e = cc

  related_fit : (same : Option Bool) (a b : Given) (c : Cond) → Right a → Right b → refs_related same a b ≡ Some c → FitCond c
  related_fit None a b c left right e = cc
  related_fit (Some same) a b c left right e = references_fit same a b c left right e

  compared_fit : (r : Rel) (a b : Given) (c : Cond) → Right a → Right b → compared r a b ≡ Some c → FitCond c
  compared_fit r (given.Number a) (given.Number b) c left right e = let same : cond.Ints r a b ≡ c = cc in subst FitCond same (typed.numbers r left right)
  compared_fit r a b c left right e = related_fit (sameness r) a b c left right e

  condition_fits : (line : ℕ) (c : TreeCond) (test : Cond) → cond_typed params vars line c ≡ Ok test → FitCond test
  condition_fits line c test e =
      let a = bind_ok (side_given params vars c.left) _ test e in
      let b = bind_ok (side_given params vars c.right) _ test a.2 in
      compared_fit c.rel a.0 b.0 test (side_right params vars source c.left a.0 a.1) (side_right params vars source c.right b.0 b.1)
      (fault_or_some (compared c.rel a.0 b.0) (KindClash line) test b.2)

  return_fits : (line : ℕ) (x : TreeExpr) (s : Stmt) → return_typed params vars line x ≡ Ok s → Fit s
  return_fits line x s e =
      let number = bind_ok (number_typed params vars x) _ s e in
      let value = bind_ok (or_fault number.0 (KindClash line)) _ s number.2 in
      let is = fault_or_some number.0 (KindClash line) value.0 value.1 in
      subst Fit (same_ok _ s value.2) (typed.return (expression_fits params vars x value.0 (number.1 ∙ ap (λ o. Ok o) is)))

  emit_fits : (line : ℕ) (x : TreeExpr) (s : Stmt) → emit_typed params vars line x ≡ Ok s → Fit s
  emit_fits line x s e =
      let number = bind_ok (number_typed params vars x) _ s e in
      let value = bind_ok (or_fault number.0 (KindClash line)) _ s number.2 in
      let is = fault_or_some number.0 (KindClash line) value.0 value.1 in
      subst Fit (same_ok _ s value.2) (typed.emit (expression_fits params vars x value.0 (number.1 ∙ ap (λ o. Ok o) is)))

  -- ---- statements and blocks
  abbrev what_typed : What → ℕ → Typed
  what_typed = fold-What (ℕ → Typed) Typed (what_step source.kinds params vars) (λ (s : TreeStmt-F (ℕ → Typed) Typed). s.what s.line)

  abbrev FitWhat : What → Type 0
  FitWhat w = (line : ℕ) (s : Stmt) → what_typed w line ≡ Ok s → Fit s

  abbrev FitStmt : TreeStmt → Type 0
  FitStmt d = (s : Stmt) → stmt_typed source.kinds params vars d ≡ Ok s → Fit s

  block_from : (ds : List ((d : TreeStmt) × FitStmt d)) (done block : List Stmt) → IsTypedBlock source types done
      → each (λ before one. one) done (map (stmt_typed source.kinds params vars) (map (λ p. p.0) ds)) ≡ Ok block → IsTypedBlock source types block
  block_from [] done block all e = subst (IsTypedBlock source types) (same_ok done block e) all
  block_from (p ∷ ds) done block all e =
      let one = bind_ok (stmt_typed source.kinds params vars p.0) _ block e in
      block_from ds (done ++ one.0 ∷ []) block (block_push source types done one.0 all (p.1 one.0 one.1)) one.2

  -- one level of a statement
  level_fits : (y : What-F ((w : What) × FitWhat w) ((d : TreeStmt) × FitStmt d)) (line : ℕ) (s : Stmt) → KindsAreThere
      → what_step source.kinds params vars (map-What What TreeStmt (ℕ → Typed) Typed what_typed (stmt_typed source.kinds params vars) (map-What ((w : What) × FitWhat w) ((d : TreeStmt) × FitStmt d) What TreeStmt (λ p. p.0) (λ p. p.0) y)) line ≡ Ok s → Fit s
  level_fits (What-F.Assign x right) line s there e = assignment_fits line x right s there e
  level_fits (What-F.Store p f right) line s there e = store_fits line p f right s e
  level_fits (What-F.If c first second) line s there e =
      let test = bind_ok (cond_typed params vars line c) _ s e in
      let one = bind_ok (in_turn (map (stmt_typed source.kinds params vars) (map (λ p. p.0) first))) _ s test.2 in
      let other = bind_ok (in_turn (map (stmt_typed source.kinds params vars) (map (λ p. p.0) second))) _ s one.2 in
      subst Fit (same_ok _ s other.2) (typed.choose (condition_fits line c test.0 test.1) (block_from first [] one.0 typed.nothing one.1) (block_from second [] other.0 typed.nothing other.1))
  level_fits (What-F.While c body) line s there e =
      let test = bind_ok (cond_typed params vars line c) _ s e in
      let block = bind_ok (in_turn (map (stmt_typed source.kinds params vars) (map (λ p. p.0) body))) _ s test.2 in
      subst Fit (same_ok _ s block.2) (typed.while (condition_fits line c test.0 test.1) (block_from body [] block.0 typed.nothing block.1))
  level_fits (What-F.Return x) line s there e = return_fits line x s e
  level_fits (What-F.Emit x) line s there e = emit_fits line x s e

  abbrev in_line : TreeStmt-F (ℕ → Typed) Typed → Typed
  in_line s = s.what s.line

  pub statement_fits : KindsAreThere → (d : TreeStmt) → FitStmt d
  statement_fits there = ind-TreeStmt FitWhat FitStmt
      (λ x y is line s e. level_fits y line s there (
      ap (λ l. what_step source.kinds params vars (map-What What TreeStmt (ℕ → Typed) Typed what_typed (stmt_typed source.kinds params vars) l) line) is
      ∙ sym (ap (λ (r : ℕ → Typed). r line) (fold-roll-What (ℕ → Typed) Typed (what_step source.kinds params vars) in_line x))
      ∙ e))
      (λ x y is s e. y.what.1 y.line s (
      ap (λ (l : TreeStmt-F What TreeStmt). what_typed l.what l.line) is
      ∙ sym (fold-roll-TreeStmt (ℕ → Typed) Typed (what_step source.kinds params vars) in_line x)
      ∙ e))

  rest_fits : KindsAreThere → (ds : List TreeStmt) (done block : List Stmt) → IsTypedBlock source types done
      → each (λ before one. one) done (map (stmt_typed source.kinds params vars) ds) ≡ Ok block → IsTypedBlock source types block
  rest_fits there [] done block all e = subst (IsTypedBlock source types) (same_ok done block e) all
  rest_fits there (d ∷ ds) done block all e =
      let one = bind_ok (stmt_typed source.kinds params vars d) _ block e in
      rest_fits there ds (done ++ one.0 ∷ []) block (block_push source types done one.0 all (statement_fits there d one.0 one.1)) one.2

  -- what a block of a tree is, is typed
  pub block_fits : KindsAreThere → (ds : List TreeStmt) (block : List Stmt) → block_typed source.kinds params vars ds ≡ Ok block → IsTypedBlock source types block
  block_fits there ds block e = rest_fits there ds [] block typed.nothing e
