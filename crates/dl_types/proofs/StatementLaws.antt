-- What statements and blocks are by the rules is what the functions give.
use Rattle.std.proofs.Common.{◌≡◌, ℕ, List, [], ◌∷◌, ◌++◌, map, refl, sym, ap, subst, ◌∙◌, Some, None, Result, Ok, Err, append_assoc, append-nil}
use Rattle.dl_ir.specs.declared.expressions.Cond.{Cond}
use Rattle.dl_ir.specs.declared.expressions.Expr.{Expr}
use Rattle.dl_ir.specs.declared.modules.KindDecl.{KindDecl}
use Rattle.dl_ir.specs.declared.modules.LocalDecl.{LocalDecl}
use Rattle.dl_ir.specs.declared.statements.Stmt.{Stmt}
use Rattle.dl_ir.specs.declared.statements.Stmt.TheVariants as stmt
use Rattle.dl_grammar.specs.declared.tree.TreeCond.{TreeCond}
use Rattle.dl_grammar.specs.declared.tree.TreeExpr.{TreeExpr}
use Rattle.dl_grammar.specs.declared.tree.TreeStmt.{TreeStmt, TreeStmt-F, roll-TreeStmt, out-roll-TreeStmt, ind-TreeStmt}
use Rattle.dl_grammar.specs.declared.tree.What.{What, What-F, roll-What, out-What}
use Rattle.dl_grammar.specs.declared.tree.What.TheFolds.{fold-What, fold-roll-What, fold-roll-TreeStmt, fold_out-What, fold_out-TreeStmt, map-What, map-TreeStmt}
use Rattle.dl_grammar.specs.declared.tree.What.TheVariants as what
use Rattle.dl_types.specs.declared.fault.TypeFault.{TypeFault}
use Rattle.dl_types.specs.declared.fault.TypeFault.TheVariants.{KindClash}
use Rattle.dl_types.specs.Checks.{◌>>=◌, or_fault, each}
use Rattle.dl_types.specs.Statements.{Numbers, number_typed, assign_typed, store_typed, cond_typed, return_typed, emit_typed, Typed, in_turn, what_step, stmt_typed, block_typed}
use Rattle.dl_types.specs.StatementRules.{IsCond, IsValue, IsWhat, IsBlock}
use Rattle.dl_types.proofs.SimpleLaws.{assign_is, is_assign, store_is, is_store, cond_is, is_cond, value_typed, value_is, is_value}

-- ---- statements one behind another
-- the statements that were typed, without those before them
abbrev run : List Typed → Result (List Stmt) TypeFault
run [] = Ok []
run (r ∷ rest) = r >>= λ one. run rest >>= λ more. Ok (one ∷ more)

turn_after : (done : List Stmt) (one : Stmt) (r : Result (List Stmt) TypeFault) → (r >>= λ more. Ok ((done ++ one ∷ []) ++ more)) ≡ ((r >>= λ more. Ok (one ∷ more)) >>= λ more. Ok (done ++ more))
turn_after done one (Ok more) = ap (λ l. Ok l) (append_assoc done (one ∷ []) more)
turn_after done one (Err fault) = refl

turns : (done : List Stmt) (rs : List Typed) → each (λ before one. one) done rs ≡ (run rs >>= λ more. Ok (done ++ more))
turns done [] = ap (λ l. Ok l) (sym (append-nil done))
turns done (Err fault ∷ rest) = refl
turns done (Ok one ∷ rest) = turns (done ++ one ∷ []) rest ∙ turn_after done one (run rest)

same_run : (r : Result (List Stmt) TypeFault) → (r >>= λ more. Ok ([] ++ more)) ≡ r
same_run (Ok more) = refl
same_run (Err fault) = refl

in_turn_is : (rs : List Typed) → in_turn rs ≡ run rs
in_turn_is rs = turns [] rs ∙ same_run (run rs)

module _ (kinds : List KindDecl) (params vars : List LocalDecl) where
  abbrev in_line : TreeStmt-F (ℕ → Typed) Typed → Typed
  in_line s = s.what s.line

  abbrev what_typed : What → ℕ → Typed
  what_typed = fold-What (ℕ → Typed) Typed (what_step kinds params vars) in_line

  abbrev IsWhatTyped : What → Type 0
  IsWhatTyped w = (line : ℕ) → IsWhat kinds (params ++ vars) w line (what_typed w line)

  abbrev IsStmtTyped : TreeStmt → Type 0
  IsStmtTyped s = IsWhat kinds (params ++ vars) s.what s.line (stmt_typed kinds params vars s)

  block_more : (s : TreeStmt) (more : List TreeStmt) (r : Typed) (rest : Result (List Stmt) TypeFault) → IsWhat kinds (params ++ vars) s.what s.line r → IsBlock kinds (params ++ vars) more rest
      → IsBlock kinds (params ++ vars) (s ∷ more) (r >>= λ one. rest >>= λ ds. Ok (one ∷ ds))
  block_more s more (Err fault) rest is are = IsBlock.fault is
  block_more s more (Ok one) (Err fault) is are = IsBlock.later_fault is are
  block_more s more (Ok one) (Ok ds) is are = IsBlock.goes_on is are

  run_is : (ds : List ((s : TreeStmt) × IsStmtTyped s)) → IsBlock kinds (params ++ vars) (map (λ p. p.0) ds) (run (map (stmt_typed kinds params vars) (map (λ p. p.0) ds)))
  run_is [] = IsBlock.end
  run_is (p ∷ ds) = block_more p.0 (map (λ p. p.0) ds) (stmt_typed kinds params vars p.0) (run (map (stmt_typed kinds params vars) (map (λ p. p.0) ds))) p.1 (run_is ds)

  block_from : (ds : List ((s : TreeStmt) × IsStmtTyped s)) → IsBlock kinds (params ++ vars) (map (λ p. p.0) ds) (in_turn (map (stmt_typed kinds params vars) (map (λ p. p.0) ds)))
  block_from ds = subst (IsBlock kinds (params ++ vars) (map (λ p. p.0) ds)) (sym (in_turn_is (map (stmt_typed kinds params vars) (map (λ p. p.0) ds)))) (run_is ds)

  -- ---- one level
  choice_is : (c : TreeCond) (then_block else_block : List TreeStmt) (line : ℕ) (r : Result Cond TypeFault) (first second : Result (List Stmt) TypeFault) → IsCond (params ++ vars) line c r
      → IsBlock kinds (params ++ vars) then_block first → IsBlock kinds (params ++ vars) else_block second
      → IsWhat kinds (params ++ vars) (what.If c then_block else_block) line (r >>= λ test. first >>= λ a. second >>= λ b. Ok (stmt.If test a b))
  choice_is c then_block else_block line (Err fault) first second is a b = IsWhat.if_fault then_block else_block is
  choice_is c then_block else_block line (Ok test) (Err fault) second is a b = IsWhat.then_fault else_block is a
  choice_is c then_block else_block line (Ok test) (Ok one) (Err fault) is a b = IsWhat.else_fault is a b
  choice_is c then_block else_block line (Ok test) (Ok one) (Ok two) is a b = IsWhat.choice is a b

  loop_is : (c : TreeCond) (body : List TreeStmt) (line : ℕ) (r : Result Cond TypeFault) (block : Result (List Stmt) TypeFault) → IsCond (params ++ vars) line c r
      → IsBlock kinds (params ++ vars) body block → IsWhat kinds (params ++ vars) (what.While c body) line (r >>= λ test. block >>= λ b. Ok (stmt.While test b))
  loop_is c body line (Err fault) block is b = IsWhat.while_fault body is
  loop_is c body line (Ok test) (Err fault) is b = IsWhat.body_fault is b
  loop_is c body line (Ok test) (Ok block) is b = IsWhat.loop is b

  return_is : (e : TreeExpr) (line : ℕ) (r : Result Expr TypeFault) → IsValue (params ++ vars) line e r → IsWhat kinds (params ++ vars) (what.Return e) line (r >>= λ value. Ok (stmt.Return value))
  return_is e line (Err fault) is = IsWhat.return_fault is
  return_is e line (Ok value) is = IsWhat.return is

  emit_is : (e : TreeExpr) (line : ℕ) (r : Result Expr TypeFault) → IsValue (params ++ vars) line e r → IsWhat kinds (params ++ vars) (what.Emit e) line (r >>= λ value. Ok (stmt.Emit value))
  emit_is e line (Err fault) is = IsWhat.emit_fault is
  emit_is e line (Ok value) is = IsWhat.emit is

  -- a value and what is made of it
  valued : {A : Type 0} (f : Expr → A) (line : ℕ) (r : Numbers) → (r >>= λ number. or_fault number (KindClash line) >>= λ value. Ok (f value)) ≡ ((r >>= λ number. or_fault number (KindClash line)) >>= λ value. Ok (f value))
  valued f line (Ok None) = refl
  valued f line (Ok (Some value)) = refl
  valued f line (Err fault) = refl

  return_value : (e : TreeExpr) (line : ℕ) → return_typed params vars line e ≡ (value_typed params vars line e >>= λ value. Ok (stmt.Return value))
  return_value e line = valued stmt.Return line (number_typed params vars e)

  emit_value : (e : TreeExpr) (line : ℕ) → emit_typed params vars line e ≡ (value_typed params vars line e >>= λ value. Ok (stmt.Emit value))
  emit_value e line = valued stmt.Emit line (number_typed params vars e)

  level_is : (y : What-F ((w : What) × IsWhatTyped w) ((s : TreeStmt) × IsStmtTyped s)) (line : ℕ)
      → IsWhat kinds (params ++ vars) (roll-What (map-What ((w : What) × IsWhatTyped w) ((s : TreeStmt) × IsStmtTyped s) What TreeStmt (λ p. p.0) (λ p. p.0) y)) line
      (what_step kinds params vars (map-What What TreeStmt (ℕ → Typed) Typed what_typed (stmt_typed kinds params vars)
      (map-What ((w : What) × IsWhatTyped w) ((s : TreeStmt) × IsStmtTyped s) What TreeStmt (λ p. p.0) (λ p. p.0) y)) line)
  level_is (What-F.Assign x right) line =
      subst (λ w. IsWhat kinds (params ++ vars) w line (assign_typed kinds params vars line x right)) (sym (what.rolls-Assign x right)) (IsWhat.assign (assign_is kinds params vars line x right))
  level_is (What-F.Store p f right) line =
      subst (λ w. IsWhat kinds (params ++ vars) w line (store_typed kinds params vars line p f right)) (sym (what.rolls-Store p f right)) (IsWhat.store (store_is kinds params vars line p f right))
  level_is (What-F.If c first second) line =
      subst (λ w. IsWhat kinds (params ++ vars) w line (what_step kinds params vars (What-F.If c (map (stmt_typed kinds params vars) (map (λ p. p.0) first)) (map (stmt_typed kinds params vars) (map (λ p. p.0) second))) line))
      (sym (what.rolls-If c (map (λ p. p.0) first) (map (λ p. p.0) second)))
      (choice_is c (map (λ p. p.0) first) (map (λ p. p.0) second) line (cond_typed params vars line c) (in_turn (map (stmt_typed kinds params vars) (map (λ p. p.0) first)))
      (in_turn (map (stmt_typed kinds params vars) (map (λ p. p.0) second))) (cond_is params vars line c) (block_from first) (block_from second))
  level_is (What-F.While c body) line =
      subst (λ w. IsWhat kinds (params ++ vars) w line (what_step kinds params vars (What-F.While c (map (stmt_typed kinds params vars) (map (λ p. p.0) body))) line))
      (sym (what.rolls-While c (map (λ p. p.0) body)))
      (loop_is c (map (λ p. p.0) body) line (cond_typed params vars line c) (in_turn (map (stmt_typed kinds params vars) (map (λ p. p.0) body))) (cond_is params vars line c) (block_from body))
  level_is (What-F.Return e) line =
      subst (λ w. IsWhat kinds (params ++ vars) w line (return_typed params vars line e)) (sym (what.rolls-Return e))
      (subst (IsWhat kinds (params ++ vars) (what.Return e) line) (sym (return_value e line)) (return_is e line (value_typed params vars line e) (value_is params vars line e)))
  level_is (What-F.Emit e) line =
      subst (λ w. IsWhat kinds (params ++ vars) w line (emit_typed params vars line e)) (sym (what.rolls-Emit e))
      (subst (IsWhat kinds (params ++ vars) (what.Emit e) line) (sym (emit_value e line)) (emit_is e line (value_typed params vars line e) (value_is params vars line e)))

  -- a statement's line and form
  in_parts : (x : TreeStmt-F What TreeStmt) (r : Typed) → IsWhat kinds (params ++ vars) x.what x.line r → IsWhat kinds (params ++ vars) (roll-TreeStmt x).what (roll-TreeStmt x).line r
  in_parts x r is = subst (λ (l : TreeStmt-F What TreeStmt). IsWhat kinds (params ++ vars) l.what l.line r) (sym (out-roll-TreeStmt x)) is

  pub stmt_is : (s : TreeStmt) → IsStmtTyped s
  stmt_is = ind-TreeStmt IsWhatTyped IsStmtTyped
      (λ x y is line.
      subst (λ l. IsWhat kinds (params ++ vars) (roll-What l) line (what_typed (roll-What l) line)) is
      (subst (IsWhat kinds (params ++ vars) (roll-What (map-What ((w : What) × IsWhatTyped w) ((s : TreeStmt) × IsStmtTyped s) What TreeStmt (λ p. p.0) (λ p. p.0) y)) line)
      (sym (ap (λ (r : ℕ → Typed). r line) (fold-roll-What (ℕ → Typed) Typed (what_step kinds params vars) in_line
      (map-What ((w : What) × IsWhatTyped w) ((s : TreeStmt) × IsStmtTyped s) What TreeStmt (λ p. p.0) (λ p. p.0) y))))
      (level_is y line)))
      (λ x y is.
      subst (λ l. IsWhat kinds (params ++ vars) (roll-TreeStmt l).what (roll-TreeStmt l).line (stmt_typed kinds params vars (roll-TreeStmt l))) is
      (in_parts (map-TreeStmt ((w : What) × IsWhatTyped w) ((s : TreeStmt) × IsStmtTyped s) What TreeStmt (λ p. p.0) (λ p. p.0) y) _
      (subst (IsWhat kinds (params ++ vars) y.what.0 y.line)
      (sym (fold-roll-TreeStmt (ℕ → Typed) Typed (what_step kinds params vars) in_line (map-TreeStmt ((w : What) × IsWhatTyped w) ((s : TreeStmt) × IsStmtTyped s) What TreeStmt (λ p. p.0) (λ p. p.0) y)))
      (y.what.1 y.line))))

  run_all : (ds : List TreeStmt) → IsBlock kinds (params ++ vars) ds (run (map (stmt_typed kinds params vars) ds))
  run_all [] = IsBlock.end
  run_all (s ∷ ds) = block_more s ds (stmt_typed kinds params vars s) (run (map (stmt_typed kinds params vars) ds)) (stmt_is s) (run_all ds)

  pub block_is : (ds : List TreeStmt) → IsBlock kinds (params ++ vars) ds (block_typed kinds params vars ds)
  block_is ds = subst (IsBlock kinds (params ++ vars) ds) (sym (in_turn_is (map (stmt_typed kinds params vars) ds))) (run_all ds)

  -- ---- and nothing else
  level : (w : What) (l : What-F What TreeStmt) (line : ℕ) → out-What w ≡ l → what_typed w line ≡ what_step kinds params vars (map-What What TreeStmt (ℕ → Typed) Typed what_typed (stmt_typed kinds params vars) l) line
  level w l line is =
      ap (λ (r : ℕ → Typed). r line) (fold_out-What (ℕ → Typed) Typed (what_step kinds params vars) in_line w)
      ∙ ap (λ (m : What-F What TreeStmt). what_step kinds params vars (map-What What TreeStmt (ℕ → Typed) Typed what_typed (stmt_typed kinds params vars) m) line) is

  with_test : (c : TreeCond) (line : ℕ) (r : Result Cond TypeFault) {A : Type 0} (next : Cond → Result A TypeFault) → IsCond (params ++ vars) line c r → (cond_typed params vars line c >>= next) ≡ (r >>= next)
  with_test c line r next is = ap (λ (o : Result Cond TypeFault). o >>= next) (is_cond params vars line c r is)

  with_block : {A : Type 0} (ds : List TreeStmt) (r : Result (List Stmt) TypeFault) (next : List Stmt → Result A TypeFault) → run (map (stmt_typed kinds params vars) ds) ≡ r
      → (in_turn (map (stmt_typed kinds params vars) ds) >>= next) ≡ (r >>= next)
  with_block ds r next is = ap (λ (o : Result (List Stmt) TypeFault). o >>= next) (in_turn_is (map (stmt_typed kinds params vars) ds) ∙ is)

  mutual
    pub is_what : {w : What} {line : ℕ} {r : Typed} → IsWhat kinds (params ++ vars) w line r → what_typed w line ≡ r
    is_what (IsWhat.assign {x = x} {right = right} {line = line} {outcome = o} is) = level _ _ line (what.outs-Assign x right) ∙ is_assign kinds params vars line x right o is
    is_what (IsWhat.store {p = p} {f = f} {right = right} {line = line} {outcome = o} is) = level _ _ line (what.outs-Store p f right) ∙ is_store kinds params vars line p f right o is
    is_what (IsWhat.if_fault {c = c} then_block else_block {line = line} {fault = fault} is) = level _ _ line (what.outs-If c then_block else_block) ∙ with_test c line (Err fault) _ is
    is_what (IsWhat.then_fault {c = c} {then_block = then_block} else_block {line = line} {test = test} {fault = fault} is a) =
        level _ _ line (what.outs-If c then_block else_block) ∙ with_test c line (Ok test) _ is ∙ with_block then_block (Err fault) _ (is_block a)
    is_what (IsWhat.else_fault {c = c} {then_block = then_block} {else_block = else_block} {line = line} {test = test} {first = first} {fault = fault} is a b) =
        level _ _ line (what.outs-If c then_block else_block) ∙ with_test c line (Ok test) _ is ∙ with_block then_block (Ok first) _ (is_block a) ∙ with_block else_block (Err fault) _ (is_block b)
    is_what (IsWhat.choice {c = c} {then_block = then_block} {else_block = else_block} {line = line} {test = test} {first = first} {second = second} is a b) =
        level _ _ line (what.outs-If c then_block else_block) ∙ with_test c line (Ok test) _ is ∙ with_block then_block (Ok first) _ (is_block a) ∙ with_block else_block (Ok second) _ (is_block b)
    is_what (IsWhat.while_fault {c = c} body {line = line} {fault = fault} is) = level _ _ line (what.outs-While c body) ∙ with_test c line (Err fault) _ is
    is_what (IsWhat.body_fault {c = c} {body = body} {line = line} {test = test} {fault = fault} is a) =
        level _ _ line (what.outs-While c body) ∙ with_test c line (Ok test) _ is ∙ with_block body (Err fault) _ (is_block a)
    is_what (IsWhat.loop {c = c} {body = body} {line = line} {test = test} {block = block} is a) =
        level _ _ line (what.outs-While c body) ∙ with_test c line (Ok test) _ is ∙ with_block body (Ok block) _ (is_block a)
    is_what (IsWhat.return {e = e} {line = line} {value = value} is) =
        level _ _ line (what.outs-Return e) ∙ return_value e line ∙ ap (λ (o : Result Expr TypeFault). o >>= λ v. Ok (stmt.Return v)) (is_value params vars line e (Ok value) is)
    is_what (IsWhat.return_fault {e = e} {line = line} {fault = fault} is) =
        level _ _ line (what.outs-Return e) ∙ return_value e line ∙ ap (λ (o : Result Expr TypeFault). o >>= λ v. Ok (stmt.Return v)) (is_value params vars line e (Err fault) is)
    is_what (IsWhat.emit {e = e} {line = line} {value = value} is) =
        level _ _ line (what.outs-Emit e) ∙ emit_value e line ∙ ap (λ (o : Result Expr TypeFault). o >>= λ v. Ok (stmt.Emit v)) (is_value params vars line e (Ok value) is)
    is_what (IsWhat.emit_fault {e = e} {line = line} {fault = fault} is) =
        level _ _ line (what.outs-Emit e) ∙ emit_value e line ∙ ap (λ (o : Result Expr TypeFault). o >>= λ v. Ok (stmt.Emit v)) (is_value params vars line e (Err fault) is)

    pub is_block : {ds : List TreeStmt} {r : Result (List Stmt) TypeFault} → IsBlock kinds (params ++ vars) ds r → run (map (stmt_typed kinds params vars) ds) ≡ r
    is_block IsBlock.end = refl
    is_block (IsBlock.fault {s = s} {more = more} {why = why} is) =
        ap (λ (o : Typed). o >>= λ one. run (map (stmt_typed kinds params vars) more) >>= λ ds. Ok (one ∷ ds)) (fold_out-TreeStmt (ℕ → Typed) Typed (what_step kinds params vars) in_line s ∙ is_what is)
    is_block (IsBlock.later_fault {s = s} {more = more} {one = one} {why = why} is are) =
        ap (λ (o : Typed). o >>= λ one. run (map (stmt_typed kinds params vars) more) >>= λ ds. Ok (one ∷ ds)) (fold_out-TreeStmt (ℕ → Typed) Typed (what_step kinds params vars) in_line s ∙ is_what is)
        ∙ ap (λ (o : Result (List Stmt) TypeFault). o >>= λ ds. Ok (one ∷ ds)) (is_block are)
    is_block (IsBlock.goes_on {s = s} {more = more} {one = one} {rest = rest} is are) =
        ap (λ (o : Typed). o >>= λ one. run (map (stmt_typed kinds params vars) more) >>= λ ds. Ok (one ∷ ds)) (fold_out-TreeStmt (ℕ → Typed) Typed (what_step kinds params vars) in_line s ∙ is_what is)
        ∙ ap (λ (o : Result (List Stmt) TypeFault). o >>= λ ds. Ok (one ∷ ds)) (is_block are)

  pub is_typed_block : (ds : List TreeStmt) (r : Result (List Stmt) TypeFault) → IsBlock kinds (params ++ vars) ds r → block_typed kinds params vars ds ≡ r
  is_typed_block ds r are = in_turn_is (map (stmt_typed kinds params vars) ds) ∙ is_block are
