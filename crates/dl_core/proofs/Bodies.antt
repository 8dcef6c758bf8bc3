-- The code of a body in a lone run carries out the body.
use Rattle.std.proofs.Common.{◌≡◌, inl, inr, ℕ, zero, suc, ◌+◌, ◌<◌, ◌≤◌, Bool, true, false, List, [], ◌∷◌, ◌++◌, length, Option, Some, None, Result, Ok, Err, refl, sym, ap, subst, ◌∙◌, arith, slice_get, length-append, ◌||◌}
use Rattle.std.specs.Prelude.{◌==◌}
use Rattle.std.proofs.lemmas.Bool.{cases_lt, cases_eq}
use Rattle.std.specs.FinMap as finite
use Rattle.dl_ir.specs.declared.answers.End.{End}
use Rattle.dl_ir.specs.declared.answers.End.TheVariants as ends
use Rattle.dl_ir.specs.declared.answers.Fault.{Fault}
use Rattle.dl_ir.specs.declared.expressions.Cond.{Cond}
use Rattle.dl_ir.specs.declared.modules.OpDecl.{OpDecl}
use Rattle.dl_ir.specs.declared.modules.Ty.TheVariants as types
use Rattle.dl_ir.specs.declared.names.Value.TheVariants as values
use Rattle.dl_ir.specs.declared.objects.Obj.{Obj}
use Rattle.dl_ir.specs.declared.statements.Stmt.{Stmt, Stmt-F, out-Stmt}
use Rattle.dl_ir.specs.declared.statements.Stmt.TheFolds.{fold_out-Stmt, map-Stmt}
use Rattle.dl_ir.specs.declared.statements.Stmt.TheVariants.{If, While, outs-SetInt, outs-Load, outs-Store, outs-Copy, outs-Null, outs-Follow, outs-New, outs-Link, outs-Cut, outs-Emit, outs-Return}
use Rattle.dl_ir.specs.Evaluation.{value_of, holds_of}
use Rattle.dl_ir.specs.Meaning.{Context, State, fault_end, take_turn, set_local, set_field, add_emitted, make}
use Rattle.dl_ir.specs.Relation as relation
use Rattle.dl_ir.specs.Relation.{Runs, RunsBlock, Loops}
use Rattle.dl_ir.specs.Typed as typed
use Rattle.dl_ir.specs.Typed.{IsTyped, IsTypedBlock, IsTypedCond, FieldsReferToNodes, types_of}
use Rattle.dl_meaning.specs.Fitting.{Fits}
use Rattle.dl_meaning.proofs.Kept.{reference_at, at_reference, number_at, target_at, to_local, to_field, by_open, fits_local, fits_turn, fits_emitted, fits_field, fits_new}
use Rattle.dl_meaning.proofs.Turns.{block_turns}
use Rattle.dl_instr.specs.declared.steps.Step.{Step}
use Rattle.dl_instr.specs.declared.steps.Step.TheVariants.{Read, Want, Set, Drop, Make, Eval, Write, Emit, Test, Jump, Give}
use Rattle.dl_instr.specs.declared.steps.Origin.TheVariants as origins
use Rattle.dl_instr.specs.declared.steps.Content.TheVariants as contents
use Rattle.dl_instr.specs.Code.{Placed, stmt_code, block_code, op_code, steps_of}
use Rattle.dl_instr.specs.Drops.{is_use, front, moved, IsWithDrops}
use Rattle.dl_instr.proofs.PlainSteps.{if_alone_is, if_else_is, while_is}
use Rattle.dl_core.specs.Plans.{source_of, allocs_of}
use Rattle.dl_core.specs.Frames.{Frame}
use Rattle.dl_core.proofs.Names.{no_some}
use Rattle.dl_core.proofs.Lone.{Lone}
use Rattle.dl_core.proofs.Body.{code, From, Over, is_itself, eval_on, eval_fault, emit_on, emit_full, give_on, give_fault, read_on, read_null, hand_set, copy_on, drop_on, jump_on, test_true, test_false, test_fault, turn_none, turn_true, turn_false, turn_fault, want_on, want_sealed, write_on, write_null, content_local, make_on, make_quota, new_name, with_new}
use Rattle.dl_core.proofs.Placing.{HasCode, code_head, code_rest, code_front, code_back, Front, front_next, use_next, arrive}

-- the steps of a statement, by its form
code_layer : (d : Stmt) (first : ℕ) (y : Stmt-F Stmt) → out-Stmt d ≡ y → stmt_code d first ≡ steps_of (map-Stmt Stmt Placed stmt_code y) first
code_layer d first y e = ap (λ (p : Placed). p first) (fold_out-Stmt Placed steps_of d) ∙ ap (λ (m : Stmt-F Stmt). steps_of (map-Stmt Stmt Placed stmt_code m) first) e

by_value : {P A : Type 0} (v : Result A Fault) → ((x : A) → v ≡ Ok x → P) → ((fault : Fault) → v ≡ Err fault → P) → P
by_value (Ok x) good bad = good x refl
by_value (Err fault) good bad = bad fault refl

by_truth : {P : Type 0} (v : Result Bool Fault) (b : Bool) → v ≡ Ok b → (v ≡ Ok true → P) → (v ≡ Ok false → P) → P
by_truth v true is yes_case no_case = yes_case is
by_truth v false is yes_case no_case = no_case is

not_there : (r : Option Obj) → ((object : Obj) → r ≡ Some object → ⊥) → r ≡ None
not_there None none = refl
not_there (Some object) none = absurd (none object refl)

module _ (l : Lone) (base : Frame) (op : OpDecl) (drops : IsWithDrops op (op_code op) (code l base)) (allocs_is : allocs_of l.plan base.call ≡ op.allocs) (nodes : FieldsReferToNodes (source_of l.plan)) where
  abbrev pub context : Context
  context = record { source = source_of l.plan; ticket = base.ticket; allocs = op.allocs }

  abbrev At : ℕ → ℕ
  At i = drops.at i

  abbrev F : ℕ → ℕ
  F i = Front op (code l base) drops i

  -- how the run goes on from an outcome
  abbrev pub Onward : Option End → ℕ → State → Type 0
  Onward None i t = From l base (F i) t
  Onward (Some end) i t = Over l base end t

  -- and how from each outcome of a statement, or of a block
  abbrev pub After : Stmt → State → ℕ → Type 0
  After d s place = (t : State) (end : Option End) → Runs context d s t end → Fits context (types_of op) t → Onward end place t

  abbrev pub AfterBlock : List Stmt → State → ℕ → Type 0
  AfterBlock block s place = (t : State) (end : Option End) → RunsBlock context block s t end → Fits context (types_of op) t → Onward end place t

  -- a statement whose steps are these
  with_steps : (d : Stmt) (first : ℕ) (s : State) (part : List Step) → stmt_code d first ≡ part → (HasCode (op_code op) first part → After d s (first + length part) → From l base (F first) s)
      → HasCode (op_code op) first (stmt_code d first) → After d s (first + length (stmt_code d first)) → From l base (F first) s
  with_steps d first s part e body has on = body (subst (HasCode (op_code op) first) e has) (λ t end runs fits. subst (λ (p : List Step). Onward end (first + length p) t) e (on t end runs fits))

  -- the step behind one, that uses what the hand holds
  behind : (i : ℕ) (step : Step) → slice_get (op_code op) (i + 1) ≡ Some step → is_use step ≡ true → slice_get (code l base) (At i + 1) ≡ Some (moved (front drops.at) step)
  behind i step is used = ap (slice_get (code l base)) (sym (use_next op (code l base) drops i step is used)) ∙ drops.kept (i + 1) step is

  after_two : (i : ℕ) (step : Step) → slice_get (op_code op) (i + 1) ≡ Some step → is_use step ≡ true → F (i + 2) ≡ At i + 1 + 1
  after_two i step is used =
      ap F (let e : i + 2 ≡ i + 1 + 1 = omega arith in e) ∙ front_next op (code l base) drops (i + 1) ∙ ap (λ n. n + 1) (use_next op (code l base) drops i step is used)

  behind_two : (i : ℕ) (step last : Step) → slice_get (op_code op) (i + 1) ≡ Some step → is_use step ≡ true → slice_get (op_code op) (i + 1 + 1) ≡ Some last → is_use last ≡ true → slice_get (code l base) (At i + 1 + 1) ≡ Some (moved (front drops.at) last)
  behind_two i step last is used last_is last_used = ap (λ n. slice_get (code l base) (n + 1)) (sym (use_next op (code l base) drops i step is used)) ∙ behind (i + 1) last last_is last_used

  after_three : (i : ℕ) (step last : Step) → slice_get (op_code op) (i + 1) ≡ Some step → is_use step ≡ true → slice_get (op_code op) (i + 1 + 1) ≡ Some last → is_use last ≡ true → F (i + 3) ≡ At i + 1 + 1 + 1
  after_three i step last is used last_is last_used =
      ap F (let e : i + 3 ≡ i + 1 + 2 = omega arith in e) ∙ after_two (i + 1) last last_is last_used ∙ ap (λ n. n + 1 + 1) (use_next op (code l base) drops i step is used)

  -- ---- the steps of a part

  one_step : (i : ℕ) (a : Step) → HasCode (op_code op) i (a ∷ []) → slice_get (op_code op) i ≡ Some a
  one_step i a has = code_head (op_code op) i a [] has

  first_of : (i : ℕ) (a b : Step) → HasCode (op_code op) i (a ∷ b ∷ []) → slice_get (op_code op) i ≡ Some a
  first_of i a b has = code_head (op_code op) i a (b ∷ []) has

  second_of : (i : ℕ) (a b : Step) → HasCode (op_code op) i (a ∷ b ∷ []) → slice_get (op_code op) (i + 1) ≡ Some b
  second_of i a b has = code_head (op_code op) (i + 1) b [] (code_rest (op_code op) i a (b ∷ []) has)

  -- the run goes on behind a step, behind two, behind three
  on_one : (i : ℕ) (end : Option End) (t : State) → Onward end (i + 1) t → end ≡ None → From l base (At i + 1) t
  on_one i None t on e = subst (λ n. From l base n t) (front_next op (code l base) drops i) on
  on_one i (Some end) t on e = absurd (no_some (sym e))

  on_two : (i : ℕ) (a b : Step) (t : State) → HasCode (op_code op) i (a ∷ b ∷ []) → is_use b ≡ true → From l base (F (i + 2)) t → From l base (At i + 1 + 1) t
  on_two i a b t has used on = subst (λ n. From l base n t) (after_two i b (second_of i a b has) used) on

  module _ (i : ℕ) (a b c : Step) (has : HasCode (op_code op) i (a ∷ b ∷ c ∷ [])) (b_used : is_use b ≡ true) (c_used : is_use c ≡ true) where
    first_is : slice_get (op_code op) i ≡ Some a
    first_is = code_head (op_code op) i a (b ∷ c ∷ []) has

    second_is : slice_get (op_code op) (i + 1) ≡ Some b
    second_is = code_head (op_code op) (i + 1) b (c ∷ []) (code_rest (op_code op) i a (b ∷ c ∷ []) has)

    third_is : slice_get (op_code op) (i + 1 + 1) ≡ Some c
    third_is = code_head (op_code op) (i + 1 + 1) c [] (code_rest (op_code op) (i + 1) b (c ∷ []) (code_rest (op_code op) i a (b ∷ c ∷ []) has))

    at_second : slice_get (code l base) (At i + 1) ≡ Some (moved (front drops.at) b)
    at_second = behind i b second_is b_used

    at_third : slice_get (code l base) (At i + 1 + 1) ≡ Some (moved (front drops.at) c)
    at_third = behind_two i b c second_is b_used third_is c_used

    on_three : (t : State) → From l base (F (i + 3)) t → From l base (At i + 1 + 1 + 1) t
    on_three t on = subst (λ n. From l base n t) (after_three i b c second_is b_used third_is c_used) on

  -- ---- loops and branches

  -- a jump, to a plain step
  jumped : (first to : ℕ) (s : State) → slice_get (op_code op) first ≡ Some (Jump to) → Fits context (types_of op) s → From l base (F to) s → From l base (F first) s
  jumped first to s is fits on = arrive l base op drops context first (Jump to) s is fits (λ at. jump_on l base (At first) (F to) s at on)

  -- a block that is run from each state that fits
  abbrev Carries : List Stmt → ℕ → Type 0
  Carries block place = (s : State) → Fits context (types_of op) s → AfterBlock block s (place + length (block_code block place)) → From l base (F place) s

  -- from a place on
  at_place : (i j : ℕ) (end : Option End) (t : State) → i ≡ j → Onward end i t → Onward end j t
  at_place i j end t e on = subst (λ n. Onward end n t) e on

  -- a loop, of which the block is carried out; n is at least the number of turns left
  looped : (first : ℕ) (c : Cond) (body : List Stmt) → IsTypedCond (types_of op) c → slice_get (op_code op) first ≡ Some (Test c true (first + 1 + length (block_code body (first + 1)) + 1))
      → slice_get (op_code op) (first + 1 + length (block_code body (first + 1))) ≡ Some (Jump first) → Carries body (first + 1)
      → (n : ℕ) (s : State) → s.turns ≤ n → Fits context (types_of op) s
      → ((t : State) (end : Option End) → Loops context c body s t end → Fits context (types_of op) t → Onward end (first + 1 + length (block_code body (first + 1)) + 1) t) → From l base (F first) s
  looped first c body c_is test jump carries zero s enough fits on =
      arrive l base op drops context first (Test c true (first + 1 + length (block_code body (first + 1)) + 1)) s test fits (λ at.
      turn_none l base (At first) (F (first + 1 + length (block_code body (first + 1)) + 1)) c s at (omega arith) (on s (Some ends.Fuel) (relation.no_turn (omega arith)) fits))
  looped first c body c_is test jump carries (suc n) s enough fits on =
      let to = first + 1 + length (block_code body (first + 1)) + 1 in
      arrive l base op drops context first (Test c true to) s test fits (λ at. elim (cases_eq s.turns 0) [
        | inl none ↦ turn_none l base (At first) (F to) c s at none (on s (Some ends.Fuel) (relation.no_turn none) fits)
        | inr not_none ↦
            let some : 0 < s.turns = omega (arith, not_none) in
            by_value (holds_of c s.locals)
            (λ b is. by_truth (holds_of c s.locals) b is
            (λ holds. turn_true l base (types_of op) (At first) (F to) c s at c_is some holds
            (subst (λ k. From l base k (take_turn s)) (front_next op (code l base) drops first)
            (carries (take_turn s) (fits_turn fits) (λ t end runs t_fits. by t end some holds runs t_fits (looped first c body c_is test jump carries n t (omega (arith, block_turns runs, enough, some)) t_fits)))))
            (λ fails. turn_false l base (types_of op) (At first) (F to) c s at c_is some fails (on (take_turn s) None (relation.test_false some fails) (fits_turn fits))))
            (λ fault is. turn_fault l base (types_of op) (At first) (F to) c fault s at c_is some is (on (take_turn s) (Some (fault_end fault)) (relation.test_fault some is) (fits_turn fits)))
      ])
    where
      by : (t : State) (end : Option End) → 0 < s.turns → holds_of c s.locals ≡ Ok true → RunsBlock context body (take_turn s) t end → Fits context (types_of op) t
          → (((u : State) (other : Option End) → Loops context c body t u other → Fits context (types_of op) u → Onward other (first + 1 + length (block_code body (first + 1)) + 1) u) → From l base (F first) t)
          → Onward end (first + 1 + length (block_code body (first + 1))) t
      by t None some holds runs t_fits again = jumped (first + 1 + length (block_code body (first + 1))) first t jump t_fits (again (λ u other more u_fits. on u other (relation.again some holds runs more) u_fits))
      by t (Some end) some holds runs t_fits again = on t (Some end) (relation.turn_ends some holds runs) t_fits

  -- a choice between two blocks: from where the first is carried out, the run comes to its end; the second stands where the test goes on if it is false
  chosen : (first second last : ℕ) (c : Cond) (block other : List Stmt) → IsTypedCond (types_of op) c → slice_get (op_code op) first ≡ Some (Test c false second) → Carries block (first + 1) → Carries other second
      → ((t : State) → Fits context (types_of op) t → From l base (F last) t → From l base (F (first + 1 + length (block_code block (first + 1)))) t) → second + length (block_code other second) ≡ last
      → (s : State) → Fits context (types_of op) s → After (If c block other) s last → From l base (F first) s
  chosen first second last c block other c_is test one two past ends_at s fits on =
      arrive l base op drops context first (Test c false second) s test fits (λ at.
      by_value (holds_of c s.locals)
      (λ b is. by_truth (holds_of c s.locals) b is
      (λ holds. test_true l base (types_of op) (At first) (F second) c s at c_is holds
      (subst (λ k. From l base k s) (front_next op (code l base) drops first) (one s fits (λ t end runs t_fits. by t end t_fits (on t end (relation.if_true other holds runs) t_fits)))))
      (λ fails. test_false l base (types_of op) (At first) (F second) c s at c_is fails (two s fits (λ t end runs t_fits. at_place last (second + length (block_code other second)) end t (sym ends_at) (on t end (relation.if_false block fails runs) t_fits)))))
      (λ fault is. test_fault l base (types_of op) (At first) (F second) c fault s at c_is is (on s (Some (fault_end fault)) (relation.if_fault block other is) fits)))
    where
      by : (t : State) (end : Option End) → Fits context (types_of op) t → Onward end last t → Onward end (first + 1 + length (block_code block (first + 1))) t
      by t None t_fits goes = past t t_fits goes
      by t (Some end) t_fits goes = goes

  -- the steps of a choice and of a loop
  choice : (first : ℕ) (c : Cond) (block other : List Stmt) → IsTypedCond (types_of op) c → (s : State) → Fits context (types_of op) s → HasCode (op_code op) first (stmt_code (If c block other) first)
      → (HasCode (op_code op) (first + 1) (block_code block (first + 1)) → Carries block (first + 1)) → ((place : ℕ) → HasCode (op_code op) place (block_code other place) → Carries other place)
      → After (If c block other) s (first + length (stmt_code (If c block other) first)) → From l base (F first) s
  choice first c block [] c_is s fits has one two on =
      let last = first + 1 + length (block_code block (first + 1)) in
      let whole = if_alone_is (If c block []) c block [] first refl refl in
      let code_is : HasCode (op_code op) first (Test c false last ∷ block_code block (first + 1)) = subst (HasCode (op_code op) first) whole has in
      let length_is : first + length (stmt_code (If c block []) first) ≡ last = omega (arith, ap length whole) in
      chosen first last last c block [] c_is (code_head (op_code op) first (Test c false last) (block_code block (first + 1)) code_is) (one (code_rest (op_code op) first (Test c false last) (block_code block (first + 1)) code_is))
      (two last (λ k step is. absurd (no_some is))) (λ t t_fits goes. goes) (omega arith) s fits (λ t end runs t_fits. at_place (first + length (stmt_code (If c block []) first)) last end t length_is (on t end runs t_fits))
  choice first c block (d ∷ ds) c_is s fits has one two on =
      let middle = first + 1 + length (block_code block (first + 1)) in
      let second = middle + 1 in
      let last = second + length (block_code (d ∷ ds) second) in
      let whole = if_else_is (If c block (d ∷ ds)) c block (d ∷ ds) first refl (λ none. absurd cc) in
      let rest : List Step = Jump last ∷ block_code (d ∷ ds) second in
      let code_is : HasCode (op_code op) first (Test c false second ∷ block_code block (first + 1) ++ rest) = subst (HasCode (op_code op) first) whole has in
      let length_is : first + length (stmt_code (If c block (d ∷ ds)) first) ≡ last = omega (arith, ap length whole, length-append (block_code block (first + 1)) rest) in
      let behind_test = code_rest (op_code op) first (Test c false second) (block_code block (first + 1) ++ rest) code_is in
      let behind_block = code_back (op_code op) (first + 1) (block_code block (first + 1)) rest behind_test in
      chosen first second last c block (d ∷ ds) c_is (code_head (op_code op) first (Test c false second) (block_code block (first + 1) ++ rest) code_is)
      (one (code_front (op_code op) (first + 1) (block_code block (first + 1)) rest behind_test))
      (two second (code_rest (op_code op) middle (Jump last) (block_code (d ∷ ds) second) behind_block))
      (λ t t_fits goes. jumped middle last t (code_head (op_code op) middle (Jump last) (block_code (d ∷ ds) second) behind_block) t_fits goes)
      refl s fits (λ t end runs t_fits. at_place (first + length (stmt_code (If c block (d ∷ ds)) first)) last end t length_is (on t end runs t_fits))

  loop : (first : ℕ) (c : Cond) (body : List Stmt) → IsTypedCond (types_of op) c → (s : State) → Fits context (types_of op) s → HasCode (op_code op) first (stmt_code (While c body) first)
      → (HasCode (op_code op) (first + 1) (block_code body (first + 1)) → Carries body (first + 1)) → After (While c body) s (first + length (stmt_code (While c body) first)) → From l base (F first) s
  loop first c body c_is s fits has carries on =
      let middle = first + 1 + length (block_code body (first + 1)) in
      let rest : List Step = Jump first ∷ [] in
      let whole = while_is (While c body) c body first refl in
      let code_is : HasCode (op_code op) first (Test c true (middle + 1) ∷ block_code body (first + 1) ++ rest) = subst (HasCode (op_code op) first) whole has in
      let length_is : first + length (stmt_code (While c body) first) ≡ middle + 1 = omega (arith, ap length whole, length-append (block_code body (first + 1)) rest) in
      let behind_test = code_rest (op_code op) first (Test c true (middle + 1)) (block_code body (first + 1) ++ rest) code_is in
      looped first c body c_is (code_head (op_code op) first (Test c true (middle + 1)) (block_code body (first + 1) ++ rest) code_is)
      (code_head (op_code op) middle (Jump first) [] (code_back (op_code op) (first + 1) (block_code body (first + 1)) rest behind_test))
      (carries (code_front (op_code op) (first + 1) (block_code body (first + 1)) rest behind_test)) s.turns s (omega arith) fits
      (λ t end runs t_fits. at_place (first + length (stmt_code (While c body) first)) (middle + 1) end t length_is (on t end (relation.while runs) t_fits))

  -- an object that is made has a name of its own
  fresh_name : (s : State) → Fits context (types_of op) s → finite.get s.objects (new_name l base s) ≡ None
  fresh_name s fits = not_there (finite.get s.objects (new_name l base s)) (λ object there. let early : s.made + 1 ≤ s.made = fits.fresh (new_name l base s) object there refl in omega (arith, early))

  -- behind a statement the rest of its block is carried out, unless the operation has ended
  on_rest : (d : Stmt) (ds : List Stmt) (s t : State) (end : Option End) (middle last : ℕ) → Runs context d s t end → Fits context (types_of op) t → AfterBlock (d ∷ ds) s last
      → (((u : State) (other : Option End) → RunsBlock context ds t u other → Fits context (types_of op) u → Onward other last u) → From l base (F middle) t) → Onward end middle t
  on_rest d ds s t None middle last runs fits on rest = rest (λ u other more u_fits. on u other (relation.then runs more) u_fits)
  on_rest d ds s t (Some end) middle last runs fits on rest = on t (Some end) (relation.ends_at runs) fits

  mutual
    -- the code of a typed statement carries it out, from each state that fits
    pub carried : {d : Stmt} → IsTyped (source_of l.plan) (types_of op) d → (first : ℕ) → HasCode (op_code op) first (stmt_code d first) → (s : State) → Fits context (types_of op) s → After d s (first + length (stmt_code d first))
        → From l base (F first) s
    carried (typed.set_int {x} {e} x_is e_is) first code_is s fits on = with_steps _ first s (Eval e ∷ Set x origins.Hand ∷ []) (code_layer _ first _ (outs-SetInt x e)) (λ has on.
        arrive l base op drops context first (Eval e) s (first_of first (Eval e) (Set x origins.Hand) has) fits (λ at.
        by_value (value_of e s.locals)
        (λ n is. eval_on l base (types_of op) (At first) e n s at e_is is
        (hand_set l base (At first + 1) x (values.Int n) s (behind first (Set x origins.Hand) (second_of first (Eval e) (Set x origins.Hand) has) refl)
        (on_two first (Eval e) (Set x origins.Hand) (set_local x (values.Int n) s) has refl (on _ None (relation.set_int is) (fits_local x types.Int (values.Int n) fits x_is tt)))))
        (λ fault is. eval_fault l base (types_of op) (At first) e fault s at e_is is (on s (Some (fault_end fault)) (relation.set_int_fault is) fits)))) code_is on
    carried (typed.load {x} {p} {f} x_is p_is field_is) first code_is s fits on = with_steps _ first s (Read p f ∷ Set x origins.Hand ∷ []) (code_layer _ first _ (outs-Load x p f)) (λ has on.
        arrive l base op drops context first (Read p f) s (first_of first (Read p f) (Set x origins.Hand) has) fits (λ at.
        at_reference p fits p_is
        (λ none. read_null l base (At first) p f s at none (on s (Some ends.Null) (relation.load_null none) fits))
        (λ name refers there.
        let field = number_at fits there field_is in
        read_on l base (At first) p f name (values.Int field.number) s at refers field.has
        (hand_set l base (At first + 1) x (values.Int field.number) s (behind first (Set x origins.Hand) (second_of first (Read p f) (Set x origins.Hand) has) refl)
        (on_two first (Read p f) (Set x origins.Hand) (set_local x (values.Int field.number) s) has refl (on _ None (relation.load refers field.has) (fits_local x types.Int (values.Int field.number) fits x_is tt))))))) code_is on
    carried (typed.store {p} {f} {e = e} p_is field_is e_is) first code_is s fits on = with_steps _ first s (Eval e ∷ Write p f contents.Number ∷ []) (code_layer _ first _ (outs-Store p f e)) (λ has on.
        let at_write = behind first (Write p f contents.Number) (second_of first (Eval e) (Write p f contents.Number) has) refl in
        arrive l base op drops context first (Eval e) s (first_of first (Eval e) (Write p f contents.Number) has) fits (λ at.
        by_value (value_of e s.locals)
        (λ n is. eval_on l base (types_of op) (At first) e n s at e_is is
        (at_reference p fits p_is
        (λ none. write_null l base (At first + 1) p f contents.Number (values.Int n) s at_write (is_itself p) none (on s (Some ends.Null) (relation.store_null is none) fits))
        (λ name refers there.
        let field = number_at fits there field_is in
        write_on l base (At first + 1) p f contents.Number name (values.Int field.number) (values.Int n) (values.Int n) s at_write (is_itself p) refers field.has (λ locals book spares heap sim. refl)
        (on_two first (Eval e) (Write p f contents.Number) (set_field name f (values.Int n) s) has refl (on _ None (relation.store is refers field.has) (fits_field (values.Int n) fits there field_is tt))))))
        (λ fault is. eval_fault l base (types_of op) (At first) e fault s at e_is is (on s (Some (fault_end fault)) (relation.store_fault is) fits)))) code_is on
    carried (typed.copy {p} {q} {kind} p_is q_is node) first code_is s fits on = with_steps _ first s (Set p (origins.Local q) ∷ []) (code_layer _ first _ (outs-Copy p q)) (λ has on.
        let from = reference_at fits q_is in
        arrive l base op drops context first (Set p (origins.Local q)) s (one_step first (Set p (origins.Local q)) has) fits (λ at.
        copy_on l base (At first) p q from.target s at from.refers
        (on_one first None (set_local p (values.Ref from.target) s) (on _ None (relation.copy from.refers) (fits_local p (types.Of kind) (values.Ref from.target) fits p_is from.holds)) refl))) code_is on
    carried (typed.null {p} {kind} p_is) first code_is s fits on = with_steps _ first s (Drop p ∷ []) (code_layer _ first _ (outs-Null p)) (λ has on.
        arrive l base op drops context first (Drop p) s (one_step first (Drop p) has) fits (λ at.
        drop_on l base (At first) p s at (on_one first None (set_local p (values.Ref None) s) (on _ None relation.null (fits_local p (types.Of kind) (values.Ref None) fits p_is tt)) refl))) code_is on
    carried (typed.follow {p} {q} {f} {kind} p_is node q_is field_is) first code_is s fits on = with_steps _ first s (Read q f ∷ Want ∷ Set p origins.Hand ∷ []) (code_layer _ first _ (outs-Follow p q f)) (λ has on.
        arrive l base op drops context first (Read q f) s (first_is first (Read q f) Want (Set p origins.Hand) has refl refl) fits (λ at.
        at_reference q fits q_is
        (λ none. read_null l base (At first) q f s at none (on s (Some ends.Null) (relation.follow_null none) fits))
        (λ name refers there.
        let field = target_at fits there field_is in
        let at_want = at_second first (Read q f) Want (Set p origins.Hand) has refl refl in
        by_open s name f kind field.target field.has field.of_type
        (λ passes. read_on l base (At first) q f name (values.Ref field.target) s at refers field.has
        (want_on l base (At first + 1) field.target s at_want passes
        (hand_set l base (At first + 1 + 1) p (values.Ref field.target) s (at_third first (Read q f) Want (Set p origins.Hand) has refl refl)
        (on_three first (Read q f) Want (Set p origins.Hand) has refl refl (set_local p (values.Ref field.target) s)
        (on _ None (relation.follow refers field.has passes) (fits_local p (types.Of kind) (values.Ref field.target) fits p_is (to_local s.objects kind field.target field.of_type)))))))
        (λ target holds marked. read_on l base (At first) q f name (values.Ref (Some target)) s at refers holds
        (want_sealed l base (At first + 1) target s at_want marked (on s (Some (ends.Sealed target)) (relation.follow_sealed refers holds marked) fits)))))) code_is on
    carried (typed.new {p} {kind} p_is node) first code_is s fits on = with_steps _ first s (Make kind ∷ Set p origins.Hand ∷ []) (code_layer _ first _ (outs-New p kind)) (λ has on.
        arrive l base op drops context first (Make kind) s (first_of first (Make kind) (Set p origins.Hand) has) fits (λ at. elim (cases_lt s.made op.allocs) [
          | inl room ↦
              make_on l base (At first) kind s at (omega (arith, room, allocs_is)) (fresh_name s fits)
              (hand_set l base (At first + 1) p (values.Ref (Some (new_name l base s))) (with_new l base kind s) (behind first (Set p origins.Hand) (second_of first (Make kind) (Set p origins.Hand) has) refl)
              (on_two first (Make kind) (Set p origins.Hand) (make context p kind s) has refl (on _ None (relation.new room node.is_there) (fits_new p fits p_is node))))
          | inr full ↦ make_quota l base (At first) kind s at (omega (arith, full, allocs_is)) (on s (Some ends.Quota) (relation.new_quota full) fits)
        ])) code_is on
    carried (typed.link {q} {f} {p} {kind} {other} q_is field_is p_is) first code_is s fits on = with_steps _ first s (Read q f ∷ Want ∷ Write q f (contents.Local p) ∷ []) (code_layer _ first _ (outs-Link q f p)) (λ has on.
        let last = Write q f (contents.Local p) in
        arrive l base op drops context first (Read q f) s (first_is first (Read q f) Want last has refl refl) fits (λ at.
        at_reference q fits q_is
        (λ none. read_null l base (At first) q f s at none (on s (Some ends.Null) (relation.link_null none) fits))
        (λ name refers there.
        let field = target_at fits there field_is in
        let at_want = at_second first (Read q f) Want last has refl refl in
        let at_write = at_third first (Read q f) Want last has refl refl in
        by_open s name f kind field.target field.has field.of_type
        (λ passes.
        let to = reference_at fits p_is in
        read_on l base (At first) q f name (values.Ref field.target) s at refers field.has
        (want_on l base (At first + 1) field.target s at_want passes
        (write_on l base (At first + 1 + 1) q f (contents.Local p) name (values.Ref field.target) (values.Ref to.target) (values.Ref field.target) s at_write (ap (λ b. b || (p == q)) (is_itself q)) refers field.has
        (content_local l base (At first + 1 + 1) q f p to.target (values.Ref field.target) s at_write to.refers)
        (on_three first (Read q f) Want last has refl refl (set_field name f (values.Ref to.target) s)
        (on _ None (relation.link refers field.has passes to.refers) (fits_field (values.Ref to.target) fits there field_is (to_field (source_of l.plan) s.objects kind to.target fits.heap (nodes other f kind field_is) to.holds)))))))
        (λ target holds marked. read_on l base (At first) q f name (values.Ref (Some target)) s at refers holds
        (want_sealed l base (At first + 1) target s at_want marked (on s (Some (ends.Sealed target)) (relation.link_sealed refers holds marked) fits)))))) code_is on
    carried (typed.cut {q} {f} {kind} q_is field_is) first code_is s fits on = with_steps _ first s (Read q f ∷ Want ∷ Write q f contents.Null ∷ []) (code_layer _ first _ (outs-Cut q f)) (λ has on.
        let last = Write q f contents.Null in
        arrive l base op drops context first (Read q f) s (first_is first (Read q f) Want last has refl refl) fits (λ at.
        at_reference q fits q_is
        (λ none. read_null l base (At first) q f s at none (on s (Some ends.Null) (relation.cut_null none) fits))
        (λ name refers there.
        let field = target_at fits there field_is in
        let at_want = at_second first (Read q f) Want last has refl refl in
        let at_write = at_third first (Read q f) Want last has refl refl in
        by_open s name f kind field.target field.has field.of_type
        (λ passes. read_on l base (At first) q f name (values.Ref field.target) s at refers field.has
        (want_on l base (At first + 1) field.target s at_want passes
        (write_on l base (At first + 1 + 1) q f contents.Null name (values.Ref field.target) (values.Ref None) (values.Ref field.target) s at_write (is_itself q) refers field.has (λ locals book spares heap sim. refl)
        (on_three first (Read q f) Want last has refl refl (set_field name f (values.Ref None) s)
        (on _ None (relation.cut refers field.has passes) (fits_field (values.Ref None) fits there field_is tt))))))
        (λ target holds marked. read_on l base (At first) q f name (values.Ref (Some target)) s at refers holds
        (want_sealed l base (At first + 1) target s at_want marked (on s (Some (ends.Sealed target)) (relation.cut_sealed refers holds marked) fits)))))) code_is on
    carried (typed.choose {c} {first = block} {second = other} c_is block_is other_is) first code_is s fits on =
        choice first c block other c_is s fits code_is (λ has t t_fits after. carried_block block_is (first + 1) has t t_fits after) (λ place has t t_fits after. carried_block other_is place has t t_fits after) on
    carried (typed.while {c} {body} c_is body_is) first code_is s fits on = loop first c body c_is s fits code_is (λ has t t_fits after. carried_block body_is (first + 1) has t t_fits after) on
    carried (typed.emit {e} e_is) first code_is s fits on = with_steps _ first s (Eval e ∷ Emit ∷ []) (code_layer _ first _ (outs-Emit e)) (λ has on.
        let at_emit = behind first Emit (second_of first (Eval e) Emit has) refl in
        arrive l base op drops context first (Eval e) s (first_of first (Eval e) Emit has) fits (λ at.
        by_value (value_of e s.locals)
        (λ n is. eval_on l base (types_of op) (At first) e n s at e_is is (elim (cases_lt (length s.emitted) 16) [
          | inl room ↦ emit_on l base (At first + 1) n s at_emit room (on_two first (Eval e) Emit (add_emitted n s) has refl (on _ None (relation.emit is room) (fits_emitted n fits)))
          | inr full ↦ emit_full l base (At first + 1) n s at_emit full (on s (Some ends.Emits) (relation.emit_full is full) fits)
        ]))
        (λ fault is. eval_fault l base (types_of op) (At first) e fault s at e_is is (on s (Some (fault_end fault)) (relation.emit_fault is) fits)))) code_is on
    carried (typed.return {e} e_is) first code_is s fits on = with_steps _ first s (Give e ∷ []) (code_layer _ first _ (outs-Return e)) (λ has on.
        arrive l base op drops context first (Give e) s (one_step first (Give e) has) fits (λ at.
        by_value (value_of e s.locals)
        (λ n is. give_on l base (types_of op) (At first) e n s at e_is is (on s (Some (ends.Ok n)) (relation.return is) fits))
        (λ fault is. give_fault l base (types_of op) (At first) e fault s at e_is is (on s (Some (fault_end fault)) (relation.return_fault is) fits)))) code_is on

    -- and so does that of a typed block
    pub carried_block : {block : List Stmt} → IsTypedBlock (source_of l.plan) (types_of op) block → (first : ℕ) → HasCode (op_code op) first (block_code block first) → (s : State) → Fits context (types_of op) s
        → AfterBlock block s (first + length (block_code block first)) → From l base (F first) s
    carried_block typed.nothing first code_is s fits on = at_place (first + length {A = Step} []) first None s (omega arith) (on s None relation.done fits)
    carried_block (typed.more {d} {ds} d_is ds_is) first code_is s fits on =
        let n = length (stmt_code d first) in
        let rest = block_code ds (first + n) in
        let all = length-append (stmt_code d first) rest in
        carried d_is first (code_front (op_code op) first (stmt_code d first) rest code_is) s fits (λ t end runs t_fits.
        on_rest d ds s t end (first + n) (first + length (block_code (d ∷ ds) first)) runs t_fits on
        (λ after. carried_block ds_is (first + n) (code_back (op_code op) first (stmt_code d first) rest code_is) t t_fits (λ u other more u_fits.
        at_place (first + length (block_code (d ∷ ds) first)) (first + n + length rest) other u (omega (arith, all)) (after u other more u_fits))))
