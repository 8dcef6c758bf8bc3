-- What the definitions say of each shape that is printed.
use Rattle.std.proofs.Common.{◌≡◌, ℕ, ◌+◌, ◌≤◌, suc, ◌-◌, length, take, drop, length-drop, get_or, arith, Bor, Bool, true, false, List, [], ◌∷◌, ◌++◌, map, Result, refl, sym, ap, ◌∙◌, subst}
use Rattle.std.proofs.lemmas.List.{append-nil, take_all}
use Rattle.std.proofs.lemmas.Slice.Eq.{bytes_eq-Decides}
use Rattle.std.specs.Prelude.{codes, ◌==◌, if◌then◌else◌}
use Rattle.std.specs.Str.{bytes_eq}
use Rattle.std.specs.List.{flat_map}
use Rattle.dl_grammar.specs.declared.tree.TreeField.{TreeField}
use Rattle.dl_io.specs.Taken.{Taken}
use Rattle.dl_text.specs.Writing.{Buffered, Passes, Puts}
use Rattle.dl_ir.specs.declared.expressions.Op.{Op}
use Rattle.dl_ir.specs.declared.expressions.Op.TheVariants as op
use Rattle.dl_grammar.specs.declared.lexeme.Fixed.TheVariants as f
use Rattle.dl_grammar.specs.declared.tree.TreeExpr.{TreeExpr, TreeExpr-F}
use Rattle.dl_grammar.specs.declared.tree.TreeExpr.TheVariants as e
use Rattle.dl_grammar.specs.declared.tree.TreeExpr.TheFolds.{map-TreeExpr, fold_out-TreeExpr}
use Rattle.dl_grammar.specs.declared.tree.TreeStmt.{TreeStmt, TreeStmt-F}
use Rattle.dl_grammar.specs.declared.tree.TreeCond.{TreeCond}
use Rattle.dl_grammar.specs.declared.tree.What.{What, What-F}
use Rattle.dl_grammar.specs.declared.tree.What.TheVariants as what
use Rattle.dl_grammar.specs.declared.tree.What.TheFolds.{fold-What, fold_out-What, fold_out-TreeStmt, map-What}
use Rattle.dl_print.specs.Canonical as spec
use Rattle.dl_print.specs.Canonical.{Piece, Lines, Word, Name, Space, Indent, Feed, text_of, Shown, shown, between}
use Rattle.dl_print.specs.Operands.{operator_fixed, left_of, right_of}
use Rattle.dl_print.specs.Levels.{depth_step, depth}
use Rattle.dl_print.specs.declared.words.Level.{Level, Level-F, out-Level}
use Rattle.dl_print.specs.declared.words.Level.TheVariants.{Margin, Inside, outs-Margin, outs-Inside}
use Rattle.dl_print.specs.declared.words.Level.TheFolds.{fold_out-Level, map-Level}

parts : (o : Op) (a b : Shown) → (spec.operation_shown o a b).pieces ≡ between (left_of o a) (operator_fixed o) (right_of o b)
parts op.Add a b = refl
parts op.Sub a b = refl
parts op.Mul a b = refl
parts op.Div a b = refl
parts op.Rem a b = refl

-- an operation is its left operand, its operator and its right operand
pub shown_operation : (x : TreeExpr) (o : Op) (l r : TreeExpr) → x ≡ e.Bin o l r → (shown x).pieces ≡ between (left_of o (shown l)) (operator_fixed o) (right_of o (shown r))
shown_operation x o l r h =
    ap (λ (y : TreeExpr). (shown y).pieces) h ∙ ap (λ (s : Shown). s.pieces) (fold_out-TreeExpr Shown spec.expression_step (e.Bin o l r))
    ∙ ap (λ (m : TreeExpr-F TreeExpr). (spec.expression_step (map-TreeExpr TreeExpr Shown shown m)).pieces) (e.outs-Bin o l r) ∙ parts o (shown l) (shown r)

type_of : (b : Bool) (text : List ℕ) → (b ≡ true → text ≡ codes "int") → text_of ((if b then Word f.Int else Name text) ∷ []) ≡ text
type_of true text h = sym (h refl)
type_of false text h = append-nil text

-- a type's text is put as the type
pub put_type : {E : Type 0} {s t : Taken} {o p : Buffered} {r : Result (Unit {0}) E} (text : List ℕ) → Puts s o text r t p → Puts s o (text_of (spec.type_piece text ∷ [])) r t p
put_type {s = s} {t = t} {o = o} {p = p} {r = r} text puts =
    subst (λ bytes. Puts s o bytes r t p) (sym (type_of (bytes_eq text (codes "int")) text (bytes_eq-Decides text (codes "int")).0)) puts

-- a level further in is one more
pub depth_inside : (level : Level) (outer : Bor Level) → level ≡ Inside outer → depth level ≡ suc (depth outer.now)
depth_inside level outer h =
    fold_out-Level ℕ depth_step level ∙ ap (λ (m : Level-F Level). depth_step (map-Level Level ℕ depth m)) (ap out-Level h ∙ outs-Inside outer)

level_inside : (level : Bor Level) → depth (Inside level) ≡ depth level.now + 1
level_inside level = depth_inside (Inside level) level refl ∙ omega arith

-- what stands inside a level stands one level further in
pub inside_puts : {E : Type 0} {s t : Taken} {o p : Buffered} {r : Result (Unit {0}) E} (block : List TreeStmt) (level : Bor Level) →
    Puts s o (text_of (spec.lines_at (map spec.statement_lines block) (depth (Inside level)))) r t p → Puts s o (text_of (spec.lines_at (map spec.statement_lines block) (depth level.now + 1))) r t p
inside_puts {s = s} {t = t} {o = o} {p = p} {r = r} block level puts =
    subst (λ n. Puts s o (text_of (spec.lines_at (map spec.statement_lines block) n)) r t p) (level_inside level) puts

pub inside_passes : {s t : Taken} {o p : Buffered} (block : List TreeStmt) (level : Bor Level) →
    Passes s o (text_of (spec.lines_at (map spec.statement_lines block) (depth (Inside level)))) t p → Passes s o (text_of (spec.lines_at (map spec.statement_lines block) (depth level.now + 1))) t p
inside_passes {s = s} {t = t} {o = o} {p = p} block level passes =
    subst (λ n. Passes s o (text_of (spec.lines_at (map spec.statement_lines block) n)) t p) (level_inside level) passes

-- an else block that is not empty
pub otherwise_full : (block : List TreeStmt) (level : ℕ) → (block ≡ [] → ⊥) →
    spec.otherwise_pieces (map spec.statement_lines block) level ≡ Space ∷ Word f.Else ∷ Space ∷ spec.block_pieces (map spec.statement_lines block) level
otherwise_full [] level full = absurd (full refl)
otherwise_full (s ∷ block) level full = refl

-- what a branch's lines are
pub lines_if : (s : TreeStmt) (c : TreeCond) (yes_block no_block : List TreeStmt) → s.what ≡ what.If c yes_block no_block →
    spec.statement_lines s ≡ spec.if_lines c (map spec.statement_lines yes_block) (map spec.statement_lines no_block)
lines_if s c yes_block no_block h =
    let what_lines = fold-What Lines Lines spec.statement_step (λ (l : TreeStmt-F Lines Lines). l.what) in
    fold_out-TreeStmt Lines Lines spec.statement_step (λ (l : TreeStmt-F Lines Lines). l.what) s ∙ ap what_lines h
    ∙ fold_out-What Lines Lines spec.statement_step (λ (l : TreeStmt-F Lines Lines). l.what) (what.If c yes_block no_block)
    ∙ ap (λ (m : What-F What TreeStmt). spec.statement_step (map-What What TreeStmt Lines Lines what_lines spec.statement_lines m)) (what.outs-If c yes_block no_block)

level_margin : depth Margin ≡ 0
level_margin = fold_out-Level ℕ depth_step Margin ∙ ap (λ (m : Level-F Level). depth_step (map-Level Level ℕ depth m)) outs-Margin

level_first : (outer : Bor Level) → outer.now ≡ Margin → depth (Inside outer) ≡ 1
level_first outer h = depth_inside (Inside outer) outer refl ∙ ap (λ (l : Level). suc (depth l)) h ∙ ap suc level_margin

-- what stands inside the margin stands one level in
pub first_puts : {E : Type 0} {s t : Taken} {o p : Buffered} {r : Result (Unit {0}) E} (block : List TreeStmt) (outer : Bor Level) → outer.now ≡ Margin →
    Puts s o (text_of (spec.lines_at (map spec.statement_lines block) (depth (Inside outer)))) r t p → Puts s o (text_of (spec.lines_at (map spec.statement_lines block) 1)) r t p
first_puts {s = s} {t = t} {o = o} {p = p} {r = r} block outer h puts =
    subst (λ n. Puts s o (text_of (spec.lines_at (map spec.statement_lines block) n)) r t p) (level_first outer h) puts

-- fields, where there are any
pub kind_fields_full : (fields : List TreeField) (b : Bool) → b ≡ (length fields == 0) → b ≡ false →
    spec.kind_fields fields ≡ Word f.LBrace ∷ Space ∷ (spec.fields_pieces fields ++ Space ∷ Word f.RBrace ∷ [])
kind_fields_full [] b h k = absurd (cc)
kind_fields_full (field ∷ fields) b h k = refl

pub vars_full : (vars : List TreeField) (b : Bool) → b ≡ (length vars == 0) → b ≡ false →
    spec.vars_line vars ≡ Indent 1 ∷ Word f.Var ∷ Space ∷ (spec.fields_pieces vars ++ Word f.Semicolon ∷ Feed ∷ [])
vars_full [] b h k = absurd (cc)
vars_full (field ∷ vars) b h k = refl

pub fields_begin : (fields : List TreeField) (x : TreeField) → 1 ≤ length fields → x ≡ get_or fields 0 x → spec.fields_pieces fields ≡ spec.field_pieces x ++ flat_map spec.next_field (drop 1 fields)
fields_begin [] x some is = absurd (omega (arith, some))
fields_begin (field ∷ fields) x some is = ap (λ (y : TreeField). spec.field_pieces y ++ flat_map spec.next_field fields) (sym is)

-- the fields behind the first one, as they are cut off
pub rest_whole : (fields : List TreeField) → take (length fields - 1) (drop 1 fields) ≡ drop 1 fields
rest_whole fields = take_all (length fields - 1) (drop 1 fields) (omega (arith, length-drop 1 fields))
