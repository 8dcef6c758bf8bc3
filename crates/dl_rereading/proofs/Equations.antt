-- What the folds over expressions and statements are at each form.
use Rattle.std.proofs.Common.{◌≡◌, ℕ, ℤ, List, [], ◌∷◌, map, sym, ap, ◌∙◌}
use Rattle.dl_ir.specs.declared.expressions.Op.{Op}
use Rattle.dl_grammar.specs.declared.tree.Word.{Word as Words}
use Rattle.dl_grammar.specs.declared.tree.TreeExpr.{TreeExpr, TreeExpr-F}
use Rattle.dl_grammar.specs.declared.tree.TreeExpr.TheVariants as e
use Rattle.dl_grammar.specs.declared.tree.TreeExpr.TheFolds.{fold-roll-TreeExpr}
use Rattle.dl_print.specs.Canonical.{Shown, expression_step, operation_shown, number_pieces, as_factor, shown, Factor, Word, Name}
use Rattle.dl_grammar.specs.declared.lexeme.Fixed.TheVariants as f
use Rattle.dl_print.specs.Canonical.{Lines, assign_line, store_line, if_lines, while_lines, return_line, emit_line, statement_step, statement_lines}
use Rattle.dl_grammar.specs.declared.tree.TreeCond.{TreeCond}
use Rattle.dl_grammar.specs.declared.tree.TreeStmt.{TreeStmt, TreeStmt-F, roll-TreeStmt}
use Rattle.dl_grammar.specs.declared.tree.What.{What, What-F, roll-What, map-What}
use Rattle.dl_grammar.specs.declared.tree.What.TheVariants as what
use Rattle.dl_grammar.specs.declared.tree.What.TheFolds.{fold-What, fold-roll-TreeStmt, fold-roll-What}
use Rattle.dl_grammar.specs.declared.tree.Rhs.{Rhs}
use Rattle.dl_grammar.specs.declared.tree.Side.{Side}
use Rattle.dl_rereading.specs.Lines.{unlined_word, unlined_expr_step, unlined_expr, unlined_side, unlined_cond, unlined_rhs, unlined_what_step, unlined_stmt}

-- ---- expressions

pub shown_num : (n : ℤ) → shown (e.Num n) ≡ record { rank = Factor; pieces = number_pieces n }
shown_num n = ap shown (sym (e.rolls-Num n)) ∙ fold-roll-TreeExpr Shown expression_step (TreeExpr-F.Num n)

pub shown_name : (w : Words) → shown (e.Name w) ≡ record { rank = Factor; pieces = Name w.text ∷ [] }
shown_name w = ap shown (sym (e.rolls-Name w)) ∙ fold-roll-TreeExpr Shown expression_step (TreeExpr-F.Name w)

pub shown_neg : (a : TreeExpr) → shown (e.Neg a) ≡ record { rank = Factor; pieces = Word f.Minus ∷ as_factor (shown a) }
shown_neg a = ap shown (sym (e.rolls-Neg a)) ∙ fold-roll-TreeExpr Shown expression_step (TreeExpr-F.Neg a)

pub shown_bin : (o : Op) (a b : TreeExpr) → shown (e.Bin o a b) ≡ operation_shown o (shown a) (shown b)
shown_bin o a b = ap shown (sym (e.rolls-Bin o a b)) ∙ fold-roll-TreeExpr Shown expression_step (TreeExpr-F.Bin o a b)

pub unlined_name : (w : Words) → unlined_expr (e.Name w) ≡ e.Name (unlined_word w)
unlined_name w = ap unlined_expr (sym (e.rolls-Name w)) ∙ fold-roll-TreeExpr TreeExpr unlined_expr_step (TreeExpr-F.Name w)

pub unlined_neg : (a : TreeExpr) → unlined_expr (e.Neg a) ≡ e.Neg (unlined_expr a)
unlined_neg a = ap unlined_expr (sym (e.rolls-Neg a)) ∙ fold-roll-TreeExpr TreeExpr unlined_expr_step (TreeExpr-F.Neg a)

pub unlined_bin : (o : Op) (a b : TreeExpr) → unlined_expr (e.Bin o a b) ≡ e.Bin o (unlined_expr a) (unlined_expr b)
unlined_bin o a b = ap unlined_expr (sym (e.rolls-Bin o a b)) ∙ fold-roll-TreeExpr TreeExpr unlined_expr_step (TreeExpr-F.Bin o a b)

-- ---- the same but for lines

pub same_name : (v w : Words) → v.text ≡ w.text → unlined_expr (e.Name v) ≡ unlined_expr (e.Name w)
same_name v w h = unlined_name v ∙ ap (λ (text : List ℕ). e.Name (record { text = text; line = 0 })) h ∙ sym (unlined_name w)

pub same_neg : (a b : TreeExpr) → unlined_expr a ≡ unlined_expr b → unlined_expr (e.Neg a) ≡ unlined_expr (e.Neg b)
same_neg a b h = unlined_neg a ∙ ap e.Neg h ∙ sym (unlined_neg b)

pub same_bin : (o p : Op) (a b x y : TreeExpr) → o ≡ p → unlined_expr a ≡ unlined_expr x → unlined_expr b ≡ unlined_expr y → unlined_expr (e.Bin o a b) ≡ unlined_expr (e.Bin p x y)
same_bin o p a b x y is left right =
    unlined_bin o a b ∙ ap (λ q. e.Bin q (unlined_expr a) (unlined_expr b)) is ∙ ap (λ z. e.Bin p z (unlined_expr b)) left ∙ ap (λ z. e.Bin p (unlined_expr x) z) right ∙ sym (unlined_bin p x y)

-- ---- statements

-- a statement in a line
abbrev pub at_line : ℕ → What → TreeStmt
at_line l w = roll-TreeStmt (record { line = l; what = w })

abbrev pub inner_lines : TreeStmt-F Lines Lines → Lines
inner_lines s = s.what

lines_by : (l : ℕ) (w : What-F What TreeStmt) (v : What) → roll-What w ≡ v
    → statement_lines (at_line l v) ≡ statement_step (map-What What TreeStmt Lines Lines (fold-What Lines Lines statement_step inner_lines) statement_lines w)
lines_by l w v is = fold-roll-TreeStmt Lines Lines statement_step inner_lines (record { line = l; what = v })
    ∙ ap (fold-What Lines Lines statement_step inner_lines) (sym is) ∙ fold-roll-What Lines Lines statement_step inner_lines w

pub lines_assign : (l : ℕ) (x : Words) (r : Rhs) → statement_lines (at_line l (what.Assign x r)) ≡ assign_line x r
lines_assign l x r = lines_by l (What-F.Assign x r) (what.Assign x r) (what.rolls-Assign x r)

pub lines_store : (l : ℕ) (p g : Words) (r : Side) → statement_lines (at_line l (what.Store p g r)) ≡ store_line p g r
lines_store l p g r = lines_by l (What-F.Store p g r) (what.Store p g r) (what.rolls-Store p g r)

pub lines_return : (l : ℕ) (x : TreeExpr) → statement_lines (at_line l (what.Return x)) ≡ return_line x
lines_return l x = lines_by l (What-F.Return x) (what.Return x) (what.rolls-Return x)

pub lines_emit : (l : ℕ) (x : TreeExpr) → statement_lines (at_line l (what.Emit x)) ≡ emit_line x
lines_emit l x = lines_by l (What-F.Emit x) (what.Emit x) (what.rolls-Emit x)

pub lines_if : (l : ℕ) (c : TreeCond) (yes_block no_block : List TreeStmt) → statement_lines (at_line l (what.If c yes_block no_block))
    ≡ if_lines c (map statement_lines yes_block) (map statement_lines no_block)
lines_if l c yes_block no_block = lines_by l (What-F.If c yes_block no_block) (what.If c yes_block no_block) (what.rolls-If c yes_block no_block)

pub lines_while : (l : ℕ) (c : TreeCond) (body : List TreeStmt) → statement_lines (at_line l (what.While c body)) ≡ while_lines c (map statement_lines body)
lines_while l c body = lines_by l (What-F.While c body) (what.While c body) (what.rolls-While c body)

abbrev pub inner_stmt : TreeStmt-F What TreeStmt → TreeStmt
inner_stmt s = roll-TreeStmt (record { line = 0; what = s.what })

unlined_by : (l : ℕ) (w : What-F What TreeStmt) (v : What) → roll-What w ≡ v
    → unlined_stmt (at_line l v) ≡ at_line 0 (unlined_what_step (map-What What TreeStmt What TreeStmt (fold-What What TreeStmt unlined_what_step inner_stmt) unlined_stmt w))
unlined_by l w v is = fold-roll-TreeStmt What TreeStmt unlined_what_step inner_stmt (record { line = l; what = v })
    ∙ ap (λ u. at_line 0 (fold-What What TreeStmt unlined_what_step inner_stmt u)) (sym is) ∙ ap (at_line 0) (fold-roll-What What TreeStmt unlined_what_step inner_stmt w)

unlined_assign : (l : ℕ) (x : Words) (r : Rhs) → unlined_stmt (at_line l (what.Assign x r)) ≡ at_line 0 (what.Assign (unlined_word x) (unlined_rhs r))
unlined_assign l x r = unlined_by l (What-F.Assign x r) (what.Assign x r) (what.rolls-Assign x r)

unlined_store : (l : ℕ) (p g : Words) (r : Side) → unlined_stmt (at_line l (what.Store p g r)) ≡ at_line 0 (what.Store (unlined_word p) (unlined_word g) (unlined_side r))
unlined_store l p g r = unlined_by l (What-F.Store p g r) (what.Store p g r) (what.rolls-Store p g r)

unlined_return : (l : ℕ) (x : TreeExpr) → unlined_stmt (at_line l (what.Return x)) ≡ at_line 0 (what.Return (unlined_expr x))
unlined_return l x = unlined_by l (What-F.Return x) (what.Return x) (what.rolls-Return x)

unlined_emit : (l : ℕ) (x : TreeExpr) → unlined_stmt (at_line l (what.Emit x)) ≡ at_line 0 (what.Emit (unlined_expr x))
unlined_emit l x = unlined_by l (What-F.Emit x) (what.Emit x) (what.rolls-Emit x)

unlined_if : (l : ℕ) (c : TreeCond) (yes_block no_block : List TreeStmt) → unlined_stmt (at_line l (what.If c yes_block no_block))
    ≡ at_line 0 (what.If (unlined_cond c) (map unlined_stmt yes_block) (map unlined_stmt no_block))
unlined_if l c yes_block no_block = unlined_by l (What-F.If c yes_block no_block) (what.If c yes_block no_block) (what.rolls-If c yes_block no_block)

unlined_while : (l : ℕ) (c : TreeCond) (body : List TreeStmt) → unlined_stmt (at_line l (what.While c body)) ≡ at_line 0 (what.While (unlined_cond c) (map unlined_stmt body))
unlined_while l c body = unlined_by l (What-F.While c body) (what.While c body) (what.rolls-While c body)

-- ---- the same but for lines

pub same_word : (v w : Words) → v.text ≡ w.text → unlined_word v ≡ unlined_word w
same_word v w h = ap (λ (text : List ℕ). let u : Words = record { text = text; line = 0 } in u) h

pub same_assign : (k l : ℕ) (v x : Words) (q r : Rhs) → v.text ≡ x.text → unlined_rhs q ≡ unlined_rhs r → unlined_stmt (at_line k (what.Assign v q)) ≡ unlined_stmt (at_line l (what.Assign x r))
same_assign k l v x q r name right =
    unlined_assign k v q ∙ ap (λ u. at_line 0 (what.Assign u (unlined_rhs q))) (same_word v x name) ∙ ap (λ u. at_line 0 (what.Assign (unlined_word x) u)) right ∙ sym (unlined_assign l x r)

pub same_store : (k l : ℕ) (v p w g : Words) (q r : Side) → v.text ≡ p.text → w.text ≡ g.text → unlined_side q ≡ unlined_side r
    → unlined_stmt (at_line k (what.Store v w q)) ≡ unlined_stmt (at_line l (what.Store p g r))
same_store k l v p w g q r name field right =
    unlined_store k v w q ∙ ap (λ u. at_line 0 (what.Store u (unlined_word w) (unlined_side q))) (same_word v p name)
    ∙ ap (λ u. at_line 0 (what.Store (unlined_word p) u (unlined_side q))) (same_word w g field) ∙ ap (λ u. at_line 0 (what.Store (unlined_word p) (unlined_word g) u)) right ∙ sym (unlined_store l p g r)

pub same_return : (k l : ℕ) (y x : TreeExpr) → unlined_expr y ≡ unlined_expr x → unlined_stmt (at_line k (what.Return y)) ≡ unlined_stmt (at_line l (what.Return x))
same_return k l y x h = unlined_return k y ∙ ap (λ u. at_line 0 (what.Return u)) h ∙ sym (unlined_return l x)

pub same_emit : (k l : ℕ) (y x : TreeExpr) → unlined_expr y ≡ unlined_expr x → unlined_stmt (at_line k (what.Emit y)) ≡ unlined_stmt (at_line l (what.Emit x))
same_emit k l y x h = unlined_emit k y ∙ ap (λ u. at_line 0 (what.Emit u)) h ∙ sym (unlined_emit l x)

pub same_if : (k l : ℕ) (d c : TreeCond) (first yes_block second no_block : List TreeStmt) → unlined_cond d ≡ unlined_cond c → map unlined_stmt first ≡ map unlined_stmt yes_block → map unlined_stmt second ≡ map unlined_stmt no_block
    → unlined_stmt (at_line k (what.If d first second)) ≡ unlined_stmt (at_line l (what.If c yes_block no_block))
same_if k l d c first yes_block second no_block test left right =
    unlined_if k d first second ∙ ap (λ u. at_line 0 (what.If u (map unlined_stmt first) (map unlined_stmt second))) test
    ∙ ap (λ u. at_line 0 (what.If (unlined_cond c) u (map unlined_stmt second))) left ∙ ap (λ u. at_line 0 (what.If (unlined_cond c) (map unlined_stmt yes_block) u)) right ∙ sym (unlined_if l c yes_block no_block)

pub same_while : (k l : ℕ) (d c : TreeCond) (first body : List TreeStmt) → unlined_cond d ≡ unlined_cond c → map unlined_stmt first ≡ map unlined_stmt body
    → unlined_stmt (at_line k (what.While d first)) ≡ unlined_stmt (at_line l (what.While c body))
same_while k l d c first body test left =
    unlined_while k d first ∙ ap (λ u. at_line 0 (what.While u (map unlined_stmt first))) test ∙ ap (λ u. at_line 0 (what.While (unlined_cond c) u)) left ∙ sym (unlined_while l c body)
