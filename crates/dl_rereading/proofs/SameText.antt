-- The canonical text keeps no line: a tree without its lines has the same pieces.
use Rattle.std.proofs.Common.{◌≡◌, ℕ, List, [], ◌∷◌, ◌++◌, map, refl, sym, ap, ◌∙◌, subst}
use Rattle.std.specs.List.{flat_map}
use Rattle.std.proofs.lemmas.List.Folds.{flat_map-map}
use Rattle.dl_grammar.specs.declared.lexeme.Fixed.TheVariants as f
use Rattle.dl_grammar.specs.declared.tree.Tree.{Tree}
use Rattle.dl_grammar.specs.declared.tree.TreeField.{TreeField}
use Rattle.dl_grammar.specs.declared.tree.TreeKind.{TreeKind}
use Rattle.dl_grammar.specs.declared.tree.TreeOp.{TreeOp}
use Rattle.dl_grammar.specs.declared.tree.Rhs.{Rhs}
use Rattle.dl_grammar.specs.declared.tree.Rhs.TheVariants as rhs
use Rattle.dl_grammar.specs.declared.tree.Side.{Side}
use Rattle.dl_grammar.specs.declared.tree.Side.TheVariants as side
use Rattle.dl_grammar.specs.declared.tree.TreeCond.{TreeCond}
use Rattle.dl_grammar.specs.declared.tree.TreeExpr.{TreeExpr, TreeExpr-F, roll-TreeExpr, ind-TreeExpr}
use Rattle.dl_grammar.specs.declared.tree.TreeExpr.TheFolds.{map-TreeExpr, fold-roll-TreeExpr}
use Rattle.dl_grammar.specs.declared.tree.TreeStmt.{TreeStmt, TreeStmt-F, roll-TreeStmt, ind-TreeStmt}
use Rattle.dl_grammar.specs.declared.tree.What.{What, What-F, roll-What}
use Rattle.dl_grammar.specs.declared.tree.What.TheVariants as what
use Rattle.dl_grammar.specs.declared.tree.What.TheFolds.{fold-What, fold-roll-What, fold-roll-TreeStmt, map-What, map-TreeStmt}
use Rattle.dl_print.specs.Canonical.{Piece, Word, Name, Number, Space, Indent, Feed, Factor, Shown, Lines, expression_step, operation_shown, as_factor, shown, between, relation_fixed, side_pieces, condition_pieces, rhs_pieces, simple_line, block_pieces, otherwise_pieces, lines_at, statement_step, statement_lines, field_pieces, next_field, fields_pieces, kind_fields, kind_head, kind_line, quota_pieces, vars_line, op_lines, pieces_of, text_of}
use Rattle.dl_rereading.specs.Lines.{unlined_word, unlined_field, unlined_expr_step, unlined_expr, unlined_side, unlined_cond, unlined_rhs, unlined_what_step, unlined_stmt, unlined_kind, unlined_op, unlined}
use Rattle.dl_rereading.specs.Rereading.{CanonicalKeepsNoLines}
use Rattle.dl_rereading.proofs.Equations.{inner_lines, inner_stmt, shown_num, shown_name, shown_neg, shown_bin}

-- ---- expressions

unlined_roll : (l : TreeExpr-F TreeExpr) → unlined_expr (roll-TreeExpr l) ≡ unlined_expr_step (map-TreeExpr TreeExpr TreeExpr unlined_expr l)
unlined_roll = fold-roll-TreeExpr TreeExpr unlined_expr_step

shown_roll : (l : TreeExpr-F TreeExpr) → shown (roll-TreeExpr l) ≡ expression_step (map-TreeExpr TreeExpr Shown shown l)
shown_roll = fold-roll-TreeExpr Shown expression_step

expr_level : {S : Type 0} (level : TreeExpr-F S) (value : S → TreeExpr) → ((s : S) → shown (unlined_expr (value s)) ≡ shown (value s))
    → shown (unlined_expr (roll-TreeExpr (map-TreeExpr S TreeExpr value level))) ≡ shown (roll-TreeExpr (map-TreeExpr S TreeExpr value level))
expr_level (TreeExpr-F.Num n) value holds = ap shown (unlined_roll (TreeExpr-F.Num n)) ∙ shown_num n ∙ sym (shown_roll (TreeExpr-F.Num n))
expr_level (TreeExpr-F.Name w) value holds = ap shown (unlined_roll (TreeExpr-F.Name w)) ∙ shown_name (unlined_word w) ∙ sym (shown_roll (TreeExpr-F.Name w))
expr_level (TreeExpr-F.Neg a) value holds =
    ap shown (unlined_roll (TreeExpr-F.Neg (value a))) ∙ shown_neg (unlined_expr (value a))
    ∙ ap (λ (s : Shown). let t : Shown = record { rank = Factor; pieces = Word f.Minus ∷ as_factor s } in t) (holds a) ∙ sym (shown_roll (TreeExpr-F.Neg (value a)))
expr_level (TreeExpr-F.Bin o a b) value holds =
    ap shown (unlined_roll (TreeExpr-F.Bin o (value a) (value b))) ∙ shown_bin o (unlined_expr (value a)) (unlined_expr (value b))
    ∙ ap (λ s. operation_shown o s (shown (unlined_expr (value b)))) (holds a) ∙ ap (λ s. operation_shown o (shown (value a)) s) (holds b) ∙ sym (shown_roll (TreeExpr-F.Bin o (value a) (value b)))

shown_same : (x : TreeExpr) → shown (unlined_expr x) ≡ shown x
shown_same = ind-TreeExpr (λ x. shown (unlined_expr x) ≡ shown x)
    (λ x y is. subst (λ l. shown (unlined_expr (roll-TreeExpr l)) ≡ shown (roll-TreeExpr l)) is (expr_level y (λ e. e.0) (λ e. e.1)))

side_same : (a : Side) → side_pieces (unlined_side a) ≡ side_pieces a
side_same side.Null = refl
side_same (side.Sum x) = ap (λ (s : Shown). s.pieces) (shown_same x)

condition_same : (c : TreeCond) → condition_pieces (unlined_cond c) ≡ condition_pieces c
condition_same c =
    ap (λ ps. between ps (relation_fixed c.rel) (side_pieces (unlined_side c.right))) (side_same c.left) ∙ ap (λ ps. between (side_pieces c.left) (relation_fixed c.rel) ps) (side_same c.right)

rhs_same : (r : Rhs) → rhs_pieces (unlined_rhs r) ≡ rhs_pieces r
rhs_same rhs.Null = refl
rhs_same (rhs.New k) = refl
rhs_same (rhs.Field p g) = refl
rhs_same (rhs.Sum x) = ap (λ (s : Shown). s.pieces) (shown_same x)

-- ---- statements

abbrev what_lines : What → Lines
what_lines = fold-What Lines Lines statement_step inner_lines

abbrev unlined_what : What → What
unlined_what = fold-What What TreeStmt unlined_what_step inner_stmt

lines_roll : (w : What-F What TreeStmt) → what_lines (roll-What w) ≡ statement_step (map-What What TreeStmt Lines Lines what_lines statement_lines w)
lines_roll = fold-roll-What Lines Lines statement_step inner_lines

lines_as : (w : What-F What TreeStmt) (v : What) → roll-What w ≡ v → what_lines v ≡ statement_step (map-What What TreeStmt Lines Lines what_lines statement_lines w)
lines_as w v is = ap what_lines (sym is) ∙ lines_roll w

what_roll : (w : What-F What TreeStmt) → unlined_what (roll-What w) ≡ unlined_what_step (map-What What TreeStmt What TreeStmt unlined_what unlined_stmt w)
what_roll = fold-roll-What What TreeStmt unlined_what_step inner_stmt

-- the lines of a branch and of a loop, by the pieces of the condition
abbrev if_by : List Piece → List Lines → List Lines → Lines
if_by test yes_block no_block level =
    Indent level ∷ Word f.If ∷ ((Space ∷ Word f.LParen ∷ (test ++ Word f.RParen ∷ Space ∷ [])) ++ (block_pieces yes_block level ++ (otherwise_pieces no_block level ++ Feed ∷ [])))

abbrev while_by : List Piece → List Lines → Lines
while_by test body level = Indent level ∷ Word f.While ∷ ((Space ∷ Word f.LParen ∷ (test ++ Word f.RParen ∷ Space ∷ [])) ++ (block_pieces body level ++ Feed ∷ []))

list_same : {T : Type 0} (value : T → TreeStmt) → ((t : T) → statement_lines (unlined_stmt (value t)) ≡ statement_lines (value t)) → (ts : List T)
    → map statement_lines (map unlined_stmt (map value ts)) ≡ map statement_lines (map value ts)
list_same value holds [] = refl
list_same value holds (t ∷ ts) =
    ap (λ (l : Lines). l ∷ map statement_lines (map unlined_stmt (map value ts))) (holds t) ∙ ap (λ (ls : List Lines). statement_lines (value t) ∷ ls) (list_same value holds ts)

what_level : {S T : Type 0} (level : What-F S T) (what_of : S → What) (value : T → TreeStmt) → ((t : T) → statement_lines (unlined_stmt (value t)) ≡ statement_lines (value t))
    → what_lines (unlined_what (roll-What (map-What S T What TreeStmt what_of value level))) ≡ what_lines (roll-What (map-What S T What TreeStmt what_of value level))
what_level (What-F.Assign x r) what_of value holds =
    ap what_lines (what_roll (What-F.Assign x r)) ∙ lines_as (What-F.Assign (unlined_word x) (unlined_rhs r)) _ (what.rolls-Assign (unlined_word x) (unlined_rhs r))
    ∙ ap (λ ps. simple_line (Name x.text ∷ Space ∷ Word f.Assign ∷ Space ∷ ps)) (rhs_same r) ∙ sym (lines_roll (What-F.Assign x r))
what_level (What-F.Store p g r) what_of value holds =
    ap what_lines (what_roll (What-F.Store p g r)) ∙ lines_as (What-F.Store (unlined_word p) (unlined_word g) (unlined_side r)) _ (what.rolls-Store (unlined_word p) (unlined_word g) (unlined_side r))
    ∙ ap (λ ps. simple_line (Name p.text ∷ Word f.Dot ∷ Name g.text ∷ Space ∷ Word f.Assign ∷ Space ∷ ps)) (side_same r) ∙ sym (lines_roll (What-F.Store p g r))
what_level (What-F.If c a b) what_of value holds =
    ap what_lines (what_roll (What-F.If c (map value a) (map value b)))
    ∙ lines_as (What-F.If (unlined_cond c) (map unlined_stmt (map value a)) (map unlined_stmt (map value b))) _ (what.rolls-If (unlined_cond c) (map unlined_stmt (map value a)) (map unlined_stmt (map value b)))
    ∙ ap (λ ps. if_by ps (map statement_lines (map unlined_stmt (map value a))) (map statement_lines (map unlined_stmt (map value b)))) (condition_same c)
    ∙ ap (λ ls. if_by (condition_pieces c) ls (map statement_lines (map unlined_stmt (map value b)))) (list_same value holds a)
    ∙ ap (λ ls. if_by (condition_pieces c) (map statement_lines (map value a)) ls) (list_same value holds b) ∙ sym (lines_roll (What-F.If c (map value a) (map value b)))
what_level (What-F.While c a) what_of value holds =
    ap what_lines (what_roll (What-F.While c (map value a)))
    ∙ lines_as (What-F.While (unlined_cond c) (map unlined_stmt (map value a))) _ (what.rolls-While (unlined_cond c) (map unlined_stmt (map value a)))
    ∙ ap (λ ps. while_by ps (map statement_lines (map unlined_stmt (map value a)))) (condition_same c)
    ∙ ap (λ ls. while_by (condition_pieces c) ls) (list_same value holds a) ∙ sym (lines_roll (What-F.While c (map value a)))
what_level (What-F.Return x) what_of value holds =
    ap what_lines (what_roll (What-F.Return x)) ∙ lines_as (What-F.Return (unlined_expr x)) _ (what.rolls-Return (unlined_expr x))
    ∙ ap (λ (s : Shown). simple_line (Word f.Return ∷ Space ∷ s.pieces)) (shown_same x) ∙ sym (lines_roll (What-F.Return x))
what_level (What-F.Emit x) what_of value holds =
    ap what_lines (what_roll (What-F.Emit x)) ∙ lines_as (What-F.Emit (unlined_expr x)) _ (what.rolls-Emit (unlined_expr x))
    ∙ ap (λ (s : Shown). simple_line (Word f.Emit ∷ Space ∷ s.pieces)) (shown_same x) ∙ sym (lines_roll (What-F.Emit x))

whole_level : {S T : Type 0} (level : TreeStmt-F S T) (what_of : S → What) (value : T → TreeStmt) → ((s : S) → what_lines (unlined_what (what_of s)) ≡ what_lines (what_of s))
    → statement_lines (unlined_stmt (roll-TreeStmt (map-TreeStmt S T What TreeStmt what_of value level))) ≡ statement_lines (roll-TreeStmt (map-TreeStmt S T What TreeStmt what_of value level))
whole_level {S} {T} level what_of value holds =
    ap statement_lines (fold-roll-TreeStmt What TreeStmt unlined_what_step inner_stmt (map-TreeStmt S T What TreeStmt what_of value level))
    ∙ fold-roll-TreeStmt Lines Lines statement_step inner_lines (record { line = 0; what = unlined_what (what_of level.what) })
    ∙ holds level.what ∙ sym (fold-roll-TreeStmt Lines Lines statement_step inner_lines (map-TreeStmt S T What TreeStmt what_of value level))

statement_same : (s : TreeStmt) → statement_lines (unlined_stmt s) ≡ statement_lines s
statement_same =
    ind-TreeStmt (λ w. what_lines (unlined_what w) ≡ what_lines w) (λ s. statement_lines (unlined_stmt s) ≡ statement_lines s)
    (λ x y is. subst (λ l. what_lines (unlined_what (roll-What l)) ≡ what_lines (roll-What l)) is (what_level y (λ e. e.0) (λ e. e.0) (λ e. e.1)))
    (λ x y is. subst (λ l. statement_lines (unlined_stmt (roll-TreeStmt l)) ≡ statement_lines (roll-TreeStmt l)) is (whole_level y (λ e. e.0) (λ e. e.0) (λ e. e.1)))

body_same : (body : List TreeStmt) → map statement_lines (map unlined_stmt body) ≡ map statement_lines body
body_same [] = refl
body_same (s ∷ body) =
    ap (λ (l : Lines). l ∷ map statement_lines (map unlined_stmt body)) (statement_same s) ∙ ap (λ (ls : List Lines). statement_lines s ∷ ls) (body_same body)

-- ---- declarations

fields_same : (all : List TreeField) → fields_pieces (map unlined_field all) ≡ fields_pieces all
fields_same [] = refl
fields_same (first ∷ more) = ap (λ ps. field_pieces first ++ ps) (flat_map-map next_field unlined_field more)

kind_fields_same : (all : List TreeField) → kind_fields (map unlined_field all) ≡ kind_fields all
kind_fields_same [] = refl
kind_fields_same (first ∷ more) = ap (λ ps. Word f.LBrace ∷ Space ∷ (ps ++ Space ∷ Word f.RBrace ∷ [])) (fields_same (first ∷ more))

vars_same : (all : List TreeField) → vars_line (map unlined_field all) ≡ vars_line all
vars_same [] = refl
vars_same (first ∷ more) = ap (λ ps. simple_line (Word f.Var ∷ Space ∷ ps) 1) (fields_same (first ∷ more))

kind_same : (kind : TreeKind) → kind_line (unlined_kind kind) ≡ kind_line kind
kind_same kind = ap (λ ps. kind_head kind ++ (ps ++ Feed ∷ [])) (kind_fields_same kind.fields)

abbrev op_by : TreeOp → List Piece → List Piece → List Lines → List Piece
op_by o params vars lines =
    (Word f.Op ∷ Space ∷ Name o.name.text ∷ Word f.LParen ∷ (params ++ Word f.RParen ∷ [])) ++ (quota_pieces o ++ (Space ∷ Word f.LBrace ∷ Feed
    ∷ (vars ++ (lines_at lines 1 ++ Word f.RBrace ∷ Feed ∷ []))))

op_same : (o : TreeOp) → op_lines (unlined_op o) ≡ op_lines o
op_same o =
    ap (λ ps. op_by o ps (vars_line (map unlined_field o.vars)) (map statement_lines (map unlined_stmt o.body))) (fields_same o.params)
    ∙ ap (λ ps. op_by o (fields_pieces o.params) ps (map statement_lines (map unlined_stmt o.body))) (vars_same o.vars) ∙ ap (λ ls. op_by o (fields_pieces o.params) (vars_line o.vars) ls) (body_same o.body)

lines_same : {S : Type 0} (pieces : S → List Piece) (key : S → S) → ((s : S) → pieces (key s) ≡ pieces s) → (all : List S) → flat_map pieces (map key all) ≡ flat_map pieces all
lines_same pieces key h [] = refl
lines_same pieces key h (s ∷ all) = ap (λ ps. ps ++ flat_map pieces (map key all)) (h s) ∙ ap (λ ps. pieces s ++ ps) (lines_same pieces key h all)

-- ---- modules

abbrev pieces_with : ℕ → List Piece → List Piece → List Piece
pieces_with v kinds ops = Word f.Domlock ∷ Space ∷ Number v ∷ Feed ∷ (kinds ++ ops)

tree_same : (tree : Tree) → pieces_of (unlined tree) ≡ pieces_of tree
tree_same tree =
    ap (λ ps. pieces_with tree.version ps (flat_map op_lines (map unlined_op tree.ops))) (lines_same kind_line unlined_kind kind_same tree.kinds)
    ∙ ap (λ ps. pieces_with tree.version (flat_map kind_line tree.kinds) ps) (lines_same op_lines unlined_op op_same tree.ops)

pub keeps_no_lines : CanonicalKeepsNoLines
keeps_no_lines a b same = ap text_of (sym (tree_same a) ∙ ap pieces_of same ∙ tree_same b)
