-- The pieces of a module stay apart.
use Rattle.std.proofs.Common.{◌≡◌, ℕ, ◌+◌, Bool, true, false, List, [], ◌∷◌, ◌++◌, map, refl, sym, ◌∙◌, subst, append_assoc}
use Rattle.std.proofs.lemmas.Bool.{and_from}
use Rattle.std.proofs.lemmas.List.{append-nil}
use Rattle.std.specs.Prelude.{ℤ, pos, negsuc, if◌then◌else◌, codes}
use Rattle.std.specs.Str.{bytes_eq}
use Rattle.std.specs.List.{flat_map, AllByRecursion}
use Rattle.dl_ir.specs.declared.expressions.Op.{Op}
use Rattle.dl_ir.specs.declared.expressions.Op.TheVariants as op
use Rattle.dl_ir.specs.declared.expressions.Rel.{Rel}
use Rattle.dl_ir.specs.declared.expressions.Rel.TheVariants as rel
use Rattle.dl_grammar.specs.declared.lexeme.Fixed.{Fixed}
use Rattle.dl_grammar.specs.declared.lexeme.Fixed.TheVariants as f
use Rattle.dl_grammar.specs.declared.tree.Tree.{Tree}
use Rattle.dl_grammar.specs.declared.tree.Word.{Word as WordOf}
use Rattle.dl_grammar.specs.declared.tree.TreeField.{TreeField}
use Rattle.dl_grammar.specs.declared.tree.TreeKind.{TreeKind}
use Rattle.dl_grammar.specs.declared.tree.TreeOp.{TreeOp}
use Rattle.dl_grammar.specs.declared.tree.Rhs.{Rhs}
use Rattle.dl_grammar.specs.declared.tree.Rhs.TheVariants as rhs
use Rattle.dl_grammar.specs.declared.tree.Side.{Side}
use Rattle.dl_grammar.specs.declared.tree.Side.TheVariants as side
use Rattle.dl_grammar.specs.declared.tree.TreeCond.{TreeCond}
use Rattle.dl_grammar.specs.declared.tree.TreeExpr.{TreeExpr, TreeExpr-F, roll-TreeExpr, ind-TreeExpr}
use Rattle.dl_grammar.specs.declared.tree.TreeExpr.TheFolds.{map-TreeExpr, fold-roll-TreeExpr}
use Rattle.dl_grammar.specs.declared.tree.TreeStmt.{TreeStmt, TreeStmt-F, roll-TreeStmt, ind-TreeStmt}
use Rattle.dl_grammar.specs.declared.tree.What.{What, What-F, roll-What}
use Rattle.dl_grammar.specs.declared.tree.What.TheFolds.{fold-What, fold-roll-What, fold-roll-TreeStmt, map-What, map-TreeStmt}
use Rattle.dl_text.specs.Bytes.{is_word}
use Rattle.dl_print.specs.Canonical as spec
use Rattle.dl_print.specs.Canonical.{Piece, Word, Name, Number, Space, Indent, Feed, text_of, Rank, Factor, Term, Sum, Lines}
use Rattle.dl_print.proofs.Apart.{stops, stops_fixed, are_apart}

-- pieces stay apart before any pieces that begin with no byte of a word
abbrev pub Open : List Piece → Type 0
Open ps = (rest : List Piece) → stops is_word (text_of rest) ≡ true → are_apart rest ≡ true → are_apart (ps ++ rest) ≡ true

-- pieces stay apart before any pieces
abbrev pub Closed : List Piece → Type 0
Closed ps = (rest : List Piece) → are_apart rest ≡ true → are_apart (ps ++ rest) ≡ true

-- pieces grouped in the other way
regroup : (a b rest : List Piece) → are_apart (a ++ (b ++ rest)) ≡ true → are_apart ((a ++ b) ++ rest) ≡ true
regroup a b rest h = subst (λ ps. are_apart ps ≡ true) (sym (append_assoc a b rest)) h

-- ---- expressions

open_name : (text : List ℕ) → Open (Name text ∷ [])
open_name text rest soft apart = and_from (stops is_word (text_of rest)) (are_apart rest) soft apart

open_number : (n : ℤ) → Open (spec.number_pieces n)
open_number (pos n) rest soft apart = and_from (stops is_word (text_of rest)) (are_apart rest) soft apart
open_number (negsuc n) rest soft apart = and_from (stops is_word (text_of rest)) (are_apart rest) soft apart

open_bracketed : (ps : List Piece) → Open ps → Open (spec.bracketed ps)
open_bracketed ps h rest soft apart = regroup ps (Word f.RParen ∷ []) rest (h (Word f.RParen ∷ rest) refl apart)

open_factor : (r : Rank) (ps : List Piece) → Open ps → Open (spec.factor_of r ps)
open_factor Factor ps h = h
open_factor Term ps h = open_bracketed ps h
open_factor Sum ps h = open_bracketed ps h

open_term : (r : Rank) (ps : List Piece) → Open ps → Open (spec.term_of r ps)
open_term Factor ps h = h
open_term Term ps h = h
open_term Sum ps h = open_bracketed ps h

-- a symbol is not drawn out by a space
abbrev Spaced : Fixed → Type 0
Spaced g = (bytes : List ℕ) → stops_fixed g (32 ∷ bytes) ≡ true

open_between : (a : List Piece) (g : Fixed) (b : List Piece) → Spaced g → Open a → Open b → Open (spec.between a g b)
open_between a g b spaced first second rest soft apart =
    regroup a (Space ∷ Word g ∷ Space ∷ b) rest
    (first (Space ∷ Word g ∷ Space ∷ (b ++ rest)) refl (and_from (stops_fixed g (32 ∷ text_of (b ++ rest))) (are_apart (b ++ rest)) (spaced (text_of (b ++ rest))) (second rest soft apart)))

open_operation : (o : Op) (a b : spec.Shown) → Open a.pieces → Open b.pieces → Open (spec.operation_shown o a b).pieces
open_operation op.Add a b h k = open_between a.pieces f.Plus (spec.as_term b) (λ bytes. refl) h (open_term b.rank b.pieces k)
open_operation op.Sub a b h k = open_between a.pieces f.Minus (spec.as_term b) (λ bytes. refl) h (open_term b.rank b.pieces k)
open_operation op.Mul a b h k = open_between (spec.as_term a) f.Star (spec.as_factor b) (λ bytes. refl) (open_term a.rank a.pieces h) (open_factor b.rank b.pieces k)
open_operation op.Div a b h k = open_between (spec.as_term a) f.Slash (spec.as_factor b) (λ bytes. refl) (open_term a.rank a.pieces h) (open_factor b.rank b.pieces k)
open_operation op.Rem a b h k = open_between (spec.as_term a) f.Percent (spec.as_factor b) (λ bytes. refl) (open_term a.rank a.pieces h) (open_factor b.rank b.pieces k)

open_negation : (a : spec.Shown) → Open a.pieces → Open (Word f.Minus ∷ spec.as_factor a)
open_negation a h = open_factor a.rank a.pieces h

-- one level of an expression, whose operands stay apart
open_level : {S : Type 0} (level : TreeExpr-F S) (value : S → TreeExpr) → ((s : S) → Open (spec.sum_pieces (value s))) → Open (spec.sum_pieces (roll-TreeExpr (map-TreeExpr S TreeExpr value level)))
open_level (TreeExpr-F.Num n) value holds = subst (λ (s : spec.Shown). Open s.pieces) (sym (fold-roll-TreeExpr spec.Shown spec.expression_step (TreeExpr-F.Num n))) (open_number n)
open_level (TreeExpr-F.Name word) value holds = subst (λ (s : spec.Shown). Open s.pieces) (sym (fold-roll-TreeExpr spec.Shown spec.expression_step (TreeExpr-F.Name word))) (open_name word.text)
open_level (TreeExpr-F.Neg a) value holds =
    subst (λ (s : spec.Shown). Open s.pieces) (sym (fold-roll-TreeExpr spec.Shown spec.expression_step (TreeExpr-F.Neg (value a)))) (open_negation (spec.shown (value a)) (holds a))
open_level (TreeExpr-F.Bin o a b) value holds =
    subst (λ (s : spec.Shown). Open s.pieces) (sym (fold-roll-TreeExpr spec.Shown spec.expression_step (TreeExpr-F.Bin o (value a) (value b))))
    (open_operation o (spec.shown (value a)) (spec.shown (value b)) (holds a) (holds b))

pub open_sum : (e : TreeExpr) → Open (spec.sum_pieces e)
open_sum = ind-TreeExpr (λ e. Open (spec.sum_pieces e)) (λ x y is. subst (λ l. Open (spec.sum_pieces (roll-TreeExpr l))) is (open_level y (λ e. e.0) (λ e. e.1)))

open_side : (s : Side) → Open (spec.side_pieces s)
open_side side.Null rest soft apart = and_from (stops is_word (text_of rest)) (are_apart rest) soft apart
open_side (side.Sum e) rest soft apart = open_sum e rest soft apart

spaced_relation : (r : Rel) → Spaced (spec.relation_fixed r)
spaced_relation rel.Less bytes = refl
spaced_relation rel.LessEq bytes = refl
spaced_relation rel.Equal bytes = refl
spaced_relation rel.NotEqual bytes = refl

open_condition : (c : TreeCond) → Open (spec.condition_pieces c)
open_condition c = open_between (spec.side_pieces c.left) (spec.relation_fixed c.rel) (spec.side_pieces c.right) (spaced_relation c.rel) (open_side c.left) (open_side c.right)

-- ---- statements

open_rhs : (r : Rhs) → Open (spec.rhs_pieces r)
open_rhs rhs.Null rest soft apart = and_from (stops is_word (text_of rest)) (are_apart rest) soft apart
open_rhs (rhs.New kind) rest soft apart = and_from (stops is_word (text_of rest)) (are_apart rest) soft apart
open_rhs (rhs.Field p g) rest soft apart = and_from (stops is_word (text_of rest)) (are_apart rest) soft apart
open_rhs (rhs.Sum e) rest soft apart = open_sum e rest soft apart

closed_simple : (ps : List Piece) → Open ps → (level : ℕ) → Closed (spec.simple_line ps level)
closed_simple ps h level rest apart = regroup ps (Word f.Semicolon ∷ Feed ∷ []) rest (h (Word f.Semicolon ∷ Feed ∷ rest) refl apart)

-- each of some lists of lines stays apart at each level
abbrev ClosedLines : Lines → Type 0
ClosedLines lines = (level : ℕ) → Closed (lines level)

closed_both : (a b : List Piece) → Closed a → Closed b → Closed (a ++ b)
closed_both a b h k rest apart = regroup a b rest (h (b ++ rest) (k rest apart))

closed_test : (c : TreeCond) → Closed (spec.test_pieces c)
closed_test c rest apart =
    regroup (spec.condition_pieces c) (Word f.RParen ∷ Space ∷ []) rest (open_condition c (Word f.RParen ∷ Space ∷ rest) refl apart)

closed_lines : (ls : List Lines) → AllByRecursion ClosedLines ls → (level : ℕ) → Closed (spec.lines_at ls level)
closed_lines [] all level rest apart = apart
closed_lines (l ∷ ls) all level rest apart = closed_both (l level) (spec.lines_at ls level) (all.0 level) (closed_lines ls all.1 level) rest apart

closed_block : (ls : List Lines) → AllByRecursion ClosedLines ls → (level : ℕ) → Closed (spec.block_pieces ls level)
closed_block ls all level rest apart =
    regroup (spec.lines_at ls (level + 1)) (Indent level ∷ Word f.RBrace ∷ []) rest (closed_lines ls all (level + 1) (Indent level ∷ Word f.RBrace ∷ rest) apart)

closed_otherwise : (ls : List Lines) → AllByRecursion ClosedLines ls → (level : ℕ) → Closed (spec.otherwise_pieces ls level)
closed_otherwise [] all level rest apart = apart
closed_otherwise (l ∷ ls) all level rest apart = closed_block (l ∷ ls) all level rest apart

closed_feed : Closed (Feed ∷ [])
closed_feed rest apart = apart

closed_if : (c : TreeCond) (a b : List Lines) → AllByRecursion ClosedLines a → AllByRecursion ClosedLines b → ClosedLines (spec.if_lines c a b)
closed_if c a b h k level =
    closed_both (spec.test_pieces c) (spec.block_pieces a level ++ (spec.otherwise_pieces b level ++ Feed ∷ [])) (closed_test c)
    (closed_both (spec.block_pieces a level) (spec.otherwise_pieces b level ++ Feed ∷ []) (closed_block a h level)
    (closed_both (spec.otherwise_pieces b level) (Feed ∷ []) (closed_otherwise b k level) closed_feed))

closed_while : (c : TreeCond) (a : List Lines) → AllByRecursion ClosedLines a → ClosedLines (spec.while_lines c a)
closed_while c a h level =
    closed_both (spec.test_pieces c) (spec.block_pieces a level ++ Feed ∷ []) (closed_test c)
    (closed_both (spec.block_pieces a level) (Feed ∷ []) (closed_block a h level) closed_feed)

closed_assign : (x : WordOf) (r : Rhs) → ClosedLines (spec.assign_line x r)
closed_assign x r = closed_simple (Name x.text ∷ Space ∷ Word f.Assign ∷ Space ∷ spec.rhs_pieces r) (open_rhs r)

closed_store : (p g : WordOf) (s : Side) → ClosedLines (spec.store_line p g s)
closed_store p g s = closed_simple (Name p.text ∷ Word f.Dot ∷ Name g.text ∷ Space ∷ Word f.Assign ∷ Space ∷ spec.side_pieces s) (open_side s)

closed_return : (e : TreeExpr) → ClosedLines (spec.return_line e)
closed_return e = closed_simple (Word f.Return ∷ Space ∷ spec.sum_pieces e) (open_sum e)

closed_emit : (e : TreeExpr) → ClosedLines (spec.emit_line e)
closed_emit e = closed_simple (Word f.Emit ∷ Space ∷ spec.sum_pieces e) (open_sum e)

-- what a statement says, without its line
abbrev what_lines : What → Lines
what_lines = fold-What Lines Lines spec.statement_step (λ (s : TreeStmt-F Lines Lines). s.what)

closed_list : {T : Type 0} (list : List T) (value : T → TreeStmt) → ((t : T) → ClosedLines (spec.statement_lines (value t))) → AllByRecursion ClosedLines (map spec.statement_lines (map value list))
closed_list [] value holds = tt
closed_list (t ∷ list) value holds = (holds t, closed_list list value holds)

-- by the equation of what a statement says
by_level : (layer : What-F What TreeStmt) (lines : Lines) → spec.statement_step (map-What What TreeStmt Lines Lines what_lines spec.statement_lines layer) ≡ lines → ClosedLines lines → ClosedLines (what_lines (roll-What layer))
by_level layer lines is closed = subst ClosedLines (sym (fold-roll-What Lines Lines spec.statement_step (λ (s : TreeStmt-F Lines Lines). s.what) layer ∙ is)) closed

-- one level of what a statement says, whose statements stay apart
closed_level : {S T : Type 0} (level : What-F S T) (what : S → What) (value : T → TreeStmt) → ((t : T) → ClosedLines (spec.statement_lines (value t)))
    → ClosedLines (what_lines (roll-What (map-What S T What TreeStmt what value level)))
closed_level (What-F.Assign x r) what value holds = by_level (What-F.Assign x r) (spec.assign_line x r) refl (closed_assign x r)
closed_level (What-F.Store p g r) what value holds = by_level (What-F.Store p g r) (spec.store_line p g r) refl (closed_store p g r)
closed_level (What-F.If c a b) what value holds =
    by_level (What-F.If c (map value a) (map value b)) (spec.if_lines c (map spec.statement_lines (map value a)) (map spec.statement_lines (map value b))) refl
    (closed_if c (map spec.statement_lines (map value a)) (map spec.statement_lines (map value b)) (closed_list a value holds) (closed_list b value holds))
closed_level (What-F.While c a) what value holds =
    by_level (What-F.While c (map value a)) (spec.while_lines c (map spec.statement_lines (map value a))) refl (closed_while c (map spec.statement_lines (map value a)) (closed_list a value holds))
closed_level (What-F.Return e) what value holds = by_level (What-F.Return e) (spec.return_line e) refl (closed_return e)
closed_level (What-F.Emit e) what value holds = by_level (What-F.Emit e) (spec.emit_line e) refl (closed_emit e)

-- a statement is what it says
closed_whole : {S T : Type 0} (level : TreeStmt-F S T) (what : S → What) (value : T → TreeStmt) → ((s : S) → ClosedLines (what_lines (what s)))
    → ClosedLines (spec.statement_lines (roll-TreeStmt (map-TreeStmt S T What TreeStmt what value level)))
closed_whole {S} {T} level what value holds =
    subst ClosedLines (sym (fold-roll-TreeStmt Lines Lines spec.statement_step (λ (s : TreeStmt-F Lines Lines). s.what) (map-TreeStmt S T What TreeStmt what value level))) (holds level.what)

pub closed_statement : (s : TreeStmt) → ClosedLines (spec.statement_lines s)
closed_statement =
    ind-TreeStmt (λ w. ClosedLines (what_lines w)) (λ s. ClosedLines (spec.statement_lines s))
    (λ x y is. subst (λ l. ClosedLines (what_lines (roll-What l))) is (closed_level y (λ e. e.0) (λ e. e.0) (λ e. e.1)))
    (λ x y is. subst (λ l. ClosedLines (spec.statement_lines (roll-TreeStmt l))) is (closed_whole y (λ e. e.0) (λ e. e.0) (λ e. e.1)))

closed_statements : (block : List TreeStmt) → AllByRecursion ClosedLines (map spec.statement_lines block)
closed_statements [] = tt
closed_statements (s ∷ block) = (closed_statement s, closed_statements block)

-- ---- declarations

open_type : (b : Bool) (text : List ℕ) → Open ((if b then Word f.Int else Name text) ∷ [])
open_type true text rest soft apart = and_from (stops is_word (text_of rest)) (are_apart rest) soft apart
open_type false text rest soft apart = and_from (stops is_word (text_of rest)) (are_apart rest) soft apart

open_field : (field : TreeField) → Open (spec.field_pieces field)
open_field field = open_type (bytes_eq field.ty.text (codes "int")) field.ty.text

open_next : (field : TreeField) → Open (spec.next_field field)
open_next field = open_field field

-- a field is followed by a comma, or by what follows all of them
soft_more : (fields : List TreeField) (rest : List Piece) → stops is_word (text_of rest) ≡ true → stops is_word (text_of (flat_map spec.next_field fields ++ rest)) ≡ true
soft_more [] rest soft = soft
soft_more (field ∷ fields) rest soft = refl

open_more : (fields : List TreeField) → Open (flat_map spec.next_field fields)
open_more [] rest soft apart = apart
open_more (field ∷ fields) rest soft apart =
    regroup (spec.next_field field) (flat_map spec.next_field fields) rest
    (open_next field (flat_map spec.next_field fields ++ rest) (soft_more fields rest soft) (open_more fields rest soft apart))

open_fields : (fields : List TreeField) → Open (spec.fields_pieces fields)
open_fields [] rest soft apart = apart
open_fields (field ∷ fields) rest soft apart =
    regroup (spec.field_pieces field) (flat_map spec.next_field fields) rest
    (open_field field (flat_map spec.next_field fields ++ rest) (soft_more fields rest soft) (open_more fields rest soft apart))

closed_kind_fields : (fields : List TreeField) → Closed (spec.kind_fields fields)
closed_kind_fields [] rest apart = apart
closed_kind_fields (field ∷ fields) rest apart =
    regroup (spec.fields_pieces (field ∷ fields)) (Space ∷ Word f.RBrace ∷ []) rest (open_fields (field ∷ fields) (Space ∷ Word f.RBrace ∷ rest) refl apart)

closed_head : (b : Bool) (kind : TreeKind) → Closed (if b then spec.root_head kind else spec.node_head kind)
closed_head true kind rest apart = apart
closed_head false kind rest apart = apart

closed_kind : (kind : TreeKind) → Closed (spec.kind_line kind)
closed_kind kind =
    closed_both (spec.kind_head kind) (spec.kind_fields kind.fields ++ Feed ∷ []) (closed_head kind.is_root kind)
    (closed_both (spec.kind_fields kind.fields) (Feed ∷ []) (closed_kind_fields kind.fields) closed_feed)

closed_signature : (o : TreeOp) → Closed (spec.signature_pieces o)
closed_signature o rest apart =
    regroup (spec.fields_pieces o.params) (Word f.RParen ∷ []) rest (open_fields o.params (Word f.RParen ∷ rest) refl apart)

closed_vars : (vars : List TreeField) → Closed (spec.vars_line vars)
closed_vars [] rest apart = apart
closed_vars (field ∷ vars) rest apart = closed_simple (Word f.Var ∷ Space ∷ spec.fields_pieces (field ∷ vars)) (open_fields (field ∷ vars)) 1 rest apart

closed_end : Closed (Word f.RBrace ∷ Feed ∷ [])
closed_end rest apart = apart

closed_op : (o : TreeOp) → Closed (spec.op_lines o)
closed_op o =
    let body = spec.lines_at (map spec.statement_lines o.body) 1 in
    closed_both (spec.signature_pieces o) (spec.quota_pieces o ++ (Space ∷ Word f.LBrace ∷ Feed ∷ (spec.vars_line o.vars ++ (body ++ Word f.RBrace ∷ Feed ∷ [])))) (closed_signature o)
    (closed_both (spec.vars_line o.vars) (body ++ Word f.RBrace ∷ Feed ∷ []) (closed_vars o.vars)
    (closed_both body (Word f.RBrace ∷ Feed ∷ []) (closed_lines (map spec.statement_lines o.body) (closed_statements o.body) 1) closed_end))

-- ---- modules

closed_each : {A : Type 0} (pieces : A → List Piece) → ((a : A) → Closed (pieces a)) → (list : List A) → Closed (flat_map pieces list)
closed_each pieces each [] rest apart = apart
closed_each pieces each (a ∷ more) rest apart = closed_both (pieces a) (flat_map pieces more) (each a) (closed_each pieces each more) rest apart

pub tree_apart : (tree : Tree) → are_apart (spec.pieces_of tree) ≡ true
tree_apart tree =
    rw (← append-nil (flat_map spec.kind_line tree.kinds ++ flat_map spec.op_lines tree.ops))
    (closed_both (flat_map spec.kind_line tree.kinds) (flat_map spec.op_lines tree.ops) (closed_each spec.kind_line closed_kind tree.kinds) (closed_each spec.op_lines closed_op tree.ops) [] refl)
