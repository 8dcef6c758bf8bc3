-- A statement that is spelled is spelled by its pieces, whatever their indentation.
use Rattle.std.proofs.Common.{◌≡◌, ℕ, zero, suc, ◌+◌, List, [], ◌∷◌, ◌++◌, map, None, refl, sym, ap, ◌∙◌}
use Rattle.std.proofs.lemmas.List.Folds.{flat_map-map}
use Rattle.dl_ir.specs.declared.expressions.Rel.{Rel}
use Rattle.dl_ir.specs.declared.expressions.Rel.TheVariants as rel
use Rattle.dl_grammar.specs.declared.lexeme.Fixed.TheVariants as f
use Rattle.dl_grammar.specs.declared.lexeme.Lexis.TheVariants as lexis
use Rattle.dl_grammar.specs.declared.tree.Word.{Word as Words}
use Rattle.dl_grammar.specs.declared.tree.TreeStmt.{TreeStmt}
use Rattle.dl_grammar.specs.declared.tree.What.TheVariants as what
use Rattle.dl_grammar.specs.declared.tree.Rhs.{Rhs}
use Rattle.dl_grammar.specs.declared.tree.Rhs.TheVariants as rhs
use Rattle.dl_grammar.specs.declared.tree.Side.{Side}
use Rattle.dl_grammar.specs.declared.tree.Side.TheVariants as side
use Rattle.dl_grammar.specs.declared.tree.TreeCond.{TreeCond}
use Rattle.dl_grammar.specs.declared.tree.TreeExpr.{TreeExpr}
use Rattle.dl_grammar.specs.Grammar.{Rule, One, Then, Nothing}
use Rattle.dl_grammar.specs.Rules as rule
use Rattle.dl_grammar.specs.Rules.{fixed, level, free, relation}
use Rattle.dl_grammar.proofs.Always.{Always, always_one, always_nothing, always_then, always_behind, always_weaken, always_or, always_many}
use Rattle.dl_print.specs.Canonical.{Word, Space, Lines, relation_fixed, side_pieces, condition_pieces, rhs_pieces, block_pieces, otherwise_pieces, lines_at, statement_lines}
use Rattle.dl_rereading.specs.Lines.{unlined_word, unlined_side, unlined_cond, unlined_rhs, unlined_stmt}
use Rattle.dl_rereading.proofs.Prints.{Prints, AllMay, all_may_push, prints_list, same_push, prints_as, prints_grouped, prints_then, prints_last, prints_lead, prints_nothing, prints_one, prints_fixed, prints_word, prints_free_name, spaced, indented, fed, in_first, in_second}
use Rattle.dl_rereading.proofs.Equations.{at_line, lines_assign, lines_store, lines_return, lines_emit, lines_if, lines_while, same_word, same_assign, same_store, same_return, same_emit, same_if, same_while}
use Rattle.dl_rereading.proofs.Expressions.{ExpressionAt, always_expression}

-- ---- sides and conditions

abbrev SideAt : ℕ → Side → Type 0
SideAt room a = Prints (rule.side_of room) (side_pieces a) (λ b. unlined_side b ≡ unlined_side a)

null_at : (room : ℕ) → SideAt room side.Null
null_at room = in_first (prints_word f.Null refl (λ l. prints_nothing refl))

sum_at : (room : ℕ) (x : TreeExpr) → ExpressionAt room x → SideAt room (side.Sum x)
sum_at room x h = in_second (prints_last h (λ y same. prints_nothing (ap side.Sum same)))

always_side : (room : ℕ) → Always (SideAt room) (rule.side_of room)
always_side room = always_or (always_behind (λ l. always_nothing _ _ (null_at room))) (always_then (always_expression room) (λ x h. always_nothing _ _ (sum_at room x h)))

prints_relation : (r : Rel) → Prints (One relation free) (Word (relation_fixed r) ∷ []) (λ q. q ≡ r)
prints_relation rel.Less = prints_one (Word f.Less) (lexis.Fixed f.Less) refl (λ line. record { is = rel.Less; valued = refl; free = refl; so = refl })
prints_relation rel.LessEq = prints_one (Word f.LessEq) (lexis.Fixed f.LessEq) refl (λ line. record { is = rel.LessEq; valued = refl; free = refl; so = refl })
prints_relation rel.Equal = prints_one (Word f.Equal) (lexis.Fixed f.Equal) refl (λ line. record { is = rel.Equal; valued = refl; free = refl; so = refl })
prints_relation rel.NotEqual = prints_one (Word f.NotEqual) (lexis.Fixed f.NotEqual) refl (λ line. record { is = rel.NotEqual; valued = refl; free = refl; so = refl })

abbrev ConditionAt : ℕ → TreeCond → Type 0
ConditionAt room c = Prints (rule.condition room) (condition_pieces c) (λ d. unlined_cond d ≡ unlined_cond c)

same_cond : (q r : Rel) (a b x y : Side) → q ≡ r → unlined_side a ≡ unlined_side x → unlined_side b ≡ unlined_side y
    → unlined_cond (record { rel = q; left = a; right = b }) ≡ unlined_cond (record { rel = r; left = x; right = y })
same_cond q r a b x y is left right =
    ap (λ (p : Rel). let c : TreeCond = record { rel = p; left = unlined_side a; right = unlined_side b } in c) is
    ∙ ap (λ (s : Side). let c : TreeCond = record { rel = r; left = s; right = unlined_side b } in c) left
    ∙ ap (λ (s : Side). let c : TreeCond = record { rel = r; left = unlined_side x; right = s } in c) right

condition_at : (room : ℕ) (r : Rel) (x y : Side) → SideAt room x → SideAt room y → ConditionAt room (record { rel = r; left = x; right = y })
condition_at room r x y left right =
    prints_then left (λ a same_a. spaced (prints_lead (prints_relation r) (λ q is. spaced (prints_last right (λ b same_b. prints_nothing (same_cond q r a b x y is same_a same_b))))))

always_condition : (room : ℕ) → Always (ConditionAt room) (rule.condition room)
always_condition room = always_then (always_side room) (λ a left. always_behind (λ r. always_then (always_side room) (λ b right. always_nothing _ _ (condition_at room r a b left right))))

-- ---- right sides

abbrev RightAt : ℕ → Rhs → Type 0
RightAt room r = Prints (rule.right_side room) (rhs_pieces r) (λ q. unlined_rhs q ≡ unlined_rhs r)

right_null : (room : ℕ) → RightAt room rhs.Null
right_null room = in_first (prints_word f.Null refl (λ l. prints_nothing refl))

right_new : (room : ℕ) (k : Words) → RightAt room (rhs.New k)
right_new room k = in_second (in_first (prints_word f.New refl (λ l. spaced (prints_free_name k.text (λ w is. prints_nothing (ap rhs.New (same_word w k is)))))))

right_field : (room : ℕ) (p g : Words) → RightAt room (rhs.Field p g)
right_field room p g = in_second (in_second (in_first (prints_free_name p.text (λ v is_v. prints_word f.Dot refl (λ l. prints_free_name g.text (λ w is_w.
    prints_nothing (ap (λ u. rhs.Field u (unlined_word w)) (same_word v p is_v) ∙ ap (λ u. rhs.Field (unlined_word p) u) (same_word w g is_w))))))))

right_sum : (room : ℕ) (x : TreeExpr) → ExpressionAt room x → RightAt room (rhs.Sum x)
right_sum room x h = in_second (in_second (in_second (prints_last h (λ y same. prints_nothing (ap rhs.Sum same)))))

always_right : (room : ℕ) → Always (RightAt room) (rule.right_side room)
always_right room =
    always_or (always_behind (λ l. always_nothing _ _ (right_null room)))
    (always_or (always_behind (λ l. always_behind (λ k. always_nothing _ _ (right_new room k))))
    (always_or (always_behind (λ p. always_behind (λ l. always_behind (λ g. always_nothing _ _ (right_field room p g)))))
    (always_then (always_expression room) (λ x h. always_nothing _ _ (right_sum room x h)))))

-- ---- simple statements

abbrev pub StatementAt : Rule TreeStmt → TreeStmt → Type 0
StatementAt L s = (indent : ℕ) → Prints L (statement_lines s indent) (λ t. unlined_stmt t ≡ unlined_stmt s)

by_lines : (L : Rule TreeStmt) (s : TreeStmt) (lines : Lines) → statement_lines s ≡ lines → ((indent : ℕ) → Prints L (lines indent) (λ t. unlined_stmt t ≡ unlined_stmt s)) → StatementAt L s
by_lines L s lines is h = λ indent. prints_as (ap (λ (g : Lines). g indent) (sym is)) (h indent)

assign_at : (room : ℕ) (x : Words) (r : Rhs) → RightAt room r → StatementAt (rule.setting room) (at_line x.line (what.Assign x r))
assign_at room x r h = by_lines _ _ _ (lines_assign x.line x r) (λ indent. indented (prints_free_name x.text (λ v is. spaced (in_first (prints_word f.Assign refl (λ l. spaced
    (prints_then h (λ q same. prints_word f.Semicolon refl (λ m. fed (prints_nothing (same_assign v.line x.line v x q r is same)))))))))))

store_at : (room : ℕ) (p g : Words) (r : Side) → SideAt room r → StatementAt (rule.setting room) (at_line p.line (what.Store p g r))
store_at room p g r h = by_lines _ _ _ (lines_store p.line p g r) (λ indent. indented (prints_free_name p.text (λ v is_v. in_second (prints_word f.Dot refl (λ l.
    prints_free_name g.text (λ w is_w. spaced (prints_word f.Assign refl (λ m. spaced
    (prints_then h (λ q same. prints_word f.Semicolon refl (λ n. fed (prints_nothing (same_store v.line p.line v p w g q r is_v is_w same)))))))))))))

return_at : (room l : ℕ) (x : TreeExpr) → ExpressionAt room x → StatementAt (rule.returning room) (at_line l (what.Return x))
return_at room l x h = by_lines _ _ _ (lines_return l x) (λ indent. indented (prints_word f.Return refl (λ k. spaced
    (prints_then h (λ y same. prints_word f.Semicolon refl (λ m. fed (prints_nothing (same_return k l y x same))))))))

emit_at : (room l : ℕ) (x : TreeExpr) → ExpressionAt room x → StatementAt (rule.emitting room) (at_line l (what.Emit x))
emit_at room l x h = by_lines _ _ _ (lines_emit l x) (λ indent. indented (prints_word f.Emit refl (λ k. spaced
    (prints_then h (λ y same. prints_word f.Semicolon refl (λ m. fed (prints_nothing (same_emit k l y x same))))))))

always_setting : (room : ℕ) → Always (StatementAt (rule.setting room)) (rule.setting room)
always_setting room = always_behind (λ x. always_or
    (always_behind (λ l. always_then (always_right room) (λ r h. always_behind (λ m. always_nothing _ _ (assign_at room x r h)))))
    (always_behind (λ l. always_behind (λ g. always_behind (λ m. always_then (always_side room) (λ r h. always_behind (λ n. always_nothing _ _ (store_at room x g r h))))))))

always_returning : (room : ℕ) → Always (StatementAt (rule.returning room)) (rule.returning room)
always_returning room = always_behind (λ l. always_then (always_expression room) (λ x h. always_behind (λ m. always_nothing _ _ (return_at room l x h))))

always_emitting : (room : ℕ) → Always (StatementAt (rule.emitting room)) (rule.emitting room)
always_emitting room = always_behind (λ l. always_then (always_expression room) (λ x h. always_behind (λ m. always_nothing _ _ (emit_at room l x h))))

-- ---- blocks

abbrev pub SameBlock : List TreeStmt → List TreeStmt → Type 0
SameBlock body other = map unlined_stmt other ≡ map unlined_stmt body

module _ (inner : Rule TreeStmt) where
  abbrev pub AllStatements : List TreeStmt → Type 0
  AllStatements body = AllMay (λ done. StatementAt inner) [] body

  pub always_statements : Always (StatementAt inner) inner → Always AllStatements (rule.statements inner)
  always_statements all = always_many (λ before h. always_then all (λ s at. always_nothing _ _ (all_may_push (λ done. StatementAt inner) [] before s h at))) [] tt

  statement_turn : (indent : ℕ) (done : List TreeStmt) (s : TreeStmt) (before : List TreeStmt) → SameBlock done before → StatementAt inner s
      → Prints (Then inner (λ t. Nothing (before ++ t ∷ []))) (statement_lines s indent) (SameBlock (done ++ s ∷ []))
  statement_turn indent done s before ready at = prints_last (at indent) (λ t same. prints_nothing (same_push unlined_stmt before done t s ready same))

  pub prints_statements : (indent : ℕ) (body : List TreeStmt) → AllStatements body → Prints (rule.statements inner) (lines_at (map statement_lines body) indent) (SameBlock body)
  prints_statements indent body all = prints_as (sym (flat_map-map (λ (lines : Lines). lines indent) statement_lines body))
      (prints_list (λ done. StatementAt inner) SameBlock (λ before. Then inner (λ t. Nothing (before ++ t ∷ []))) (λ (s : TreeStmt). statement_lines s indent)
      (statement_turn indent) [] body all [] refl)

  abbrev BlockAt : ℕ → List TreeStmt → Type 0
  BlockAt room body = (indent : ℕ) → Prints (rule.block room inner) (block_pieces (map statement_lines body) indent) (SameBlock body)

  block_at : (room l : ℕ) (body : List TreeStmt) → level room l ≡ None → AllStatements body → BlockAt room body
  block_at room l body some all = λ indent. prints_lead (prints_fixed f.LBrace (level room) refl (λ line. some)) (λ k t. fed
      (prints_then (prints_statements (indent + 1) body all)
      (λ other same. indented (prints_word f.RBrace refl (λ m. prints_nothing same)))))

  module _ (room : ℕ) (all : Always (StatementAt inner) inner) where
    always_block : Always (BlockAt room) (rule.block room inner)
    always_block = always_then (always_one (λ l. level room l ≡ None) _ _ (λ t l is some. some)) (λ l some. always_then (always_statements all) (λ body at. always_behind (λ m.
        always_nothing _ _ (block_at room l body some at))))

    abbrev OtherwiseAt : List TreeStmt → Type 0
    OtherwiseAt body = (indent : ℕ) → Prints (rule.otherwise room inner) (otherwise_pieces (map statement_lines body) indent) (SameBlock body)

    otherwise_at : (body : List TreeStmt) → BlockAt room body → OtherwiseAt body
    otherwise_at [] h = λ indent. in_second (prints_nothing refl)
    otherwise_at (s ∷ more) h = λ indent. spaced (in_first (prints_word f.Else refl (λ l. spaced (h indent))))

    always_otherwise : Always OtherwiseAt (rule.otherwise room inner)
    always_otherwise = always_or (always_behind (λ l. always_weaken otherwise_at always_block)) (always_nothing OtherwiseAt [] (otherwise_none))
      where
        otherwise_none : OtherwiseAt []
        otherwise_none = λ indent. in_second (prints_nothing refl)

    loop_at : (l : ℕ) (c : TreeCond) (body : List TreeStmt) → ConditionAt room c → BlockAt room body → StatementAt (rule.loop room inner) (at_line l (what.While c body))
    loop_at l c body test at = by_lines _ _ _ (lines_while l c body) (λ indent. indented (prints_word f.While refl (λ k. spaced (prints_word f.LParen refl (λ m.
        prints_grouped (condition_pieces c) (Word f.RParen ∷ Space ∷ []) _ (prints_then test (λ d same_c. prints_word f.RParen refl (λ n. spaced
        (prints_then (at indent) (λ other same. fed (prints_nothing (same_while k l d c other body same_c same))))))))))))

    branch_at : (l : ℕ) (c : TreeCond) (yes_block no_block : List TreeStmt) → ConditionAt room c → BlockAt room yes_block → OtherwiseAt no_block
        → StatementAt (rule.branch room inner) (at_line l (what.If c yes_block no_block))
    branch_at l c yes_block no_block test left right = by_lines _ _ _ (lines_if l c yes_block no_block) (λ indent. indented (prints_word f.If refl (λ k. spaced (prints_word f.LParen refl (λ m.
        prints_grouped (condition_pieces c) (Word f.RParen ∷ Space ∷ []) _ (prints_then test (λ d same_c. prints_word f.RParen refl (λ n. spaced
        (prints_then (left indent) (λ first same_first. prints_then (right indent) (λ second same_second. fed
        (prints_nothing (same_if k l d c first yes_block second no_block same_c same_first same_second)))))))))))))

    always_loop : Always (StatementAt (rule.loop room inner)) (rule.loop room inner)
    always_loop = always_behind (λ l. always_behind (λ m. always_then (always_condition room) (λ c test. always_behind (λ n. always_then always_block (λ body at.
        always_nothing _ _ (loop_at l c body test at))))))

    always_branch : Always (StatementAt (rule.branch room inner)) (rule.branch room inner)
    always_branch = always_behind (λ l. always_behind (λ m. always_then (always_condition room) (λ c test. always_behind (λ n. always_then always_block (λ yes_block left.
        always_then always_otherwise (λ no_block right. always_nothing _ _ (branch_at l c yes_block no_block test left right)))))))

    always_over : Always (StatementAt (rule.statement_over room inner)) (rule.statement_over room inner)
    always_over =
        always_or (always_weaken (λ s h. λ indent. in_first (h indent)) always_branch)
        (always_or (always_weaken (λ s h. λ indent. in_second (in_first (h indent))) always_loop)
        (always_or (always_weaken (λ s h. λ indent. in_second (in_second (in_first (h indent)))) (always_returning room))
        (always_or (always_weaken (λ s h. λ indent. in_second (in_second (in_second (in_first (h indent))))) (always_emitting room))
        (always_weaken (λ s h. λ indent. in_second (in_second (in_second (in_second (h indent))))) (always_setting room)))))

pub always_statement : (room : ℕ) → Always (StatementAt (rule.statement room)) (rule.statement room)
always_statement zero = always_over (rule.returning zero) zero (always_returning zero)
always_statement (suc room) = always_over (rule.statement room) (suc room) (always_statement room)
