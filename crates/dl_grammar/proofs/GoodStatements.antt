-- The readers of statements and declarations read the texts of their rules.
use Rattle.std.proofs.Common.{◌≡◌, ℕ, zero, suc, Bool, true, false, List, [], ◌∷◌, ◌++◌, Option, Some, None, refl, ap, ◌∙◌}
use Rattle.std.specs.Prelude.{not, is_some}
use Rattle.std.proofs.lemmas.Bool.{not-true}
use Rattle.dl_grammar.specs.declared.lexeme.Fixed.{Fixed}
use Rattle.dl_grammar.specs.declared.lexeme.Fixed.TheVariants as f
use Rattle.dl_grammar.specs.declared.lexeme.Lexis.{Lexis}
use Rattle.dl_grammar.specs.declared.lexeme.Lexis.TheVariants as lexis
use Rattle.dl_grammar.specs.declared.lexeme.Lexeme.{Lexeme}
use Rattle.dl_grammar.specs.declared.tree.Word.{Word}
use Rattle.dl_grammar.specs.declared.tree.TreeStmt.{TreeStmt, roll-TreeStmt}
use Rattle.dl_grammar.specs.declared.tree.What.TheVariants as what
use Rattle.dl_grammar.specs.Grammar.{Ending, Rule, One, Nothing, Empty, Then, Or, Ahead, ahead, Reader, choose}
use Rattle.dl_grammar.specs.Rules as rule
use Rattle.dl_grammar.specs.Rules.{fixed, name, type_name, number, version, free, level, one_more, at_most, more_roots, Kinds}
use Rattle.dl_grammar.specs.Readers as read
use Rattle.dl_grammar.specs.Readers.{comes, starts_statement, starts_kind}
use Rattle.dl_grammar.proofs.Good.{tail, Follows, Good, any, good_pure}
use Rattle.dl_grammar.proofs.Rules.{Starts, starts_then, starts_or, good_narrow, good_then, good_choose}
use Rattle.dl_grammar.proofs.Repeats.{good_many}
use Rattle.dl_grammar.proofs.GoodLexemes.{seen, fixed_is_in, good_fixed, good_word, good_map, good_before, starts_fixed, starts_name}
use Rattle.dl_grammar.proofs.GoodExpressions.{ends_sum, good_expression}
use Rattle.dl_grammar.proofs.GoodSides.{good_name, good_side, good_condition, good_right_side, ends_right}

-- a word or symbol behind a text
word_shows : (g : Fixed) (test : Ahead → Bool) (b : Bool) → ((line : ℕ) → seen test (lexis.Fixed g) line ≡ b) → Starts (rule.word g) test b
word_shows g test b h = starts_fixed g free test b h

-- no else comes next
abbrev pub no_else : Ahead → Bool
no_else o = not (comes (fixed f.Else) o)

widens : (less : Ahead → Bool) (o : Ahead) → less o ≡ true → any o ≡ true
widens less o h = refl

-- ---- simple statements
good_assignment : (room : ℕ) (x : Word) → Good (read.assignment room x) (Then (rule.word f.Assign) (λ l. Then (rule.right_side room) (λ r. Then (rule.word f.Semicolon) (λ m. Nothing (roll-TreeStmt (record { line = x.line; what = what.Assign x r })))))) any
unfolding read.assignment
good_assignment room x = good_then (good_word f.Assign refl) (λ l. good_before (good_right_side room) (λ r. starts_then _ _ ends_right true (word_shows f.Semicolon ends_right true (λ line. refl)))
    (λ r. good_map (λ (m : ℕ). roll-TreeStmt (record { line = x.line; what = what.Assign x r })) (good_word f.Semicolon refl)))

good_store : (room : ℕ) (x : Word) → Good (read.store room x) (Then (rule.word f.Dot) (λ l. Then (One name free) (λ g. Then (rule.word f.Assign) (λ m. Then (rule.side_of room) (λ r. Then (rule.word f.Semicolon) (λ n. Nothing (roll-TreeStmt (record { line = x.line; what = what.Store x g r })))))))) any
unfolding read.store
good_store room x = good_then (good_word f.Dot refl) (λ l. good_then good_name (λ g. good_then (good_word f.Assign refl) (λ m. good_before (good_side room) (λ r. starts_then _ _ ends_sum true (word_shows f.Semicolon ends_sum true (λ line. refl)))
    (λ r. good_map (λ (n : ℕ). roll-TreeStmt (record { line = x.line; what = what.Store x g r })) (good_word f.Semicolon refl)))))

good_setting : (room : ℕ) → Good (read.setting room) (rule.setting room) any
unfolding read.setting
good_setting room = good_then good_name (λ x. good_choose (comes (fixed f.Assign)) (good_assignment room x) (good_store room x)
    (starts_then _ _ (comes (fixed f.Assign)) true (word_shows f.Assign (comes (fixed f.Assign)) true (λ line. refl)))
    (λ g ws rest is h. starts_then _ _ (comes (fixed f.Assign)) false (word_shows f.Dot (comes (fixed f.Assign)) false (λ line. refl)) g ws rest is))

good_returning : (room : ℕ) → Good (read.returning room) (rule.returning room) any
unfolding read.returning
good_returning room = good_then (good_word f.Return refl) (λ l. good_before (good_expression room) (λ x. starts_then _ _ ends_sum true (word_shows f.Semicolon ends_sum true (λ line. refl)))
    (λ x. good_map (λ (m : ℕ). roll-TreeStmt (record { line = l; what = what.Return x })) (good_word f.Semicolon refl)))

good_emitting : (room : ℕ) → Good (read.emitting room) (rule.emitting room) any
unfolding read.emitting
good_emitting room = good_then (good_word f.Emit refl) (λ l. good_before (good_expression room) (λ x. starts_then _ _ ends_sum true (word_shows f.Semicolon ends_sum true (λ line. refl)))
    (λ x. good_map (λ (m : ℕ). roll-TreeStmt (record { line = l; what = what.Emit x })) (good_word f.Semicolon refl)))

-- ---- statements, over good readers of statements
abbrev pub StatementStarts : Rule TreeStmt → Type 0
StatementStarts S = Starts S starts_statement true

-- where a brace closes a block no statement begins, and no else block
abbrev pub closes : Ahead → Bool
closes o = comes (fixed f.RBrace) o

pub brace_shows : (test : Ahead → Bool) (b : Bool) → ((line : ℕ) → seen test (lexis.Fixed f.RBrace) line ≡ b) → (o : Ahead) → closes o ≡ true → test o ≡ b
brace_shows test b h None is = absurd (cc)
brace_shows test b h (Some t) is = shows t.lexis t.line (rule.fixed_in f.RBrace t.lexis t.line) refl is
  where
    shows : (x : Lexis) (line : ℕ) (o : Option ℕ) → rule.fixed_in f.RBrace x line ≡ o → is_some o ≡ true → seen test x line ≡ b
    shows x line (Some l) eq k = ap (λ y. seen test y line) (fixed_is_in f.RBrace x line l eq) ∙ h line
    shows x line None eq k = absurd (cc)

-- where a statement begins there is no else
else_apart_in : (x : Lexis) (line : ℕ) → seen starts_statement x line ≡ true → seen no_else x line ≡ true
else_apart_in (lexis.Fixed f.Else) line h = absurd (cc)
else_apart_in (lexis.Fixed g) line h = refl
else_apart_in lexis.One line h = refl
else_apart_in lexis.Two line h = refl
else_apart_in (lexis.Number n) line h = refl
else_apart_in (lexis.Name text) line h = refl

else_apart : (o : Ahead) → starts_statement o ≡ true → no_else o ≡ true
else_apart None h = refl
else_apart (Some t) h = else_apart_in t.lexis t.line h

module _ {reader : Reader TreeStmt} {S : Rule TreeStmt} (good : Good reader S no_else) (starts : StatementStarts S) where
  pub good_statements : Good (read.statements reader) (rule.statements S) closes
  unfolding read.statements read.statements_from
  good_statements =
      good_many starts_statement (λ (before : List TreeStmt). good_map (λ (s : TreeStmt). before ++ s ∷ []) good) (λ before. starts_then _ _ starts_statement true starts) refl closes
      (brace_shows starts_statement false (λ line. refl)) (brace_shows no_else true (λ line. refl)) else_apart []

  pub good_block : (room : ℕ) → Good (read.block room reader) (rule.block room S) any
  unfolding read.block
  good_block room = good_then (good_fixed f.LBrace (level room) refl) (λ l. good_before good_statements (λ body. starts_then _ _ closes true (word_shows f.RBrace closes true (λ line. refl)))
      (λ body. good_map (λ (m : ℕ). body) (good_word f.RBrace refl)))

  good_loop : (room : ℕ) → Good (read.repetition room reader) (rule.loop room S) any
  unfolding read.repetition
  good_loop room = good_then (good_word f.While refl) (λ l. good_then (good_word f.LParen refl) (λ m. good_before (good_condition room) (λ c. starts_then _ _ ends_sum true (word_shows f.RParen ends_sum true (λ line. refl)))
      (λ c. good_then (good_word f.RParen refl) (λ n. good_map (λ body. roll-TreeStmt (record { line = l; what = what.While c body })) (good_block room)))))

  no_block : (e : Ending (List TreeStmt)) (ws rest : List Lexeme) → Nothing [] e ws → Follows no_else e rest → comes (fixed f.Else) (ahead (ws ++ tail e rest)) ≡ false
  no_block _ _ rest (Empty) h = not-true (comes (fixed f.Else) (ahead rest)) h

  good_otherwise : (room : ℕ) → Good (read.otherwise room reader) (rule.otherwise room S) no_else
  unfolding read.otherwise
  good_otherwise room =
      good_choose (comes (fixed f.Else)) (good_narrow (good_then (good_word f.Else refl) (λ l. good_block room)) no_else (widens no_else)) (good_narrow (good_pure []) no_else (widens no_else))
      (starts_then _ _ (comes (fixed f.Else)) true (word_shows f.Else (comes (fixed f.Else)) true (λ line. refl))) no_block

  good_branching : (room : ℕ) → Good (read.branch room reader) (rule.branch room S) no_else
  unfolding read.branch
  good_branching room = good_then (good_word f.If refl) (λ l. good_then (good_word f.LParen refl) (λ m. good_before (good_condition room) (λ c. starts_then _ _ ends_sum true (word_shows f.RParen ends_sum true (λ line. refl)))
      (λ c. good_then (good_word f.RParen refl) (λ n. good_then (good_block room) (λ yes. good_map (λ no_part. roll-TreeStmt (record { line = l; what = what.If c yes no_part })) (good_otherwise room))))))

  setting_shows : (room : ℕ) (test : Ahead → Bool) (b : Bool) → ((text : List ℕ) (line : ℕ) → seen test (lexis.Name text) line ≡ b) → Starts (rule.setting room) test b
  setting_shows room test b h = starts_then _ _ test b (starts_name free test b h)

  returning_shows : (room : ℕ) (test : Ahead → Bool) (b : Bool) → ((line : ℕ) → seen test (lexis.Fixed f.Return) line ≡ b) → Starts (rule.returning room) test b
  returning_shows room test b h = starts_then _ _ test b (word_shows f.Return test b h)

  emitting_shows : (room : ℕ) (test : Ahead → Bool) (b : Bool) → ((line : ℕ) → seen test (lexis.Fixed f.Emit) line ≡ b) → Starts (rule.emitting room) test b
  emitting_shows room test b h = starts_then _ _ test b (word_shows f.Emit test b h)

  -- a statement that is no block
  simple_shows : (room : ℕ) (test : Ahead → Bool) (b : Bool) → ((line : ℕ) → seen test (lexis.Fixed f.Emit) line ≡ b) → ((text : List ℕ) (line : ℕ) → seen test (lexis.Name text) line ≡ b)
      → Starts (Or (rule.emitting room) (rule.setting room)) test b
  simple_shows room test b h k = starts_or (rule.emitting room) (rule.setting room) test b (emitting_shows room test b h) (setting_shows room test b k)

  loop_shows : (room : ℕ) (test : Ahead → Bool) (b : Bool) → ((line : ℕ) → seen test (lexis.Fixed f.While) line ≡ b) → Starts (rule.loop room S) test b
  loop_shows room test b h = starts_then _ _ test b (word_shows f.While test b h)

  good_simple : (room : ℕ) → Good (choose (comes (fixed f.Emit)) (read.emitting room) (read.setting room)) (Or (rule.emitting room) (rule.setting room)) no_else
  good_simple room =
      good_choose (comes (fixed f.Emit)) (good_narrow (good_emitting room) no_else (widens no_else)) (good_narrow (good_setting room) no_else (widens no_else))
      (emitting_shows room (comes (fixed f.Emit)) true (λ line. refl))
      (λ g ws rest is h. setting_shows room (comes (fixed f.Emit)) false (λ text line. refl) g ws rest is)

  pub good_statement_over : (room : ℕ) → Good (read.statement_over room reader) (rule.statement_over room S) no_else
  unfolding read.statement_over
  good_statement_over room =
      good_choose (comes (fixed f.If)) (good_branching room)
      (good_choose (comes (fixed f.While)) (good_narrow (good_loop room) no_else (widens no_else))
      (good_choose (comes (fixed f.Return)) (good_narrow (good_returning room) no_else (widens no_else)) (good_simple room)
      (returning_shows room (comes (fixed f.Return)) true (λ line. refl))
      (λ g ws rest is h. simple_shows room (comes (fixed f.Return)) false (λ line. refl) (λ text line. refl) g ws rest is))
      (loop_shows room (comes (fixed f.While)) true (λ line. refl))
      (λ g ws rest is h. starts_or (rule.returning room) (Or (rule.emitting room) (rule.setting room)) (comes (fixed f.While)) false (returning_shows room (comes (fixed f.While)) false (λ line. refl)) (simple_shows room (comes (fixed f.While)) false (λ line. refl) (λ text line. refl)) g ws rest is))
      (starts_then _ _ (comes (fixed f.If)) true (word_shows f.If (comes (fixed f.If)) true (λ line. refl)))
      (λ g ws rest is h. starts_or (rule.loop room S) (Or (rule.returning room) (Or (rule.emitting room) (rule.setting room))) (comes (fixed f.If)) false (loop_shows room (comes (fixed f.If)) false (λ line. refl))
      (starts_or (rule.returning room) (Or (rule.emitting room) (rule.setting room)) (comes (fixed f.If)) false (returning_shows room (comes (fixed f.If)) false (λ line. refl)) (simple_shows room (comes (fixed f.If)) false (λ line. refl) (λ text line. refl))) g ws rest is)

over_shows : (room : ℕ) (S : Rule TreeStmt) → StatementStarts (rule.statement_over room S)
over_shows room S =
    starts_or (rule.branch room S) (Or (rule.loop room S) (Or (rule.returning room) (Or (rule.emitting room) (rule.setting room)))) starts_statement true (starts_then _ _ starts_statement true (word_shows f.If starts_statement true (λ line. refl)))
    (starts_or (rule.loop room S) (Or (rule.returning room) (Or (rule.emitting room) (rule.setting room))) starts_statement true (starts_then _ _ starts_statement true (word_shows f.While starts_statement true (λ line. refl)))
    (starts_or (rule.returning room) (Or (rule.emitting room) (rule.setting room)) starts_statement true (starts_then _ _ starts_statement true (word_shows f.Return starts_statement true (λ line. refl)))
    (starts_or (rule.emitting room) (rule.setting room) starts_statement true (starts_then _ _ starts_statement true (word_shows f.Emit starts_statement true (λ line. refl))) (starts_then _ _ starts_statement true (starts_name free starts_statement true (λ text line. refl))))))

pub statement_shows : (room : ℕ) → StatementStarts (rule.statement room)
statement_shows zero = over_shows zero (rule.returning zero)
statement_shows (suc room) = over_shows (suc room) (rule.statement room)

pub good_statement : (room : ℕ) → Good (read.statement room) (rule.statement room) no_else
good_statement zero = good_statement_over (good_narrow (good_returning zero) no_else (widens no_else)) (starts_then _ _ starts_statement true (word_shows f.Return starts_statement true (λ line. refl))) zero
good_statement (suc room) = good_statement_over (good_statement room) (statement_shows room) (suc room)
