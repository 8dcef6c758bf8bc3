-- Single steps of the readers of expressions, as the code takes them.
use Rattle.std.proofs.Common.{◌≡◌, ℕ, zero, suc, ◌-◌, ◌<◌, true, false, List, [], ◌∷◌, ◌++◌, length, Ok, refl, ap, arith}
use Rattle.dl_grammar.specs.declared.lexeme.Lexeme.{Lexeme}
use Rattle.dl_grammar.specs.declared.tree.TreeStmt.{TreeStmt}
use Rattle.dl_grammar.specs.Grammar.{ahead, Reader, and_then, ◌>>=◌, pure, Then, Nothing}
use Rattle.dl_grammar.specs.Rules as rule
use Rattle.dl_grammar.specs.Rules.{adding, scaling, Counted}
use Rattle.dl_grammar.specs.Readers as read
use Rattle.dl_grammar.specs.Readers.{comes, starts_statement}
use Rattle.dl_grammar.proofs.Good.{Good}
use Rattle.dl_grammar.proofs.Rules.{Starts, starts_then}
use Rattle.dl_grammar.proofs.GoodLexemes.{good_map}
use Rattle.dl_grammar.proofs.GoodStatements.{good_statement, statement_shows, no_else}
use Rattle.dl_grammar.proofs.Repeats.{turn_stops, turn_goes, shrinks}
use Rattle.dl_grammar.proofs.GoodExpressions.{scaled, scaled_starts, added, added_starts, good_factor}

pub factor_is : (room used : ℕ) (ts : List Lexeme) → read.factor room used ts ≡ read.factor_over room (read.below room) used ts
unfolding read.below
factor_is zero used ts = refl
factor_is (suc room) used ts = refl

below_at : (room less : ℕ) → room ≡ suc less → read.below room ≡ read.factor less
unfolding read.below
below_at room less h = ap read.below h

below_function : (room : ℕ) → 0 < room → read.below room ≡ read.factor (room - 1)
below_function room h = below_at room (room - 1) (omega arith)

pub below_is : (room used : ℕ) (ts : List Lexeme) → 0 < room → read.below room used ts ≡ read.factor (room - 1) used ts
below_is room used ts h = ap (λ (p : ℕ → Reader Counted). p used ts) (below_function room h)

pub sum_below : (room used : ℕ) (ts : List Lexeme) → 0 < room → read.sum (read.below room) used ts ≡ read.sum (read.factor (room - 1)) used ts
sum_below room used ts h = ap (λ (p : ℕ → Reader Counted). read.sum p used ts) (below_function room h)

pub ruleset expression_steps = (factor_is, below_is, sum_below)

-- ---- terms
pub term_stop : (room : ℕ) (x : Counted) (ts : List Lexeme) → comes scaling (ahead ts) ≡ false → read.term_behind (read.factor room) x ts ≡ Ok (x, ts)
unfolding read.term_behind
term_stop room x ts h = turn_stops (comes scaling) (scaled (good_factor room)) (scaled_starts (good_factor room)) refl x ts h

pub term_go : (room : ℕ) (x : Counted) (ts : List Lexeme) → comes scaling (ahead ts) ≡ true → read.term_behind (read.factor room) x ts ≡ and_then (read.operation scaling (read.factor room) x ts) (read.term_behind (read.factor room))
unfolding read.term_behind
term_go room x ts h = turn_goes (comes scaling) (scaled (good_factor room)) (scaled_starts (good_factor room)) refl x ts h

pub term_shrinks : (room : ℕ) (x : Counted) (ts : List Lexeme) (y : Counted) (rest : List Lexeme) → read.operation scaling (read.factor room) x ts ≡ Ok (y, rest) → length rest < length ts
term_shrinks room x ts y rest h = shrinks (comes scaling) (scaled (good_factor room)) (scaled_starts (good_factor room)) refl x ts y rest h

pub ruleset term_steps = (term_stop, term_go, term_shrinks)

-- ---- sums
pub sum_stop : (room : ℕ) (x : Counted) (ts : List Lexeme) → comes adding (ahead ts) ≡ false → read.sum_behind (read.factor room) x ts ≡ Ok (x, ts)
unfolding read.sum_behind
sum_stop room x ts h = turn_stops (comes adding) (added (good_factor room)) (added_starts (good_factor room)) refl x ts h

pub sum_go : (room : ℕ) (x : Counted) (ts : List Lexeme) → comes adding (ahead ts) ≡ true → read.sum_behind (read.factor room) x ts ≡ and_then (read.operation adding (read.term (read.factor room)) x ts) (read.sum_behind (read.factor room))
unfolding read.sum_behind
sum_go room x ts h = turn_goes (comes adding) (added (good_factor room)) (added_starts (good_factor room)) refl x ts h

pub sum_shrinks : (room : ℕ) (x : Counted) (ts : List Lexeme) (y : Counted) (rest : List Lexeme) → read.operation adding (read.term (read.factor room)) x ts ≡ Ok (y, rest) → length rest < length ts
sum_shrinks room x ts y rest h = shrinks (comes adding) (added (good_factor room)) (added_starts (good_factor room)) refl x ts y rest h

pub ruleset sum_steps = (sum_stop, sum_go, sum_shrinks)

-- ---- statements
pub statement_is : (room : ℕ) (ts : List Lexeme) → read.statement room ts ≡ read.statement_over room (read.statement_below room) ts
unfolding read.statement_below
statement_is zero ts = refl
statement_is (suc room) ts = refl

statement_below_at : (room less : ℕ) → room ≡ suc less → read.statement_below room ≡ read.statement less
unfolding read.statement_below
statement_below_at room less h = ap read.statement_below h

pub statements_below : (room : ℕ) (ts : List Lexeme) → 0 < room → read.statements (read.statement_below room) ts ≡ read.statements (read.statement (room - 1)) ts
statements_below room ts h = ap (λ (p : Reader TreeStmt). read.statements p ts) (statement_below_at room (room - 1) (omega arith))

adds_statement : (room : ℕ) (before : List TreeStmt) → Good (read.statement room >>= λ s. pure (before ++ s ∷ [])) (Then (rule.statement room) (λ s. Nothing (before ++ s ∷ []))) no_else
adds_statement room before = good_map (λ (s : TreeStmt). before ++ s ∷ []) (good_statement room)

adds_shows : (room : ℕ) (before : List TreeStmt) → Starts (Then (rule.statement room) (λ s. Nothing (before ++ s ∷ []))) starts_statement true
adds_shows room before = starts_then _ _ starts_statement true (statement_shows room)

pub statements_stop : (room : ℕ) (before : List TreeStmt) (ts : List Lexeme) → starts_statement (ahead ts) ≡ false → read.statements_from (read.statement room) before ts ≡ Ok (before, ts)
unfolding read.statements_from
statements_stop room before ts h = turn_stops starts_statement (adds_statement room) (adds_shows room) refl before ts h

pub statements_go : (room : ℕ) (before : List TreeStmt) (ts : List Lexeme) → starts_statement (ahead ts) ≡ true
    → read.statements_from (read.statement room) before ts ≡ and_then (and_then (read.statement room ts) (λ s. pure (before ++ s ∷ []))) (read.statements_from (read.statement room))
unfolding read.statements_from
statements_go room before ts h = turn_goes starts_statement (adds_statement room) (adds_shows room) refl before ts h

pub statement_shrinks : (room : ℕ) (ts : List Lexeme) (s : TreeStmt) (rest : List Lexeme) → read.statement room ts ≡ Ok (s, rest) → length rest < length ts
statement_shrinks room ts s rest h = shrinks starts_statement (adds_statement room) (adds_shows room) refl [] ts (s ∷ []) rest (ap (λ o. and_then o (λ (x : TreeStmt). pure (x ∷ []))) h)

pub ruleset statements_steps = (statements_stop, statements_go)
