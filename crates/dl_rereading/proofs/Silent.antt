-- A module that is spelled by lexemes of a text of version 1 emits nothing.
use Rattle.std.proofs.Common.{◌≡◌, ℕ, zero, suc, Bool, false, List, [], ◌∷◌, map, refl, sym, ap, ◌∙◌, subst}
use Rattle.std.specs.Prelude.{◌||◌}
use Rattle.std.specs.List.{AllByRecursion}
use Rattle.dl_grammar.specs.declared.lexeme.Fixed.TheVariants as f
use Rattle.dl_grammar.specs.declared.declarations.Declared.{Declared}
use Rattle.dl_grammar.specs.declared.tree.Tree.{Tree}
use Rattle.dl_grammar.specs.declared.tree.Word.{Word as Words}
use Rattle.dl_grammar.specs.declared.tree.TreeField.{TreeField}
use Rattle.dl_grammar.specs.declared.tree.TreeOp.{TreeOp}
use Rattle.dl_grammar.specs.declared.tree.TreeStmt.{TreeStmt, TreeStmt-F}
use Rattle.dl_grammar.specs.declared.tree.What.{What, What-F, roll-What, map-What}
use Rattle.dl_grammar.specs.declared.tree.What.TheVariants as what
use Rattle.dl_grammar.specs.declared.tree.What.TheFolds.{fold-What, fold-roll-TreeStmt, fold-roll-What}
use Rattle.dl_grammar.specs.declared.tree.Rhs.{Rhs}
use Rattle.dl_grammar.specs.declared.tree.Side.{Side}
use Rattle.dl_grammar.specs.declared.tree.TreeCond.{TreeCond}
use Rattle.dl_grammar.specs.declared.tree.TreeExpr.{TreeExpr}
use Rattle.dl_grammar.specs.Grammar.{Read, Rule}
use Rattle.dl_grammar.specs.Rules as rule
use Rattle.dl_grammar.specs.Texts.{lexemes_of, version_of}
use Rattle.dl_grammar.proofs.Versions.{read_version}
use Rattle.dl_rereading.specs.Silence.{some_emits, emits_step, emits, IsSilent, FirstVersionEmitsNothing}
use Rattle.dl_rereading.proofs.From.{From, all_append, from_nothing, from_then, from_behind, from_or, from_many}
use Rattle.dl_rereading.proofs.Equations.{at_line}
use Rattle.dl_rereading.proofs.Tokens.{LexemeSo, from_reserved}
use Rattle.dl_rereading.proofs.Lexemes.{tokens_so}

-- ---- statements

abbrev inner : TreeStmt-F Bool Bool → Bool
inner s = s.what

emits_by : (l : ℕ) (w : What-F What TreeStmt) (v : What) → roll-What w ≡ v → emits (at_line l v) ≡ emits_step (map-What What TreeStmt Bool Bool (fold-What Bool Bool emits_step inner) emits w)
emits_by l w v is = fold-roll-TreeStmt Bool Bool emits_step inner (record { line = l; what = v })
    ∙ ap (fold-What Bool Bool emits_step inner) (sym is) ∙ fold-roll-What Bool Bool emits_step inner w

abbrev Silent : TreeStmt → Type 0
Silent s = emits s ≡ false

abbrev BlockSilent : List TreeStmt → Type 0
BlockSilent body = AllByRecursion Silent body

none_emits : (body : List TreeStmt) → BlockSilent body → some_emits (map emits body) ≡ false
none_emits [] h = refl
none_emits (s ∷ body) h = ap (λ b. b || some_emits (map emits body)) h.0 ∙ none_emits body h.1

silent_assign : (l : ℕ) (x : Words) (r : Rhs) → Silent (at_line l (what.Assign x r))
silent_assign l x r = emits_by l (What-F.Assign x r) (what.Assign x r) (what.rolls-Assign x r)

silent_store : (l : ℕ) (p g : Words) (r : Side) → Silent (at_line l (what.Store p g r))
silent_store l p g r = emits_by l (What-F.Store p g r) (what.Store p g r) (what.rolls-Store p g r)

silent_return : (l : ℕ) (x : TreeExpr) → Silent (at_line l (what.Return x))
silent_return l x = emits_by l (What-F.Return x) (what.Return x) (what.rolls-Return x)

silent_if : (l : ℕ) (c : TreeCond) (yes_block no_block : List TreeStmt) → BlockSilent yes_block → BlockSilent no_block → Silent (at_line l (what.If c yes_block no_block))
silent_if l c yes_block no_block h k =
    emits_by l (What-F.If c yes_block no_block) (what.If c yes_block no_block) (what.rolls-If c yes_block no_block)
    ∙ ap (λ b. b || some_emits (map emits no_block)) (none_emits yes_block h) ∙ none_emits no_block k

silent_while : (l : ℕ) (c : TreeCond) (body : List TreeStmt) → BlockSilent body → Silent (at_line l (what.While c body))
silent_while l c body h = emits_by l (What-F.While c body) (what.While c body) (what.rolls-While c body) ∙ none_emits body h

from_setting : (room : ℕ) → From (LexemeSo 1) Silent (rule.setting room)
from_setting room = from_behind (λ x. from_or
    (from_behind (λ l. from_behind (λ r. from_behind (λ m. from_nothing (silent_assign x.line x r)))))
    (from_behind (λ l. from_behind (λ g. from_behind (λ m. from_behind (λ r. from_behind (λ n. from_nothing (silent_store x.line x g r))))))))

from_returning : (room : ℕ) → From (LexemeSo 1) Silent (rule.returning room)
from_returning room = from_behind (λ l. from_behind (λ x. from_behind (λ m. from_nothing (silent_return l x))))

-- no lexeme of version 1 is the reserved word emit
from_emitting : (room : ℕ) → From (LexemeSo 1) Silent (rule.emitting room)
from_emitting room = from_then (from_reserved 1 f.Emit) (λ l two. absurd (cc))

module _ (one : Rule TreeStmt) (all : From (LexemeSo 1) Silent one) where
  from_statements : From (LexemeSo 1) BlockSilent (rule.statements one)
  from_statements = from_many (λ before h. from_then all (λ s k. from_nothing (all_append Silent before (s ∷ []) h (k, tt)))) [] tt

  module _ (room : ℕ) where
    from_block : From (LexemeSo 1) BlockSilent (rule.block room one)
    from_block = from_behind (λ l. from_then from_statements (λ body h. from_behind (λ m. from_nothing h)))

    from_otherwise : From (LexemeSo 1) BlockSilent (rule.otherwise room one)
    from_otherwise = from_or (from_behind (λ l. from_block)) (from_nothing tt)

    from_over : From (LexemeSo 1) Silent (rule.statement_over room one)
    from_over =
        from_or (from_behind (λ l. from_behind (λ m. from_behind (λ c. from_behind (λ n. from_then from_block (λ yes_block j. from_then from_otherwise (λ no_block k.
        from_nothing (silent_if l c yes_block no_block j k))))))))
        (from_or (from_behind (λ l. from_behind (λ m. from_behind (λ c. from_behind (λ n. from_then from_block (λ body j. from_nothing (silent_while l c body j)))))))
        (from_or (from_returning room) (from_or (from_emitting room) (from_setting room))))

from_statement : (room : ℕ) → From (LexemeSo 1) Silent (rule.statement room)
from_statement zero = from_over (rule.returning zero) (from_returning zero) zero
from_statement (suc room) = from_over (rule.statement room) (from_statement room) (suc room)

-- ---- modules

from_body : (w : Words) (params : List TreeField) (allocs fuel : ℕ) → From (LexemeSo 1) IsSilent (rule.body w params allocs fuel)
from_body w params allocs fuel = from_behind (λ l. from_behind (λ vars. from_then (from_statements (rule.statement 32) (from_statement 32)) (λ body all. from_behind (λ m. from_nothing all))))

from_op : (before : List TreeOp) → AllByRecursion IsSilent before → From (LexemeSo 1) (AllByRecursion IsSilent) (rule.op_behind before)
from_op before all =
    from_behind (λ l. from_behind (λ w. from_behind (λ m. from_behind (λ params. from_behind (λ n. from_behind (λ q. from_then (from_body w params q.0 q.1) (λ o h.
    from_nothing (all_append IsSilent before (o ∷ []) all (h, tt)))))))))

from_module : From (LexemeSo 1) (λ (d : Declared). AllByRecursion IsSilent d.ops) rule.module_text
from_module = from_behind (λ l. from_behind (λ v. from_behind (λ ks. from_then (from_many from_op [] tt) (λ os ops. from_nothing ops))))

pub first_version_emits_nothing : FirstVersionEmitsNothing
first_version_emits_nothing bytes tree h one =
    let first : version_of bytes h.0 ≡ 1 = sym (read_version (version_of bytes h.0) bytes h.0 h.1 h.3) ∙ sym (ap (λ (t : Tree). t.version) h.4) ∙ one in
    let so = subst (λ n. AllByRecursion (LexemeSo n) (lexemes_of bytes h.0)) first (tokens_so (version_of bytes h.0) bytes h.0 h.2) in
    subst (λ (t : Tree). AllByRecursion IsSilent t.ops) (sym h.4) (from_module.kept (Read h.1) (lexemes_of bytes h.0) h.3 so)
