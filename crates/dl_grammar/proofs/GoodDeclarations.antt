-- The readers of declarations and modules read the texts of their rules.
use Rattle.std.proofs.Common.{◌≡◌, ℕ, ◌+◌, Bool, true, false, List, [], ◌∷◌, ◌++◌, length, Option, Some, None, refl, ap, ◌∙◌, append_assoc}
use Rattle.std.specs.Prelude.{not}
use Rattle.std.proofs.lemmas.Bool.{not-true}
use Rattle.dl_grammar.specs.declared.lexeme.Fixed.{Fixed}
use Rattle.dl_grammar.specs.declared.lexeme.Fixed.TheVariants as f
use Rattle.dl_grammar.specs.declared.lexeme.Lexis.{Lexis}
use Rattle.dl_grammar.specs.declared.lexeme.Lexis.TheVariants as lexis
use Rattle.dl_grammar.specs.declared.lexeme.Lexeme.{Lexeme}
use Rattle.dl_grammar.specs.declared.fault.Bound.{Bound}
use Rattle.dl_grammar.specs.declared.fault.Bound.TheVariants.{Limit}
use Rattle.dl_grammar.specs.declared.fault.Which.TheVariants as which
use Rattle.dl_grammar.specs.declared.tree.Word.{Word}
use Rattle.dl_grammar.specs.declared.tree.TreeField.{TreeField}
use Rattle.dl_grammar.specs.declared.tree.TreeOp.{TreeOp}
use Rattle.dl_grammar.specs.declared.tree.TreeStmt.{TreeStmt}
use Rattle.dl_grammar.specs.Grammar.{Ending, Read, Passed, Rule, One, Nothing, Empty, Then, Both, Cut, Many, Ahead, ahead, ◌>>=◌, pure, one}
use Rattle.dl_grammar.specs.Rules as rule
use Rattle.dl_grammar.specs.Rules.{fixed, name, type_name, number, version, free, level, one_more, at_most, more_roots, Kinds}
use Rattle.dl_grammar.specs.declared.declarations.Declared.{Declared}
use Rattle.dl_grammar.specs.Readers as read
use Rattle.dl_grammar.specs.Readers.{comes, starts_statement, starts_kind}
use Rattle.dl_grammar.proofs.Good.{tail, Follows, Good, any, good_pure, good_one}
use Rattle.dl_grammar.proofs.Rules.{Starts, starts_then, starts_or, good_narrow, good_then, good_follow, good_choose}
use Rattle.dl_grammar.proofs.Repeats.{good_many}
use Rattle.dl_grammar.proofs.GoodLexemes.{sample, seen, good_word, good_map, good_before, starts_fixed, starts_name}
use Rattle.dl_grammar.proofs.GoodSides.{many_shows}
use Rattle.dl_grammar.proofs.GoodStatements.{good_statement, statement_shows, good_statements, closes, brace_shows}

abbrev some_word : Word
some_word = record { text = []; line = 1 }

word_shows : (g : Fixed) (test : Ahead → Bool) (b : Bool) → ((line : ℕ) → seen test (lexis.Fixed g) line ≡ b) → Starts (rule.word g) test b
word_shows g test b h = starts_fixed g free test b h

widens : (less : Ahead → Bool) (o : Ahead) → less o ≡ true → any o ≡ true
widens less o h = refl

good_limited : (limit : Word → Option Bound) → Good (one name limit) (One name limit) any
good_limited limit = good_one name limit (sample (lexis.Name [])) some_word refl

good_number : (limit : ℕ → Option Bound) → Good (one number limit) (One number limit) any
good_number limit = good_one number limit (sample lexis.One) 1 refl

-- ---- fields
pub good_field : (most : ℕ) (bound : Bound) (stand : ℕ) → Good (read.field most bound stand) (rule.field most bound stand) any
unfolding read.field
good_field most bound stand = good_then (good_limited (one_more most stand bound)) (λ w. good_then (good_word f.Colon refl) (λ l. good_map (λ t. let x : TreeField = record { name = w; ty = t } in x) (good_one type_name free (sample (lexis.Name [])) some_word refl)))

-- no comma comes next
abbrev pub no_comma : Ahead → Bool
no_comma o = not (comes (fixed f.Comma) o)

abbrev pub CommaField : ℕ → Bound → ℕ → List TreeField → Rule (List TreeField)
CommaField most bound stand before = Then (rule.word f.Comma) (λ l. Then (rule.field most bound (stand + length before)) (λ x. Nothing (before ++ x ∷ [])))

pub good_comma_field : (most : ℕ) (bound : Bound) (stand : ℕ) (b : List TreeField) → Good (read.word f.Comma >>= λ l. read.field most bound (stand + length b) >>= λ x. pure (b ++ x ∷ [])) (CommaField most bound stand b) any
good_comma_field most bound stand b = good_then (good_word f.Comma refl) (λ l. good_map (λ (x : TreeField). b ++ x ∷ []) (good_field most bound (stand + length b)))

pub comma_field_shows : (most : ℕ) (bound : Bound) (stand : ℕ) (b : List TreeField) → Starts (CommaField most bound stand b) (comes (fixed f.Comma)) true
comma_field_shows most bound stand b = starts_then _ _ (comes (fixed f.Comma)) true (word_shows f.Comma (comes (fixed f.Comma)) true (λ line. refl))

pub good_fields_more : (most : ℕ) (bound : Bound) (stand : ℕ) (before : List TreeField) → Good (read.fields_more most bound stand before) (Many (CommaField most bound stand) before) no_comma
unfolding read.fields_more
good_fields_more most bound stand before =
    good_many (comes (fixed f.Comma)) (good_comma_field most bound stand) (comma_field_shows most bound stand) refl no_comma (λ o h. not-true (comes (fixed f.Comma) o) h) (widens no_comma) (widens (comes (fixed f.Comma))) before

good_fields_behind : (most : ℕ) (bound : Bound) (stand : ℕ) → Good (read.fields_behind most bound stand) (rule.fields_behind most bound stand) no_comma
unfolding read.fields_behind
good_fields_behind most bound stand = good_then (good_field most bound stand) (λ first. good_fields_more most bound stand (first ∷ []))

fields_behind_shows : (most : ℕ) (bound : Bound) (stand : ℕ) (test : Ahead → Bool) (b : Bool) → ((text : List ℕ) (line : ℕ) → seen test (lexis.Name text) line ≡ b) → Starts (rule.fields_behind most bound stand) test b
fields_behind_shows most bound stand test b h = starts_then _ _ test b (starts_then _ _ test b (starts_name (one_more most stand bound) test b h))

nothing_shows : {A : Type 0} (a : A) (end test : Ahead → Bool) (b : Bool) → ((o : Ahead) → end o ≡ true → test o ≡ b) → (e : Ending A) (ws rest : List Lexeme) → Nothing a e ws → Follows end e rest → test (ahead (ws ++ tail e rest)) ≡ b
nothing_shows a end test b h _ _ rest (Empty) is = h (ahead rest) is

comma_brace : (o : Ahead) → closes o ≡ true → no_comma o ≡ true
comma_brace o h = brace_shows no_comma true (λ line. refl) o h

good_fields : Good read.fields rule.fields any
unfolding read.fields
good_fields =
    good_then (good_word f.LBrace refl) (λ l. good_before
    (good_choose (comes name) (good_narrow (good_fields_behind 16 (Limit which.Fields) 0) closes comma_brace) (good_narrow (good_pure []) closes (widens closes))
    (fields_behind_shows 16 (Limit which.Fields) 0 (comes name) true (λ text line. refl)) (nothing_shows [] closes (comes name) false (brace_shows (comes name) false (λ line. refl))))
    (λ all. starts_then _ _ closes true (word_shows f.RBrace closes true (λ line. refl)))
    (λ all. good_map (λ (m : ℕ). all) (good_word f.RBrace refl)))

-- ---- kinds
good_root_kind : (before : Kinds) → Good (read.root_kind before) (rule.root_kind before) any
unfolding read.root_kind
good_root_kind before = good_then (good_word f.Root refl) (λ l. good_then (good_limited (one_more 16 (length before.0) (Limit which.Kinds))) (λ w. good_then (good_number (more_roots before.1)) (λ n.
    good_map (λ (all : List TreeField). let k : Kinds = (before.0 ++ record { name = w; is_root = true; count = n; fields = all } ∷ [], before.1 + n) in k) good_fields)))

good_node_kind : (before : Kinds) → Good (read.node_kind before) (rule.node_kind before) any
unfolding read.node_kind
good_node_kind before = good_then (good_word f.Node refl) (λ l. good_then (good_limited (one_more 16 (length before.0) (Limit which.Kinds))) (λ w.
    good_map (λ (all : List TreeField). let k : Kinds = (before.0 ++ record { name = w; is_root = false; count = 0; fields = all } ∷ [], before.1) in k) good_fields))

pub good_kind : (before : Kinds) → Good (read.kind before) (rule.kind before) any
unfolding read.kind
good_kind before = good_choose (comes (fixed f.Root)) (good_root_kind before) (good_node_kind before)
    (starts_then _ _ (comes (fixed f.Root)) true (word_shows f.Root (comes (fixed f.Root)) true (λ line. refl)))
    (λ g ws rest is h. starts_then _ _ (comes (fixed f.Root)) false (word_shows f.Node (comes (fixed f.Root)) false (λ line. refl)) g ws rest is)

pub kind_shows : (before : Kinds) → Starts (rule.kind before) starts_kind true
kind_shows before = starts_or (rule.root_kind before) (rule.node_kind before) starts_kind true (starts_then _ _ starts_kind true (word_shows f.Root starts_kind true (λ line. refl))) (starts_then _ _ starts_kind true (word_shows f.Node starts_kind true (λ line. refl)))

good_kinds : Good read.kinds (Many rule.kind ([], 0)) (λ o. not (starts_kind o))
unfolding read.kinds read.kinds_from
good_kinds = good_many starts_kind good_kind kind_shows refl (λ o. not (starts_kind o)) (λ o h. not-true (starts_kind o) h) (λ o h. refl) (λ o h. refl) ([], 0)

-- ---- operations
abbrev no_var : Ahead → Bool
no_var o = not (comes (fixed f.Var) o)

good_vars : (params : ℕ) → Good (read.vars params) (rule.vars params) no_var
unfolding read.vars
good_vars params =
    good_choose (comes (fixed f.Var)) (good_narrow (good_then (good_word f.Var refl) (λ l. good_before (good_fields_behind 32 (Limit which.Locals) params) (λ all. starts_then _ _ no_comma true (word_shows f.Semicolon no_comma true (λ line. refl)))
    (λ all. good_map (λ (m : ℕ). all) (good_word f.Semicolon refl)))) no_var (widens no_var)) (good_narrow (good_pure []) no_var (widens no_var))
    (starts_then _ _ (comes (fixed f.Var)) true (word_shows f.Var (comes (fixed f.Var)) true (λ line. refl))) (nothing_shows [] no_var (comes (fixed f.Var)) false (λ o h. not-true (comes (fixed f.Var) o) h))

-- where a statement begins, or a block ends, there is no var
var_apart_in : (x : Lexis) (line : ℕ) → seen starts_statement x line ≡ true → seen no_var x line ≡ true
var_apart_in (lexis.Fixed f.Var) line h = absurd (cc)
var_apart_in (lexis.Fixed g) line h = refl
var_apart_in lexis.One line h = refl
var_apart_in lexis.Two line h = refl
var_apart_in (lexis.Number n) line h = refl
var_apart_in (lexis.Name text) line h = refl

var_apart : (o : Ahead) → starts_statement o ≡ true → no_var o ≡ true
var_apart None h = refl
var_apart (Some t) h = var_apart_in t.lexis t.line h

statement_var : (before : List TreeStmt) → Starts (Then (rule.statement 32) (λ s. Nothing (before ++ s ∷ []))) no_var true
statement_var before e ws rest is = var_apart (ahead (ws ++ tail e rest)) (starts_then (rule.statement 32) _ starts_statement true (statement_shows 32) e ws rest is)

body_follows : (w : Word) (params locals : List TreeField) (allocs fuel : ℕ) (e : Ending TreeOp) (ws rest : List Lexeme)
    → Then (rule.statements (rule.statement 32)) (λ stmts. Then (rule.word f.RBrace) (λ m. Nothing (record { name = w; params = params; vars = locals; allocs = allocs; fuel = fuel; body = stmts }))) e ws → no_var (ahead (ws ++ tail e rest)) ≡ true
body_follows w params locals allocs fuel e _ rest (Both {xs = xs} {ys = ys} stmts is next) =
    ap (λ ts. no_var (ahead ts)) (append_assoc xs ys (tail e rest))
    ∙ many_shows (λ before. Then (rule.statement 32) (λ s. Nothing (before ++ s ∷ []))) no_var true statement_var closes (brace_shows no_var true (λ line. refl)) [] (Read stmts) xs (ys ++ tail e rest) is
    (starts_then (rule.word f.RBrace) _ closes true (word_shows f.RBrace closes true (λ line. refl)) e ys rest next)
body_follows w params locals allocs fuel _ ws rest (Cut {b = b} {t = t} is) =
    many_shows (λ before. Then (rule.statement 32) (λ s. Nothing (before ++ s ∷ []))) no_var true statement_var closes (brace_shows no_var true (λ line. refl)) [] (Passed b t) ws rest is tt

good_body : (w : Word) (params : List TreeField) (allocs fuel : ℕ) → Good (read.body w params allocs fuel) (rule.body w params allocs fuel) any
unfolding read.body
good_body w params allocs fuel = good_then (good_word f.LBrace refl) (λ l. good_follow (good_vars (length params))
    (λ locals. good_before (good_statements (good_statement 32) (statement_shows 32)) (λ stmts. starts_then _ _ closes true (word_shows f.RBrace closes true (λ line. refl)))
    (λ stmts. good_map (λ (m : ℕ). let o : TreeOp = record { name = w; params = params; vars = locals; allocs = allocs; fuel = fuel; body = stmts } in o) (good_word f.RBrace refl)))
    (λ locals e ws rest is h. body_follows w params locals allocs fuel e ws rest is))

good_quotas : Good read.quotas rule.quotas any
unfolding read.quotas
good_quotas = good_then (good_word f.Allocs refl) (λ l. good_then (good_number (at_most 64 (Limit which.Allocs))) (λ a. good_then (good_word f.Fuel refl) (λ m. good_map (λ (n : ℕ). let q : ℕ × ℕ = (a, n) in q) (good_number (at_most 1000000 (Limit which.Fuel))))))

pub good_op : (before : List TreeOp) → Good (read.op_behind before) (rule.op_behind before) any
unfolding read.op_behind
good_op before = good_then (good_word f.Op refl) (λ l. good_then (good_limited (one_more 64 (length before) (Limit which.Ops))) (λ w. good_then (good_word f.LParen refl) (λ m.
    good_before (good_fields_behind 32 (Limit which.Locals) 0) (λ params. starts_then _ _ no_comma true (word_shows f.RParen no_comma true (λ line. refl)))
    (λ params. good_then (good_word f.RParen refl) (λ n. good_then good_quotas (λ q. good_map (λ (o : TreeOp). before ++ o ∷ []) (good_body w params q.0 q.1)))))))

pub op_shows : (test : Ahead → Bool) (b : Bool) → ((line : ℕ) → seen test (lexis.Fixed f.Op) line ≡ b) → (before : List TreeOp) → Starts (rule.op_behind before) test b
op_shows test b h before = starts_then _ _ test b (word_shows f.Op test b h)

-- nothing comes next
abbrev pub at_end : Ahead → Bool
at_end None = true
at_end (Some t) = false

end_op : (o : Ahead) → at_end o ≡ true → comes (fixed f.Op) o ≡ false
end_op None h = refl
end_op (Some t) h = absurd (cc)

end_kind : (o : Ahead) → at_end o ≡ true → not (starts_kind o) ≡ true
end_kind None h = refl
end_kind (Some t) h = absurd (cc)

good_ops : Good read.ops (Many rule.op_behind []) at_end
unfolding read.ops read.ops_from
good_ops = good_many (comes (fixed f.Op)) good_op (op_shows (comes (fixed f.Op)) true (λ line. refl)) refl at_end end_op (λ o h. refl) (λ o h. refl) []

ops_follow : (v : ℕ) (ks : Kinds) (e : Ending Declared) (ws rest : List Lexeme) → Then (Many rule.op_behind []) (λ os. Nothing (record { version = v; kinds = ks.0; ops = os })) e ws → Follows at_end e rest → not (starts_kind (ahead (ws ++ tail e rest))) ≡ true
ops_follow v ks _ _ rest (Both {xs = xs} os is (Empty)) h =
    ap (λ ts. not (starts_kind (ahead ts))) (append_assoc xs [] rest)
    ∙ many_shows rule.op_behind (λ o. not (starts_kind o)) true (op_shows (λ o. not (starts_kind o)) true (λ line. refl)) at_end end_kind [] (Read os) xs rest is h
ops_follow v ks _ ws rest (Cut {b = b} {t = t} is) h = many_shows rule.op_behind (λ o. not (starts_kind o)) true (op_shows (λ o. not (starts_kind o)) true (λ line. refl)) at_end end_kind [] (Passed b t) ws rest is tt

pub good_module : Good read.module_text rule.module_text at_end
unfolding read.module_text
good_module = good_then (good_word f.Domlock refl) (λ l. good_then (good_one version free (sample lexis.One) 1 refl) (λ v.
    good_follow good_kinds (λ ks. good_map (λ (os : List TreeOp). let d : Declared = record { version = v; kinds = ks.0; ops = os } in d) good_ops) (λ ks e ws rest is h. ops_follow v ks e ws rest is h)))
