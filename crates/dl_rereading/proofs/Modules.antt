-- Operations and modules that are spelled are spelled by their pieces.
use Rattle.std.proofs.Common.{◌≡◌, ℕ, List, [], ◌∷◌, ◌++◌, map, length, Some, None, ◌⊎◌, inl, inr, refl, sym, ap, ◌∙◌, subst}
use Rattle.std.specs.List.{flat_map}
use Rattle.std.proofs.lemmas.List.{length-map}
use Rattle.dl_grammar.specs.declared.lexeme.Fixed.TheVariants as f
use Rattle.dl_grammar.specs.declared.lexeme.Lexis.{Lexis}
use Rattle.dl_grammar.specs.declared.lexeme.Lexis.TheVariants as lexis
use Rattle.dl_grammar.specs.declared.fault.Bound.TheVariants.{Limit}
use Rattle.dl_grammar.specs.declared.fault.Which.TheVariants as which
use Rattle.dl_grammar.specs.declared.declarations.Declared.{Declared}
use Rattle.dl_grammar.specs.declared.tree.Word.{Word as Words}
use Rattle.dl_grammar.specs.declared.tree.Tree.{Tree}
use Rattle.dl_grammar.specs.declared.tree.TreeField.{TreeField}
use Rattle.dl_grammar.specs.declared.tree.TreeKind.{TreeKind}
use Rattle.dl_grammar.specs.declared.tree.TreeOp.{TreeOp}
use Rattle.dl_grammar.specs.declared.tree.TreeStmt.{TreeStmt}
use Rattle.dl_grammar.specs.Grammar.{Read, One}
use Rattle.dl_grammar.specs.Rules as rule
use Rattle.dl_grammar.specs.Rules.{name, number, version, version_in, free, one_more, at_most, word, Kinds}
use Rattle.dl_grammar.proofs.Always.{Always, always_one, always_nothing, always_then, always_behind, always_many}
use Rattle.dl_print.specs.Canonical.{Piece, Word, Number, Space, Feed, fields_pieces, vars_line, lines_at, statement_lines, kind_line, op_lines}
use Rattle.dl_rereading.specs.Lines.{unlined_word, unlined_field, unlined_kind, unlined_stmt, unlined_op}
use Rattle.dl_rereading.specs.Rereading.{PiecesAreAText}
use Rattle.dl_rereading.proofs.Prints.{Made, Prints, AllMay, all_may_push, prints_list, same_push, prints_grouped, prints_then, prints_last, prints_lead, prints_nothing, prints_one, prints_word, prints_name, prints_number, spaced, fed}
use Rattle.dl_rereading.proofs.Equations.{same_word}
use Rattle.dl_rereading.proofs.Statements.{SameBlock, AllStatements, always_statements, prints_statements, always_statement}
use Rattle.dl_rereading.proofs.Declarations.{SameFields, as_many, FieldsSo, always_fields_behind, prints_fields, VarsAt, always_vars, KindMay, always_kinds, prints_kinds}

-- ---- quotas

record QuotasSo (q : ℕ × ℕ) : Type 0 where
  allocs : at_most 64 (Limit which.Allocs) q.0 ≡ None
  fuel : at_most 1000000 (Limit which.Fuel) q.1 ≡ None

always_quotas : Always QuotasSo rule.quotas
always_quotas =
    always_behind (λ l. always_then (always_one (λ n. at_most 64 (Limit which.Allocs) n ≡ None) _ _ (λ t n is some. some)) (λ a few.
    always_behind (λ m. always_then (always_one (λ n. at_most 1000000 (Limit which.Fuel) n ≡ None) _ _ (λ t n is some. some)) (λ n little.
    always_nothing _ _ (record { allocs = few; fuel = little })))))

prints_quotas : (allocs fuel : ℕ) → at_most 64 (Limit which.Allocs) allocs ≡ None → at_most 1000000 (Limit which.Fuel) fuel ≡ None
    → Prints rule.quotas (Word f.Allocs ∷ Space ∷ Number allocs ∷ Space ∷ Word f.Fuel ∷ Space ∷ Number fuel ∷ []) (λ q. (q.0 ≡ allocs) × (q.1 ≡ fuel))
prints_quotas allocs fuel few little =
    prints_word f.Allocs refl (λ l. spaced (prints_lead (prints_number (at_most 64 (Limit which.Allocs)) allocs few) (λ a is_a. spaced
    (prints_word f.Fuel refl (λ m. spaced (prints_last (prints_number (at_most 1000000 (Limit which.Fuel)) fuel little) (λ n is_n. prints_nothing (is_a, is_n))))))))

-- ---- operations

abbrev op_with : Words → List TreeField → List TreeField → ℕ → ℕ → List TreeStmt → TreeOp
op_with w params vars allocs fuel body = record { name = w; params = params; vars = vars; allocs = allocs; fuel = fuel; body = body }

record BodySo (w : Words) (params : List TreeField) (allocs fuel : ℕ) (o : TreeOp) : Type 0 where
  locals : List TreeField
  stmts : List TreeStmt
  is : o ≡ op_with w params locals allocs fuel stmts
  vars : VarsAt (length params) locals
  body : AllStatements (rule.statement 32) stmts

always_body : (w : Words) (params : List TreeField) (allocs fuel : ℕ) → Always (BodySo w params allocs fuel) (rule.body w params allocs fuel)
always_body w params allocs fuel =
    always_behind (λ l. always_then (always_vars (length params)) (λ locals vars. always_then (always_statements (rule.statement 32) (always_statement 32)) (λ stmts all.
    always_behind (λ m. always_nothing _ _ (record { locals = locals; stmts = stmts; is = refl; vars = vars; body = all })))))

-- an operation may stand behind others
record OpMay (done : List TreeOp) (o : TreeOp) : Type 0 where
  few : one_more 64 (length done) (Limit which.Ops) o ≡ None
  params : FieldsSo 32 0 (Limit which.Locals) o.params
  quotas : QuotasSo (o.allocs, o.fuel)
  vars : VarsAt (length o.params) o.vars
  body : AllStatements (rule.statement 32) o.body

op_may : (done : List TreeOp) (w : Words) (params : List TreeField) (q : ℕ × ℕ) (o : TreeOp) → one_more 64 (length done) (Limit which.Ops) o ≡ None → FieldsSo 32 0 (Limit which.Locals) params → QuotasSo q
    → BodySo w params q.0 q.1 o → OpMay done o
op_may done w params q o few so small b = subst (OpMay done) (sym b.is) (record { few = few; params = so; quotas = small; vars = b.vars; body = b.body })

always_op : (before : List TreeOp) → AllMay OpMay [] before → Always (AllMay OpMay []) (rule.op_behind before)
always_op before h =
    always_behind (λ l. always_then (always_one (λ (w : Words). one_more 64 (length before) (Limit which.Ops) w ≡ None) _ _ (λ t w is some. some)) (λ w few.
    always_behind (λ m. always_then (always_fields_behind 32 (Limit which.Locals) 0) (λ params so.
    always_behind (λ n. always_then always_quotas (λ q small.
    always_then (always_body w params q.0 q.1) (λ o b.
    always_nothing _ _ (all_may_push OpMay [] before o h (op_may before w params q o few so small b)))))))))

same_op : (w : Words) (params vars : List TreeField) (allocs fuel : ℕ) (body : List TreeStmt) (o : TreeOp) → w.text ≡ o.name.text → SameFields o.params params → SameFields o.vars vars
    → allocs ≡ o.allocs → fuel ≡ o.fuel → SameBlock o.body body → unlined_op (op_with w params vars allocs fuel body) ≡ unlined_op o
same_op w params vars allocs fuel body o named same_params same_vars same_allocs same_fuel same_body =
    ap (λ u. op_with u (map unlined_field params) (map unlined_field vars) allocs fuel (map unlined_stmt body)) (same_word w o.name named)
    ∙ ap (λ u. op_with (unlined_word o.name) u (map unlined_field vars) allocs fuel (map unlined_stmt body)) same_params
    ∙ ap (λ u. op_with (unlined_word o.name) (map unlined_field o.params) u allocs fuel (map unlined_stmt body)) same_vars
    ∙ ap (λ u. op_with (unlined_word o.name) (map unlined_field o.params) (map unlined_field o.vars) u fuel (map unlined_stmt body)) same_allocs
    ∙ ap (λ u. op_with (unlined_word o.name) (map unlined_field o.params) (map unlined_field o.vars) o.allocs u (map unlined_stmt body)) same_fuel
    ∙ ap (λ u. op_with (unlined_word o.name) (map unlined_field o.params) (map unlined_field o.vars) o.allocs o.fuel u) same_body

abbrev SameOps : List TreeOp → List TreeOp → Type 0
SameOps done other = map unlined_op other ≡ map unlined_op done

abbrev body_pieces : TreeOp → List Piece
body_pieces o = Word f.LBrace ∷ Feed ∷ (vars_line o.vars ++ (lines_at (map statement_lines o.body) 1 ++ Word f.RBrace ∷ Feed ∷ []))

prints_body : (done : List TreeOp) (o : TreeOp) → OpMay done o → (w : Words) (params : List TreeField) (allocs fuel : ℕ) → w.text ≡ o.name.text → SameFields o.params params → allocs ≡ o.allocs → fuel ≡ o.fuel
    → Prints (rule.body w params allocs fuel) (body_pieces o) (λ p. unlined_op p ≡ unlined_op o)
prints_body done o may w params allocs fuel named same_params same_allocs same_fuel =
    prints_word f.LBrace refl (λ l. fed (prints_then (subst (λ k. Prints (rule.vars k) (vars_line o.vars) (SameFields o.vars)) (as_many o.params params same_params) may.vars) (λ locals same_vars.
    prints_then (prints_statements (rule.statement 32) 1 o.body may.body) (λ stmts same_body. prints_word f.RBrace refl (λ m. fed
    (prints_nothing (same_op w params locals allocs fuel stmts o named same_params same_vars same_allocs same_fuel same_body)))))))

op_turn : (done : List TreeOp) (o : TreeOp) (before : List TreeOp) → SameOps done before → OpMay done o → Prints (rule.op_behind before) (op_lines o) (SameOps (done ++ o ∷ []))
op_turn done o before ready may =
    let few : one_more 64 (length before) (Limit which.Ops) o ≡ None =
    subst (λ k. one_more 64 k (Limit which.Ops) o ≡ None) (sym (length-map done unlined_op) ∙ ap length (sym ready) ∙ length-map before unlined_op) may.few in
    prints_word f.Op refl (λ l. spaced (prints_lead (prints_name (one_more 64 (length before) (Limit which.Ops)) o.name.text (λ w. few)) (λ w named.
    prints_word f.LParen refl (λ m. prints_grouped (fields_pieces o.params) _ _ (prints_then (prints_fields 32 0 (Limit which.Locals) o.params may.params) (λ params same_params.
    prints_word f.RParen refl (λ n. spaced (prints_then {ps = Word f.Allocs ∷ Space ∷ Number o.allocs ∷ Space ∷ Word f.Fuel ∷ Space ∷ Number o.fuel ∷ []} {qs = Space ∷ body_pieces o}
    (prints_quotas o.allocs o.fuel may.quotas.allocs may.quotas.fuel) (λ q same_q. spaced
    (prints_last (prints_body done o may w params q.0 q.1 named same_params same_q.0 same_q.1) (λ p same. prints_nothing (same_push unlined_op before done p o ready same))))))))))))

-- ---- modules

abbrev IsVersion : ℕ → Type 0
IsVersion v = (v ≡ 1) ⊎ (v ≡ 2)

a_version : (l : Lexis) (v : ℕ) → version_in l ≡ Some v → IsVersion v
a_version lexis.One v h = inl (cc)
a_version lexis.Two v h = inr (cc)
a_version (lexis.Number n) v h = absurd (cc)
a_version (lexis.Fixed g) v h = absurd (cc)
a_version (lexis.Name text) v h = absurd (cc)

record ModuleSo (d : Declared) : Type 0 where
  known : IsVersion d.version
  kinds : AllMay KindMay [] d.kinds
  ops : AllMay OpMay [] d.ops

always_module : Always ModuleSo rule.module_text
always_module =
    always_behind (λ l. always_then (always_one IsVersion _ _ (λ t v is some. a_version t.lexis v is)) (λ v known.
    always_then always_kinds (λ ks kinds. always_then (always_many always_op [] tt) (λ os ops.
    always_nothing _ _ (record { known = known; kinds = kinds; ops = ops })))))

abbrev module_pieces : ℕ → List TreeKind → List TreeOp → List Piece
module_pieces v kinds ops = Word f.Domlock ∷ Space ∷ Number v ∷ Feed ∷ (flat_map kind_line kinds ++ flat_map op_lines ops)

record SameModule (v : ℕ) (kinds : List TreeKind) (ops : List TreeOp) (d : Declared) : Type 0 where
  same_version : d.version ≡ v
  same_kinds : map unlined_kind d.kinds ≡ map unlined_kind kinds
  same_ops : map unlined_op d.ops ≡ map unlined_op ops

prints_version : (v : ℕ) → IsVersion v → Prints (One version free) (Number v ∷ []) (λ n. n ≡ v)
prints_version v (inl one) = subst (λ m. Prints (One version free) (Number m ∷ []) (λ n. n ≡ m)) (sym one)
    (prints_one (Number 1) lexis.One refl (λ line. record { is = 1; valued = refl; free = refl; so = refl }))
prints_version v (inr two) = subst (λ m. Prints (One version free) (Number m ∷ []) (λ n. n ≡ m)) (sym two)
    (prints_one (Number 2) lexis.Two refl (λ line. record { is = 2; valued = refl; free = refl; so = refl }))

prints_module : (v : ℕ) (kinds : List TreeKind) (ops : List TreeOp) → IsVersion v → AllMay KindMay [] kinds → AllMay OpMay [] ops → Prints rule.module_text (module_pieces v kinds ops) (SameModule v kinds ops)
prints_module v kinds ops known all_kinds all_ops =
    prints_word f.Domlock refl (λ l. spaced (prints_lead (prints_version v known) (λ n same_version. fed
    (prints_then (prints_kinds kinds all_kinds) (λ ks same_kinds. prints_last (prints_list OpMay SameOps rule.op_behind op_lines op_turn [] ops all_ops [] refl) (λ os same_ops.
    prints_nothing (record { same_version = same_version; same_kinds = same_kinds.0; same_ops = same_ops })))))))

abbrev tree_with : ℕ → List TreeKind → List TreeOp → Tree
tree_with v kinds ops = record { version = v; kinds = kinds; ops = ops; last = 0 }

pub pieces_are_a_text : PiecesAreAText
pieces_are_a_text d ws vs text says = (
  again.value,
  again.text,
  ap (λ v. tree_with v (map unlined_kind again.value.kinds) (map unlined_op again.value.ops)) again.so.same_version
      ∙ ap (λ ks. tree_with d.version ks (map unlined_op again.value.ops)) again.so.same_kinds ∙ ap (λ os. tree_with d.version (map unlined_kind d.kinds) os) again.so.same_ops,
)
  where
    so : ModuleSo d
    so = always_module.kept (Read d) ws text

    again : Made rule.module_text vs (SameModule d.version d.kinds d.ops)
    again = (prints_module d.version d.kinds d.ops so.known so.kinds so.ops).made vs says
