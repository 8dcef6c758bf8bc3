-- The pieces of modules that are spelled are tokens of a text.
use Rattle.std.proofs.Common.{◌≡◌, ℕ, ◌+◌, ◌≤◌, Bool, true, false, List, [], ◌∷◌, ◌++◌, map, length, Some, subst, if◌then◌else◌, arith}
use Rattle.std.specs.Prelude.{codes}
use Rattle.std.specs.Str.{bytes_eq}
use Rattle.std.specs.List.{AllByRecursion, flat_map}
use Rattle.dl_grammar.specs.declared.lexeme.Fixed.TheVariants as f
use Rattle.dl_grammar.specs.declared.lexeme.Lexis.{Lexis}
use Rattle.dl_grammar.specs.declared.lexeme.Lexis.TheVariants as lexis
use Rattle.dl_grammar.specs.declared.lexeme.Lexeme.{Lexeme}
use Rattle.dl_grammar.specs.declared.fault.Bound.{Bound}
use Rattle.dl_grammar.specs.declared.fault.Bound.TheVariants.{Limit}
use Rattle.dl_grammar.specs.declared.fault.Which.TheVariants as which
use Rattle.dl_grammar.specs.declared.declarations.Declared.{Declared}
use Rattle.dl_grammar.specs.declared.tree.Word.{Word as Words}
use Rattle.dl_grammar.specs.declared.tree.TreeField.{TreeField}
use Rattle.dl_grammar.specs.declared.tree.TreeKind.{TreeKind}
use Rattle.dl_grammar.specs.declared.tree.TreeOp.{TreeOp}
use Rattle.dl_grammar.specs.declared.tree.TreeStmt.{TreeStmt}
use Rattle.dl_grammar.specs.Grammar.{Read, One}
use Rattle.dl_grammar.specs.Rules as rule
use Rattle.dl_grammar.specs.Rules.{type_name, type_in, version, version_in, free, Kinds}
use Rattle.dl_grammar.specs.Texts.{tree_of}
use Rattle.dl_text.specs.Text.{greatest}
use Rattle.dl_print.specs.Canonical.{Piece, Word, Name, Space, Feed, type_piece, field_pieces, next_field, fields_pieces, kind_fields, kind_line, vars_line, lines_at, statement_lines, op_lines, pieces_of}
use Rattle.dl_print.specs.Tokens.{IsName, IsToken, HasTokens}
use Rattle.dl_rereading.proofs.From.{From, all_append, from_one, from_nothing, from_then, from_behind, from_or, from_many}
use Rattle.dl_rereading.proofs.Tokens.{LexisSo, LexemeSo, from_name, from_number, AreSo, so_append, BlockSo, lines_so, from_statements, from_statement}

module _ (v : ℕ) where
  -- ---- fields

  type_by : (text : List ℕ) (b : Bool) → IsName v text → IsToken v (if b then Word f.Int else Name text)
  type_by text true h = tt
  type_by text false h = h

  type_so : (l : Lexis) (line : ℕ) (t : Words) → LexisSo v l → type_in l line ≡ Some t → IsToken v (type_piece t.text)
  type_so (lexis.Name text) line t so is =
      let same : record { text = text; line = line } ≡ t = cc in subst (λ (u : Words). IsToken v (type_piece u.text)) same (type_by text (bytes_eq text (codes "int")) so)
  type_so (lexis.Fixed f.Int) line t so is =
      let same : record { text = codes "int"; line = line } ≡ t = cc in subst (λ (u : Words). IsToken v (type_piece u.text)) same tt
  type_so (lexis.Fixed g) line t so is = absurd (cc)
  type_so lexis.One line t so is = absurd (cc)
  type_so lexis.Two line t so is = absurd (cc)
  type_so (lexis.Number n) line t so is = absurd (cc)

  from_type : From (LexemeSo v) (λ (t : Words). IsToken v (type_piece t.text)) (One type_name free)
  from_type = from_one _ _ _ (λ t w so is some. type_so t.lexis t.line w so is)

  abbrev FieldSo : TreeField → Type 0
  FieldSo x = AreSo v (field_pieces x)

  abbrev FieldsSo : List TreeField → Type 0
  FieldsSo all = AllByRecursion FieldSo all

  from_field : (most : ℕ) (bound : Bound) (stand : ℕ) → From (LexemeSo v) FieldSo (rule.field most bound stand)
  from_field most bound stand = from_then (from_name v _) (λ w h. from_behind (λ l. from_then from_type (λ t k. from_nothing (h, (tt, (tt, (k, tt)))))))

  from_fields_behind : (most : ℕ) (bound : Bound) (stand : ℕ) → From (LexemeSo v) FieldsSo (rule.fields_behind most bound stand)
  from_fields_behind most bound stand = from_then (from_field most bound stand) (λ first h. from_many
      (λ before all. from_behind (λ l. from_then (from_field most bound (stand + length before)) (λ x k. from_nothing (all_append FieldSo before (x ∷ []) all (k, tt)))))
      (first ∷ []) (h, tt))

  next_so : (all : List TreeField) → FieldsSo all → AreSo v (flat_map next_field all)
  next_so [] h = tt
  next_so (x ∷ all) h = (tt, (tt, so_append v (field_pieces x) (flat_map next_field all) h.0 (next_so all h.1)))

  fields_so : (all : List TreeField) → FieldsSo all → AreSo v (fields_pieces all)
  fields_so [] h = tt
  fields_so (x ∷ all) h = so_append v (field_pieces x) (flat_map next_field all) h.0 (next_so all h.1)

  kind_fields_so : (all : List TreeField) → FieldsSo all → AreSo v (kind_fields all)
  kind_fields_so [] h = (tt, (tt, (tt, tt)))
  kind_fields_so (x ∷ all) h = (tt, (tt, so_append v (fields_pieces (x ∷ all)) (Space ∷ Word f.RBrace ∷ []) (fields_so (x ∷ all) h) (tt, (tt, tt))))

  vars_so : (all : List TreeField) → FieldsSo all → AreSo v (vars_line all)
  vars_so [] h = tt
  vars_so (x ∷ all) h = (tt, (tt, (tt, so_append v (fields_pieces (x ∷ all)) (Word f.Semicolon ∷ Feed ∷ []) (fields_so (x ∷ all) h) (tt, (tt, tt)))))

  from_fields : From (LexemeSo v) FieldsSo rule.fields
  from_fields = from_behind (λ l. from_then (from_or (from_fields_behind 16 (Limit which.Fields) 0) (from_nothing tt)) (λ all h. from_behind (λ m. from_nothing h)))

  from_vars : (params : ℕ) → From (LexemeSo v) FieldsSo (rule.vars params)
  from_vars params = from_or (from_behind (λ l. from_then (from_fields_behind 32 (Limit which.Locals) params) (λ all h. from_behind (λ m. from_nothing h)))) (from_nothing tt)

  -- ---- kinds

  abbrev KindSo : TreeKind → Type 0
  KindSo kind = AreSo v (kind_line kind)

  abbrev KindsSo : Kinds → Type 0
  KindsSo all = AllByRecursion KindSo all.0

  root_so : (w : Words) (n : ℕ) (all : List TreeField) → IsName v w.text → n ≤ greatest → FieldsSo all → KindSo (record { name = w; is_root = true; count = n; fields = all })
  root_so w n all h j k = (tt, (tt, (h, (tt, (j, (tt, so_append v (kind_fields all) (Feed ∷ []) (kind_fields_so all k) (tt, tt)))))))

  node_so : (w : Words) (all : List TreeField) → IsName v w.text → FieldsSo all → KindSo (record { name = w; is_root = false; count = 0; fields = all })
  node_so w all h k = (tt, (tt, (h, (tt, so_append v (kind_fields all) (Feed ∷ []) (kind_fields_so all k) (tt, tt)))))

  from_kind : (before : Kinds) → KindsSo before → From (LexemeSo v) KindsSo (rule.kind before)
  from_kind before all = from_or
      (from_behind (λ l. from_then (from_name v _) (λ w h. from_then (from_number v _) (λ n j. from_then from_fields (λ fs k. from_nothing (all_append KindSo before.0 (_ ∷ []) all (root_so w n fs h j k, tt)))))))
      (from_behind (λ l. from_then (from_name v _) (λ w h. from_then from_fields (λ fs k. from_nothing (all_append KindSo before.0 (_ ∷ []) all (node_so w fs h k, tt))))))

  -- ---- operations

  abbrev OpSo : TreeOp → Type 0
  OpSo o = AreSo v (op_lines o)

  op_so : (w : Words) (params vars : List TreeField) (allocs fuel : ℕ) (body : List TreeStmt) → IsName v w.text → FieldsSo params → FieldsSo vars → allocs ≤ greatest → fuel ≤ greatest → BlockSo v body
      → OpSo (record { name = w; params = params; vars = vars; allocs = allocs; fuel = fuel; body = body })
  op_so w params vars allocs fuel body named ps vs few little all = (
    tt,
    (
      tt,
      (
        named,
        (
          tt,
          so_append v (fields_pieces params ++ Word f.RParen ∷ []) _ (so_append v (fields_pieces params) (Word f.RParen ∷ []) (fields_so params ps) (tt, tt)) (
            tt,
            (
              tt,
              (
                tt,
                (
                  few,
                  (
                    tt,
                    (
                      tt,
                      (
                        tt,
                        (
                          little,
                          (
                            tt,
                            (
                              tt,
                              (
                                tt,
                                so_append v (vars_line vars) _ (vars_so vars vs) (so_append v (lines_at (map statement_lines body) 1) (Word f.RBrace ∷ Feed ∷ []) (lines_so v body all 1) (tt, (tt, tt))),
                              ),
                            ),
                          ),
                        ),
                      ),
                    ),
                  ),
                ),
              ),
            ),
          ),
        ),
      ),
    ),
  )

  record QuotasSo (q : ℕ × ℕ) : Type 0 where
    allocs : q.0 ≤ greatest
    fuel : q.1 ≤ greatest

  from_quotas : From (LexemeSo v) QuotasSo rule.quotas
  from_quotas = from_behind (λ l. from_then (from_number v _) (λ a h. from_behind (λ m. from_then (from_number v _) (λ n k. from_nothing (record { allocs = h; fuel = k })))))

  from_body : (w : Words) (params : List TreeField) (allocs fuel : ℕ) → IsName v w.text → FieldsSo params → allocs ≤ greatest → fuel ≤ greatest → From (LexemeSo v) OpSo (rule.body w params allocs fuel)
  from_body w params allocs fuel named ps few little =
      from_behind (λ l. from_then (from_vars (length params)) (λ vars vs. from_then (from_statements v (rule.statement 32) (from_statement v 32)) (λ body all.
      from_behind (λ m. from_nothing (op_so w params vars allocs fuel body named ps vs few little all)))))

  from_op : (before : List TreeOp) → AllByRecursion OpSo before → From (LexemeSo v) (AllByRecursion OpSo) (rule.op_behind before)
  from_op before all =
      from_behind (λ l. from_then (from_name v _) (λ w named. from_behind (λ m. from_then (from_fields_behind 32 (Limit which.Locals) 0) (λ params ps.
      from_behind (λ n. from_then from_quotas (λ q small. from_then (from_body w params q.0 q.1 named ps small.allocs small.fuel) (λ o h.
      from_nothing (all_append OpSo before (o ∷ []) all (h, tt)))))))))

  -- ---- modules

  version_so : (l : Lexis) (n : ℕ) → version_in l ≡ Some n → n ≤ greatest
  version_so lexis.One n h = let same : 1 ≡ n = cc in omega (arith, same)
  version_so lexis.Two n h = let same : 2 ≡ n = cc in omega (arith, same)
  version_so (lexis.Number m) n h = absurd (cc)
  version_so (lexis.Fixed g) n h = absurd (cc)
  version_so (lexis.Name text) n h = absurd (cc)

  record ModuleSo (d : Declared) : Type 0 where
    number : d.version ≤ greatest
    kinds : AllByRecursion KindSo d.kinds
    ops : AllByRecursion OpSo d.ops

  from_module : From (LexemeSo v) ModuleSo rule.module_text
  from_module =
      from_behind (λ l. from_then (from_one (λ n. n ≤ greatest) _ _ (λ t n so is some. version_so t.lexis n is)) (λ n h.
      from_then (from_many from_kind ([], 0) tt) (λ ks kinds. from_then (from_many from_op [] tt) (λ os ops.
      from_nothing (record { number = h; kinds = kinds; ops = ops })))))

  each_so : {S : Type 0} (pieces : S → List Piece) (all : List S) → AllByRecursion (λ s. AreSo v (pieces s)) all → AreSo v (flat_map pieces all)
  each_so pieces [] h = tt
  each_so pieces (s ∷ all) h = so_append v (pieces s) (flat_map pieces all) h.0 (each_so pieces all h.1)

  -- a module that is spelled by lexemes with names and numbers of a text of its version has pieces that are tokens of one
  pub module_has_tokens : (d : Declared) (ws : List Lexeme) → rule.module_text (Read d) ws → v ≡ d.version → AllByRecursion (LexemeSo v) ws → HasTokens (tree_of d ws)
  module_has_tokens d ws text same so =
      let all = from_module.kept (Read d) ws text so in
      let are : AllByRecursion (IsToken v) (pieces_of (tree_of d ws)) = (tt, (tt, (all.number, (tt, so_append v (flat_map kind_line d.kinds) (flat_map op_lines d.ops) (each_so kind_line d.kinds all.kinds) (each_so op_lines d.ops all.ops))))) in
      subst (λ n. AllByRecursion (IsToken n) (pieces_of (tree_of d ws))) same are
