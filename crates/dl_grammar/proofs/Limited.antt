-- Each tree that is spelled is in the limits.
use Rattle.std.proofs.Common.{◌≡◌, ℕ, ◌+◌, ◌≤◌, ◌<◌, Bool, true, false, List, [], ◌∷◌, ◌++◌, length, length-append, Some, None, inl, inr, Result, Ok, Err, nat_le, nat_lt, refl, sym, ap, ◌∙◌, subst, arith}
use Rattle.std.specs.Prelude.{◌⊎◌, All, sum_by, IfOk}
use Rattle.std.proofs.lemmas.Bool.Decides.{leb_tells}
use Rattle.std.proofs.lemmas.List.Elements.{All-push, All-nil}
use Rattle.std.proofs.lemmas.List.Sums.{sum_by_push}
use Rattle.dl_grammar.specs.declared.lexeme.Lexis.{Lexis}
use Rattle.dl_grammar.specs.declared.lexeme.Lexis.TheVariants as lexis
use Rattle.dl_grammar.specs.declared.fault.Bound.{Bound}
use Rattle.dl_grammar.specs.declared.fault.Bound.TheVariants.{Limit}
use Rattle.dl_grammar.specs.declared.fault.Which.TheVariants as which
use Rattle.dl_grammar.specs.declared.fault.SyntaxFault.{SyntaxFault}
use Rattle.dl_grammar.specs.declared.tree.Word.{Word}
use Rattle.dl_grammar.specs.declared.tree.Tree.{Tree}
use Rattle.dl_grammar.specs.declared.tree.TreeField.{TreeField}
use Rattle.dl_grammar.specs.declared.tree.TreeKind.{TreeKind}
use Rattle.dl_grammar.specs.declared.tree.TreeOp.{TreeOp}
use Rattle.dl_grammar.specs.declared.declarations.Declared.{Declared}
use Rattle.dl_grammar.specs.Grammar.{Read, One, Many}
use Rattle.dl_grammar.specs.Rules as rule
use Rattle.dl_grammar.specs.Rules.{passes, one_more, at_most, more_roots, version, version_in, Kinds}
use Rattle.dl_grammar.specs.Texts.{lexemes_of, Spells}
use Rattle.dl_grammar.specs.Limits.{IsKindInLimits, IsOpInLimits, IsInLimits}
use Rattle.dl_grammar.proofs.Always.{Always, always_one, always_nothing, always_then, always_behind, always_weaken, always_or, always_many}

-- ---- limits that are not passed
kept_back : (over : Bool) (b : Bound) → passes over b ≡ None → over ≡ false
kept_back false b h = refl
kept_back true b h = absurd (cc)

room_left : (most stand : ℕ) (b : Bound) → passes (nat_le most stand) b ≡ None → stand < most
room_left most stand b h = let is = kept_back (nat_le most stand) b h in grind (arith, leb_tells)

at_most_so : (most : ℕ) (b : Bound) (n : ℕ) → at_most most b n ≡ None → n ≤ most
at_most_so most b n h = let is = kept_back (nat_lt most n) b h in grind (arith, leb_tells)

root_count : (roots n : ℕ) → more_roots roots n ≡ None → (1 ≤ n) × (roots + n ≤ 1024)
root_count roots n h = grind (arith, leb_tells)

abbrev IsVersion : ℕ → Type 0
IsVersion v = (v ≡ 1) ⊎ (v ≡ 2)

a_version : (l : Lexis) (v : ℕ) → version_in l ≡ Some v → IsVersion v
a_version lexis.One v h = inl (cc)
a_version lexis.Two v h = inr (cc)
a_version (lexis.Number n) v h = absurd (cc)
a_version (lexis.Fixed g) v h = absurd (cc)
a_version (lexis.Name text) v h = absurd (cc)

-- ---- fields
always_name : (most stand : ℕ) (b : Bound) → Always (λ (w : Word). stand < most) (One rule.name (one_more most stand b))
always_name most stand b = always_one (λ (w : Word). stand < most) _ _ (λ t w is free. room_left most stand b free)

always_field : (most : ℕ) (b : Bound) (stand : ℕ) → Always (λ (x : TreeField). stand < most) (rule.field most b stand)
always_field most b stand =
    always_then (always_name most stand b) (λ w less. always_behind (λ l. always_behind (λ t. always_nothing _ _ less)))

pub always_fields_behind : (most : ℕ) (b : Bound) (stand : ℕ) → Always (λ (all : List TreeField). stand + length all ≤ most) (rule.fields_behind most b stand)
always_fields_behind most b stand =
    always_then (always_field most b stand) (λ first less. always_many
    (λ before few. always_behind (λ l. always_then (always_field most b (stand + length before)) (λ x more. always_nothing _ _ (omega (arith, more, length-append before (x ∷ []))))))
    (first ∷ []) (omega (arith, less)))

always_fields : Always (λ (all : List TreeField). length all ≤ 16) rule.fields
always_fields =
    always_behind (λ l. always_then
    (always_or (always_weaken (λ all few. omega (arith, few)) (always_fields_behind 16 (Limit which.Fields) 0)) (always_nothing (λ (all : List TreeField). length all ≤ 16) [] (omega arith)))
    (λ all few. always_behind (λ m. always_nothing _ _ few)))

-- ---- kinds
record KindsSoFar (all : Kinds) : Type 0 where
  few : length all.0 ≤ 16
  each : All IsKindInLimits all.0
  roots : sum_by (λ (kind : TreeKind). kind.count) all.0 ≡ all.1
  few_roots : all.1 ≤ 1024

no_kinds : KindsSoFar ([], 0)
no_kinds = record { few = omega arith; each = All-nil IsKindInLimits; roots = refl; few_roots = omega arith }

one_kind_more : (before : Kinds) → KindsSoFar before → length before.0 < 16 → (kind : TreeKind) → IsKindInLimits kind → before.1 + kind.count ≤ 1024 → (roots : ℕ) → roots ≡ before.1 + kind.count → KindsSoFar (before.0 ++ kind ∷ [], roots)
one_kind_more before h less kind in_limits few roots is = record {
  few = omega (arith, less, length-append before.0 (kind ∷ []));
  each = All-push IsKindInLimits before.0 kind h.each in_limits;
  roots = sum_by_push (λ (kind : TreeKind). kind.count) before.0 kind ∙ ap (λ n. n + kind.count) h.roots ∙ sym is;
  few_roots = omega (arith, is, few);
}

always_root_kind : (before : Kinds) → KindsSoFar before → Always KindsSoFar (rule.root_kind before)
always_root_kind before h =
    always_behind (λ l. always_then (always_name 16 (length before.0) (Limit which.Kinds)) (λ w less.
    always_then (always_one (λ n. (1 ≤ n) × (before.1 + n ≤ 1024)) _ _ (λ t n is free. root_count before.1 n free)) (λ n count.
    always_then always_fields (λ all few.
    always_nothing _ _ (one_kind_more before h less (record { name = w; is_root = true; count = n; fields = all })
    (record { rooted = λ root. count.0; few_roots = omega (arith, count.1); few_fields = few }) count.1 (before.1 + n) refl)))))

always_node_kind : (before : Kinds) → KindsSoFar before → Always KindsSoFar (rule.node_kind before)
always_node_kind before h =
    always_behind (λ l. always_then (always_name 16 (length before.0) (Limit which.Kinds)) (λ w less.
    always_then always_fields (λ all few.
    always_nothing _ _ (one_kind_more before h less (record { name = w; is_root = false; count = 0; fields = all })
    (record { rooted = λ root. absurd (cc); few_roots = omega arith; few_fields = few }) (omega (arith, h.few_roots)) before.1 (omega arith)))))

always_kinds : Always KindsSoFar (Many rule.kind ([], 0))
always_kinds = always_many (λ before h. always_or (always_root_kind before h) (always_node_kind before h)) ([], 0) no_kinds

-- ---- operations
always_vars : (params : ℕ) → params ≤ 32 → Always (λ (all : List TreeField). params + length all ≤ 32) (rule.vars params)
always_vars params few =
    always_or (always_behind (λ l. always_then (always_fields_behind 32 (Limit which.Locals) params) (λ all h. always_behind (λ m. always_nothing _ _ h))))
    (always_nothing (λ (all : List TreeField). params + length all ≤ 32) [] (omega (arith, few)))

always_quotas : Always (λ (q : ℕ × ℕ). (q.0 ≤ 64) × (q.1 ≤ 1000000)) rule.quotas
always_quotas =
    always_behind (λ l. always_then (always_one (λ n. n ≤ 64) _ _ (λ t n is free. at_most_so 64 _ n free)) (λ a few.
    always_behind (λ m. always_then (always_one (λ n. n ≤ 1000000) _ _ (λ t n is free. at_most_so 1000000 _ n free)) (λ n little.
    always_nothing _ _ (few, little)))))

always_body : (w : Word) (params : List TreeField) (allocs fuel : ℕ) → length params ≤ 32 → allocs ≤ 64 → fuel ≤ 1000000 → Always IsOpInLimits (rule.body w params allocs fuel)
always_body w params allocs fuel few few_allocs little =
    always_behind (λ l. always_then (always_vars (length params) few) (λ locals all.
    always_behind (λ stmts. always_behind (λ m.
    always_nothing _ _ (record { few_locals = all; few_allocs = few_allocs; little_fuel = little })))))

record OpsSoFar (all : List TreeOp) : Type 0 where
  few : length all ≤ 64
  each : All IsOpInLimits all

one_op_more : (before : List TreeOp) → OpsSoFar before → length before < 64 → (op : TreeOp) → IsOpInLimits op → OpsSoFar (before ++ op ∷ [])
one_op_more before h less op in_limits = record {
  few = omega (arith, less, length-append before (op ∷ []));
  each = All-push IsOpInLimits before op h.each in_limits;
}

always_op : (before : List TreeOp) → OpsSoFar before → Always OpsSoFar (rule.op_behind before)
always_op before h =
    always_behind (λ l. always_then (always_name 64 (length before) (Limit which.Ops)) (λ w less.
    always_behind (λ m. always_then (always_fields_behind 32 (Limit which.Locals) 0) (λ params few.
    always_behind (λ n. always_then always_quotas (λ q small.
    always_then (always_body w params q.0 q.1 (omega (arith, few)) small.0 small.1) (λ o in_limits.
    always_nothing _ _ (one_op_more before h less o in_limits))))))))

always_ops : Always OpsSoFar (Many rule.op_behind [])
always_ops = always_many always_op [] (record { few = omega arith; each = All-nil IsOpInLimits })

-- ---- modules
record IsSmall (d : Declared) : Type 0 where
  version : IsVersion d.version
  roots : ℕ
  kinds : KindsSoFar (d.kinds, roots)
  ops : OpsSoFar d.ops

always_module : Always IsSmall rule.module_text
always_module =
    always_behind (λ l. always_then (always_one IsVersion _ _ (λ t v is free. a_version t.lexis v is)) (λ v known.
    always_then always_kinds (λ ks kinds. always_then always_ops (λ os ops.
    always_nothing _ _ (record { version = known; roots = ks.1; kinds = kinds; ops = ops })))))

pub spelled_in_limits : (bytes : List ℕ) (tree : Tree) → Spells bytes tree → IsInLimits tree
spelled_in_limits bytes tree h = subst IsInLimits (sym h.4) (record {
  version = small.version;
  few_kinds = small.kinds.few;
  kinds = small.kinds.each;
  few_roots = omega (arith, small.kinds.few_roots, small.kinds.roots);
  few_ops = small.ops.few;
  ops = small.ops.each;
})
  where
    small : IsSmall h.1
    small = always_module.kept (Read h.1) (lexemes_of bytes h.0) h.3

pub all_in_limits : (bytes : List ℕ) (result : Result Tree SyntaxFault) → IfOk result (Spells bytes) → IfOk result IsInLimits
all_in_limits bytes (Ok tree) h = spelled_in_limits bytes tree h
all_in_limits bytes (Err g) h = tt
