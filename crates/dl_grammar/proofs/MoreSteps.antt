-- Single steps of the readers of declarations, as the code takes them.
use Rattle.std.proofs.Common.{◌≡◌, ℕ, ◌+◌, ◌<◌, true, false, List, [], ◌∷◌, ◌++◌, length, Option, Some, None, Ok, refl, sym, ap, ◌∙◌}
use Rattle.std.specs.Prelude.{is_some}
use Rattle.dl_grammar.specs.declared.lexeme.Lexeme.{Lexeme}
use Rattle.dl_grammar.specs.declared.lexeme.Fixed.TheVariants as f
use Rattle.dl_grammar.specs.declared.fault.Bound.{Bound}
use Rattle.dl_grammar.specs.declared.tree.TreeField.{TreeField}
use Rattle.dl_grammar.specs.declared.tree.TreeOp.{TreeOp}
use Rattle.dl_grammar.specs.Grammar.{ahead, Reader, and_then, ◌>>=◌, pure, valued}
use Rattle.dl_grammar.specs.Rules.{fixed, free, Kinds}
use Rattle.dl_grammar.specs.Readers as read
use Rattle.dl_grammar.specs.Readers.{comes, starts_kind}
use Rattle.dl_grammar.proofs.Repeats.{turn_stops, turn_goes, shrinks}
use Rattle.dl_grammar.proofs.GoodDeclarations.{good_kind, kind_shows, good_op, op_shows, good_comma_field, comma_field_shows}

-- ---- fields
abbrev comma_field : ℕ → Bound → ℕ → List TreeField → Reader (List TreeField)
comma_field most bound stand before = read.word f.Comma >>= λ l. read.field most bound (stand + length before) >>= λ x. pure (before ++ x ∷ [])

pub fields_stop : (most : ℕ) (bound : Bound) (stand : ℕ) (before : List TreeField) (ts : List Lexeme) → comes (fixed f.Comma) (ahead ts) ≡ false → read.fields_more most bound stand before ts ≡ Ok (before, ts)
unfolding read.fields_more
fields_stop most bound stand before ts h = turn_stops (comes (fixed f.Comma)) (good_comma_field most bound stand) (comma_field_shows most bound stand) refl before ts h

pub fields_go : (most : ℕ) (bound : Bound) (stand : ℕ) (before : List TreeField) (ts : List Lexeme) → comes (fixed f.Comma) (ahead ts) ≡ true → read.fields_more most bound stand before ts ≡ and_then (comma_field most bound stand before ts) (read.fields_more most bound stand)
unfolding read.fields_more
fields_go most bound stand before ts h = turn_goes (comes (fixed f.Comma)) (good_comma_field most bound stand) (comma_field_shows most bound stand) refl before ts h

pub fields_shrink : (most : ℕ) (bound : Bound) (stand : ℕ) (before : List TreeField) (ts : List Lexeme) (l : ℕ) (mid : List Lexeme) (n : ℕ) (x : TreeField) (rest : List Lexeme) → read.word f.Comma ts ≡ Ok (l, mid) → n ≡ stand + length before → read.field most bound n mid ≡ Ok (x, rest) → length rest < length ts
fields_shrink most bound stand before ts l mid n x rest h is k =
    shrinks (comes (fixed f.Comma)) (good_comma_field most bound stand) (comma_field_shows most bound stand) refl before ts (before ++ x ∷ []) rest
    (ap (λ o. and_then o (λ (m : ℕ). read.field most bound (stand + length before) >>= λ y. pure (before ++ y ∷ []))) h
    ∙ ap (λ o. and_then o (λ (y : TreeField). pure (before ++ y ∷ []))) (ap (λ m. read.field most bound m mid) (sym is) ∙ k))

comma_valued : (o : Option ℕ) (t : Lexeme) (ts : List Lexeme) (l : ℕ) (mid : List Lexeme) → valued free o t ts ≡ Ok (l, mid) → is_some o ≡ true
comma_valued (Some k) t ts l mid h = refl
comma_valued None t ts l mid h = absurd (cc)

comma_comes : (ts : List Lexeme) (l : ℕ) (mid : List Lexeme) → read.word f.Comma ts ≡ Ok (l, mid) → comes (fixed f.Comma) (ahead ts) ≡ true
comma_comes [] l mid h = absurd (cc)
comma_comes (t ∷ ts) l mid h = comma_valued (fixed f.Comma t) t ts l mid h

pub fields_next : (most : ℕ) (bound : Bound) (stand : ℕ) (before : List TreeField) (ts : List Lexeme) (l : ℕ) (mid : List Lexeme) (n : ℕ) (x : TreeField) (rest : List Lexeme) → read.word f.Comma ts ≡ Ok (l, mid) → n ≡ stand + length before → read.field most bound n mid ≡ Ok (x, rest)
    → read.fields_more most bound stand before ts ≡ read.fields_more most bound stand (before ++ x ∷ []) rest
fields_next most bound stand before ts l mid n x rest h is k =
    fields_go most bound stand before ts (comma_comes ts l mid h)
    ∙ ap (λ o. and_then o (read.fields_more most bound stand)) (ap (λ o. and_then o (λ (m : ℕ). read.field most bound (stand + length before) >>= λ y. pure (before ++ y ∷ []))) h
    ∙ ap (λ o. and_then o (λ (y : TreeField). pure (before ++ y ∷ []))) (ap (λ m. read.field most bound m mid) (sym is) ∙ k))

pub ruleset fields_steps = (fields_stop, fields_go)

-- ---- kinds
pub kinds_stop : (before : Kinds) (ts : List Lexeme) → starts_kind (ahead ts) ≡ false → read.kinds_from before ts ≡ Ok (before, ts)
unfolding read.kinds_from
kinds_stop before ts h = turn_stops starts_kind good_kind kind_shows refl before ts h

pub kinds_go : (before : Kinds) (ts : List Lexeme) → starts_kind (ahead ts) ≡ true → read.kinds_from before ts ≡ and_then (read.kind before ts) read.kinds_from
unfolding read.kinds_from
kinds_go before ts h = turn_goes starts_kind good_kind kind_shows refl before ts h

pub kind_shrinks : (before : Kinds) (ts : List Lexeme) (all : Kinds) (rest : List Lexeme) → read.kind before ts ≡ Ok (all, rest) → length rest < length ts
kind_shrinks before ts all rest h = shrinks starts_kind good_kind kind_shows refl before ts all rest h

pub ruleset kinds_steps = (kinds_stop, kinds_go)

-- ---- operations
pub ops_stop : (before : List TreeOp) (ts : List Lexeme) → comes (fixed f.Op) (ahead ts) ≡ false → read.ops_from before ts ≡ Ok (before, ts)
unfolding read.ops_from
ops_stop before ts h = turn_stops (comes (fixed f.Op)) good_op (op_shows (comes (fixed f.Op)) true (λ line. refl)) refl before ts h

pub ops_go : (before : List TreeOp) (ts : List Lexeme) → comes (fixed f.Op) (ahead ts) ≡ true → read.ops_from before ts ≡ and_then (read.op_behind before ts) read.ops_from
unfolding read.ops_from
ops_go before ts h = turn_goes (comes (fixed f.Op)) good_op (op_shows (comes (fixed f.Op)) true (λ line. refl)) refl before ts h

pub op_shrinks : (before : List TreeOp) (ts : List Lexeme) (all : List TreeOp) (rest : List Lexeme) → read.op_behind before ts ≡ Ok (all, rest) → length rest < length ts
op_shrinks before ts all rest h = shrinks (comes (fixed f.Op)) good_op (op_shows (comes (fixed f.Op)) true (λ line. refl)) refl before ts all rest h

pub ruleset ops_steps = (ops_stop, ops_go)
