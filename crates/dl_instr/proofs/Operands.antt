-- What operands, minuses and binary operations are printed as.
use Rattle.std.proofs.Common.{◌≡◌, ℕ, ◌+◌, ◌≤◌, Bool, true, false, nat_lt, List, [], ◌++◌, refl, sym, ◌∙◌, ap}
use Rattle.std.specs.Prelude.{codes, if◌then◌else◌}
use Rattle.std.proofs.lemmas.Bool.{le-ltb}
use Rattle.std.proofs.lemmas.List.{append-nil}
use Rattle.dl_ir.specs.declared.expressions.Expr.{Expr, Expr-F}
use Rattle.dl_ir.specs.declared.expressions.Expr.TheFolds.{fold_out-Expr, map-Expr}
use Rattle.dl_ir.specs.declared.expressions.Expr.TheVariants.{Neg, Bin, outs-Neg, outs-Bin}
use Rattle.dl_ir.specs.declared.expressions.Op.{Op}
use Rattle.dl_ir.specs.declared.modules.OpDecl.{OpDecl}
use Rattle.dl_instr.specs.Listing.{Part, operand_text, op_level, op_text, part_of, expr_part}

-- what binds tightly enough has no brackets
bare_text : (least : ℕ) (part : Part) → least ≤ part.level → operand_text least part ≡ part.text
bare_text least part tight = ap (λ b. if b then codes "(" ++ part.text ++ codes ")" else part.text) (le-ltb part.level least tight)

-- a minus and its operand
pub neg_text : (op : OpDecl) (least : ℕ) (whole a b : Expr) → whole ≡ Neg a → b ≡ a → least ≤ 2 →
    codes "-" ++ operand_text 2 (expr_part op b) ≡ operand_text least (expr_part op whole)
neg_text op least whole a b is same tight =
    let part : expr_part op whole ≡ part_of op (Expr-F.Neg (expr_part op a)) =
    ap (expr_part op) is ∙ fold_out-Expr Part (part_of op) (Neg a) ∙ ap (λ (l : Expr-F Expr). part_of op (map-Expr Expr Part (expr_part op) l)) (outs-Neg a) in
    ap (λ e. codes "-" ++ operand_text 2 (expr_part op e)) same
    ∙ sym (bare_text least (part_of op (Expr-F.Neg (expr_part op a))) tight)
    ∙ ap (operand_text least) (sym part)

-- brackets round three pieces
brackets : (b : Bool) (l s r : List ℕ) →
    ((((if b then codes "(" else []) ++ l) ++ s) ++ r) ++ (if b then codes ")" else []) ≡ (if b then codes "(" ++ (l ++ s ++ r) ++ codes ")" else (l ++ s ++ r))
brackets true l s r = refl
brackets false l s r = append-nil (l ++ s ++ r)

-- a binary operation, of which each piece is known by an equation
pub bin_text : (op : OpDecl) (least level : ℕ) (o : Op) (sign : List ℕ) (whole a b left right : Expr) → whole ≡ Bin o a b → left ≡ a → right ≡ b → level ≡ op_level o → sign ≡ op_text o →
    ((((if nat_lt level least then codes "(" else []) ++ operand_text level (expr_part op left)) ++ sign) ++ operand_text (level + 1) (expr_part op right)) ++ (if nat_lt level least then codes ")" else [])
    ≡ operand_text least (expr_part op whole)
bin_text op least level o sign whole a b left right is is_left is_right is_level is_sign =
    let made : ℕ → List ℕ → Expr → Expr → Part = λ n s x y. record { level = n; text = operand_text n (expr_part op x) ++ s ++ operand_text (n + 1) (expr_part op y) } in
    let part : expr_part op whole ≡ made (op_level o) (op_text o) a b =
    ap (expr_part op) is ∙ fold_out-Expr Part (part_of op) (Bin o a b) ∙ ap (λ (l : Expr-F Expr). part_of op (map-Expr Expr Part (expr_part op) l)) (outs-Bin o a b) in
    brackets (nat_lt level least) (operand_text level (expr_part op left)) sign (operand_text (level + 1) (expr_part op right))
    ∙ ap (λ n. operand_text least (made n sign left right)) is_level
    ∙ ap (λ s. operand_text least (made (op_level o) s left right)) is_sign
    ∙ ap (λ e. operand_text least (made (op_level o) (op_text o) e right)) is_left
    ∙ ap (λ e. operand_text least (made (op_level o) (op_text o) a e)) is_right
    ∙ ap (operand_text least) (sym part)
