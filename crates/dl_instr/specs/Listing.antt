-- The listing of a code.
use Rattle.std.specs.Prelude.{ℕ, ◌+◌, Bool, true, false, nat_lt, Option, None, List, [], ◌++◌, slice_get, option_and_then, codes, decimal, if◌then◌else◌}
use Rattle.std.specs.Fmt.{signed_decimal}
use Rattle.std.specs.Option.{option_map_or}
use Rattle.dl_ir.specs.declared.expressions.Cond.{Cond}
use Rattle.dl_ir.specs.declared.expressions.Cond.TheVariants.{Ints, Refs}
use Rattle.dl_ir.specs.declared.expressions.Expr.{Expr, Expr-F}
use Rattle.dl_ir.specs.declared.expressions.Expr.TheFolds.{fold-Expr}
use Rattle.dl_ir.specs.declared.expressions.Op.{Op}
use Rattle.dl_ir.specs.declared.expressions.Op.TheVariants.{Add, Sub, Mul, Div, Rem}
use Rattle.dl_ir.specs.declared.expressions.RefSide.{RefSide}
use Rattle.dl_ir.specs.declared.expressions.RefSide.TheVariants as sides
use Rattle.dl_ir.specs.declared.expressions.Rel.{Rel}
use Rattle.dl_ir.specs.declared.expressions.Rel.TheVariants.{Less, LessEq, Equal, NotEqual}
use Rattle.dl_ir.specs.declared.modules.FieldDecl.{FieldDecl}
use Rattle.dl_ir.specs.declared.modules.KindDecl.{KindDecl}
use Rattle.dl_ir.specs.declared.modules.LocalDecl.{LocalDecl}
use Rattle.dl_ir.specs.declared.modules.Module.{Module}
use Rattle.dl_ir.specs.declared.modules.OpDecl.{OpDecl}
use Rattle.dl_ir.specs.declared.modules.Ty.{Ty}
use Rattle.dl_ir.specs.declared.modules.Ty.TheVariants.{Int, Of}
use Rattle.dl_text.specs.Lists.{each_from}
use Rattle.dl_instr.specs.declared.code.Code.{Code}
use Rattle.dl_instr.specs.declared.steps.Step.{Step}
use Rattle.dl_instr.specs.declared.steps.Step.TheVariants.{Read, Want, Set, Drop, Make, Eval, Write, Emit, Test, Jump, Give}
use Rattle.dl_instr.specs.declared.steps.Content.{Content}
use Rattle.dl_instr.specs.declared.steps.Content.TheVariants as contents
use Rattle.dl_instr.specs.declared.steps.Origin.{Origin}
use Rattle.dl_instr.specs.declared.steps.Origin.TheVariants as origins

-- the local with this number, parameters before vars
abbrev pub local_at : OpDecl → ℕ → Option LocalDecl
local_at op x = slice_get (op.params ++ op.vars) x

-- the name of a local
abbrev pub local_text : OpDecl → ℕ → List ℕ
local_text op x = option_map_or (λ (decl : LocalDecl). decl.name) (local_at op x) []

-- the name of a kind
abbrev pub kind_text : Module → ℕ → List ℕ
kind_text source kind = option_map_or (λ (decl : KindDecl). decl.name) (slice_get source.kinds kind) []

-- the kind of the objects to which a local of this type may refer
abbrev pub kind_of : Module → Ty → Option KindDecl
kind_of source Int = None
kind_of source (Of kind) = slice_get source.kinds kind

-- the field with this number of the objects to which a local may refer
abbrev pub field_at : Module → OpDecl → ℕ → ℕ → Option FieldDecl
field_at source op q f = option_and_then (λ (kind : KindDecl). slice_get kind.fields f) (option_and_then (λ (decl : LocalDecl). kind_of source decl.ty) (local_at op q))

-- the name of that field
abbrev pub field_text : Module → OpDecl → ℕ → ℕ → List ℕ
field_text source op q f = option_map_or (λ (decl : FieldDecl). decl.name) (field_at source op q f) []

-- a text, and how tightly it binds: 0 for a sum, 1 for a term, and 2 for what is no binary operation
pub record Part : Type 0 where
  pub level : ℕ
  pub text : List ℕ

-- an operand, in brackets where it binds less tightly than it has to
abbrev pub operand_text : ℕ → Part → List ℕ
operand_text least part = if nat_lt part.level least then codes "(" ++ part.text ++ codes ")" else part.text

-- how tightly an operator binds
abbrev pub op_level : Op → ℕ
op_level Add = 0
op_level Sub = 0
op_level Mul = 1
op_level Div = 1
op_level Rem = 1

-- an operator with the spaces round it
abbrev pub op_text : Op → List ℕ
op_text Add = codes " + "
op_text Sub = codes " - "
op_text Mul = codes " * "
op_text Div = codes " / "
op_text Rem = codes " % "

-- one level of an expression, its operands being replaced by their texts
abbrev pub part_of : OpDecl → Expr-F Part → Part
part_of op (Expr-F.Num n) = record { level = 2; text = signed_decimal n }
part_of op (Expr-F.Local x) = record { level = 2; text = local_text op x }
part_of op (Expr-F.Neg a) = record { level = 2; text = codes "-" ++ operand_text 2 a }
part_of op (Expr-F.Bin o a b) = record { level = op_level o; text = operand_text (op_level o) a ++ op_text o ++ operand_text (op_level o + 1) b }

-- an expression, with how tightly it binds
abbrev pub expr_part : OpDecl → Expr → Part
expr_part op = fold-Expr Part (part_of op)

-- an expression by itself
abbrev pub expr_text : OpDecl → Expr → List ℕ
expr_text op e = operand_text 0 (expr_part op e)

-- a relation of numbers with the spaces round it
abbrev pub rel_text : Rel → List ℕ
rel_text Less = codes " < "
rel_text LessEq = codes " <= "
rel_text Equal = codes " == "
rel_text NotEqual = codes " != "

-- a relation of references with the spaces round it
abbrev pub same_text : Bool → List ℕ
same_text true = codes " == "
same_text false = codes " != "

-- a side of a comparison of references
abbrev pub side_text : OpDecl → RefSide → List ℕ
side_text op sides.Null = codes "null"
side_text op (sides.Local p) = local_text op p

-- a condition
abbrev pub cond_text : OpDecl → Cond → List ℕ
cond_text op (Ints rel a b) = expr_text op a ++ rel_text rel ++ expr_text op b
cond_text op (Refs same a b) = side_text op a ++ same_text same ++ side_text op b

-- a field of the object to which a local refers
abbrev pub place_text : Module → OpDecl → ℕ → ℕ → List ℕ
place_text source op q f = local_text op q ++ codes "." ++ field_text source op q f

-- `set x` or `copy p q`
abbrev pub set_text : OpDecl → ℕ → Origin → List ℕ
set_text op x origins.Hand = codes "set " ++ local_text op x
set_text op p (origins.Local q) = codes "copy " ++ local_text op p ++ codes " " ++ local_text op q

-- what stands behind the field that is written: nothing where that is the number in the hand
abbrev pub content_text : OpDecl → Content → List ℕ
content_text op contents.Number = []
content_text op (contents.Local p) = codes " = " ++ local_text op p
content_text op contents.Null = codes " = null"

-- the word for a test: a loop's takes a turn
abbrev pub test_word : Bool → List ℕ
test_word true = codes "turn "
test_word false = codes "test "

-- a step
abbrev pub step_text : Module → OpDecl → Step → List ℕ
step_text source op (Read q f) = codes "read " ++ place_text source op q f
step_text source op Want = codes "want"
step_text source op (Set x origin) = set_text op x origin
step_text source op (Drop p) = codes "drop " ++ local_text op p
step_text source op (Make kind) = codes "make " ++ kind_text source kind
step_text source op (Eval e) = codes "eval " ++ expr_text op e
step_text source op (Write q f content) = codes "write " ++ place_text source op q f ++ content_text op content
step_text source op Emit = codes "emit"
step_text source op (Test c is_turn place) = test_word is_turn ++ cond_text op c ++ codes " else " ++ decimal place
step_text source op (Jump place) = codes "jump " ++ decimal place
step_text source op (Give e) = codes "give " ++ expr_text op e

-- the line `N STEP`
abbrev pub step_line : Module → OpDecl → ℕ → Step → List ℕ
step_line source op number step = decimal number ++ codes " " ++ step_text source op step ++ codes "\n"

-- the line `op NAME`, and a line for each step
abbrev pub op_lines : Module → List Step → OpDecl → List ℕ
op_lines source steps op = codes "op " ++ op.name ++ codes "\n" ++ each_from (step_line source op) 0 steps

-- the lines of the operation with this number
abbrev pub op_listing : Module → ℕ → List Step → List ℕ
op_listing source number steps = option_map_or (op_lines source steps) (slice_get source.ops number) []

-- the listing of a code: the line `code`, the operations, and the line `end`
abbrev pub listing : Code → List ℕ
listing made = codes "code\n" ++ each_from (op_listing made.source) 0 made.ops ++ codes "end\n"
