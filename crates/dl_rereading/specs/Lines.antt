-- A tree without its lines: two trees are the same but for their lines where they are the same without them.
use Rattle.std.specs.Prelude.{map}
use Rattle.dl_grammar.specs.declared.tree.Tree.{Tree}
use Rattle.dl_grammar.specs.declared.tree.Word.{Word}
use Rattle.dl_grammar.specs.declared.tree.TreeField.{TreeField}
use Rattle.dl_grammar.specs.declared.tree.TreeKind.{TreeKind}
use Rattle.dl_grammar.specs.declared.tree.TreeOp.{TreeOp}
use Rattle.dl_grammar.specs.declared.tree.TreeStmt.{TreeStmt, TreeStmt-F, roll-TreeStmt}
use Rattle.dl_grammar.specs.declared.tree.What.{What, What-F}
use Rattle.dl_grammar.specs.declared.tree.What.TheVariants as what
use Rattle.dl_grammar.specs.declared.tree.What.TheFolds.{fold-TreeStmt}
use Rattle.dl_grammar.specs.declared.tree.Rhs.{Rhs}
use Rattle.dl_grammar.specs.declared.tree.Rhs.TheVariants as rhs
use Rattle.dl_grammar.specs.declared.tree.Side.{Side}
use Rattle.dl_grammar.specs.declared.tree.Side.TheVariants as side
use Rattle.dl_grammar.specs.declared.tree.TreeCond.{TreeCond}
use Rattle.dl_grammar.specs.declared.tree.TreeExpr.{TreeExpr, TreeExpr-F}
use Rattle.dl_grammar.specs.declared.tree.TreeExpr.TheVariants as e
use Rattle.dl_grammar.specs.declared.tree.TreeExpr.TheFolds.{fold-TreeExpr}

-- a word at line 0
abbrev pub unlined_word : Word → Word
unlined_word word = record { text = word.text; line = 0 }

-- a field, a parameter or a var
abbrev pub unlined_field : TreeField → TreeField
unlined_field field = record { name = unlined_word field.name; ty = unlined_word field.ty }

-- one level of an expression
abbrev pub unlined_expr_step : TreeExpr-F TreeExpr → TreeExpr
unlined_expr_step (TreeExpr-F.Num n) = e.Num n
unlined_expr_step (TreeExpr-F.Name word) = e.Name (unlined_word word)
unlined_expr_step (TreeExpr-F.Neg a) = e.Neg a
unlined_expr_step (TreeExpr-F.Bin op a b) = e.Bin op a b

-- an expression
abbrev pub unlined_expr : TreeExpr → TreeExpr
unlined_expr = fold-TreeExpr TreeExpr unlined_expr_step

-- what is stored, or a side of a condition
abbrev pub unlined_side : Side → Side
unlined_side side.Null = side.Null
unlined_side (side.Sum a) = side.Sum (unlined_expr a)

-- a condition
abbrev pub unlined_cond : TreeCond → TreeCond
unlined_cond c = record { rel = c.rel; left = unlined_side c.left; right = unlined_side c.right }

-- the right side of an assignment
abbrev pub unlined_rhs : Rhs → Rhs
unlined_rhs rhs.Null = rhs.Null
unlined_rhs (rhs.New kind) = rhs.New (unlined_word kind)
unlined_rhs (rhs.Field p f) = rhs.Field (unlined_word p) (unlined_word f)
unlined_rhs (rhs.Sum a) = rhs.Sum (unlined_expr a)

-- one level of a statement
abbrev pub unlined_what_step : What-F What TreeStmt → What
unlined_what_step (What-F.Assign x right) = what.Assign (unlined_word x) (unlined_rhs right)
unlined_what_step (What-F.Store p f right) = what.Store (unlined_word p) (unlined_word f) (unlined_side right)
unlined_what_step (What-F.If c yes_block no_block) = what.If (unlined_cond c) yes_block no_block
unlined_what_step (What-F.While c body) = what.While (unlined_cond c) body
unlined_what_step (What-F.Return a) = what.Return (unlined_expr a)
unlined_what_step (What-F.Emit a) = what.Emit (unlined_expr a)

-- a statement at line 0
abbrev pub unlined_stmt : TreeStmt → TreeStmt
unlined_stmt = fold-TreeStmt What TreeStmt unlined_what_step (λ (s : TreeStmt-F What TreeStmt). roll-TreeStmt (record { line = 0; what = s.what }))

-- a kind
abbrev pub unlined_kind : TreeKind → TreeKind
unlined_kind kind = record { name = unlined_word kind.name; is_root = kind.is_root; count = kind.count; fields = map unlined_field kind.fields }

-- an operation
abbrev pub unlined_op : TreeOp → TreeOp
unlined_op op = record {
  name = unlined_word op.name;
  params = map unlined_field op.params;
  vars = map unlined_field op.vars;
  allocs = op.allocs;
  fuel = op.fuel;
  body = map unlined_stmt op.body;
}

-- a tree
abbrev pub unlined : Tree → Tree
unlined tree = record { version = tree.version; kinds = map unlined_kind tree.kinds; ops = map unlined_op tree.ops; last = 0 }
