-- What the statements of an operation are, by rules: one for each form and one for each fault.
use Rattle.std.specs.Prelude.{◌≡◌, ℕ, ℤ, Bool, true, false, List, [], ◌∷◌, slice_get, Option, Some, None, Result, Ok, Err}
use Rattle.dl_ir.specs.declared.expressions.Cond.{Cond}
use Rattle.dl_ir.specs.declared.expressions.Cond.TheVariants as cond
use Rattle.dl_ir.specs.declared.expressions.Expr.{Expr}
use Rattle.dl_ir.specs.declared.expressions.Expr.TheVariants as expr
use Rattle.dl_ir.specs.declared.expressions.Op.{Op}
use Rattle.dl_ir.specs.declared.expressions.RefSide.TheVariants as ref_side
use Rattle.dl_ir.specs.declared.expressions.Rel.{Rel}
use Rattle.dl_ir.specs.declared.expressions.Rel.TheVariants as rel
use Rattle.dl_ir.specs.declared.modules.FieldDecl.{FieldDecl}
use Rattle.dl_ir.specs.declared.modules.KindDecl.{KindDecl}
use Rattle.dl_ir.specs.declared.modules.LocalDecl.{LocalDecl}
use Rattle.dl_ir.specs.declared.modules.Ty.{Ty}
use Rattle.dl_ir.specs.declared.modules.Ty.TheVariants.{Int, Of}
use Rattle.dl_ir.specs.declared.statements.Stmt.{Stmt}
use Rattle.dl_ir.specs.declared.statements.Stmt.TheVariants as stmt
use Rattle.dl_grammar.specs.declared.tree.Rhs.{Rhs}
use Rattle.dl_grammar.specs.declared.tree.Rhs.TheVariants as rhs
use Rattle.dl_grammar.specs.declared.tree.Side.{Side}
use Rattle.dl_grammar.specs.declared.tree.Side.TheVariants as side
use Rattle.dl_grammar.specs.declared.tree.TreeCond.{TreeCond}
use Rattle.dl_grammar.specs.declared.tree.TreeExpr.{TreeExpr}
use Rattle.dl_grammar.specs.declared.tree.TreeExpr.TheVariants as tree
use Rattle.dl_grammar.specs.declared.tree.TreeStmt.{TreeStmt}
use Rattle.dl_grammar.specs.declared.tree.What.{What}
use Rattle.dl_grammar.specs.declared.tree.What.TheVariants as what
use Rattle.dl_grammar.specs.declared.tree.Word.{Word}
use Rattle.dl_types.specs.declared.fault.TypeFault.{TypeFault}
use Rattle.dl_types.specs.declared.fault.TypeFault.TheVariants.{Unknown, KindClash, NewRoot, AssignRoot}
use Rattle.dl_types.specs.declared.operands.Given.{Given}
use Rattle.dl_types.specs.declared.operands.Given.TheVariants as given
use Rattle.dl_types.specs.DeclarationRules.{IsNamed, IsUnnamed, field_name, local_name, kind_name}
use Rattle.dl_types.specs.Statements.{both, negated}

-- What an expression of numbers is: the expression, or none where a local in it holds a reference, or the first unknown name.
pub data IsNumber (locals : List LocalDecl) : TreeExpr → Result (Option Expr) TypeFault → Type 0 where
  number : (n : ℤ) → IsNumber locals (tree.Num n) (Ok (Some (expr.Num n)))
  local : {word : Word} {x : ℕ} {decl : LocalDecl} → IsNamed local_name locals word.text x decl → decl.ty ≡ Int → IsNumber locals (tree.Name word) (Ok (Some (expr.Local x)))
  reference : {word : Word} {p kind : ℕ} {decl : LocalDecl} → IsNamed local_name locals word.text p decl → decl.ty ≡ Of kind → IsNumber locals (tree.Name word) (Ok None)
  unknown : {word : Word} → IsUnnamed local_name locals word.text → IsNumber locals (tree.Name word) (Err (Unknown word.line))
  negation : {e : TreeExpr} {a : Option Expr} → IsNumber locals e (Ok a) → IsNumber locals (tree.Neg e) (Ok (negated a))
  negation_fault : {e : TreeExpr} {fault : TypeFault} → IsNumber locals e (Err fault) → IsNumber locals (tree.Neg e) (Err fault)
  operation : (op : Op) {left right : TreeExpr} {a b : Option Expr} → IsNumber locals left (Ok a) → IsNumber locals right (Ok b)
      → IsNumber locals (tree.Bin op left right) (Ok (both op a b))
  left_fault : (op : Op) {left : TreeExpr} (right : TreeExpr) {fault : TypeFault} → IsNumber locals left (Err fault) → IsNumber locals (tree.Bin op left right) (Err fault)
  right_fault : (op : Op) {left right : TreeExpr} {a : Option Expr} {fault : TypeFault} → IsNumber locals left (Ok a) → IsNumber locals right (Err fault)
      → IsNumber locals (tree.Bin op left right) (Err fault)

-- What an expression is that may name an object: a local alone may refer to one. What fits nowhere is unfit.
pub data IsSum (locals : List LocalDecl) : TreeExpr → Result Given TypeFault → Type 0 where
  reference : {word : Word} {p kind : ℕ} {decl : LocalDecl} → IsNamed local_name locals word.text p decl → decl.ty ≡ Of kind
      → IsSum locals (tree.Name word) (Ok (given.Reference p kind))
  number : {e : TreeExpr} {value : Expr} → IsNumber locals e (Ok (Some value)) → IsSum locals e (Ok (given.Number value))
  unfit : {e : TreeExpr} → ((word : Word) → e ≡ tree.Name word → ⊥) → IsNumber locals e (Ok None) → IsSum locals e (Ok given.Unfit)
  unknown : {e : TreeExpr} {fault : TypeFault} → IsNumber locals e (Err fault) → IsSum locals e (Err fault)

-- What is stored, or a side of a condition.
pub data IsSide (locals : List LocalDecl) : Side → Result Given TypeFault → Type 0 where
  null : IsSide locals side.Null (Ok given.Null)
  sum : {e : TreeExpr} {outcome : Result Given TypeFault} → IsSum locals e outcome → IsSide locals (side.Sum e) outcome

-- the kind of this number has no field of this name
abbrev pub HasNoField : List KindDecl → ℕ → List ℕ → Type 0
HasNoField kinds k text = (kind : KindDecl) → slice_get kinds k ≡ Some kind → IsUnnamed field_name kind.fields text

-- The field of a local: the local is tested first, then the field of its kind. A local that holds a number has no field.
pub data IsPlace (kinds : List KindDecl) (locals : List LocalDecl) (p f : Word) : Result Given TypeFault → Type 0 where
  unknown_local : IsUnnamed local_name locals p.text → IsPlace kinds locals p f (Err (Unknown p.line))
  of_number : {x : ℕ} {decl : LocalDecl} → IsNamed local_name locals p.text x decl → decl.ty ≡ Int → IsPlace kinds locals p f (Ok given.Unfit)
  unknown_field : {x number : ℕ} {decl : LocalDecl} → IsNamed local_name locals p.text x decl → decl.ty ≡ Of number → HasNoField kinds number f.text
      → IsPlace kinds locals p f (Err (Unknown f.line))
  field : {x number at : ℕ} {decl : LocalDecl} {kind : KindDecl} {field : FieldDecl} → IsNamed local_name locals p.text x decl → decl.ty ≡ Of number
      → slice_get kinds number ≡ Some kind → IsNamed field_name kind.fields f.text at field → IsPlace kinds locals p f (Ok (given.Field x at field.ty))

-- The right side of an assignment.
pub data IsRight (kinds : List KindDecl) (locals : List LocalDecl) : Rhs → Result Given TypeFault → Type 0 where
  null : IsRight kinds locals rhs.Null (Ok given.Null)
  new : {word : Word} {number : ℕ} {kind : KindDecl} → IsNamed kind_name kinds word.text number kind → IsRight kinds locals (rhs.New word) (Ok (given.New number))
  unknown_kind : {word : Word} → IsUnnamed kind_name kinds word.text → IsRight kinds locals (rhs.New word) (Err (Unknown word.line))
  field : {p f : Word} {outcome : Result Given TypeFault} → IsPlace kinds locals p f outcome → IsRight kinds locals (rhs.Field p f) outcome
  sum : {e : TreeExpr} {outcome : Result Given TypeFault} → IsSum locals e outcome → IsRight kinds locals (rhs.Sum e) outcome

-- The assignments whose types fit.
pub data Assigns : ℕ → Ty → Given → Stmt → Type 0 where
  null : {p kind : ℕ} → Assigns p (Of kind) given.Null (stmt.Null p)
  new : {p kind : ℕ} → Assigns p (Of kind) (given.New kind) (stmt.New p kind)
  load : {x p f : ℕ} → Assigns x Int (given.Field p f Int) (stmt.Load x p f)
  follow : {p q f kind : ℕ} → Assigns p (Of kind) (given.Field q f (Of kind)) (stmt.Follow p q f)
  number : {x : ℕ} {e : Expr} → Assigns x Int (given.Number e) (stmt.SetInt x e)
  copy : {p q kind : ℕ} → Assigns p (Of kind) (given.Reference q kind) (stmt.Copy p q)

-- The stores whose types fit.
pub data Stores : Given → Given → Stmt → Type 0 where
  number : {p f : ℕ} {e : Expr} → Stores (given.Field p f Int) (given.Number e) (stmt.Store p f e)
  null : {q f kind : ℕ} → Stores (given.Field q f (Of kind)) given.Null (stmt.Cut q f)
  link : {q f p kind : ℕ} → Stores (given.Field q f (Of kind)) (given.Reference p kind) (stmt.Link q f p)

-- References are compared by `==` and `!=`.
pub data IsSameness : Rel → Bool → Type 0 where
  equal : IsSameness rel.Equal true
  not_equal : IsSameness rel.NotEqual false

-- The comparisons whose types fit.
pub data Compares : Rel → Given → Given → Cond → Type 0 where
  numbers : {r : Rel} {a b : Expr} → Compares r (given.Number a) (given.Number b) (cond.Ints r a b)
  references : {r : Rel} {same : Bool} {p q kind : ℕ} → IsSameness r same
      → Compares r (given.Reference p kind) (given.Reference q kind) (cond.Refs same (ref_side.Local p) (ref_side.Local q))
  null_right : {r : Rel} {same : Bool} {p kind : ℕ} → IsSameness r same → Compares r (given.Reference p kind) given.Null (cond.Refs same (ref_side.Local p) ref_side.Null)
  null_left : {r : Rel} {same : Bool} {p kind : ℕ} → IsSameness r same → Compares r given.Null (given.Reference p kind) (cond.Refs same ref_side.Null (ref_side.Local p))

-- a type is that of references to a root kind
pub record RefersToRoot (kinds : List KindDecl) (ty : Ty) : Type 0 where
  pub number : ℕ
  pub is_kind : ty ≡ Of number
  pub kind : KindDecl
  pub there : slice_get kinds number ≡ Some kind
  pub is_root : kind.is_root ≡ true

-- a new object of a root kind is given
pub record IsNewRoot (kinds : List KindDecl) (right : Given) : Type 0 where
  pub number : ℕ
  pub is_new : right ≡ given.New number
  pub kind : KindDecl
  pub there : slice_get kinds number ≡ Some kind
  pub is_root : kind.is_root ≡ true

-- the names of an assignment are known: the local, and what stands on the right side
pub record HasParts (kinds : List KindDecl) (locals : List LocalDecl) (x : Word) (right : Rhs) (at : ℕ) (ty : Ty) (what : Given) : Type 0 where
  pub decl : LocalDecl
  pub is_local : IsNamed local_name locals x.text at decl
  pub of_type : decl.ty ≡ ty
  pub is_right : IsRight kinds locals right (Ok what)

-- An assignment in a line. Its faults are tested in this order: a name that is not declared, a root parameter that is set to anything but null,
-- `new` of a root kind, types that do not fit.
pub data IsAssign (kinds : List KindDecl) (locals : List LocalDecl) (line : ℕ) (x : Word) (right : Rhs) : Result Stmt TypeFault → Type 0 where
  unknown_local : IsUnnamed local_name locals x.text → IsAssign kinds locals line x right (Err (Unknown x.line))
  unknown_right : {at : ℕ} {decl : LocalDecl} {fault : TypeFault} → IsNamed local_name locals x.text at decl → IsRight kinds locals right (Err fault)
      → IsAssign kinds locals line x right (Err fault)
  assign_root : {at : ℕ} {ty : Ty} {what : Given} → HasParts kinds locals x right at ty what → RefersToRoot kinds ty → (what ≡ given.Null → ⊥)
      → IsAssign kinds locals line x right (Err (AssignRoot line))
  new_root : {at : ℕ} {ty : Ty} {what : Given} → HasParts kinds locals x right at ty what → (RefersToRoot kinds ty → ⊥) → IsNewRoot kinds what
      → IsAssign kinds locals line x right (Err (NewRoot line))
  clash : {at : ℕ} {ty : Ty} {what : Given} → HasParts kinds locals x right at ty what → (RefersToRoot kinds ty → what ≡ given.Null) → (IsNewRoot kinds what → ⊥)
      → ((s : Stmt) → Assigns at ty what s → ⊥) → IsAssign kinds locals line x right (Err (KindClash line))
  fits : {at : ℕ} {ty : Ty} {what : Given} {s : Stmt} → HasParts kinds locals x right at ty what → (RefersToRoot kinds ty → what ≡ given.Null) → (IsNewRoot kinds what → ⊥)
      → Assigns at ty what s → IsAssign kinds locals line x right (Ok s)

-- A store in a line: its names from left to right, then its types.
pub data IsStore (kinds : List KindDecl) (locals : List LocalDecl) (line : ℕ) (p f : Word) (right : Side) : Result Stmt TypeFault → Type 0 where
  unknown_place : {fault : TypeFault} → IsPlace kinds locals p f (Err fault) → IsStore kinds locals line p f right (Err fault)
  unknown_right : {place : Given} {fault : TypeFault} → IsPlace kinds locals p f (Ok place) → IsSide locals right (Err fault) → IsStore kinds locals line p f right (Err fault)
  clash : {place what : Given} → IsPlace kinds locals p f (Ok place) → IsSide locals right (Ok what) → ((s : Stmt) → Stores place what s → ⊥)
      → IsStore kinds locals line p f right (Err (KindClash line))
  fits : {place what : Given} {s : Stmt} → IsPlace kinds locals p f (Ok place) → IsSide locals right (Ok what) → Stores place what s
      → IsStore kinds locals line p f right (Ok s)

-- A condition of a statement that begins in this line: its names from left to right, then its types.
pub data IsCond (locals : List LocalDecl) (line : ℕ) (c : TreeCond) : Result Cond TypeFault → Type 0 where
  unknown_left : {fault : TypeFault} → IsSide locals c.left (Err fault) → IsCond locals line c (Err fault)
  unknown_right : {a : Given} {fault : TypeFault} → IsSide locals c.left (Ok a) → IsSide locals c.right (Err fault) → IsCond locals line c (Err fault)
  clash : {a b : Given} → IsSide locals c.left (Ok a) → IsSide locals c.right (Ok b) → ((test : Cond) → Compares c.rel a b test → ⊥) → IsCond locals line c (Err (KindClash line))
  fits : {a b : Given} {test : Cond} → IsSide locals c.left (Ok a) → IsSide locals c.right (Ok b) → Compares c.rel a b test → IsCond locals line c (Ok test)

-- The number that is returned or emitted in a line.
pub data IsValue (locals : List LocalDecl) (line : ℕ) (e : TreeExpr) : Result Expr TypeFault → Type 0 where
  unknown : {fault : TypeFault} → IsNumber locals e (Err fault) → IsValue locals line e (Err fault)
  clash : IsNumber locals e (Ok None) → IsValue locals line e (Err (KindClash line))
  fits : {value : Expr} → IsNumber locals e (Ok (Some value)) → IsValue locals line e (Ok value)

mutual
  -- A statement that begins in a line. A condition is tested before the blocks.
  pub data IsWhat (kinds : List KindDecl) (locals : List LocalDecl) : What → ℕ → Result Stmt TypeFault → Type 0 where
    assign : {x : Word} {right : Rhs} {line : ℕ} {outcome : Result Stmt TypeFault} → IsAssign kinds locals line x right outcome → IsWhat kinds locals (what.Assign x right) line outcome
    store : {p f : Word} {right : Side} {line : ℕ} {outcome : Result Stmt TypeFault} → IsStore kinds locals line p f right outcome → IsWhat kinds locals (what.Store p f right) line outcome
    if_fault : {c : TreeCond} (then_block else_block : List TreeStmt) {line : ℕ} {fault : TypeFault} → IsCond locals line c (Err fault) → IsWhat kinds locals (what.If c then_block else_block) line (Err fault)
    then_fault : {c : TreeCond} {then_block : List TreeStmt} (else_block : List TreeStmt) {line : ℕ} {test : Cond} {fault : TypeFault} → IsCond locals line c (Ok test)
        → IsBlock kinds locals then_block (Err fault) → IsWhat kinds locals (what.If c then_block else_block) line (Err fault)
    else_fault : {c : TreeCond} {then_block else_block : List TreeStmt} {line : ℕ} {test : Cond} {first : List Stmt} {fault : TypeFault} → IsCond locals line c (Ok test)
        → IsBlock kinds locals then_block (Ok first) → IsBlock kinds locals else_block (Err fault) → IsWhat kinds locals (what.If c then_block else_block) line (Err fault)
    choice : {c : TreeCond} {then_block else_block : List TreeStmt} {line : ℕ} {test : Cond} {first second : List Stmt} → IsCond locals line c (Ok test)
        → IsBlock kinds locals then_block (Ok first) → IsBlock kinds locals else_block (Ok second) → IsWhat kinds locals (what.If c then_block else_block) line (Ok (stmt.If test first second))
    while_fault : {c : TreeCond} (body : List TreeStmt) {line : ℕ} {fault : TypeFault} → IsCond locals line c (Err fault) → IsWhat kinds locals (what.While c body) line (Err fault)
    body_fault : {c : TreeCond} {body : List TreeStmt} {line : ℕ} {test : Cond} {fault : TypeFault} → IsCond locals line c (Ok test)
        → IsBlock kinds locals body (Err fault) → IsWhat kinds locals (what.While c body) line (Err fault)
    loop : {c : TreeCond} {body : List TreeStmt} {line : ℕ} {test : Cond} {block : List Stmt} → IsCond locals line c (Ok test)
        → IsBlock kinds locals body (Ok block) → IsWhat kinds locals (what.While c body) line (Ok (stmt.While test block))
    return : {e : TreeExpr} {line : ℕ} {value : Expr} → IsValue locals line e (Ok value) → IsWhat kinds locals (what.Return e) line (Ok (stmt.Return value))
    return_fault : {e : TreeExpr} {line : ℕ} {fault : TypeFault} → IsValue locals line e (Err fault) → IsWhat kinds locals (what.Return e) line (Err fault)
    emit : {e : TreeExpr} {line : ℕ} {value : Expr} → IsValue locals line e (Ok value) → IsWhat kinds locals (what.Emit e) line (Ok (stmt.Emit value))
    emit_fault : {e : TreeExpr} {line : ℕ} {fault : TypeFault} → IsValue locals line e (Err fault) → IsWhat kinds locals (what.Emit e) line (Err fault)

  -- A block: the first fault of its statements, or what they are.
  pub data IsBlock (kinds : List KindDecl) (locals : List LocalDecl) : List TreeStmt → Result (List Stmt) TypeFault → Type 0 where
    end : IsBlock kinds locals [] (Ok [])
    fault : {s : TreeStmt} {more : List TreeStmt} {why : TypeFault} → IsWhat kinds locals s.what s.line (Err why) → IsBlock kinds locals (s ∷ more) (Err why)
    later_fault : {s : TreeStmt} {more : List TreeStmt} {one : Stmt} {why : TypeFault} → IsWhat kinds locals s.what s.line (Ok one) → IsBlock kinds locals more (Err why)
        → IsBlock kinds locals (s ∷ more) (Err why)
    goes_on : {s : TreeStmt} {more : List TreeStmt} {one : Stmt} {rest : List Stmt} → IsWhat kinds locals s.what s.line (Ok one) → IsBlock kinds locals more (Ok rest)
        → IsBlock kinds locals (s ∷ more) (Ok (one ∷ rest))
