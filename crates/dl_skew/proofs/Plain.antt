-- Blocks of a tree as plain data, whose types compute. The names in a statement stand in its line.
use Rattle.std.proofs.Common.{◌≡◌, ℕ, ℤ, List, [], ◌∷◌, ◌++◌, map, refl, ap, ◌∙◌, Some, Ok, Err}
use Rattle.std.specs.Prelude.{Result}
use Rattle.dl_ir.specs.declared.expressions.Cond.{Cond}
use Rattle.dl_ir.specs.declared.expressions.Expr.TheVariants as expr
use Rattle.dl_ir.specs.declared.expressions.Rel.{Rel}
use Rattle.dl_ir.specs.declared.modules.KindDecl.{KindDecl}
use Rattle.dl_ir.specs.declared.modules.LocalDecl.{LocalDecl}
use Rattle.dl_ir.specs.declared.statements.Stmt.{Stmt}
use Rattle.dl_ir.specs.declared.statements.Stmt.TheVariants as stmt
use Rattle.dl_grammar.specs.declared.tree.Rhs.{Rhs}
use Rattle.dl_grammar.specs.declared.tree.Rhs.TheVariants as rhs
use Rattle.dl_grammar.specs.declared.tree.Side.{Side}
use Rattle.dl_grammar.specs.declared.tree.Side.TheVariants as side
use Rattle.dl_grammar.specs.declared.tree.TreeCond.{TreeCond}
use Rattle.dl_grammar.specs.declared.tree.TreeExpr.{TreeExpr, TreeExpr-F, out-TreeExpr}
use Rattle.dl_grammar.specs.declared.tree.TreeExpr.TheFolds.{map-TreeExpr, fold_out-TreeExpr}
use Rattle.dl_grammar.specs.declared.tree.TreeExpr.TheVariants as tree
use Rattle.dl_grammar.specs.declared.tree.TreeStmt.{TreeStmt, TreeStmt-F, roll-TreeStmt}
use Rattle.dl_grammar.specs.declared.tree.What.{What, What-F, out-What}
use Rattle.dl_grammar.specs.declared.tree.What.TheFolds.{fold-What, fold-roll-TreeStmt, fold_out-What, map-What}
use Rattle.dl_grammar.specs.declared.tree.What.TheVariants as what
use Rattle.dl_grammar.specs.declared.tree.Word.{Word}
use Rattle.dl_types.specs.declared.fault.TypeFault.{TypeFault}
use Rattle.dl_types.specs.declared.fault.TypeFault.TheVariants.{KindClash}
use Rattle.dl_types.specs.declared.operands.Given.TheVariants as given
use Rattle.dl_types.specs.Checks.{◌>>=◌, or_fault, each}
use Rattle.dl_types.specs.Statements.{local_typed, number_local, negated, Numbers, number_step, number_typed, Operand, local_given, number_given, sum_in, sum_given, side_given, place_given, rhs_given, assign_checked, assign_typed, stored, store_typed, compared, cond_typed, return_typed, Typed, what_step, stmt_typed, block_typed}

-- a name in a line
abbrev pub word : ℕ → List ℕ → Word
word line text = record { text = text; line = line }

-- an expression without operations of two sides
pub data Part : Type 0 where
  Named : List ℕ → Part
  Number : ℤ → Part
  Negated : Part → Part

-- what is stored, or a side of a condition
pub data Item : Type 0 where
  Nothing : Item
  Sum : Part → Item

-- the right side of an assignment
pub data Right : Type 0 where
  Null : Right
  New : List ℕ → Right
  Field : List ℕ → List ℕ → Right
  Given : Part → Right

-- the statements of a block, each with its line and those behind it
pub data Plain : Type 0 where
  End : Plain
  Assign : ℕ → List ℕ → Right → Plain → Plain
  Store : ℕ → List ℕ → List ℕ → Item → Plain → Plain
  If : ℕ → Rel → Item → Item → Plain → Plain → Plain → Plain
  While : ℕ → Rel → Item → Item → Plain → Plain → Plain
  Return : ℕ → Part → Plain → Plain

-- ---- the trees of plain data
abbrev pub part_tree : ℕ → Part → TreeExpr
part_tree line (Named text) = tree.Name (word line text)
part_tree line (Number n) = tree.Num n
part_tree line (Negated part) = tree.Neg (part_tree line part)

abbrev pub item_tree : ℕ → Item → Side
item_tree line Nothing = side.Null
item_tree line (Sum part) = side.Sum (part_tree line part)

abbrev pub right_tree : ℕ → Right → Rhs
right_tree line Null = rhs.Null
right_tree line (New kind) = rhs.New (word line kind)
right_tree line (Field p f) = rhs.Field (word line p) (word line f)
right_tree line (Given part) = rhs.Sum (part_tree line part)

abbrev pub cond_tree : ℕ → Rel → Item → Item → TreeCond
cond_tree line rel a b = record { rel = rel; left = item_tree line a; right = item_tree line b }

abbrev in_tree : ℕ → What → TreeStmt
in_tree line w = roll-TreeStmt (record { line = line; what = w })

abbrev pub block_tree : Plain → List TreeStmt
block_tree End = []
block_tree (Assign line x right more) = in_tree line (what.Assign (word line x) (right_tree line right)) ∷ block_tree more
block_tree (Store line p f item more) = in_tree line (what.Store (word line p) (word line f) (item_tree line item)) ∷ block_tree more
block_tree (If line rel a b then_block else_block more) = in_tree line (what.If (cond_tree line rel a b) (block_tree then_block) (block_tree else_block)) ∷ block_tree more
block_tree (While line rel a b body more) = in_tree line (what.While (cond_tree line rel a b) (block_tree body)) ∷ block_tree more
block_tree (Return line part more) = in_tree line (what.Return (part_tree line part)) ∷ block_tree more

-- the same value, and then the same
after : {A B : Type 0} (r : Result A TypeFault) (f g : A → Result B TypeFault) → ((a : A) → f a ≡ g a) → (r >>= f) ≡ (r >>= g)
after (Ok a) f g same = same a
after (Err fault) f g same = refl

module _ (kinds : List KindDecl) (params vars : List LocalDecl) where
  -- ---- expressions
  abbrev number : ℕ → Part → Numbers
  number line (Named text) = local_typed params vars (word line text) >>= λ local. Ok (number_local local.0 local.1)
  number line (Number n) = Ok (Some (expr.Num n))
  number line (Negated part) = number line part >>= λ a. Ok (negated a)

  level : (e : TreeExpr) (l : TreeExpr-F TreeExpr) → out-TreeExpr e ≡ l → number_typed params vars e ≡ number_step params vars (map-TreeExpr TreeExpr Numbers (number_typed params vars) l)
  level e l is = fold_out-TreeExpr Numbers (number_step params vars) e ∙ ap (λ (m : TreeExpr-F TreeExpr). number_step params vars (map-TreeExpr TreeExpr Numbers (number_typed params vars) m)) is

  number_is : (line : ℕ) (part : Part) → number_typed params vars (part_tree line part) ≡ number line part
  number_is line (Named text) = level (tree.Name (word line text)) (TreeExpr-F.Name (word line text)) (tree.outs-Name (word line text))
  number_is line (Number n) = level (tree.Num n) (TreeExpr-F.Num n) (tree.outs-Num n)
  number_is line (Negated part) =
      level (tree.Neg (part_tree line part)) (TreeExpr-F.Neg (part_tree line part)) (tree.outs-Neg (part_tree line part)) ∙ ap (λ (r : Numbers). r >>= λ a. Ok (negated a)) (number_is line part)

  abbrev part_given : ℕ → Part → Operand
  part_given line (Named text) = local_typed params vars (word line text) >>= λ local. Ok (local_given local.0 local.1)
  part_given line (Number n) = Ok (given.Number (expr.Num n))
  part_given line (Negated part) = number line (Negated part) >>= λ e. Ok (number_given e)

  sum_level : (line : ℕ) (part : Part) (l : TreeExpr-F TreeExpr) → out-TreeExpr (part_tree line part) ≡ l → sum_given params vars (part_tree line part) ≡ sum_in params vars (number line part) l
  sum_level line part l is =
      ap (sum_in params vars (number_typed params vars (part_tree line part))) is ∙ ap (λ (r : Numbers). sum_in params vars r l) (number_is line part)

  part_is : (line : ℕ) (part : Part) → sum_given params vars (part_tree line part) ≡ part_given line part
  part_is line (Named text) = sum_level line (Named text) (TreeExpr-F.Name (word line text)) (tree.outs-Name (word line text))
  part_is line (Number n) = sum_level line (Number n) (TreeExpr-F.Num n) (tree.outs-Num n)
  part_is line (Negated part) = sum_level line (Negated part) (TreeExpr-F.Neg (part_tree line part)) (tree.outs-Neg (part_tree line part))

  abbrev item_given : ℕ → Item → Operand
  item_given line Nothing = Ok given.Null
  item_given line (Sum part) = part_given line part

  item_is : (line : ℕ) (item : Item) → side_given params vars (item_tree line item) ≡ item_given line item
  item_is line Nothing = refl
  item_is line (Sum part) = part_is line part

  abbrev right_given : ℕ → Right → Operand
  right_given line Null = Ok given.Null
  right_given line (New kind) = rhs_given kinds params vars (rhs.New (word line kind))
  right_given line (Field p f) = place_given kinds params vars (word line p) (word line f)
  right_given line (Given part) = part_given line part

  right_is : (line : ℕ) (right : Right) → rhs_given kinds params vars (right_tree line right) ≡ right_given line right
  right_is line Null = refl
  right_is line (New kind) = refl
  right_is line (Field p f) = refl
  right_is line (Given part) = part_is line part

  -- ---- statements
  abbrev assigned : ℕ → List ℕ → Right → Typed
  assigned line x right = local_typed params vars (word line x) >>= λ local. right_given line right >>= λ what. assign_checked kinds line local what

  assign_is : (line : ℕ) (x : List ℕ) (right : Right) → assign_typed kinds params vars line (word line x) (right_tree line right) ≡ assigned line x right
  assign_is line x right = ap (λ (o : Operand). local_typed params vars (word line x) >>= λ local. o >>= λ what. assign_checked kinds line local what) (right_is line right)

  abbrev put : ℕ → List ℕ → List ℕ → Item → Typed
  put line p f item = place_given kinds params vars (word line p) (word line f) >>= λ place. item_given line item >>= λ what. or_fault (stored place what) (KindClash line)

  put_is : (line : ℕ) (p f : List ℕ) (item : Item) → store_typed kinds params vars line (word line p) (word line f) (item_tree line item) ≡ put line p f item
  put_is line p f item = ap (λ (o : Operand). place_given kinds params vars (word line p) (word line f) >>= λ place. o >>= λ what. or_fault (stored place what) (KindClash line)) (item_is line item)

  abbrev tested : ℕ → Rel → Item → Item → Result Cond TypeFault
  tested line rel a b = item_given line a >>= λ x. item_given line b >>= λ y. or_fault (compared rel x y) (KindClash line)

  tested_is : (line : ℕ) (rel : Rel) (a b : Item) → cond_typed params vars line (cond_tree line rel a b) ≡ tested line rel a b
  tested_is line rel a b =
      ap (λ (o : Operand). o >>= λ x. side_given params vars (item_tree line b) >>= λ y. or_fault (compared rel x y) (KindClash line)) (item_is line a)
      ∙ ap (λ (o : Operand). item_given line a >>= λ x. o >>= λ y. or_fault (compared rel x y) (KindClash line)) (item_is line b)

  abbrev returned : ℕ → Part → Typed
  returned line part = number line part >>= λ n. or_fault n (KindClash line) >>= λ value. Ok (stmt.Return value)

  returned_is : (line : ℕ) (part : Part) → return_typed params vars line (part_tree line part) ≡ returned line part
  returned_is line part = ap (λ (r : Numbers). r >>= λ n. or_fault n (KindClash line) >>= λ value. Ok (stmt.Return value)) (number_is line part)

  -- ---- blocks
  -- the statements of a block behind those that were typed
  abbrev typed_behind : List Stmt → Plain → Result (List Stmt) TypeFault
  typed_behind done End = Ok done
  typed_behind done (Assign line x right more) = assigned line x right >>= λ one. typed_behind (done ++ one ∷ []) more
  typed_behind done (Store line p f item more) = put line p f item >>= λ one. typed_behind (done ++ one ∷ []) more
  typed_behind done (If line rel a b then_block else_block more) =
      (tested line rel a b >>= λ test. typed_behind [] then_block >>= λ first. typed_behind [] else_block >>= λ second. Ok (stmt.If test first second)) >>= λ one. typed_behind (done ++ one ∷ []) more
  typed_behind done (While line rel a b body more) =
      (tested line rel a b >>= λ test. typed_behind [] body >>= λ block. Ok (stmt.While test block)) >>= λ one. typed_behind (done ++ one ∷ []) more
  typed_behind done (Return line part more) = returned line part >>= λ one. typed_behind (done ++ one ∷ []) more

  abbrev in_line : TreeStmt-F (ℕ → Typed) Typed → Typed
  in_line s = s.what s.line

  abbrev what_typed : What → ℕ → Typed
  what_typed = fold-What (ℕ → Typed) Typed (what_step kinds params vars) in_line

  -- a statement of the tree is typed by its form
  form_is : (line : ℕ) (w : What) (l : What-F What TreeStmt) → out-What w ≡ l
      → stmt_typed kinds params vars (in_tree line w) ≡ what_step kinds params vars (map-What What TreeStmt (ℕ → Typed) Typed what_typed (stmt_typed kinds params vars) l) line
  form_is line w l is =
      fold-roll-TreeStmt (ℕ → Typed) Typed (what_step kinds params vars) in_line (record { line = line; what = w })
      ∙ ap (λ (r : ℕ → Typed). r line) (fold_out-What (ℕ → Typed) Typed (what_step kinds params vars) in_line w)
      ∙ ap (λ (m : What-F What TreeStmt). what_step kinds params vars (map-What What TreeStmt (ℕ → Typed) Typed what_typed (stmt_typed kinds params vars) m) line) is

  -- the statements of a tree behind those that were typed
  abbrev tree_behind : List Stmt → List TreeStmt → Result (List Stmt) TypeFault
  tree_behind done block = each (λ before one. one) done (map (stmt_typed kinds params vars) block)

  one_more : (done : List Stmt) (s : TreeStmt) (r : Typed) (more : Plain) → stmt_typed kinds params vars s ≡ r → ((next : List Stmt) → tree_behind next (block_tree more) ≡ typed_behind next more)
      → tree_behind done (s ∷ block_tree more) ≡ (r >>= λ one. typed_behind (done ++ one ∷ []) more)
  one_more done s r more is rest =
      ap (λ (o : Typed). o >>= λ one. tree_behind (done ++ one ∷ []) (block_tree more)) is
      ∙ after r (λ one. tree_behind (done ++ one ∷ []) (block_tree more)) (λ one. typed_behind (done ++ one ∷ []) more) (λ one. rest (done ++ one ∷ []))

  pub behind_is : (done : List Stmt) (block : Plain) → tree_behind done (block_tree block) ≡ typed_behind done block
  behind_is done End = refl
  behind_is done (Assign line x right more) =
      one_more done _ (assigned line x right) more (form_is line (what.Assign (word line x) (right_tree line right)) _ (what.outs-Assign (word line x) (right_tree line right)) ∙ assign_is line x right)
      (λ next. behind_is next more)
  behind_is done (Store line p f item more) =
      one_more done _ (put line p f item) more (form_is line (what.Store (word line p) (word line f) (item_tree line item)) _ (what.outs-Store (word line p) (word line f) (item_tree line item)) ∙ put_is line p f item)
      (λ next. behind_is next more)
  behind_is done (If line rel a b then_block else_block more) =
      one_more done _ (tested line rel a b >>= λ test. typed_behind [] then_block >>= λ first. typed_behind [] else_block >>= λ second. Ok (stmt.If test first second)) more
      (form_is line (what.If (cond_tree line rel a b) (block_tree then_block) (block_tree else_block)) _ (what.outs-If (cond_tree line rel a b) (block_tree then_block) (block_tree else_block))
      ∙ ap (λ (c : Result Cond TypeFault). c >>= λ test. tree_behind [] (block_tree then_block) >>= λ first. tree_behind [] (block_tree else_block) >>= λ second. Ok (stmt.If test first second)) (tested_is line rel a b)
      ∙ ap (λ (o : Result (List Stmt) TypeFault). tested line rel a b >>= λ test. o >>= λ first. tree_behind [] (block_tree else_block) >>= λ second. Ok (stmt.If test first second)) (behind_is [] then_block)
      ∙ ap (λ (o : Result (List Stmt) TypeFault). tested line rel a b >>= λ test. typed_behind [] then_block >>= λ first. o >>= λ second. Ok (stmt.If test first second)) (behind_is [] else_block))
      (λ next. behind_is next more)
  behind_is done (While line rel a b body more) =
      one_more done _ (tested line rel a b >>= λ test. typed_behind [] body >>= λ block. Ok (stmt.While test block)) more
      (form_is line (what.While (cond_tree line rel a b) (block_tree body)) _ (what.outs-While (cond_tree line rel a b) (block_tree body))
      ∙ ap (λ (c : Result Cond TypeFault). c >>= λ test. tree_behind [] (block_tree body) >>= λ block. Ok (stmt.While test block)) (tested_is line rel a b)
      ∙ ap (λ (o : Result (List Stmt) TypeFault). tested line rel a b >>= λ test. o >>= λ block. Ok (stmt.While test block)) (behind_is [] body))
      (λ next. behind_is next more)
  behind_is done (Return line part more) =
      one_more done _ (returned line part) more (form_is line (what.Return (part_tree line part)) _ (what.outs-Return (part_tree line part)) ∙ returned_is line part) (λ next. behind_is next more)

  -- a block of a tree is what its plain data say
  abbrev pub block_plain : Plain → Result (List Stmt) TypeFault
  block_plain block = typed_behind [] block

  pub block_is : (block : Plain) → block_typed kinds params vars (block_tree block) ≡ block_plain block
  block_is block = behind_is [] block
