-- The skew heaps as plain data, and the module that they are.
use Rattle.std.proofs.Common.{ℕ, ◌+◌, true, false, List, [], ◌∷◌, pos, Ok, Err}
use Rattle.std.specs.Prelude.{Result, codes}
use Rattle.dl_ir.specs.declared.expressions.Rel.TheVariants.{Less, LessEq, Equal, NotEqual}
use Rattle.dl_ir.specs.declared.modules.KindDecl.{KindDecl}
use Rattle.dl_ir.specs.declared.modules.LocalDecl.{LocalDecl}
use Rattle.dl_ir.specs.declared.modules.Module.{Module}
use Rattle.dl_ir.specs.declared.modules.OpDecl.{OpDecl}
use Rattle.dl_ir.specs.declared.modules.Ty.TheVariants.{Int, Of}
use Rattle.dl_ir.specs.declared.statements.Stmt.{Stmt}
use Rattle.dl_grammar.specs.declared.declarations.Declared.{Declared}
use Rattle.dl_grammar.specs.declared.tree.Tree.{Tree}
use Rattle.dl_grammar.specs.declared.tree.TreeField.{TreeField}
use Rattle.dl_grammar.specs.declared.tree.TreeKind.{TreeKind}
use Rattle.dl_grammar.specs.declared.tree.TreeOp.{TreeOp}
use Rattle.dl_types.specs.declared.fault.TypeFault.{TypeFault}
use Rattle.dl_skew.proofs.Plain.{word, Named, Number, Negated, Item, Nothing, Sum, Right, Null, New, Field, Given, Plain, End, Assign, Store, If, While, Return, block_tree, block_plain}

infixr 5 ◌then◌
-- a statement before others
abbrev ◌then◌ : (Plain → Plain) → Plain → Plain
first then more = first more

-- an item that is a local, and a right side that is one
abbrev local : List ℕ → Item
local name = Sum (Named name)

abbrev copy : List ℕ → Right
copy name = Given (Named name)

-- ---- names
abbrev a : List ℕ
a = codes "a"

abbrev b : List ℕ
b = codes "b"

abbrev h : List ℕ
h = codes "h"

abbrev k : List ℕ
k = codes "k"

abbrev l : List ℕ
l = codes "l"

abbrev m : List ℕ
m = codes "m"

abbrev r : List ℕ
r = codes "r"

abbrev s : List ℕ
s = codes "s"

abbrev t : List ℕ
t = codes "t"

abbrev x : List ℕ
x = codes "x"

abbrev y : List ℕ
y = codes "y"

abbrev top : List ℕ
top = codes "top"

abbrev key : List ℕ
key = codes "key"

abbrev left : List ℕ
left = codes "left"

abbrev right : List ℕ
right = codes "right"

-- ---- the bodies
-- the loop that merges two heaps, from its line on
abbrev merging : ℕ → Plain → Plain
merging n = While n NotEqual (local b) Nothing (
    Assign (n + 1) t (Field a right)
    then Assign (n + 2) l (Field a left)
    then Store (n + 3) a right (local l)
    then If (n + 4) Equal (local t) Nothing (
    Store (n + 5) a left (local b)
    then Assign (n + 6) b Null
    then End) (
    Assign (n + 8) x (Field t key)
    then If (n + 9) LessEq (local x) (local y) (
    Store (n + 10) a left (local t)
    then Assign (n + 11) a (copy t)
    then End) (
    Store (n + 13) a left (local b)
    then Assign (n + 14) a (copy b)
    then Assign (n + 15) b (copy t)
    then Assign (n + 16) y (copy x)
    then End)
    then End)
    then End)

-- the heap with the lesser number comes first, from its line on
abbrev ordering : ℕ → Plain → Plain
ordering n more =
    If n Equal (local a) Nothing (
    Assign (n + 1) a (copy b)
    then Assign (n + 2) b Null
    then End) End
    then If (n + 4) NotEqual (local b) Nothing (
    Assign (n + 5) x (Field a key)
    then Assign (n + 6) y (Field b key)
    then If (n + 7) Less (local y) (local x) (
    Assign (n + 8) t (copy a)
    then Assign (n + 9) a (copy b)
    then Assign (n + 10) b (copy t)
    then Assign (n + 11) y (copy x)
    then End) End
    then End) End
    then Store (n + 14) r top (local a)
    then more

unfoldable pub insert_body : Plain
insert_body =
    Assign 6 b (New (codes "NODE"))
    then Store 7 b key (local k)
    then Assign 8 a (Field r top)
    then If 9 Equal (local a) Nothing (
    Store 10 r top (local b)
    then Return 11 (Number (pos 0))
    then End) End
    then Assign 13 x (Field a key)
    then If 14 Less (local k) (local x) (
    Assign 15 t (copy a)
    then Assign 16 a (copy b)
    then Assign 17 b (copy t)
    then End) End
    then Store 19 r top (local a)
    then Assign 20 y (Field b key)
    then merging 21
    then Return 41 (Number (pos 0))
    then End

unfoldable pub pop_body : Plain
pop_body =
    Assign 45 h (Field r top)
    then If 46 Equal (local h) Nothing (
    Return 47 (Negated (Number (pos 1)))
    then End) End
    then Assign 49 m (Field h key)
    then Assign 50 a (Field h left)
    then Assign 51 b (Field h right)
    then Store 52 h left Nothing
    then Store 53 h right Nothing
    then ordering 54
    then Assign 69 h Null
    then merging 70
    then Return 90 (Named m)
    then End

unfoldable pub meld_body : Plain
meld_body =
    If 94 Equal (local r) (local s) (
    Return 95 (Number (pos 0))
    then End) End
    then Assign 97 a (Field r top)
    then Assign 98 b (Field s top)
    then Store 99 s top Nothing
    then ordering 100
    then Assign 115 s Null
    then merging 116
    then Return 136 (Number (pos 0))
    then End

-- ---- the tree
abbrev number_field : ℕ → List ℕ → TreeField
number_field line name = record { name = word line name; ty = word line (codes "int") }

abbrev node_field : ℕ → List ℕ → TreeField
node_field line name = record { name = word line name; ty = word line (codes "NODE") }

abbrev root_field : ℕ → List ℕ → TreeField
root_field line name = record { name = word line name; ty = word line (codes "HEAP") }

unfoldable pub kinds_tree : List TreeKind
kinds_tree =
    record { name = word 2 (codes "HEAP"); is_root = true; count = 4; fields = node_field 2 top ∷ [] }
    ∷ record { name = word 3 (codes "NODE"); is_root = false; count = 0; fields = number_field 3 key ∷ node_field 3 left ∷ node_field 3 right ∷ [] }
    ∷ []

unfoldable pub insert_tree : TreeOp
insert_tree = record {
  name = word 4 (codes "insert");
  params = root_field 4 r ∷ number_field 4 k ∷ [];
  vars = node_field 5 a ∷ node_field 5 b ∷ node_field 5 t ∷ node_field 5 l ∷ number_field 5 x ∷ number_field 5 y ∷ [];
  allocs = 1;
  fuel = 100000;
  body = block_tree insert_body;
}

unfoldable pub pop_tree : TreeOp
pop_tree = record {
  name = word 43 (codes "pop");
  params = root_field 43 r ∷ [];
  vars = node_field 44 a ∷ node_field 44 b ∷ node_field 44 t ∷ node_field 44 l ∷ node_field 44 h ∷ number_field 44 x ∷ number_field 44 y ∷ number_field 44 m ∷ [];
  allocs = 0;
  fuel = 100000;
  body = block_tree pop_body;
}

unfoldable pub meld_tree : TreeOp
meld_tree = record {
  name = word 92 (codes "meld");
  params = root_field 92 r ∷ root_field 92 s ∷ [];
  vars = node_field 93 a ∷ node_field 93 b ∷ node_field 93 t ∷ node_field 93 l ∷ number_field 93 x ∷ number_field 93 y ∷ [];
  allocs = 0;
  fuel = 100000;
  body = block_tree meld_body;
}

unfoldable pub skew_declared : Declared
skew_declared = record { version = 1; kinds = kinds_tree; ops = insert_tree ∷ pop_tree ∷ meld_tree ∷ [] }

unfoldable pub skew_tree : Tree
skew_tree = record { version = 1; kinds = kinds_tree; ops = insert_tree ∷ pop_tree ∷ meld_tree ∷ []; last = 137 }

-- ---- the module
abbrev pub kinds : List KindDecl
kinds =
    record { name = codes "HEAP"; is_root = true; first = 0; count = 4; fields = record { name = top; ty = Of 1 } ∷ [] }
    ∷ record {
      name = codes "NODE";
      is_root = false;
      first = 0;
      count = 0;
      fields = record { name = key; ty = Int } ∷ record { name = left; ty = Of 1 } ∷ record { name = right; ty = Of 1 } ∷ [];
    }
    ∷ []

abbrev number_local : List ℕ → LocalDecl
number_local name = record { name = name; ty = Int }

abbrev node_local : List ℕ → LocalDecl
node_local name = record { name = name; ty = Of 1 }

abbrev root_local : List ℕ → LocalDecl
root_local name = record { name = name; ty = Of 0 }

abbrev pub insert_params : List LocalDecl
insert_params = root_local r ∷ number_local k ∷ []

abbrev pub pop_params : List LocalDecl
pop_params = root_local r ∷ []

abbrev pub meld_params : List LocalDecl
meld_params = root_local r ∷ root_local s ∷ []

abbrev pub short_vars : List LocalDecl
short_vars = node_local a ∷ node_local b ∷ node_local t ∷ node_local l ∷ number_local x ∷ number_local y ∷ []

abbrev pub pop_vars : List LocalDecl
pop_vars = node_local a ∷ node_local b ∷ node_local t ∷ node_local l ∷ node_local h ∷ number_local x ∷ number_local y ∷ number_local m ∷ []

-- the statements of a block that is typed
abbrev body_in : Result (List Stmt) TypeFault → List Stmt
body_in (Ok body) = body
body_in (Err fault) = []

unfoldable pub insert_op : OpDecl
insert_op = record {
  name = codes "insert";
  params = insert_params;
  vars = short_vars;
  allocs = 1;
  fuel = 100000;
  body = body_in (block_plain kinds insert_params short_vars insert_body);
}

unfoldable pub pop_op : OpDecl
pop_op = record {
  name = codes "pop";
  params = pop_params;
  vars = pop_vars;
  allocs = 0;
  fuel = 100000;
  body = body_in (block_plain kinds pop_params pop_vars pop_body);
}

unfoldable pub meld_op : OpDecl
meld_op = record {
  name = codes "meld";
  params = meld_params;
  vars = short_vars;
  allocs = 0;
  fuel = 100000;
  body = body_in (block_plain kinds meld_params short_vars meld_body);
}

unfoldable pub skew_source : Module
skew_source = record { version = 1; kinds = kinds; ops = insert_op ∷ pop_op ∷ meld_op ∷ [] }
