-- The tree of the skew heaps is their module, which takes generated work.
use Rattle.std.proofs.Common.{◌≡◌, true, false, List, [], ◌∷◌, refl, ap, subst, ◌∙◌, arith, inr, Ok, Err, if◌then◌else◌}
use Rattle.std.specs.Prelude.{Result}
use Rattle.std.specs.List.{list_any}
use Rattle.dl_ir.specs.declared.modules.LocalDecl.{LocalDecl}
use Rattle.dl_ir.specs.declared.modules.OpDecl.{OpDecl}
use Rattle.dl_ir.specs.declared.statements.Stmt.{Stmt}
use Rattle.dl_ir.specs.Checked.{is_reference_local}
use Rattle.dl_grammar.specs.declared.tree.TreeOp.{TreeOp}
use Rattle.dl_types.specs.declared.fault.TypeFault.{TypeFault}
use Rattle.dl_types.specs.declared.fault.TypeFault.TheVariants.{Twice, KindClash}
use Rattle.dl_types.specs.Checks.{◌>>=◌, each}
use Rattle.dl_types.specs.Names.{has_op}
use Rattle.dl_types.specs.Declarations.{kind_typed, param_typed, var_typed}
use Rattle.dl_types.specs.DeclarationRules.{EachIs, IsKind}
use Rattle.dl_types.specs.Rules.{IsOp, IsTree, Types}
use Rattle.dl_types.specs.Typing.{op_with, op_behind, op_typed}
use Rattle.dl_types.specs.Statements.{block_typed}
use Rattle.dl_types.proofs.DeclarationLaws.{each_is, kind_is}
use Rattle.dl_types.proofs.TreeLaws.{op_is}
use Rattle.dl_work.specs.Works.{TakesWork}
use Rattle.dl_skew.proofs.Plain.{Plain, block_tree, block_plain, block_is}
use Rattle.dl_skew.proofs.Heaps.{insert_body, pop_body, meld_body, kinds_tree, insert_tree, pop_tree, meld_tree, skew_tree, kinds, insert_params, pop_params, meld_params, short_vars, pop_vars, insert_op, pop_op, meld_op, skew_source}

-- ---- operations
-- an operation whose body is plain data
record IsPlain (before : List OpDecl) (op : TreeOp) (params vars : List LocalDecl) (block : Plain) (body : List Stmt) : Type 0 where
  new : has_op before op.name.text ≡ false
  are_params : each (param_typed kinds) [] op.params ≡ Ok params
  rooted : list_any is_reference_local params ≡ true
  are_vars : each (var_typed kinds params) [] op.vars ≡ Ok vars
  is_block : op.body ≡ block_tree block
  is_body : block_plain kinds params vars block ≡ Ok body

plain_op : (before : List OpDecl) (op : TreeOp) (params vars : List LocalDecl) (block : Plain) (body : List Stmt) → IsPlain before op params vars block body
    → op_typed kinds before op ≡ Ok (record { name = op.name.text; params = params; vars = vars; allocs = op.allocs; fuel = op.fuel; body = body })
plain_op before op params vars block body is =
    let close : List LocalDecl → List LocalDecl → Result (List Stmt) TypeFault → Result OpDecl TypeFault =
    λ ps vs r. r >>= λ (body : List Stmt). Ok (record { name = op.name.text; params = ps; vars = vs; allocs = op.allocs; fuel = op.fuel; body = body }) in
    ap (λ v. if v then Err (Twice op.name.line) else (each (param_typed kinds) [] op.params >>= λ params. op_with kinds op params)) is.new
    ∙ ap (λ (o : Result (List LocalDecl) TypeFault). o >>= λ params. op_with kinds op params) is.are_params
    ∙ ap (λ v. if v then op_behind kinds op params else Err (KindClash op.name.line)) is.rooted
    ∙ ap (λ (o : Result (List LocalDecl) TypeFault). o >>= λ vars. close params vars (block_typed kinds params vars op.body)) is.are_vars
    ∙ ap (λ ds. close params vars (block_typed kinds params vars ds)) is.is_block
    ∙ ap (close params vars) (block_is kinds params vars block ∙ is.is_body)

insert_is : op_typed kinds [] insert_tree ≡ Ok insert_op
unfolding insert_tree insert_op insert_body
insert_is = plain_op [] insert_tree insert_params short_vars insert_body insert_op.body
    (record { new = refl; are_params = refl; rooted = refl; are_vars = refl; is_block = refl; is_body = refl })

pop_is : op_typed kinds (insert_op ∷ []) pop_tree ≡ Ok pop_op
unfolding insert_op pop_tree pop_op pop_body
pop_is = plain_op (insert_op ∷ []) pop_tree pop_params pop_vars pop_body pop_op.body
    (record { new = refl; are_params = refl; rooted = refl; are_vars = refl; is_block = refl; is_body = refl })

meld_is : op_typed kinds (insert_op ∷ pop_op ∷ []) meld_tree ≡ Ok meld_op
unfolding insert_op pop_op meld_tree meld_op meld_body
meld_is = plain_op (insert_op ∷ pop_op ∷ []) meld_tree meld_params short_vars meld_body meld_op.body
    (record { new = refl; are_params = refl; rooted = refl; are_vars = refl; is_block = refl; is_body = refl })

-- ---- the module
are_kinds : EachIs (IsKind kinds_tree) [] kinds_tree (Ok kinds)
unfolding kinds_tree
are_kinds = each_is (IsKind kinds_tree) (kind_typed kinds_tree) (kind_is kinds_tree) [] kinds_tree

is_op : (before : List OpDecl) (op : TreeOp) (declared : OpDecl) → op_typed kinds before op ≡ Ok declared → IsOp kinds before op (Ok declared)
is_op before op declared is = subst (IsOp kinds before op) is (op_is kinds before op)

are_ops : EachIs (IsOp kinds) [] (insert_tree ∷ pop_tree ∷ meld_tree ∷ []) (Ok (insert_op ∷ pop_op ∷ meld_op ∷ []))
are_ops =
    inr (
      insert_op,
      is_op [] insert_tree insert_op insert_is,
      inr (
        pop_op,
        is_op (insert_op ∷ []) pop_tree pop_op pop_is,
        inr (meld_op, is_op (insert_op ∷ pop_op ∷ []) meld_tree meld_op meld_is, refl),
      ),
    )

pub skew_types : Types skew_tree skew_source
unfolding skew_tree skew_source
skew_types = IsTree.fits kinds (insert_op ∷ pop_op ∷ meld_op ∷ []) are_kinds are_ops (0, _, refl, refl)

pub skew_takes : TakesWork skew_source
unfolding skew_source insert_op pop_op meld_op
skew_takes = record {
  kind = 0;
  declared = _;
  is_there = refl;
  is_root = refl;
  first = refl;
  roots = omega arith;
  inserts = record { declared = insert_op; is_there = refl; typed = refl };
  pops = record { declared = pop_op; is_there = refl; typed = refl };
  melds = record { declared = meld_op; is_there = refl; typed = refl };
}
