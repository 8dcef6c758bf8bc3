-- How the first fault of an operation follows from that of its body.
use Rattle.std.proofs.Common.{◌≡◌, List, [], ap, ◌∙◌, sym}
use Rattle.std.specs.Prelude.{Result, Ok, Err}
use Rattle.dl_ir.specs.declared.modules.KindDecl.{KindDecl}
use Rattle.dl_ir.specs.declared.modules.LocalDecl.{LocalDecl}
use Rattle.dl_ir.specs.declared.statements.Stmt.{Stmt}
use Rattle.dl_grammar.specs.declared.tree.TreeField.{TreeField}
use Rattle.dl_grammar.specs.declared.tree.TreeOp.{TreeOp}
use Rattle.dl_types.specs.declared.fault.TypeFault.{TypeFault}
use Rattle.dl_types.specs.Checks.{◌>>=◌, each}
use Rattle.dl_types.specs.Declarations.{var_typed}
use Rattle.dl_types.specs.Statements.{block_typed}
use Rattle.dl_types.specs.Typing.{op_behind}

-- what follows a value decides on the fault
bind_fails : {A B : Type 0} (r : Result A TypeFault) (a : A) (next : A → Result B TypeFault) (fault : TypeFault) → r ≡ Ok a → next a ≡ Err fault → (r >>= next) ≡ Err fault
bind_fails r a next fault e h = ap (λ o. o >>= next) e ∙ h

-- a fault decides
fault_decides : {A B : Type 0} (r : Result A TypeFault) (next : A → Result B TypeFault) (fault : TypeFault) → r ≡ Err fault → (r >>= next) ≡ Err fault
fault_decides r next fault e = ap (λ o. o >>= next) e

-- the body of an operation is at fault, where its vars are not
pub body_fails : (kinds : List KindDecl) (op : TreeOp) (params vars ps qs vs : List LocalDecl) (os : List TreeField) (fault : TypeFault)
    → ps ≡ params → os ≡ op.vars → qs ≡ params → vs ≡ vars
    → each (var_typed kinds ps) [] os ≡ Ok vars → block_typed kinds qs vs op.body ≡ Err fault → op_behind kinds op params ≡ Err fault
body_fails kinds op params vars ps qs vs os fault p o q v h b =
    bind_fails (each (var_typed kinds params) [] op.vars) vars (λ (vars : List LocalDecl). block_typed kinds params vars op.body >>= λ (body : List Stmt). Ok (record { name = op.name.text; params = params; vars = vars; allocs = op.allocs; fuel = op.fuel; body = body })) fault
    (ap (λ (x : List LocalDecl). each (var_typed kinds x) [] op.vars) (sym p) ∙ ap (λ (x : List TreeField). each (var_typed kinds ps) [] x) (sym o) ∙ h)
    (fault_decides (block_typed kinds params vars op.body) (λ (body : List Stmt). Ok (record { name = op.name.text; params = params; vars = vars; allocs = op.allocs; fuel = op.fuel; body = body })) fault
    (ap (λ (x : List LocalDecl). block_typed kinds x vars op.body) (sym q) ∙ ap (λ (x : List LocalDecl). block_typed kinds qs x op.body) (sym v) ∙ b))
