-- Which module a tree is as a function of it, in the order in which the checker goes through it, or its first fault. `Rules` has the same as rules.
use Rattle.std.specs.Prelude.{if◌then◌else◌, List, [], Result, Ok, Err}
use Rattle.std.specs.List.{list_any}
use Rattle.dl_ir.specs.declared.modules.KindDecl.{KindDecl}
use Rattle.dl_ir.specs.declared.modules.LocalDecl.{LocalDecl}
use Rattle.dl_ir.specs.declared.modules.OpDecl.{OpDecl}
use Rattle.dl_ir.specs.declared.modules.Module.{Module}
use Rattle.dl_ir.specs.Checked.{is_reference_local, is_root}
use Rattle.dl_grammar.specs.declared.tree.TreeOp.{TreeOp}
use Rattle.dl_grammar.specs.declared.tree.Tree.{Tree}
use Rattle.dl_types.specs.declared.fault.TypeFault.{TypeFault}
use Rattle.dl_types.specs.declared.fault.TypeFault.TheVariants.{Twice, KindClash, NoRoots}
use Rattle.dl_types.specs.Checks.{◌>>=◌, each}
use Rattle.dl_types.specs.Names.{has_op}
use Rattle.dl_types.specs.Declarations.{kind_typed, param_typed, var_typed}
use Rattle.dl_types.specs.Statements.{block_typed}

-- an operation with these parameters: its vars, then its body
abbrev pub op_behind : List KindDecl → TreeOp → List LocalDecl → Result OpDecl TypeFault
op_behind kinds op params =
    each (var_typed kinds params) [] op.vars >>= λ vars. block_typed kinds params vars op.body >>= λ body.
    Ok (record { name = op.name.text; params = params; vars = vars; allocs = op.allocs; fuel = op.fuel; body = body })

-- an operation whose parameters are typed: one of them has to refer to a root
abbrev pub op_with : List KindDecl → TreeOp → List LocalDecl → Result OpDecl TypeFault
op_with kinds op params =
    if list_any is_reference_local params then op_behind kinds op params else Err (KindClash op.name.line)

-- an operation, behind those before it
abbrev pub op_typed : List KindDecl → List OpDecl → TreeOp → Result OpDecl TypeFault
op_typed kinds before op =
    if has_op before op.name.text then Err (Twice op.name.line)
    else each (param_typed kinds) [] op.params >>= λ params. op_with kinds op params

-- the module that a tree is, or its first fault; where there is no other fault, a root kind has to be there
abbrev pub typed : Tree → Result Module TypeFault
typed tree =
    each (kind_typed tree.kinds) [] tree.kinds >>= λ kinds. each (op_typed kinds) [] tree.ops >>= λ ops.
    if list_any is_root kinds then Ok (record { version = tree.version; kinds = kinds; ops = ops }) else Err (NoRoots tree.last)
