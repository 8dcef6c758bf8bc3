-- What a run never changes.
use Rattle.std.specs.Prelude.{◌+◌, ◌<◌, ◌≤◌, ◌==◌, ℕ, zero, suc, ℤ, Option, Some, None, List, [], ◌∷◌, length, slice_get, get_or, drop, nat_lt, All, if◌then◌else◌}
use Rattle.std.specs.List.{zip}
use Rattle.std.specs.Option.{option_map_or}
use Rattle.dl_ir.specs.declared.calls.Call.{Call}
use Rattle.dl_ir.specs.declared.modules.FieldDecl.{FieldDecl}
use Rattle.dl_ir.specs.declared.modules.KindDecl.{KindDecl}
use Rattle.dl_ir.specs.declared.modules.LocalDecl.{LocalDecl}
use Rattle.dl_ir.specs.declared.modules.Module.{Module}
use Rattle.dl_ir.specs.declared.modules.OpDecl.{OpDecl}
use Rattle.dl_ir.specs.declared.modules.Ty.{Ty}
use Rattle.dl_ir.specs.declared.modules.Ty.TheVariants.{Int, Of}
use Rattle.dl_ir.specs.declared.names.Value.{Value}
use Rattle.dl_ir.specs.Checked.{IsChecked}
use Rattle.dl_ir.specs.Heap.{Objects, hidden_count}
use Rattle.dl_shape.specs.Operation.{first_locals, root_number}
use Rattle.dl_shape.specs.Startable.{IsStartable}
use Rattle.dl_instr.specs.declared.code.Code.{Code}
use Rattle.dl_instr.specs.declared.steps.Step.{Step}
use Rattle.dl_instr.specs.Drops.{IsCodeOf}

-- what a run never changes: its code, the heap from which it starts, the number of places for hidden objects, and for each
-- caller, from the first on, how many operations it may begin
pub record Plan : Type 0 where
  pub code : Code
  pub heap : Objects
  pub places : ℕ
  pub sizes : List ℕ

-- the module that the code came from
abbrev pub source_of : Plan → Module
source_of plan = plan.code.source

-- callers are numbered from 1
pub record IsCaller (plan : Plan) (caller : ℕ) : Type 0 where
  pub from_one : 0 < caller
  pub to_last : caller ≤ length plan.sizes

-- the number of operations that a caller may begin
abbrev pub size_of : Plan → ℕ → ℕ
size_of plan zero = 0
size_of plan (suc place) = get_or plan.sizes place 0

-- the declaration of a call's operation
abbrev pub op_of : Plan → Call → Option OpDecl
op_of plan call = slice_get (source_of plan).ops call.op

-- the steps of a call's operation
abbrev pub steps_of : Plan → Call → List Step
steps_of plan call = get_or plan.code.ops call.op []

-- the number of objects that a call may make
abbrev pub allocs_of : Plan → Call → ℕ
allocs_of plan call = option_map_or (λ (op : OpDecl). op.allocs) (op_of plan call) 0

-- the number of turns that a call has
abbrev pub fuel_of : Plan → Call → ℕ
fuel_of plan call = option_map_or (λ (op : OpDecl). op.fuel) (op_of plan call) 0

-- the locals with which a call enters
abbrev pub locals_of : Plan → Call → List Value
locals_of plan call = option_map_or (λ op. first_locals op call.args) (op_of plan call) []

-- a number put into a rising list, unless it is there
abbrev pub put_in : ℕ → List ℕ → List ℕ
put_in n [] = n ∷ []
put_in n (m ∷ rest) = if n == m then m ∷ rest else (if nat_lt n m then n ∷ m ∷ rest else m ∷ put_in n rest)

-- the root that an argument names, put into a rising list, where the parameter is one of references
abbrev pub put_root : Ty → ℤ → List ℕ → List ℕ
put_root Int argument roots = roots
put_root (Of kind) argument roots = put_in (root_number argument) roots

-- the distinct roots among arguments, in rising order
abbrev pub roots_among : List (LocalDecl × ℤ) → List ℕ
roots_among [] = []
roots_among (given ∷ rest) = put_root given.0.ty given.1 (roots_among rest)

-- the distinct roots that a call takes, in rising order
abbrev pub roots_of : Plan → Call → List ℕ
roots_of plan call = option_map_or (λ (op : OpDecl). roots_among (zip op.params call.args)) (op_of plan call) []

-- the fields of a kind
abbrev pub fields_of : Plan → ℕ → List FieldDecl
fields_of plan kind = option_map_or (λ (declared : KindDecl). declared.fields) (slice_get (source_of plan).kinds kind) []

-- the number of a field that holds a reference, else what comes for the others
abbrev pub or_later : Ty → ℕ → Option ℕ → Option ℕ
or_later Int at later = later
or_later (Of kind) at later = Some at

-- the number of the first of these fields that holds a reference, if one does; the first of them has this number
abbrev pub first_reference : ℕ → List FieldDecl → Option ℕ
first_reference at [] = None
first_reference at (field ∷ rest) = or_later field.ty at (first_reference (at + 1) rest)

-- the number of the first field of a kind, from this number on, that holds a reference, if one does
abbrev pub reference_from : Plan → ℕ → ℕ → Option ℕ
reference_from plan kind from = first_reference from (drop from (fields_of plan kind))

-- a run may start from the heap, and there is a place for each hidden object
pub record MayStartFrom (plan : Plan) : Type 0 where
  pub startable : IsStartable (source_of plan) plan.heap
  pub room : hidden_count plan.heap ≤ plan.places

-- what holds of every plan: its module is checked, its code is a code of that module, a run may start from its heap, and the
-- numbers of callers and operations keep their limits
pub record IsPlan (plan : Plan) : Type 0 where
  pub checked : IsChecked (source_of plan)
  pub code : IsCodeOf (source_of plan) plan.code
  pub start : MayStartFrom plan
  pub some_callers : 0 < length plan.sizes
  pub few_callers : length plan.sizes ≤ 64
  pub few_calls : All (λ size. size ≤ 65536) plan.sizes
  pub few_places : plan.places ≤ 65536
