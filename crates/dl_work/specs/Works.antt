-- The operation files and the schedule that a seed gives.
use Rattle.std.specs.Prelude.{◌≡◌, ℕ, ◌+◌, ◌*◌, ◌%◌, ◌≤◌, ◌==◌, pos, true, List, [], ◌∷◌, map, filter, nat_lt, slice_get, Some, if◌then◌else◌}
use Rattle.std.specs.List.{range_with_len}
use Rattle.dl_ir.specs.declared.calls.Call.{Call}
use Rattle.dl_ir.specs.declared.modules.KindDecl.{KindDecl}
use Rattle.dl_ir.specs.declared.modules.LocalDecl.{LocalDecl}
use Rattle.dl_ir.specs.declared.modules.Module.{Module}
use Rattle.dl_ir.specs.declared.modules.OpDecl.{OpDecl}
use Rattle.dl_ir.specs.declared.modules.Ty.{Ty}
use Rattle.dl_ir.specs.declared.modules.Ty.TheVariants.{Int, Of}
use Rattle.dl_schedule.specs.declared.give.Give.{Give}
use Rattle.dl_work.specs.declared.works.Work.{Work}
use Rattle.dl_work.specs.Draws.{drawn}

-- the operation that three numbers give: four of eight insert a number, three pop, and one melds
abbrev pub call_from : ℕ → ℕ → ℕ → Call
call_from which root number =
    if nat_lt (which % 8) 4 then record { op = 0; args = pos (root % 4) ∷ pos (number % 1000000) ∷ [] }
    else if nat_lt (which % 8) 7 then record { op = 1; args = pos (root % 4) ∷ [] }
    else record { op = 2; args = pos (root % 4) ∷ pos (number % 4) ∷ [] }

-- the operation with this number, from 0 on: three draws give it
abbrev pub call_of : ℕ → ℕ → Call
call_of seed number = call_from (drawn seed (3 * number)) (drawn seed (3 * number + 1)) (drawn seed (3 * number + 2))

-- the file of a caller: the operations are dealt to the callers in turn
abbrev pub file_of : ℕ → ℕ → ℕ → ℕ → List Call
file_of seed count callers caller = map (call_of seed) (filter (λ number. number % callers + 1 == caller) (range_with_len 0 count))

-- the files of the callers, in order
abbrev pub files_of : ℕ → ℕ → ℕ → List (List Call)
files_of seed count callers = map (file_of seed count callers) (range_with_len 1 callers)

-- the give of one step that a draw gives
abbrev pub give_of : ℕ → ℕ → Give
give_of callers number = record { caller = number % callers + 1; times = 1 }

-- the gives: a draw for each, behind those of the operations, and four for each operation
abbrev pub schedule_of : ℕ → ℕ → ℕ → List Give
schedule_of seed count callers = map (λ at. give_of callers (drawn seed (3 * count + at))) (range_with_len 0 (4 * count))

-- the work of a seed, for so many operations and callers
abbrev pub work_of : ℕ → ℕ → ℕ → Work
work_of seed count callers = record { files = files_of seed count callers; schedule = schedule_of seed count callers }

-- an operation of a module has parameters of these types
pub record HasParams (source : Module) (op : ℕ) (types : List Ty) : Type 0 where
  pub declared : OpDecl
  pub is_there : slice_get source.ops op ≡ Some declared
  pub typed : map (λ (param : LocalDecl). param.ty) declared.params ≡ types

-- a module takes generated work: it has four roots or more, of a kind that is the first of its root kinds, and its first operations
-- take one of these roots and a number, one of these roots, and two of these roots
pub record TakesWork (source : Module) : Type 0 where
  pub kind : ℕ
  pub declared : KindDecl
  pub is_there : slice_get source.kinds kind ≡ Some declared
  pub is_root : declared.is_root ≡ true
  pub first : declared.first ≡ 0
  pub roots : 4 ≤ declared.count
  pub inserts : HasParams source 0 (Of kind ∷ Int ∷ [])
  pub pops : HasParams source 1 (Of kind ∷ [])
  pub melds : HasParams source 2 (Of kind ∷ Of kind ∷ [])
