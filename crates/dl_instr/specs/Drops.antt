-- Which codes are codes of a module: its plain code, or that code with steps added that drop references not used again.
use Rattle.std.specs.Prelude.{◌≡◌, ◌<◌, ◌+◌, ◌==◌, ◌||◌, ℕ, zero, suc, Bool, true, false, ◌⊎◌, Option, Some, None, List, ◌++◌, length, slice_get}
use Rattle.dl_ir.specs.declared.expressions.Cond.TheVariants.{Ints, Refs}
use Rattle.dl_ir.specs.declared.expressions.RefSide.{RefSide}
use Rattle.dl_ir.specs.declared.expressions.RefSide.TheVariants as sides
use Rattle.dl_ir.specs.declared.modules.LocalDecl.{LocalDecl}
use Rattle.dl_ir.specs.declared.modules.Module.{Module}
use Rattle.dl_ir.specs.declared.modules.OpDecl.{OpDecl}
use Rattle.dl_ir.specs.declared.modules.Ty.{Ty}
use Rattle.dl_ir.specs.declared.modules.Ty.TheVariants.{Int, Of}
use Rattle.dl_instr.specs.declared.code.Code.{Code}
use Rattle.dl_instr.specs.declared.steps.Step.{Step}
use Rattle.dl_instr.specs.declared.steps.Step.TheVariants.{Read, Want, Set, Drop, Make, Eval, Write, Emit, Test, Jump, Give}
use Rattle.dl_instr.specs.declared.steps.Origin.TheVariants as origins
use Rattle.dl_instr.specs.declared.steps.Content.TheVariants as contents
use Rattle.dl_instr.specs.Code.{op_code}

-- the local stands on a side of a comparison of references
abbrev pub is_side : ℕ → RefSide → Bool
is_side local sides.Null = false
is_side local (sides.Local p) = p == local

-- the step reads the reference that a local holds; expressions read only locals that hold numbers
abbrev pub reads : ℕ → Step → Bool
reads local (Read q field) = q == local
reads local Want = false
reads local (Set p origins.Hand) = false
reads local (Set p (origins.Local q)) = q == local
reads local (Drop p) = false
reads local (Make kind) = false
reads local (Eval value) = false
reads local (Write q field contents.Number) = q == local
reads local (Write q field (contents.Local p)) = (q == local) || (p == local)
reads local (Write q field contents.Null) = q == local
reads local Emit = false
reads local (Test (Ints rel left right) is_turn place) = false
reads local (Test (Refs same left right) is_turn place) = is_side local left || is_side local right
reads local (Jump place) = false
reads local (Give value) = false

-- the step sets a local, or drops it
abbrev pub sets : ℕ → Step → Bool
sets local (Set p from) = p == local
sets local (Drop p) = p == local
sets local step = false

-- from the first place, where the step stands, a path goes on at the second; nowhere from a `give`
abbrev pub GoesOn : Step → ℕ → ℕ → Type 0
GoesOn (Test c is_turn place) from to = (to ≡ from + 1) ⊎ (to ≡ place)
GoesOn (Jump place) from to = to ≡ place
GoesOn (Give value) from to = ⊥
GoesOn step from to = to ≡ from + 1

-- on some path from a place a local is read before it is set
pub data IsReadFrom (steps : List Step) (local : ℕ) : ℕ → Type 0 where
  here : {at : ℕ} {step : Step} → slice_get steps at ≡ Some step → reads local step ≡ true → IsReadFrom steps local at
  later : {at next : ℕ} {step : Step} → slice_get steps at ≡ Some step → sets local step ≡ false → GoesOn step at next → IsReadFrom steps local next
      → IsReadFrom steps local at

-- a type of references
abbrev pub is_kind : Ty → Bool
is_kind Int = false
is_kind (Of kind) = true

-- the local is declared, and holds references
abbrev pub is_reference : Option LocalDecl → Bool
is_reference None = false
is_reference (Some declared) = is_kind declared.ty

-- the step uses what the hand holds: a `want`, a `set`, a `write` or an `emit`
abbrev pub is_use : Step → Bool
is_use Want = true
is_use (Set p origins.Hand) = true
is_use (Write q field content) = true
is_use Emit = true
is_use step = false

-- at the place stands a step that may have been added: it drops a reference that on no path is read again before it is set, and stands directly before no use of the hand
pub record IsAddedDrop (op : OpDecl) (steps : List Step) (at : ℕ) : Type 0 where
  pub local : ℕ
  pub is_drop : slice_get steps at ≡ Some (Drop local)
  pub refers : is_reference (slice_get (op.params ++ op.vars) local) ≡ true
  pub is_dead : IsReadFrom steps local (at + 1) → ⊥
  pub is_apart : (next : Step) → slice_get steps (at + 1) ≡ Some next → is_use next ≡ false

-- where jumps to a plain step go: to the place behind the plain step before it, and so to the first step added directly before it, if there is one
abbrev pub front : (ℕ → ℕ) → ℕ → ℕ
front at zero = 0
front at (suc i) = at i + 1

-- the step, its jump moved
abbrev pub moved : (ℕ → ℕ) → Step → Step
moved to (Test c is_turn place) = Test c is_turn (to place)
moved to (Jump place) = Jump (to place)
moved to step = step

-- the steps are the plain steps, each at its new place, with steps added between them
pub record IsWithDrops (op : OpDecl) (plain steps : List Step) : Type 0 where
  pub at : ℕ → ℕ
  pub rises : (i : ℕ) → i + 1 < length plain → at i < at (i + 1)
  pub kept : (i : ℕ) (step : Step) → slice_get plain i ≡ Some step → slice_get steps (at i) ≡ Some (moved (front at) step)
  pub ends : length steps ≡ front at (length plain)
  pub added : (y : ℕ) → y < length steps → ((i : ℕ) × (i < length plain) × (at i ≡ y)) ⊎ IsAddedDrop op steps y

-- the code is one of the module: for each operation its plain steps, with steps added
pub record IsCodeOf (source : Module) (code : Code) : Type 0 where
  pub same_source : code.source ≡ source
  pub one_each : length code.ops ≡ length source.ops
  pub ops : (i : ℕ) (op : OpDecl) (steps : List Step) → slice_get source.ops i ≡ Some op → slice_get code.ops i ≡ Some steps → IsWithDrops op (op_code op) steps
