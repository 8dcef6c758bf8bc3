-- Code with early drops: a reference is dropped as soon as no path reads it again.
use Rattle.std.specs.Prelude.{◌≡◌, ◌<◌, ◌≤◌, ◌+◌, ◌==◌, ◌⊎◌, ◌↔◌, ℕ, zero, suc, Bool, true, false, not, if◌then◌else◌, Option, Some, None, List, [], ◌∷◌, ◌++◌, length, map, slice_get}
use Rattle.dl_ir.specs.declared.modules.Module.{Module}
use Rattle.dl_ir.specs.declared.modules.OpDecl.{OpDecl}
use Rattle.dl_instr.specs.declared.code.Code.{Code}
use Rattle.dl_instr.specs.declared.steps.Step.{Step}
use Rattle.dl_instr.specs.declared.steps.Step.TheVariants.{Set, Drop}
use Rattle.dl_instr.specs.Drops.{IsReadFrom, GoesOn, is_reference, is_use, moved}

-- there is a step, and it is open: it uses nothing that the hand holds
abbrev pub is_open : Option Step → Bool
is_open None = false
is_open (Some step) = not (is_use step)

-- there is a step, and it uses what the hand holds
abbrev pub is_joined : Option Step → Bool
is_joined None = false
is_joined (Some step) = is_use step

-- the steps from the first place to the last are a piece: an open step with the steps up to the next open one
pub record IsPiece (steps : List Step) (first last : ℕ) : Type 0 where
  pub ordered : first ≤ last
  pub opens : is_open (slice_get steps first) ≡ true
  pub others : (at : ℕ) → first < at → at ≤ last → is_joined (slice_get steps at) ≡ true
  pub ends : is_joined (slice_get steps (last + 1)) ≡ false

-- the step sets a local otherwise than by a drop
abbrev pub fills : ℕ → Step → Bool
fills local (Set p from) = p == local
fills local step = false

-- one of the steps from the first place to the last does so
pub record IsFilled (steps : List Step) (local first last : ℕ) : Type 0 where
  pub at : ℕ
  pub step : Step
  pub from : first ≤ at
  pub to : at ≤ last
  pub there : slice_get steps at ≡ Some step
  pub fills : fills local step ≡ true

-- a piece that ends with the step at a place has the local live before it, or sets it otherwise than by a drop
pub record Brings (steps : List Step) (local last : ℕ) : Type 0 where
  pub first : ℕ
  pub piece : IsPiece steps first last
  pub holds : IsReadFrom steps local first ⊎ IsFilled steps local first last

-- such a piece can go on to the place
pub record IsBrought (steps : List Step) (local to : ℕ) : Type 0 where
  pub last : ℕ
  pub step : Step
  pub there : slice_get steps last ≡ Some step
  pub on : GoesOn step last to
  pub brings : Brings steps local last

-- a drop of the local is added directly before the piece that begins at the place: the local is one of references that on no path from there is
-- read before it is set, and a piece before brings it there, or it is a parameter and the piece is the first
pub record IsDroppedBefore (op : OpDecl) (steps : List Step) (at local : ℕ) : Type 0 where
  pub opens : is_open (slice_get steps at) ≡ true
  pub refers : is_reference (slice_get (op.params ++ op.vars) local) ≡ true
  pub is_dead : IsReadFrom steps local at → ⊥
  pub had : IsBrought steps local at ⊎ ((at ≡ 0) × (local < length op.params))

-- the drops of those locals below a number that a test picks, in the order of the locals
abbrev pub drops_of : (ℕ → Bool) → ℕ → List Step
drops_of picks zero = []
drops_of picks (suc local) = drops_of picks local ++ (if picks local then Drop local ∷ [] else [])

-- steps, the first of which has this place, with steps added before each
abbrev pub with_added : (ℕ → List Step) → ℕ → List Step → List Step
with_added added at [] = []
with_added added at (step ∷ rest) = added at ++ step ∷ with_added added (at + 1) rest

-- where the first step added before the step at a place stands then, or that step itself where none is added
abbrev pub start_of : (ℕ → List Step) → ℕ → ℕ
start_of added zero = 0
start_of added (suc at) = start_of added at + length (added at) + 1

-- steps with steps added before each; a jump goes to the first of the steps added before the one that it went to
abbrev pub spread : (ℕ → List Step) → List Step → List Step
spread added steps = with_added added 0 (map (moved (start_of added)) steps)

-- the steps made are those of an operation with exactly these drops added: before each piece of each local that is dropped there, in order of
-- declaration
pub record IsDropped (op : OpDecl) (steps made : List Step) : Type 0 where
  pub picks : ℕ → ℕ → Bool
  pub exact : (at local : ℕ) → (picks at local ≡ true) ↔ IsDroppedBefore op steps at local
  pub is : made ≡ spread (λ at. drops_of (picks at) (length (op.params ++ op.vars))) steps

-- the code made is a code of the module with exactly these drops added in each operation
pub record IsDroppedCode (source : Module) (code made : Code) : Type 0 where
  pub same_source : made.source ≡ code.source
  pub one_each : length made.ops ≡ length code.ops
  pub ops : (i : ℕ) (op : OpDecl) (steps others : List Step) → slice_get source.ops i ≡ Some op → slice_get code.ops i ≡ Some steps → slice_get made.ops i ≡ Some others
      → IsDropped op steps others
