-- Modules whose serial runs end each operation in a forest.
use Rattle.std.specs.Prelude.{◌≡◌, ◌+◌, ℕ, false, Some, List, [], ◌∷◌, slice_get, All, IfSome}
use Rattle.std.specs.FinMap as finite
use Rattle.dl_ir.specs.declared.names.Name.{Name}
use Rattle.dl_ir.specs.declared.objects.Obj.{Obj}
use Rattle.dl_ir.specs.declared.modules.Module.{Module}
use Rattle.dl_ir.specs.declared.calls.Call.{Call}
use Rattle.dl_ir.specs.CallForms.{IsCallOf}
use Rattle.dl_ir.specs.Heap.{Objects}
use Rattle.dl_shape.specs.References.{IsForest}
use Rattle.dl_shape.specs.Settling.{trim}
use Rattle.dl_shape.specs.Operation.{operated, body_outcome}
use Rattle.dl_shape.specs.Replay.{greatest_ticket}

-- a call ends in a forest: what its body leaves is one, once it is trimmed and before anything is sealed
abbrev pub EndsInForest : Module → Objects → ℕ → Call → Type 0
EndsInForest source heap ticket call = IfSome (slice_get source.ops call.op) (λ op. IsForest (trim (body_outcome source heap ticket call.args op).state.objects))

-- each call, run on what the one before left, ends in a forest
abbrev pub AllEndInForest : Module → ℕ → Objects → List Call → Type 0
AllEndInForest source ticket heap [] = Unit {0}
AllEndInForest source ticket heap (call ∷ rest) = EndsInForest source heap ticket call × AllEndInForest source (ticket + 1) (operated source heap ticket call).objects rest

-- from this heap, every serial run ends each operation in a forest
pub record IsForestClosed (source : Module) (heap : Objects) : Type 0 where
  pub unsealed : (name : Name) (object : Obj) → finite.get heap name ≡ Some object → object.sealed ≡ false
  pub each_run : (calls : List Call) → All (IsCallOf source) calls → AllEndInForest source (greatest_ticket heap + 1) heap calls
