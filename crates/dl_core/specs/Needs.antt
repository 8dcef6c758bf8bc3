-- What events need: numbers that can be counted, and memory.
use Rattle.std.specs.Prelude.{◌≡◌, ◌+◌, ◌<◌, ◌^◌, Some, [], length, slice_get}
use Rattle.std.specs.FinMap as finite
use Rattle.dl_ir.specs.declared.names.Name.{Name}
use Rattle.dl_ir.specs.Heap.{root}
use Rattle.dl_ir.specs.Rows.{Rows}
use Rattle.dl_instr.specs.declared.code.Code.{Code}
use Rattle.dl_core.specs.declared.dues.Due.{Due}
use Rattle.dl_core.specs.declared.dues.Due.TheVariants.{TakesRoot, Reads, Writes, Takes, LetsGo, GivesUp, Seals, Makes}
use Rattle.dl_core.specs.declared.frames.Frame.{Frame as Kept}
use Rattle.dl_core.specs.declared.objects.Mark.TheVariants as marks
use Rattle.dl_core.specs.declared.objects.Object.{Object}
use Rattle.dl_core.specs.Shown.{HasFewRefs, HasStep, IsAtStep, IsFewField}

-- one object more can be held
pub record CanHoldMore (kept : Kept) : Type 0 where
  pub book : finite.len kept.book.rows < kept.book.room
  pub loose : finite.len kept.book.rows < kept.loose.room

-- it can be where the object is free
abbrev pub CanTake : Kept → Rows Object → Name → Type 0
CanTake kept heap name = (object : Object) → finite.get heap.rows name ≡ Some object → object.mark ≡ marks.Free → CanHoldMore kept

-- one object more can be made
pub record CanMake (code : Code) (kept : Kept) (heap : Rows Object) : Type 0 where
  pub more : CanHoldMore kept
  pub step : HasStep code kept
  pub made : kept.made + 1 < 2 ^ 32
  pub room : finite.len heap.rows < heap.room

-- what an event at an object needs
abbrev pub CanTouch : Code → Kept → Rows Object → Due → Type 0
CanTouch code kept heap (TakesRoot number) = (kept.taken < length kept.roots.items) × CanTake kept heap (root number)
CanTouch code kept heap (Reads name field) = IsAtStep code kept
CanTouch code kept heap (Writes name field value) = IsAtStep code kept × IsFewField kept field × HasFewRefs kept
CanTouch code kept heap (Takes name) = IsAtStep code kept × CanTake kept heap name
CanTouch code kept heap (LetsGo name) = slice_get kept.loose.items 0 ≡ Some name
CanTouch code kept heap (GivesUp name) = (slice_get kept.loose.items 0 ≡ Some name) × (kept.spares + 1 < 2 ^ 32)
CanTouch code kept heap (Seals name) = kept.loose.items ≡ []
CanTouch code kept heap (Makes name kind) = CanMake code kept heap
CanTouch code kept heap due = Unit {0}
