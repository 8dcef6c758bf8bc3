-- What holds of every text that is read as a heap, and which texts are.
use Rattle.std.specs.Prelude.{◌≡◌, ◌≤◌, ℕ, ℤ, Some, Result, Ok, List, length, slice_get}
use Rattle.std.specs.FinMap as finite
use Rattle.dl_ir.specs.declared.modules.Module.{Module}
use Rattle.dl_ir.specs.declared.names.Name.{Name}
use Rattle.dl_ir.specs.declared.names.Value.TheVariants.{Int}
use Rattle.dl_ir.specs.declared.objects.Obj.{Obj}
use Rattle.dl_ir.specs.Heap.{Objects, HasStart, hidden_count}
use Rattle.dl_shape.specs.Startable.{IsStartable}
use Rattle.dl_heapfile.specs.declared.fault.HeapFault.{HeapFault}
use Rattle.dl_heapfile.specs.Lines.{IsSmall}
use Rattle.dl_heapfile.specs.Names.{HasNames}
use Rattle.dl_heapfile.specs.Form.{SpellsHeap}
use Rattle.dl_heapfile.specs.Faults.{Reads}

-- what is read as a heap is the printed part of this heap, and a run may start from it with so many places
pub record IsWellRead (source : Module) (places : ℕ) (bytes : List ℕ) (heap : Objects) : Type 0 where
  pub startable : IsStartable source heap
  pub spelt : SpellsHeap source bytes heap
  pub fits : hidden_count heap ≤ places

abbrev pub WhatIsReadIsSpelt : Type 0
WhatIsReadIsSpelt = (source : Module) (places : ℕ) (bytes : List ℕ) (heap : Objects) → HasStart source → Reads source places bytes (Ok heap) → IsWellRead source places bytes heap

-- every number that a field of the heap holds is one of signed 64 bits, as in each heap of the program
abbrev pub HoldsSmall : Objects → Type 0
HoldsSmall heap = (name : Name) (object : Obj) (at : ℕ) (number : ℤ) → finite.get heap name ≡ Some object → slice_get object.fields at ≡ Some (Int number) → IsSmall number

-- the printed part of a heap from which a run may start, with no more hidden objects than places, is read as that heap, in a text that is no longer than a file may be
abbrev pub WhatIsSpeltIsRead : Type 0
WhatIsSpeltIsRead = (source : Module) (places : ℕ) (bytes : List ℕ) (heap : Objects) → HasStart source → IsWellRead source places bytes heap → HoldsSmall heap → length bytes ≤ 4294967294 → Reads source places bytes (Ok heap)

-- a text is read in one way alone
abbrev pub IsReadOnce : Type 0
IsReadOnce = (source : Module) (places : ℕ) (bytes : List ℕ) (one other : Result Objects HeapFault) → HasNames source → Reads source places bytes one → Reads source places bytes other → one ≡ other

-- the text is the printed part of this heap, from which a run may start
pub record IsSpelt (source : Module) (bytes : List ℕ) (heap : Objects) : Type 0 where
  pub startable : IsStartable source heap
  pub spelt : SpellsHeap source bytes heap
  pub small : HoldsSmall heap

-- a text spells one such heap alone
abbrev pub IsSpeltOnce : Type 0
IsSpeltOnce = (source : Module) (bytes : List ℕ) (one other : Objects) → HasStart source → HasNames source → IsSpelt source bytes one → IsSpelt source bytes other → length bytes ≤ 4294967294 → one ≡ other
