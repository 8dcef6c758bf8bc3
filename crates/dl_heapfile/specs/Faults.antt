-- What a heap file is: the heap that it spells, or its first fault.
use Rattle.std.specs.Prelude.{◌≡◌, ◌≢◌, ◌+◌, ◌<◌, ◌≤◌, ℕ, false, Some, Result, Ok, Err, List, [], ◌∷◌, ◌++◌, length, slice_get, codes, decimal}
use Rattle.std.specs.FinMap as finite
use Rattle.dl_ir.specs.declared.modules.KindDecl.{KindDecl}
use Rattle.dl_ir.specs.declared.modules.Module.{Module}
use Rattle.dl_ir.specs.declared.names.Name.{Name}
use Rattle.dl_ir.specs.declared.objects.Obj.{Obj}
use Rattle.dl_ir.specs.Heap.{Objects, IsHidden, HasFields, hidden_count}
use Rattle.dl_ir.specs.References.{refs}
use Rattle.dl_heapfile.specs.declared.fault.HeapFault.{HeapFault}
use Rattle.dl_heapfile.specs.declared.fault.HeapFault.TheVariants.{NoHeap, BadLine, Count, Dangling, Shape, NoPlaces}
use Rattle.dl_heapfile.specs.Form.{Skips, BeginsAt, IsHead, Tells, first_word}

-- the heap that has these objects
abbrev pub heap_of : List (Name × Obj) → Objects
heap_of entries = finite.from_entries entries

-- no line has `heap` as its first word; the line is the last one, or 1 in a text of no bytes
pub data HasNoHeap (bytes : List ℕ) : ℕ → Type 0 where
  empty : bytes ≡ [] → HasNoHeap bytes 1
  ended : (line : ℕ) → 1 ≤ line → Skips 1 bytes (line + 1) [] → HasNoHeap bytes line
  cut : (line b : ℕ) (rest : List ℕ) → Skips 1 bytes line (b ∷ rest) → ((text more : List ℕ) → b ∷ rest ≡ text ++ 10 ∷ more → ⊥) → first_word (b ∷ rest) ≢ codes "heap" → HasNoHeap bytes line

-- the text has the form from a line on, and tells these objects; the heap line has these digits
pub record IsOfForm (source : Module) (bytes : List ℕ) (line : ℕ) (objects hidden : List ℕ) (entries : List (Name × Obj)) : Type 0 where
  pub text : List ℕ
  pub rest : List ℕ
  pub begins : BeginsAt bytes line text
  pub head : IsHead text objects hidden rest
  pub tells : Tells source [] (line + 1) rest (Ok entries)

-- the numbers of the heap line are those of the objects
pub record IsCounted (objects hidden : List ℕ) (entries : List (Name × Obj)) : Type 0 where
  pub number : objects ≡ decimal (length entries)
  pub kept : hidden ≡ decimal (hidden_count (heap_of entries))

-- each reference of an object is the name of a hidden object of the field's kind
abbrev pub RefersWell : Module → Objects → Name × Obj → Type 0
RefersWell source heap entry = (declared : KindDecl) → slice_get source.kinds entry.1.kind ≡ Some declared → HasFields heap declared.fields entry.1.fields

-- an unsealed hidden object has one field that refers to it
abbrev pub HasOneField : Objects → Name × Obj → Type 0
HasOneField heap entry = IsHidden entry.0 → entry.1.sealed ≡ false → refs heap entry.0 ≡ 1

-- all entries pass
abbrev pub Every : (Name × Obj → Type 0) → List (Name × Obj) → Type 0
Every P entries = (at : ℕ) (entry : Name × Obj) → slice_get entries at ≡ Some entry → P entry

-- the first entry that does not pass stands here
pub record FailsFirst (P : Name × Obj → Type 0) (entries : List (Name × Obj)) (at : ℕ) : Type 0 where
  pub entry : Name × Obj
  pub there : slice_get entries at ≡ Some entry
  pub fails : P entry → ⊥
  pub before : (earlier : ℕ) (other : Name × Obj) → earlier < at → slice_get entries earlier ≡ Some other → P other

-- what becomes of the objects of a heap part, with so many places: their first fault, each answered where none before it stands, or their heap
pub data Builds (source : Module) (places line : ℕ) (entries : List (Name × Obj)) : Result Objects HeapFault → Type 0 where
  dangling : (at : ℕ) → FailsFirst (RefersWell source (heap_of entries)) entries at → Builds source places line entries (Err (Dangling (line + 1 + at)))
  shape : (at : ℕ) → Every (RefersWell source (heap_of entries)) entries → FailsFirst (HasOneField (heap_of entries)) entries at → Builds source places line entries (Err (Shape (line + 1 + at)))
  no_places : Every (RefersWell source (heap_of entries)) entries → Every (HasOneField (heap_of entries)) entries → places < hidden_count (heap_of entries)
      → Builds source places line entries (Err (NoPlaces line))
  is_heap : Every (RefersWell source (heap_of entries)) entries → Every (HasOneField (heap_of entries)) entries → hidden_count (heap_of entries) ≤ places
      → Builds source places line entries (Ok (heap_of entries))

-- what a heap file of a module is, with so many places: each fault is answered where none before it stands
pub data Reads (source : Module) (places : ℕ) (bytes : List ℕ) : Result Objects HeapFault → Type 0 where
  no_heap : (line : ℕ) → HasNoHeap bytes line → Reads source places bytes (Err (NoHeap line))
  bad_head : (line : ℕ) (text : List ℕ) → BeginsAt bytes line text → ((objects hidden rest : List ℕ) → IsHead text objects hidden rest → ⊥) → Reads source places bytes (Err (BadLine line))
  bad_line : (line : ℕ) (text objects hidden rest : List ℕ) (fault : HeapFault) → BeginsAt bytes line text → IsHead text objects hidden rest
      → Tells source [] (line + 1) rest (Err fault) → Reads source places bytes (Err fault)
  count : {line : ℕ} {objects hidden : List ℕ} {entries : List (Name × Obj)} → IsOfForm source bytes line objects hidden entries
      → (IsCounted objects hidden entries → ⊥) → Reads source places bytes (Err (Count line))
  counted : {line : ℕ} {objects hidden : List ℕ} {entries : List (Name × Obj)} {outcome : Result Objects HeapFault} → IsOfForm source bytes line objects hidden entries
      → IsCounted objects hidden entries → Builds source places line entries outcome → Reads source places bytes outcome
