-- The form of the heap part of a report, and what a text that has it tells.
use Rattle.std.specs.Prelude.{◌≡◌, ◌≢◌, ◌+◌, ◌<◌, ◌≤◌, ◌&&◌, ℕ, Bool, false, not, Some, slice_get, Result, Ok, Err, List, [], ◌∷◌, ◌++◌, length, take, drop, codes, All}
use Rattle.std.specs.List.{prefix_len, take_while}
use Rattle.std.specs.declared.cmp.Ordering.TheVariants.{Less}
use Rattle.dl_ir.specs.declared.modules.Module.{Module}
use Rattle.dl_ir.specs.declared.names.Name.{Name}
use Rattle.dl_ir.specs.declared.objects.Obj.{Obj}
use Rattle.dl_ir.specs.Heap.{Objects, IsRootOf, IsNodeKind, name_cmp, root, roots_of}
use Rattle.dl_history.specs.Report.{heap_part}
use Rattle.dl_text.specs.Bytes.{is_blank, is_digit, AllAre}
use Rattle.dl_heapfile.specs.declared.fault.HeapFault.{HeapFault}
use Rattle.dl_heapfile.specs.declared.fault.HeapFault.TheVariants.{BadLine}
use Rattle.dl_heapfile.specs.Lines.{IsSmallName, HasForm, BeginsWith, is_within}

-- ---- where the heap part begins

-- the byte goes on with a word: it is no blank and ends no line
abbrev pub goes_on : ℕ → Bool
goes_on b = not (is_blank b) && is_within b

-- the first word of a text's first line
abbrev pub first_word : List ℕ → List ℕ
first_word text = take_while goes_on (drop (prefix_len is_blank text) text)

-- lines whose first word is not `heap` lead from a line of a text to a later one
pub data Skips : ℕ → List ℕ → ℕ → List ℕ → Type 0 where
  none : {line : ℕ} {text : List ℕ} → Skips line text line text
  one : {line to : ℕ} {found : List ℕ} (text rest : List ℕ) → AllAre is_within text → first_word text ≢ codes "heap" → Skips (line + 1) rest to found
      → Skips line (text ++ 10 ∷ rest) to found

-- the heap part begins at this line, with the first line whose first word is `heap`
pub record BeginsAt (bytes : List ℕ) (line : ℕ) (text : List ℕ) : Type 0 where
  pub skips : Skips 1 bytes line text
  pub is_heap : first_word text ≡ codes "heap"

-- the text spells the heap: from its heap line on it is exactly the heap part of the report of this heap, and the line `end`
pub record SpellsHeap (source : Module) (bytes : List ℕ) (heap : Objects) : Type 0 where
  pub line : ℕ
  pub text : List ℕ
  pub begins : BeginsAt bytes line text
  pub is_part : text ≡ heap_part source heap ++ codes "end\n"

-- ---- line by line

-- digits, one at least, with no 0 before others
pub record IsDecimal (digits : List ℕ) : Type 0 where
  pub some : 0 < length digits
  pub all : AllAre is_digit digits
  pub lead : (rest : List ℕ) → digits ≡ 48 ∷ rest → rest ≡ []

-- the heap line, with the digits of its two numbers, and what is behind it
pub record IsHead (text objects hidden rest : List ℕ) : Type 0 where
  pub text_is : text ≡ codes "heap " ++ objects ++ codes " kept " ++ hidden ++ codes "\n" ++ rest
  pub number : IsDecimal objects
  pub kept : IsDecimal hidden

-- the number of roots
abbrev pub root_count : Module → ℕ
root_count source = length (roots_of 0 source.kinds)

-- which object may stand behind those before: the roots first, each with its kind, then hidden objects in rising names
pub data MayFollow (source : Module) (before : List (Name × Obj)) (entry : Name × Obj) : Type 0 where
  next_root : length before < root_count source → entry.0 ≡ root (length before) → IsRootOf source entry.1.kind entry.0 → entry.1.sealed ≡ false → MayFollow source before entry
  next_hidden : root_count source ≤ length before → All (λ (earlier : Name × Obj). name_cmp earlier.0 entry.0 ≡ Less) before → IsNodeKind source entry.1.kind
      → 1 ≤ entry.0.ticket → entry.0.ticket ≤ 4611686018427387904 → 1 ≤ entry.0.index → entry.0.index ≤ 64 → MayFollow source before entry

-- each object stands where it may behind those before it, and has a name and a form as a line tells them
pub record AreListed (source : Module) (entries : List (Name × Obj)) : Type 0 where
  pub each : (at : ℕ) (entry : Name × Obj) → slice_get entries at ≡ Some entry → MayFollow source (take at entries) entry
  pub names : (at : ℕ) (entry : Name × Obj) → slice_get entries at ≡ Some entry → IsSmallName entry.0
  pub forms : (at : ℕ) (entry : Name × Obj) → slice_get entries at ≡ Some entry → HasForm source entry.1

-- the objects of a whole heap part: they are listed, and all roots are among them
pub record AreInPlace (source : Module) (entries : List (Name × Obj)) : Type 0 where
  pub listed : AreListed source entries
  pub all_roots : root_count source ≤ length entries

-- a line of an object that may stand here comes next
pub record IsNext (source : Module) (before : List (Name × Obj)) (text : List ℕ) (entry : Name × Obj) (rest : List ℕ) : Type 0 where
  pub follows : MayFollow source before entry
  pub begins : BeginsWith source text entry rest

-- the last line comes next, where it may stand
pub record IsLast (source : Module) (before : List (Name × Obj)) (text rest : List ℕ) : Type 0 where
  pub all_roots : root_count source ≤ length before
  pub text_is : text ≡ codes "end\n" ++ rest

-- what the lines behind those of some objects tell, from a line on: all objects, or the first line that is not of the form at its place
pub data Tells (source : Module) : List (Name × Obj) → ℕ → List ℕ → Result (List (Name × Obj)) HeapFault → Type 0 where
  object : {before : List (Name × Obj)} {line : ℕ} {text rest : List ℕ} {outcome : Result (List (Name × Obj)) HeapFault} (entry : Name × Obj) → IsNext source before text entry rest
      → Tells source (before ++ entry ∷ []) (line + 1) rest outcome → Tells source before line text outcome
  ended : {before : List (Name × Obj)} {line : ℕ} {text : List ℕ} → IsLast source before text [] → Tells source before line text (Ok before)
  more : {before : List (Name × Obj)} {line b : ℕ} {text rest : List ℕ} → IsLast source before text (b ∷ rest) → Tells source before line text (Err (BadLine (line + 1)))
  wrong : {before : List (Name × Obj)} {line : ℕ} {text : List ℕ} → ((entry : Name × Obj) (rest : List ℕ) → IsNext source before text entry rest → ⊥)
      → ((rest : List ℕ) → IsLast source before text rest → ⊥) → Tells source before line text (Err (BadLine line))
