-- The whole of a heap file, from what its parts say.
use Rattle.std.proofs.Common.{◌≡◌, ◌≢◌, ℕ, ◌+◌, List, [], sym, subst, Result, Ok, Err}
use Rattle.std.specs.Prelude.{MatchResult, IfOk}
use Rattle.dl_ir.specs.declared.modules.Module.{Module}
use Rattle.dl_ir.specs.declared.names.Name.{Name}
use Rattle.dl_ir.specs.declared.objects.Obj.{Obj}
use Rattle.dl_ir.specs.Heap.{Objects, View, HasStart}
use Rattle.dl_heapfile.specs.declared.fault.HeapFault.{HeapFault}
use Rattle.dl_heapfile.specs.declared.fault.HeapFault.TheVariants.{NoHeap, Memory}
use Rattle.dl_heapfile.specs.Form.{BeginsAt, IsHead, Tells}
use Rattle.dl_heapfile.specs.Faults.{HasNoHeap, IsOfForm, IsCounted, Builds, Reads}
use Rattle.dl_heapfile.specs.Laws.{IsWellRead}
use Rattle.dl_heapfile.specs.Names.{HasNames}
use Rattle.dl_heapfile.proofs.Once.{is_read_once}
use Rattle.dl_heapfile.proofs.Spelled.{what_is_read_is_spelt}

pub no_heap_read : (source : Module) (places : ℕ) (bytes : List ℕ) (fault : HeapFault) → ((line : ℕ) × (fault ≡ NoHeap line) × HasNoHeap bytes line) → Reads source places bytes (Err fault)
no_heap_read source places bytes fault found = subst (λ (f : HeapFault). Reads source places bytes (Err f)) (sym found.1) (Reads.no_heap found.0 found.2)

pub form_read : (source : Module) (bytes text objects hidden rest : List ℕ) (line : ℕ) (es : List (Name × Obj)) → BeginsAt bytes line text → IsHead text objects hidden rest → Tells source [] (line + 1) rest (Ok es)
    → IsOfForm source bytes line objects hidden es
form_read source bytes text objects hidden rest line es begins head tells = record { text = text; rest = rest; begins = begins; head = head; tells = tells }

-- what is built of the objects is what is read
pub built_read : (source : Module) (places : ℕ) (bytes objects hidden : List ℕ) (line : ℕ) (slice es : List (Name × Obj)) (r : Result View HeapFault) → slice ≡ es → IsOfForm source bytes line objects hidden es → IsCounted objects hidden es
    → MatchResult r (λ heap. Builds source places line slice (Ok heap.objects)) (λ fault. fault ≢ Memory → Builds source places line slice (Err fault))
    → MatchResult r (λ heap. Reads source places bytes (Ok heap.objects)) (λ fault. fault ≢ Memory → Reads source places bytes (Err fault))
built_read source places bytes objects hidden line slice es (Ok heap) same form counted built = Reads.counted form counted (subst (λ (l : List (Name × Obj)). Builds source places line l (Ok heap.objects)) same built)
built_read source places bytes objects hidden line slice es (Err fault) same form counted built = λ not. Reads.counted form counted (subst (λ (l : List (Name × Obj)). Builds source places line l (Err fault)) same (built not))

-- and nothing else is
pub read_once : (source : Module) (places : ℕ) (bytes : List ℕ) (r : Result View HeapFault) (outcome : Result Objects HeapFault) → HasNames source
    → MatchResult r (λ heap. Reads source places bytes (Ok heap.objects)) (λ fault. fault ≢ Memory → Reads source places bytes (Err fault))
    → Reads source places bytes outcome → MatchResult r (λ heap. outcome ≡ Ok heap.objects) (λ fault. fault ≢ Memory → outcome ≡ Err fault)
read_once source places bytes (Ok heap) outcome names reads other = is_read_once source places bytes outcome (Ok heap.objects) names other reads
read_once source places bytes (Err fault) outcome names reads other = λ not_memory. is_read_once source places bytes outcome (Err fault) names other (reads not_memory)

-- a heap that is read is spelt
pub read_spelt : (source : Module) (places : ℕ) (bytes : List ℕ) (r : Result View HeapFault) → HasStart source
    → MatchResult r (λ heap. Reads source places bytes (Ok heap.objects)) (λ fault. fault ≢ Memory → Reads source places bytes (Err fault)) → IfOk r (λ heap. IsWellRead source places bytes heap.objects)
read_spelt source places bytes (Ok heap) start reads = what_is_read_is_spelt source places bytes heap.objects start reads
read_spelt source places bytes (Err fault) start reads = tt
