-- Objects in order: what the last of them says of all, and what comes where no object does.
use Rattle.std.proofs.Common.{◌≡◌, ℕ, ◌+◌, ◌<◌, ◌≤◌, Bool, true, List, [], ◌∷◌, ◌++◌, length, get_or, sym, ap, subst, ◌∙◌, Some, None, arith, ◌⊎◌, inl, inr, length-append, Ok, Err}
use Rattle.std.specs.Prelude.{◌-◌, ◌↔◌, slice_get, All, codes}
use Rattle.std.specs.declared.cmp.Ordering.TheVariants.{Less}
use Rattle.std.proofs.lemmas.Option.{slice_get_within, get_or_from_slice_get, slice_get-get_or}
use Rattle.dl_ir.specs.declared.modules.Module.{Module}
use Rattle.dl_ir.specs.declared.names.Name.{Name}
use Rattle.dl_ir.specs.declared.objects.Obj.{Obj}
use Rattle.dl_ir.specs.Heap.{name_cmp}
use Rattle.dl_ir.proofs.NameOrder.{names_total}
use Rattle.dl_heapfile.specs.declared.fault.HeapFault.TheVariants.{BadLine}
use Rattle.dl_heapfile.specs.Reading.{behind}
use Rattle.dl_heapfile.proofs.ValuesRead.{behind_read, behind_written}
use Rattle.dl_heapfile.proofs.Listed.{rise}
use Rattle.dl_heapfile.specs.Form.{root_count, IsNext, Tells, AreListed}
use Rattle.dl_heapfile.specs.Lines.{BeginsWith}
use Rattle.dl_history.specs.Report.{name_text, object_text}

-- a name above the last is above all
pub above_all : (source : Module) (es : List (Name × Obj)) (at : ℕ) (last : Name × Obj) (name : Name) → AreListed source es → slice_get es at ≡ Some last → length es ≡ at + 1 → name_cmp last.0 name ≡ Less
    → All (λ (earlier : Name × Obj). name_cmp earlier.0 name ≡ Less) es
above_all source es at last name listed there end above = λ k d within. by k d within (k_at k within)
  where
    k_at : (k : ℕ) → k < length es → (k ≡ at) ⊎ (k < at)
    k_at k within = grind (arith, end, within)

    by : (k : ℕ) (d : Name × Obj) → k < length es → (k ≡ at) ⊎ (k < at) → name_cmp (get_or es k d).0 name ≡ Less
    by k d within (inl same) =
        let is : get_or es k d ≡ last = ap (λ n. get_or es n d) same ∙ get_or_from_slice_get es at last d there in
        subst (λ (x : Name × Obj). name_cmp x.0 name ≡ Less) (sym is) above
    by k d within (inr less) =
        names_total.trans (get_or es k d).0 last.0 name (rise source es listed k at (get_or es k d) last (slice_get-get_or es k d within) there less) above

-- and the other way round
pub last_below : (es : List (Name × Obj)) (at : ℕ) (last : Name × Obj) (name : Name) → slice_get es at ≡ Some last → All (λ (earlier : Name × Obj). name_cmp earlier.0 name ≡ Less) es → name_cmp last.0 name ≡ Less
last_below es at last name there all =
    subst (λ (x : Name × Obj). name_cmp x.0 name ≡ Less) (get_or_from_slice_get es at last last there) (all at last (slice_get_within es at last there))

-- a test of the last is one of all
pub last_decides : (source : Module) (es : List (Name × Obj)) (last : Name × Obj) (name : Name) (b : Bool) → AreListed source es → slice_get es (length es - 1) ≡ Some last → b ≡ true ↔ (name_cmp last.0 name ≡ Less)
    → b ≡ true ↔ All (λ (earlier : Name × Obj). name_cmp earlier.0 name ≡ Less) es
last_decides source es last name b listed there decides =
    let within = slice_get_within es (length es - 1) last there in
    (λ yes. above_all source es (length es - 1) last name listed there (omega (arith, within)) (decides.0 yes), λ all. decides.1 (last_below es (length es - 1) last name there all))

-- ---- lengths

longer : (a b c d rest : List ℕ) → 1 ≤ length d → length rest + 1 ≤ length ((a ++ b ++ c ++ d) ++ rest)
longer a b c d rest some = simp length-append (omega (arith, some))

-- what is behind the line of an object is shorter
pub next_shorter : (source : Module) (text rest : List ℕ) (e : Name × Obj) → BeginsWith source text e rest → length rest + 1 ≤ length text
next_shorter source text rest e begins =
    subst (λ (l : List ℕ). length rest + 1 ≤ length l) (sym begins.text_is) (longer (name_text e.0) (codes " ") (object_text e.1 (slice_get source.kinds e.1.kind)) (codes "\n") rest (omega arith))

-- ---- where no object comes next

abbrev pub NoNext : Module → List (Name × Obj) → List ℕ → Type 0
NoNext source es text = (entry : Name × Obj) (rest : List ℕ) → IsNext source es text entry rest → ⊥

-- roots are wanting
pub roots_wanting : (source : Module) (es : List (Name × Obj)) (line : ℕ) (text : List ℕ) → NoNext source es text → length es < root_count source → Tells source es line text (Err (BadLine line))
roots_wanting source es line text none few = Tells.wrong none (λ rest last. let all = last.all_roots in absurd (omega (arith, all, few)))

-- no last line comes
pub no_last : (source : Module) (es : List (Name × Obj)) (line : ℕ) (text : List ℕ) → NoNext source es text → behind (codes "end\n") text ≡ None → Tells source es line text (Err (BadLine line))
no_last source es line text none differ = Tells.wrong none (λ rest last. absurd (let clash : None ≡ Some rest = sym differ ∙ ap (behind (codes "end\n")) last.text_is ∙ behind_written (codes "end\n") rest in cc))

-- the last line comes, with something behind it or nothing
pub last_more : (source : Module) (es : List (Name × Obj)) (line : ℕ) (text rest : List ℕ) → root_count source ≤ length es → behind (codes "end\n") text ≡ Some rest → 1 ≤ length rest → Tells source es line text (Err (BadLine (line + 1)))
last_more source es line text [] all is some = absurd (omega (arith, some))
last_more source es line text (b ∷ rest) all is some = Tells.more (record { all_roots = all; text_is = behind_read (codes "end\n") text (b ∷ rest) is })

pub last_ends : (source : Module) (es : List (Name × Obj)) (line : ℕ) (text rest : List ℕ) → root_count source ≤ length es → behind (codes "end\n") text ≡ Some rest → length rest < 1 → Tells source es line text (Ok es)
last_ends source es line text [] all is none = Tells.ended (record { all_roots = all; text_is = behind_read (codes "end\n") text [] is })
last_ends source es line text (b ∷ rest) all is none = absurd (omega (arith, none))
