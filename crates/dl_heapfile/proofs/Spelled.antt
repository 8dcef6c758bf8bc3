-- The lines of a heap part and its objects: what the lines tell is what they print, and what is printed is told.
use Rattle.std.proofs.Common.{◌≡◌, ℕ, zero, suc, ◌+◌, ◌≤◌, inl, inr, List, [], ◌∷◌, ◌++◌, length, take, refl, sym, ap, subst, ◌∙◌, Some, arith, append_assoc}
use Rattle.std.specs.Prelude.{Result, Ok, codes, decimal}
use Rattle.std.specs.List.{slice_get, flat_map}
use Rattle.std.proofs.lemmas.Bool.{cases_lt}
use Rattle.std.proofs.lemmas.List.{append-nil, take-append-le}
use Rattle.std.proofs.lemmas.Option.{slice_get_within, same_Some}
use Rattle.std.proofs.Math.Seq.{take-append_seam}
use Rattle.dl_ir.specs.declared.modules.Module.{Module}
use Rattle.dl_ir.specs.declared.names.Name.{Name}
use Rattle.dl_ir.specs.declared.objects.Obj.{Obj}
use Rattle.dl_ir.specs.Heap.{Objects, HasStart, hidden_count}
use Rattle.dl_history.specs.Report.{object_line}
use Rattle.dl_heapfile.specs.declared.fault.HeapFault.{HeapFault}
use Rattle.dl_heapfile.specs.Lines.{IsSmallName, HasForm}
use Rattle.dl_heapfile.specs.Form.{MayFollow, AreListed, AreInPlace, Tells}
use Rattle.dl_heapfile.specs.Faults.{heap_of, Every, RefersWell, HasOneField, Builds, Reads}
use Rattle.dl_heapfile.specs.Laws.{IsWellRead, WhatIsReadIsSpelt}
use Rattle.dl_heapfile.proofs.Rising.{Entries, entries-heap_of}
use Rattle.dl_heapfile.proofs.Listed.{sorted}
use Rattle.dl_heapfile.proofs.Starting.{startable}
use Rattle.dl_lemmas.proofs.Places.{at_seam, within_first}

-- the lines of these objects, and the last line
abbrev pub lines_of : Module → Entries → List ℕ
lines_of source es = flat_map (object_line source) es ++ codes "end\n"

-- ---- one more object

get_past : {X : Type 0} (xs : List X) (y z : X) (i : ℕ) → slice_get (xs ++ y ∷ []) i ≡ Some z → length xs ≤ i → (i ≡ length xs) × (y ≡ z)
get_past [] y z zero is least = (refl, same_Some y z is)
get_past [] y z (suc i) is least = cc
get_past (x ∷ xs) y z zero is least = absurd (omega (arith, least))
get_past (x ∷ xs) y z (suc i) is least = let rest = get_past xs y z i is (omega (arith, least)) in (omega (arith, rest.0), rest.1)

module _ (source : Module) (before : Entries) (entry : Name × Obj) (listed : AreListed source before) (follows : MayFollow source before entry) (name : IsSmallName entry.0) (form : HasForm source entry.1) where
  -- what holds of each before, and of the new one behind them, holds of each
  each_more : (P : ℕ → Name × Obj → Type 0) → ((at : ℕ) (e : Name × Obj) → slice_get before at ≡ Some e → P at e) → P (length before) entry
      → (at : ℕ) (e : Name × Obj) → slice_get (before ++ entry ∷ []) at ≡ Some e → P at e
  each_more P each last at e there = elim (cases_lt at (length before)) [
    | inl low ↦ each at e (sym (within_first before (entry ∷ []) at low) ∙ there)
    | inr high ↦ let here = get_past before entry e at there high in subst (λ n. P n e) (sym here.0) (subst (P (length before)) here.1 last)
  ]

  pub listed_more : AreListed source (before ++ entry ∷ [])
  listed_more = record {
    each = each_more (λ at e. MayFollow source (take at (before ++ entry ∷ [])) e)
        (λ at e there. let within = slice_get_within before at e there in subst (λ l. MayFollow source l e) (sym (take-append-le at before (entry ∷ []) (omega (arith, within)))) (listed.each at e there))
        (subst (λ l. MayFollow source l entry) (sym (take-append_seam before (entry ∷ []))) follows);
    names = each_more (λ at e. IsSmallName e.0) listed.names name;
    forms = each_more (λ at e. HasForm source e.1) listed.forms form;
  }

-- ---- from the lines to the objects

-- what lines behind those of some objects tell: further objects, all of which are in place, and they print these lines
pub record AreToldBy (source : Module) (before : Entries) (text : List ℕ) (all : Entries) : Type 0 where
  pub rest : Entries
  pub same : all ≡ before ++ rest
  pub lines : text ≡ lines_of source rest
  pub placed : AreInPlace source all

pub are_told : (source : Module) (before : Entries) (line : ℕ) (text : List ℕ) (outcome : Result Entries HeapFault) (all : Entries) → AreListed source before → Tells source before line text outcome → outcome ≡ Ok all → AreToldBy source before text all
are_told source before line text outcome all listed (Tells.object {rest = rest} entry next later) is =
    let more = are_told source (before ++ entry ∷ []) (line + 1) rest outcome all (listed_more source before entry listed next.follows next.begins.name next.begins.object) later is in
    record {
      rest = entry ∷ more.rest;
      same = more.same ∙ append_assoc before (entry ∷ []) more.rest;
      lines = next.begins.text_is ∙ ap (λ l. object_line source entry ++ l) more.lines ∙ sym (append_assoc (object_line source entry) (flat_map (object_line source) more.rest) (codes "end\n"));
      placed = more.placed;
    }
are_told source before line text outcome all listed (Tells.ended last) is =
    let same : before ≡ all = cc in
    record { rest = []; same = sym same ∙ sym (append-nil before); lines = last.text_is; placed = subst (AreInPlace source) same (record { listed = listed; all_roots = last.all_roots }) }
are_told source before line text outcome all listed (Tells.more last) is = cc
are_told source before line text outcome all listed (Tells.wrong none not_last) is = cc

pub none_listed : (source : Module) → AreListed source []
none_listed source = record { each = λ at e there. cc; names = λ at e there. cc; forms = λ at e there. cc }

-- ---- from the objects to the lines

pub tell : (source : Module) (es before rest : Entries) (line : ℕ) → AreInPlace source es → es ≡ before ++ rest → Tells source before line (lines_of source rest) (Ok es)
tell source es before [] line placed cut =
    let same : es ≡ before = cut ∙ append-nil before in
    subst (λ (l : Entries). Tells source l line (codes "end\n") (Ok es)) same (Tells.ended (record { all_roots = placed.all_roots; text_is = refl }))
tell source es before (e ∷ rest) line placed cut =
    let there : slice_get es (length before) ≡ Some e = ap (λ l. slice_get l (length before)) cut ∙ at_seam before rest e in
    let follows : MayFollow source before e = subst (λ l. MayFollow source l e) (ap (take (length before)) cut ∙ take-append_seam before (e ∷ rest)) (placed.listed.each (length before) e there) in
    Tells.object e (record {
      follows = follows;
      begins = record {
        name = placed.listed.names (length before) e there;
        object = placed.listed.forms (length before) e there;
        text_is = append_assoc (object_line source e) (flat_map (object_line source) rest) (codes "end\n");
      };
    }) (tell source es (before ++ e ∷ []) rest (line + 1) placed (cut ∙ sym (append_assoc before (e ∷ []) rest)))

-- ---- a text that is read as a heap

record IsBuilt (source : Module) (places : ℕ) (entries : Entries) (heap : Objects) : Type 0 where
  same : heap_of entries ≡ heap
  well : Every (RefersWell source (heap_of entries)) entries
  one : Every (HasOneField (heap_of entries)) entries
  fits : hidden_count (heap_of entries) ≤ places

is_built : (source : Module) (places line : ℕ) (entries : Entries) (outcome : Result Objects HeapFault) (heap : Objects) → Builds source places line entries outcome → outcome ≡ Ok heap → IsBuilt source places entries heap
is_built source places line entries outcome heap (Builds.dangling at fails) is = cc
is_built source places line entries outcome heap (Builds.shape at well fails) is = cc
is_built source places line entries outcome heap (Builds.no_places well one many) is = cc
is_built source places line entries outcome heap (Builds.is_heap well one fits) is = record { same = let same : heap_of entries ≡ heap = cc in same; well = well; one = one; fits = fits }

well_read : (source : Module) (places : ℕ) (bytes : List ℕ) (outcome : Result Objects HeapFault) (heap : Objects) → HasStart source → Reads source places bytes outcome → outcome ≡ Ok heap → IsWellRead source places bytes heap
well_read source places bytes outcome heap start (Reads.no_heap line none) is = cc
well_read source places bytes outcome heap start (Reads.bad_head line text begins none) is = cc
well_read source places bytes outcome heap start (Reads.bad_line line text objects hidden rest fault begins head tells) is = cc
well_read source places bytes outcome heap start (Reads.count form wrong) is = cc
well_read source places bytes outcome heap start (Reads.counted {line = line} {objects = objects} {hidden = hidden} {entries = entries} form counted builds) is =
    let built = is_built source places line entries outcome heap builds is in
    let told = are_told source [] (line + 1) form.rest (Ok entries) entries (none_listed source) form.tells refl in
    let rising = entries-heap_of entries (sorted source entries told.placed.listed) in
    let lines : form.rest ≡ lines_of source entries = told.lines ∙ ap (lines_of source) (sym told.same) in
    let kept = hidden_count (heap_of entries) in
    subst (IsWellRead source places bytes) built.same (record {
      startable = startable source entries start told.placed built.well built.one;
      spelt = record {
        line = line;
        text = form.text;
        begins = form.begins;
        is_part = form.head.text_is
            ∙ ap (λ l. codes "heap " ++ l ++ codes " kept " ++ hidden ++ codes "\n" ++ form.rest) counted.number
            ∙ ap (λ l. codes "heap " ++ decimal (length entries) ++ codes " kept " ++ l ++ codes "\n" ++ form.rest) counted.kept
            ∙ ap (λ l. codes "heap " ++ decimal (length entries) ++ codes " kept " ++ decimal kept ++ codes "\n" ++ l) lines
            ∙ sym (append_assoc (codes "heap " ++ decimal (length entries) ++ codes " kept " ++ decimal kept ++ codes "\n") (flat_map (object_line source) entries) (codes "end\n"))
            ∙ ap (λ (l : Entries). codes "heap " ++ decimal (length l) ++ codes " kept " ++ decimal kept ++ codes "\n" ++ flat_map (object_line source) l ++ codes "end\n") (sym rising);
      };
      fits = built.fits;
    })

pub what_is_read_is_spelt : WhatIsReadIsSpelt
what_is_read_is_spelt source places bytes heap start reads = well_read source places bytes (Ok heap) heap start reads refl
