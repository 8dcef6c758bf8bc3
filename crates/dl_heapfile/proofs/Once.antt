-- A text is read in one way alone.
use Rattle.std.proofs.Common.{◌≡◌, ◌≢◌, ℕ, ◌+◌, ◌-◌, ◌<◌, ◌≤◌, true, false, ◌⊎◌, inl, inr, List, [], ◌∷◌, ◌++◌, length, drop, max, refl, sym, ap, ap₂, subst, ◌∙◌, Option, Some, arith, append_assoc}
use Rattle.std.specs.Prelude.{◌==◌, Result, Ok, Err, codes, decimal, if◌then◌else◌}
use Rattle.std.specs.List.{slice_get, prefix_len, take_while}
use Rattle.std.proofs.lemmas.Bool.{cases_lt}
use Rattle.std.proofs.lemmas.Bool.Decides.{nat_tests}
use Rattle.dl_ir.specs.declared.modules.KindDecl.{KindDecl}
use Rattle.dl_ir.specs.declared.modules.Module.{Module}
use Rattle.dl_ir.specs.declared.names.Name.{Name}
use Rattle.dl_ir.specs.declared.objects.Obj.{Obj}
use Rattle.dl_ir.specs.Heap.{Objects, hidden_count}
use Rattle.dl_history.specs.Report.{object_text, object_line, name_text}
use Rattle.dl_text.specs.Bytes.{is_digit, AllAre}
use Rattle.dl_heapfile.specs.declared.fault.HeapFault.{HeapFault}
use Rattle.dl_heapfile.specs.declared.fault.HeapFault.TheVariants.{NoHeap, BadLine, Count, Dangling, Shape}
use Rattle.dl_heapfile.specs.Lines.{TellsOf, BeginsWith, is_within}
use Rattle.dl_heapfile.specs.Names.{HasNames}
use Rattle.dl_heapfile.specs.Reading.{entry}
use Rattle.dl_heapfile.specs.Form.{first_word, Skips, BeginsAt, IsHead, Tells}
use Rattle.dl_heapfile.specs.Faults.{HasNoHeap, IsCounted, Every, FailsFirst, Builds, Reads}
use Rattle.dl_heapfile.specs.Laws.{IsReadOnce, IsSpeltOnce}
use Rattle.dl_heapfile.proofs.NumbersRead.{front_dropped, decimal_digits, decimal_plain, plain_lead}
use Rattle.dl_heapfile.proofs.LinesRead.{entry_written}
use Rattle.dl_heapfile.proofs.FeedFree.{line_within, same_front, fed}
use Rattle.dl_heapfile.proofs.Heads.{word_of_line}
use Rattle.dl_heapfile.proofs.Rising.{Entries}
use Rattle.dl_heapfile.proofs.Reread.{what_is_spelt_is_read}
use Rattle.std.proofs.lemmas.Option.{same_Some}
use Rattle.dl_text.proofs.Pieces.{take_while-run}

-- ---- where the heap part begins

-- no line with an end of its own is left, and the one that is left has another first word
record Stops (found : List ℕ) : Type 0 where
  other : first_word found ≢ codes "heap"
  unended : (text more : List ℕ) → found ≡ text ++ 10 ∷ more → ⊥

abbrev IsEnd : List ℕ → Type 0
IsEnd found = (first_word found ≡ codes "heap") ⊎ Stops found

-- no line is skipped at an end
no_more : (found text rest : List ℕ) → IsEnd found → AllAre is_within text → first_word text ≢ codes "heap" → found ≡ text ++ (10 ∷ rest) → ⊥
no_more found text rest (inl heap) within other same = other (sym (word_of_line text rest) ∙ ap first_word (sym same) ∙ heap)
no_more found text rest (inr stops) within other same = stops.unended text rest same

skips_once : (line one two : ℕ) (bytes text found left : List ℕ) → Skips line bytes one found → Skips line text two left → bytes ≡ text → IsEnd found → IsEnd left → (one ≡ two) × (found ≡ left)
skips_once line one two bytes text found left Skips.none Skips.none same first second = (refl, same)
skips_once line one two bytes text found left Skips.none (Skips.one words rest within other later) same first second = absurd (no_more _ words rest first within other same)
skips_once line one two bytes text found left (Skips.one words rest within other later) Skips.none same first second = absurd (no_more _ words rest second within other (sym same))
skips_once line one two bytes text found left (Skips.one words rest within other later) (Skips.one names more inside another after) same first second =
    let both = same_front words names rest more within inside same in
    skips_once (line + 1) one two rest more found left later after both.1 first second

begins_once : (bytes text other : List ℕ) (line at : ℕ) → BeginsAt bytes line text → BeginsAt bytes at other → (line ≡ at) × (text ≡ other)
begins_once bytes text other line at first second = skips_once 1 line at bytes bytes text other first.skips second.skips refl (inl first.is_heap) (inl second.is_heap)

-- the last line of a text that leads to this
abbrev last_line : ℕ → List ℕ → ℕ
last_line to [] = if to == 1 then 1 else to - 1
last_line to (b ∷ rest) = to

record IsPassed (bytes : List ℕ) (line : ℕ) : Type 0 where
  to : ℕ
  found : List ℕ
  skips : Skips 1 bytes to found
  stops : Stops found
  is_last : line ≡ last_line to found

nothing_left : Stops []
nothing_left = record { other = λ is. cc; unended = λ text more is. by text more is }
  where
    by : (text more : List ℕ) → [] ≡ text ++ 10 ∷ more → ⊥
    by [] more is = cc
    by (b ∷ text) more is = cc

passed : (bytes : List ℕ) (line : ℕ) → HasNoHeap bytes line → IsPassed bytes line
passed bytes line (HasNoHeap.empty none) = record { to = 1; found = []; skips = subst (λ l. Skips 1 l 1 []) (sym none) Skips.none; stops = nothing_left; is_last = refl }
passed bytes line (HasNoHeap.ended last least skips) = record { to = last + 1; found = []; skips = skips; stops = nothing_left; is_last = by last least }
  where
    by : (n : ℕ) → 1 ≤ n → n ≡ last_line (n + 1) []
    by n least = grind (arith, nat_tests, least)
passed bytes line (HasNoHeap.cut last b rest skips unended other) = record { to = last; found = b ∷ rest; skips = skips; stops = record { other = other; unended = unended }; is_last = refl }

passed_once : (bytes : List ℕ) (line at : ℕ) → HasNoHeap bytes line → HasNoHeap bytes at → line ≡ at
passed_once bytes line at first second =
    let one = passed bytes line first in
    let two = passed bytes at second in
    let both = skips_once 1 one.to two.to bytes bytes one.found two.found one.skips two.skips refl (inr one.stops) (inr two.stops) in
    one.is_last ∙ ap₂ last_line both.0 both.1 ∙ sym two.is_last

not_passed : (bytes text : List ℕ) (line at : ℕ) → HasNoHeap bytes line → BeginsAt bytes at text → ⊥
not_passed bytes text line at first second =
    let one = passed bytes line first in
    let both = skips_once 1 one.to at bytes bytes one.found text one.skips second.skips refl (inr one.stops) (inl second.is_heap) in
    one.stops.other (ap first_word both.1 ∙ second.is_heap)

-- ---- the heap line

digits_once : (one two rest more : List ℕ) (b : ℕ) → AllAre is_digit one → AllAre is_digit two → is_digit b ≡ false → one ++ (b ∷ rest) ≡ two ++ (b ∷ more) → (one ≡ two) × (rest ≡ more)
digits_once one two rest more b first second ends same = (
  sym (take_while-run is_digit one (b ∷ rest) first ends) ∙ ap (take_while is_digit) same ∙ take_while-run is_digit two (b ∷ more) second ends,
  ap (drop 1) (sym (front_dropped is_digit one (b ∷ rest) first ends) ∙ ap (λ (l : List ℕ). drop (prefix_len is_digit l) l) same ∙ front_dropped is_digit two (b ∷ more) second ends),
)

inwards : (a b c d e f : List ℕ) → a ++ b ++ c ++ d ++ e ++ f ≡ a ++ (b ++ (c ++ (d ++ (e ++ f))))
inwards a b c d e f = simp append_assoc

record IsSameHead (objects others hidden kept rest more : List ℕ) : Type 0 where
  numbers : objects ≡ others
  counts : hidden ≡ kept
  left : rest ≡ more

head_once : (text objects others hidden kept rest more : List ℕ) → IsHead text objects hidden rest → IsHead text others kept more → IsSameHead objects others hidden kept rest more
head_once text objects others hidden kept rest more first second =
    let spread = λ (n k r : List ℕ). inwards (codes "heap ") n (codes " kept ") k (codes "\n") r in
    let behind = ap (drop 5) (sym (spread objects hidden rest) ∙ sym first.text_is ∙ second.text_is ∙ spread others kept more) in
    let number = digits_once objects others (codes "kept " ++ (hidden ++ (10 ∷ rest))) (codes "kept " ++ (kept ++ (10 ∷ more))) 32 first.number.all second.number.all refl behind in
    let count = digits_once hidden kept rest more 10 first.kept.all second.kept.all refl (ap (drop 5) number.1) in
    record { numbers = number.0; counts = count.0; left = count.1 }

-- ---- the lines of objects

record IsCutAt (source : Module) (text : List ℕ) (e : Name × Obj) (rest : List ℕ) : Type 0 where
  line : List ℕ
  within : AllAre is_within line
  cut : text ≡ line ++ (10 ∷ rest)
  tells : TellsOf source line e

cut_at : (source : Module) (text : List ℕ) (e : Name × Obj) (rest : List ℕ) → HasNames source → BeginsWith source text e rest → IsCutAt source text e rest
cut_at source text e rest names begins =
    let shown = name_text e.0 ++ codes " " ++ object_text e.1 (Some begins.object.declared) in
    let text_is : object_line source e ≡ shown ++ codes "\n" = ap (λ (k : Option KindDecl). name_text e.0 ++ codes " " ++ object_text e.1 k ++ codes "\n") begins.object.is_there in
    let tells : TellsOf source shown e = record { name = begins.name; object = begins.object; text = text_is } in
    record { line = shown; within = line_within source shown e names tells; cut = begins.text_is ∙ ap (λ (l : List ℕ). l ++ rest) text_is ∙ fed shown rest; tells = tells }

next_once : (source : Module) (text : List ℕ) (e f : Name × Obj) (rest more : List ℕ) → HasNames source → BeginsWith source text e rest → BeginsWith source text f more → (e ≡ f) × (rest ≡ more)
next_once source text e f rest more names first second =
    let one = cut_at source text e rest names first in
    let two = cut_at source text f more names second in
    let both = same_front one.line two.line rest more one.within two.within (sym one.cut ∙ two.cut) in
    (same_Some e f (sym (entry_written source one.line e names one.tells) ∙ ap (entry source) both.0 ∙ entry_written source two.line f names two.tells), both.1)

-- a line of an object begins with a digit, and the last line does not
next_not_last : (source : Module) (text : List ℕ) (e : Name × Obj) (rest more : List ℕ) → BeginsWith source text e rest → text ≡ codes "end\n" ++ more → ⊥
next_not_last source text e rest more begins last =
    let small = begins.name.ticket in
    let plain = plain_lead (decimal e.0.ticket) (decimal_plain e.0.ticket small) in
    let index = decimal e.0.index in
    let object = object_text e.1 (slice_get source.kinds e.1.kind) in
    by (decimal e.0.ticket) (codes "." ++ index ++ codes " " ++ object ++ codes "\n" ++ rest) plain.0 (decimal_digits e.0.ticket small)
    (sym last ∙ begins.text_is ∙ front_apart (decimal e.0.ticket) (codes ".") index (codes " ") object (codes "\n") rest)
  where
    front_apart : (a b c d f g h : List ℕ) → a ++ b ++ c ++ d ++ f ++ g ++ h ≡ a ++ (b ++ c ++ d ++ f ++ g ++ h)
    front_apart a b c d f g h = simp append_assoc

    by : (digits tail : List ℕ) → 0 < length digits → AllAre is_digit digits → codes "end\n" ++ more ≡ digits ++ tail → ⊥
    by [] tail some all same = absurd (omega (arith, some))
    by (d ∷ digits) tail some all same =
        let is : 101 ≡ d = cc in
        let wrong : is_digit 101 ≡ true = subst (λ (b : ℕ). is_digit b ≡ true) (sym is) all.0 in cc

tells_once : (source : Module) (before : Entries) (line : ℕ) (text : List ℕ) (one two : Result Entries HeapFault) → HasNames source → Tells source before line text one → Tells source before line text two → one ≡ two
tells_once source before line text one two names (Tells.object {rest = rest} e next later) (Tells.object {rest = more} f after last) =
    let both = next_once source text e f rest more names next.begins after.begins in
    let moved : Tells source (before ++ e ∷ []) (line + 1) rest two = subst (λ (g : Name × Obj). Tells source (before ++ g ∷ []) (line + 1) rest two) (sym both.0) (subst (λ l. Tells source (before ++ f ∷ []) (line + 1) l two) (sym both.1) last) in
    tells_once source (before ++ e ∷ []) (line + 1) rest one two names later moved
tells_once source before line text one two names (Tells.object {rest = rest} e next later) (Tells.ended last) = absurd (next_not_last source text e rest [] next.begins last.text_is)
tells_once source before line text one two names (Tells.object {rest = rest} e next later) (Tells.more {b = b} {rest = more} last) = absurd (next_not_last source text e rest (b ∷ more) next.begins last.text_is)
tells_once source before line text one two names (Tells.object {rest = rest} e next later) (Tells.wrong none not_last) = absurd (none e rest next)
tells_once source before line text one two names (Tells.ended last) (Tells.object {rest = rest} e next later) = absurd (next_not_last source text e rest [] next.begins last.text_is)
tells_once source before line text one two names (Tells.ended last) (Tells.ended again) = refl
tells_once source before line text one two names (Tells.ended last) (Tells.more {b = b} {rest = rest} again) = let wrong : [] ≡ b ∷ rest = ap (drop 4) (sym last.text_is ∙ again.text_is) in cc
tells_once source before line text one two names (Tells.ended last) (Tells.wrong none not_last) = absurd (not_last [] last)
tells_once source before line text one two names (Tells.more {b = b} {rest = more} last) (Tells.object {rest = rest} e next later) = absurd (next_not_last source text e rest (b ∷ more) next.begins last.text_is)
tells_once source before line text one two names (Tells.more {b = b} {rest = rest} last) (Tells.ended again) = let wrong : [] ≡ b ∷ rest = ap (drop 4) (sym again.text_is ∙ last.text_is) in cc
tells_once source before line text one two names (Tells.more last) (Tells.more again) = refl
tells_once source before line text one two names (Tells.more {b = b} {rest = rest} last) (Tells.wrong none not_last) = absurd (not_last (b ∷ rest) last)
tells_once source before line text one two names (Tells.wrong none not_last) (Tells.object {rest = rest} e next later) = absurd (none e rest next)
tells_once source before line text one two names (Tells.wrong none not_last) (Tells.ended last) = absurd (not_last [] last)
tells_once source before line text one two names (Tells.wrong none not_last) (Tells.more {b = b} {rest = rest} last) = absurd (not_last (b ∷ rest) last)
tells_once source before line text one two names (Tells.wrong none not_last) (Tells.wrong nor_this nor_last) = refl

-- ---- the objects

fails_once : (P : Name × Obj → Type 0) (entries : Entries) (one two : ℕ) → FailsFirst P entries one → FailsFirst P entries two → one ≡ two
fails_once P entries one two first second = elim (cases_lt one two) [
  | inl below ↦ absurd (first.fails (second.before one first.entry below first.there))
  | inr at_least ↦ elim (cases_lt two one) [
    | inl below ↦ absurd (second.fails (first.before two second.entry below second.there))
    | inr least ↦ omega (arith, at_least, least)
  ]
]

not_every : (P : Name × Obj → Type 0) (entries : Entries) (at : ℕ) → FailsFirst P entries at → Every P entries → ⊥
not_every P entries at fails every = fails.fails (every at fails.entry fails.there)

builds_once : (source : Module) (places line : ℕ) (entries : Entries) (one two : Result Objects HeapFault) → Builds source places line entries one → Builds source places line entries two → one ≡ two
builds_once source places line entries one two (Builds.dangling at fails) (Builds.dangling other again) = ap (λ n. Err (Dangling (line + 1 + n))) (fails_once _ entries at other fails again)
builds_once source places line entries one two (Builds.dangling at fails) (Builds.shape other well again) = absurd (not_every _ entries at fails well)
builds_once source places line entries one two (Builds.dangling at fails) (Builds.no_places well one_each many) = absurd (not_every _ entries at fails well)
builds_once source places line entries one two (Builds.dangling at fails) (Builds.is_heap well one_each fits) = absurd (not_every _ entries at fails well)
builds_once source places line entries one two (Builds.shape at well fails) (Builds.dangling other again) = absurd (not_every _ entries other again well)
builds_once source places line entries one two (Builds.shape at well fails) (Builds.shape other fine again) = ap (λ n. Err (Shape (line + 1 + n))) (fails_once _ entries at other fails again)
builds_once source places line entries one two (Builds.shape at well fails) (Builds.no_places fine one_each many) = absurd (not_every _ entries at fails one_each)
builds_once source places line entries one two (Builds.shape at well fails) (Builds.is_heap fine one_each fits) = absurd (not_every _ entries at fails one_each)
builds_once source places line entries one two (Builds.no_places well one_each many) (Builds.dangling other again) = absurd (not_every _ entries other again well)
builds_once source places line entries one two (Builds.no_places well one_each many) (Builds.shape other fine again) = absurd (not_every _ entries other again one_each)
builds_once source places line entries one two (Builds.no_places well one_each many) (Builds.no_places fine one_more more) = refl
builds_once source places line entries one two (Builds.no_places well one_each many) (Builds.is_heap fine one_more fits) = absurd (omega (arith, many, fits))
builds_once source places line entries one two (Builds.is_heap well one_each fits) (Builds.dangling other again) = absurd (not_every _ entries other again well)
builds_once source places line entries one two (Builds.is_heap well one_each fits) (Builds.shape other fine again) = absurd (not_every _ entries other again one_each)
builds_once source places line entries one two (Builds.is_heap well one_each fits) (Builds.no_places fine one_more many) = absurd (omega (arith, many, fits))
builds_once source places line entries one two (Builds.is_heap well one_each fits) (Builds.is_heap fine one_more fit) = refl

-- ---- the whole

abbrev Outcome : Type 0
Outcome = Result Objects HeapFault

-- what follows from what the lines tell
abbrev Follows : Module → ℕ → ℕ → List ℕ → List ℕ → Result Entries HeapFault → Outcome → Type 0
Follows source places line objects hidden (Err fault) outcome = outcome ≡ Err fault
Follows source places line objects hidden (Ok entries) outcome = ((IsCounted objects hidden entries → ⊥) × (outcome ≡ Err (Count line))) ⊎ (IsCounted objects hidden entries × Builds source places line entries outcome)

record IsFrom (source : Module) (places line : ℕ) (text : List ℕ) (outcome : Outcome) : Type 0 where
  objects : List ℕ
  hidden : List ℕ
  rest : List ℕ
  head : IsHead text objects hidden rest
  told : Result Entries HeapFault
  tells : Tells source [] (line + 1) rest told
  follows : Follows source places line objects hidden told outcome

record IsIn (source : Module) (places : ℕ) (bytes : List ℕ) (outcome : Outcome) : Type 0 where
  line : ℕ
  text : List ℕ
  begins : BeginsAt bytes line text
  is : (((objects hidden rest : List ℕ) → IsHead text objects hidden rest → ⊥) × (outcome ≡ Err (BadLine line))) ⊎ IsFrom source places line text outcome

abbrev IsRead : Module → ℕ → List ℕ → Outcome → Type 0
IsRead source places bytes outcome = ((line : ℕ) × HasNoHeap bytes line × (outcome ≡ Err (NoHeap line))) ⊎ IsIn source places bytes outcome

is_read : (source : Module) (places : ℕ) (bytes : List ℕ) (outcome : Outcome) → Reads source places bytes outcome → IsRead source places bytes outcome
is_read source places bytes outcome (Reads.no_heap line none) = inl (line, none, refl)
is_read source places bytes outcome (Reads.bad_head line text begins none) = inr (record { line = line; text = text; begins = begins; is = inl (none, refl) })
is_read source places bytes outcome (Reads.bad_line line text objects hidden rest fault begins head tells) =
    inr (record { line = line; text = text; begins = begins; is = inr (record { objects = objects; hidden = hidden; rest = rest; head = head; told = Err fault; tells = tells; follows = refl }) })
is_read source places bytes outcome (Reads.count {line = line} {objects = objects} {hidden = hidden} {entries = entries} form wrong) =
    inr (record { line = line; text = form.text; begins = form.begins; is = inr (record { objects = objects; hidden = hidden; rest = form.rest; head = form.head; told = Ok entries; tells = form.tells; follows = inl (wrong, refl) }) })
is_read source places bytes outcome (Reads.counted {line = line} {objects = objects} {hidden = hidden} {entries = entries} form counted builds) =
    inr (record { line = line; text = form.text; begins = form.begins; is = inr (record { objects = objects; hidden = hidden; rest = form.rest; head = form.head; told = Ok entries; tells = form.tells; follows = inr (counted, builds) }) })

follows_once : (source : Module) (places line : ℕ) (objects hidden : List ℕ) (told : Result Entries HeapFault) (one two : Outcome) → Follows source places line objects hidden told one → Follows source places line objects hidden told two → one ≡ two
follows_once source places line objects hidden (Err fault) one two first second = first ∙ sym second
follows_once source places line objects hidden (Ok entries) one two (inl first) (inl second) = first.1 ∙ sym second.1
follows_once source places line objects hidden (Ok entries) one two (inl first) (inr second) = absurd (first.0 second.0)
follows_once source places line objects hidden (Ok entries) one two (inr first) (inl second) = absurd (second.0 first.0)
follows_once source places line objects hidden (Ok entries) one two (inr first) (inr second) = builds_once source places line entries one two first.1 second.1

from_once : (source : Module) (places line : ℕ) (text : List ℕ) (one two : Outcome) → HasNames source → IsFrom source places line text one → IsFrom source places line text two → one ≡ two
from_once source places line text one two names first second =
    let same = head_once text first.objects second.objects first.hidden second.hidden first.rest second.rest first.head second.head in
    let told = tells_once source [] (line + 1) first.rest first.told second.told names first.tells (subst (λ l. Tells source [] (line + 1) l second.told) (sym same.left) second.tells) in
    follows_once source places line first.objects first.hidden first.told one two first.follows
    (subst (λ l. Follows source places line l first.hidden first.told two) (sym same.numbers)
    (subst (λ l. Follows source places line second.objects l first.told two) (sym same.counts) (subst (λ t. Follows source places line second.objects second.hidden t two) (sym told) second.follows)))

abbrev IsAt : Module → ℕ → ℕ → List ℕ → Outcome → Type 0
IsAt source places line text outcome = (((objects hidden rest : List ℕ) → IsHead text objects hidden rest → ⊥) × (outcome ≡ Err (BadLine line))) ⊎ IsFrom source places line text outcome

at_once : (source : Module) (places line : ℕ) (text : List ℕ) (one two : Outcome) → HasNames source → IsAt source places line text one → IsAt source places line text two → one ≡ two
at_once source places line text one two names (inl none) (inl nor) = none.1 ∙ sym nor.1
at_once source places line text one two names (inl none) (inr other) = absurd (none.0 other.objects other.hidden other.rest other.head)
at_once source places line text one two names (inr other) (inl none) = absurd (none.0 other.objects other.hidden other.rest other.head)
at_once source places line text one two names (inr some) (inr other) = from_once source places line text one two names some other

in_once : (source : Module) (places : ℕ) (bytes : List ℕ) (one two : Outcome) → HasNames source → IsIn source places bytes one → IsIn source places bytes two → one ≡ two
in_once source places bytes one two names first second =
    let same = begins_once bytes first.text second.text first.line second.line first.begins second.begins in
    at_once source places first.line first.text one two names first.is
    (subst (λ n. IsAt source places n first.text two) (sym same.0) (subst (λ l. IsAt source places second.line l two) (sym same.1) second.is))

pub is_read_once : IsReadOnce
is_read_once source places bytes one two names first second = by (is_read source places bytes one first) (is_read source places bytes two second)
  where
    by : IsRead source places bytes one → IsRead source places bytes two → one ≡ two
    by (inl none) (inl nor) = none.2 ∙ ap (λ n. Err (NoHeap n)) (passed_once bytes none.0 nor.0 none.1 nor.1) ∙ sym nor.2
    by (inl none) (inr other) = absurd (not_passed bytes other.text none.0 other.line none.1 other.begins)
    by (inr other) (inl none) = absurd (not_passed bytes other.text none.0 other.line none.1 other.begins)
    by (inr some) (inr other) = in_once source places bytes one two names some other

pub is_spelt_once : IsSpeltOnce
is_spelt_once source bytes one two start names first second short =
    let places = max (hidden_count one) (hidden_count two) in
    let read_one = what_is_spelt_is_read source places bytes one start (record { startable = first.startable; spelt = first.spelt; fits = omega arith }) first.small short in
    let read_two = what_is_spelt_is_read source places bytes two start (record { startable = second.startable; spelt = second.spelt; fits = omega arith }) second.small short in
    let same : Ok one ≡ Ok two = is_read_once source places bytes (Ok one) (Ok two) names read_one read_two in cc
