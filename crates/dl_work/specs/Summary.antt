-- The text of a summary of generated work.
use Rattle.std.specs.Prelude.{ℕ, ℤ, pos, ◌+ℤ◌, List, ◌++◌, length, fold, codes, decimal}
use Rattle.std.specs.Fmt.{signed_decimal}
use Rattle.dl_ir.specs.declared.answers.End.{End}
use Rattle.dl_ir.specs.declared.answers.End.TheVariants.{Ok, Null, Overflow, DivZero, Fuel, Quota, Emits, Sealed}
use Rattle.dl_ir.specs.declared.answers.Entry.{Entry}
use Rattle.dl_ir.specs.declared.answers.Refusal.{Refusal}
use Rattle.dl_ir.specs.Heap.{Objects, hidden_count}
use Rattle.dl_work.specs.declared.summaries.Figures.{Figures}

-- the number of an answer `ok N`; every other counts as 0
abbrev pub number_of : End → ℤ
number_of (Ok number) = number
number_of Null = pos 0
number_of Overflow = pos 0
number_of DivZero = pos 0
number_of Fuel = pos 0
number_of Quota = pos 0
number_of Emits = pos 0
number_of (Sealed name) = pos 0

-- the sum of the numbers of all answers `ok N`
abbrev pub sum_of : List Entry → ℤ
sum_of history = fold (λ sum (entry : Entry). sum +ℤ number_of entry.answer.end) (pos 0) history

-- a word with a space behind it, a number, and the end of the line
abbrev pub number_line : List ℕ → List ℕ → List ℕ
number_line word number = word ++ number ++ codes "\n"

-- the line `work SEED COUNT CALLERS`
abbrev pub asked_line : Figures → List ℕ
asked_line figures = codes "work " ++ decimal figures.seed ++ codes " " ++ decimal figures.count ++ number_line (codes " ") (decimal figures.callers)

-- the line `refused NUMBER`
abbrev pub refused_line : List Refusal → List ℕ
refused_line refusals = number_line (codes "refused ") (decimal (length refusals))

-- the line `sum NUMBER`
abbrev pub sum_line : List Entry → List ℕ
sum_line history = number_line (codes "sum ") (signed_decimal (sum_of history))

-- the numbers of entries and of refusals, and the sum of the answers
abbrev pub history_part : List Entry → List Refusal → List ℕ
history_part history refusals = number_line (codes "done ") (decimal (length history)) ++ refused_line refusals ++ sum_line history

-- the number of hidden objects, of waits and of entries replayed, and the last line
abbrev pub rest_part : Figures → ℕ → List ℕ
rest_part figures kept = number_line (codes "kept ") (decimal kept) ++ number_line (codes "waits ") (decimal figures.waits)
    ++ number_line (codes "replayed ") (decimal figures.replayed) ++ codes "end\n"

-- the summary of a run with this history and these refusals, which left a heap
abbrev pub summary : Figures → List Entry → List Refusal → Objects → List ℕ
summary figures history refusals heap = asked_line figures ++ history_part history refusals ++ rest_part figures (hidden_count heap)
