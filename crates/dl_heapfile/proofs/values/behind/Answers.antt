use Rattle.std.proofs.Common.{◌≡◌, ℕ, ◌+◌, true, false, List, length, take, drop, ap, sym, ◌∙◌, Option, Some, None, Bor}
use Rattle.std.specs.Prelude.{MatchOption}
use Rattle.std.specs.Str.{bytes_eq}
use Rattle.dl_heapfile.specs.Reading.{behind}
use Rattle.dl_heapfile.proofs.Cuts.{behind_some, behind_none}
use Rattle.dl_heapfile.proofs.values.behind.Goals as goal

by : (word text : List ℕ) (found : Option (Bor (List ℕ)))
    → MatchOption found (bytes_eq (take (length word) text) word ≡ false) (λ x. (bytes_eq (take (length word) text) word ≡ true) × (x.now ≡ drop (length word) text) × (length x.now + length word ≡ length text))
    → MatchOption found (behind word text ≡ None) (λ rest. behind word text ≡ Some rest.now)
by word text None told = behind_none word text told
by word text (Some x) told = behind_some word text told.0 ∙ ap (λ (l : List ℕ). Some l) (sym told.1)

pub returns : goal.returns
returns c = by c.args.word.now c.args.text.now c.strip_prefix.result c.strip_prefix.ensures.cases
