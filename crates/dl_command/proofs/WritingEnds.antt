-- What a sink has taken when writing ends.
use Rattle.std.proofs.Common.{◌≡◌, ℕ, List, [], ◌++◌, subst, sym, ◌∙◌, ap}
use Rattle.std.proofs.lemmas.List.{append-nil}
use Rattle.dl_io.specs.Taken.{Taken, Took}
use Rattle.dl_text.specs.Writing.{Buffered, Passes, Breaks, nothing}
use Rattle.dl_text.proofs.WritingLemmas.{passes_both, passes_breaks}
use Rattle.dl_command.specs.Causes.{Cut}

-- a text of which nothing is buffered was taken
pub taken_whole : (s t : Taken) (o : Buffered) (text : List ℕ) → Passes s nothing text t o → o.bytes ≡ [] → Took s.written t.written text
taken_whole s t o text put empty =
    let whole : put.taken ≡ text = sym (append-nil put.taken) ∙ ap (λ rest. put.taken ++ rest) (sym empty) ∙ put.whole in
    subst (λ (bytes : List ℕ). Took s.written t.written bytes) whole put.took

-- a text that was not put to its end was taken in part
pub taken_part : (s t : Taken) (text : List ℕ) → Breaks s nothing text t → Cut text s t
taken_part s t text breaks = record { rose = breaks.rose; taken = breaks.taken; lost = breaks.lost; took = breaks.took; whole = breaks.whole }

-- a text that was put and flushed was taken
pub written : (s t u : Taken) (o p : Buffered) (text : List ℕ) → Passes s nothing text t o → Passes t o [] u p → p.bytes ≡ [] → Took s.written u.written text
written s t u o p text put flushed empty = taken_whole s u p text (rw append-nil at (passes_both put flushed)) empty

-- a text that was put and not flushed was taken in part
pub cut_off : (s t u : Taken) (o : Buffered) (text : List ℕ) → Passes s nothing text t o → Breaks t o [] u → Cut text s u
cut_off s t u o text put breaks = taken_part s u text (rw append-nil at (passes_breaks put breaks))
