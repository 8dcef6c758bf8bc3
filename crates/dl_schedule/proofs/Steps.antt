-- How the gives of a text follow from its first line and the lines behind it.
use Rattle.std.proofs.Common.{◌≡◌, ◌≢◌, ℕ, ◌+◌, List, [], ◌∷◌, take, drop, refl, ap, ◌∙◌, sym, arith}
use Rattle.std.specs.Prelude.{Option, Some, None, Result, Ok, Err, MatchResult}
use Rattle.std.proofs.lemmas.List.Sums.{sum_by_push}
use Rattle.dl_syntax.specs.Line.{is_feed, lines_of}
use Rattle.dl_syntax.proofs.WordCuts.{piece_len, behind, pieces_cut}
use Rattle.dl_schedule.specs.declared.give.Give.{Give}
use Rattle.dl_schedule.specs.declared.give.ScheduleFault.{ScheduleFault}
use Rattle.dl_schedule.specs.declared.give.ScheduleFault.TheVariants.{NotAscii, BadByte, BadStep, NoCaller, TooMany, Memory}
use Rattle.dl_schedule.specs.Rules.{with_give, steps_in}
use Rattle.dl_schedule.specs.Reading.{give_of_line, times_of, after_line, gives_from, Gives}

-- the steps of one give more
pub steps_with : (gives : List Give) (give : Option Give) → steps_in (with_give gives give) ≡ steps_in gives + times_of give
steps_with gives None = omega arith
steps_with gives (Some give) = sum_by_push (λ (g : Give). g.times) gives give

-- the lines behind a line feed are those of the bytes behind it
behind_feed : (callers line : ℕ) (gives : List Give) (rest : List ℕ) → gives_from callers line gives (behind is_feed rest) ≡ gives_from callers line gives (lines_of (drop 1 rest))
behind_feed callers line gives [] = refl
behind_feed callers line gives (b ∷ rest) = refl

-- the first line, and what the lines behind it say
line_first : (callers line : ℕ) (gives : List Give) (rest text : List ℕ) → text ≡ take (piece_len is_feed rest) rest
    → gives_from callers line gives (lines_of rest)
    ≡ after_line gives (give_of_line callers line (steps_in gives) text) (λ next. gives_from callers (line + 1) next (behind is_feed (drop (piece_len is_feed rest) rest)))
line_first callers line gives rest text e =
    ap (gives_from callers line gives) (pieces_cut is_feed rest)
    ∙ ap (λ (t : List ℕ). after_line gives (give_of_line callers line (steps_in gives) t) (λ next. gives_from callers (line + 1) next (behind is_feed (drop (piece_len is_feed rest) rest)))) (sym e)

-- a line at fault decides
pub line_fails : (callers line : ℕ) (gives : List Give) (rest text : List ℕ) (before : ℕ) (fault : ScheduleFault) → text ≡ take (piece_len is_feed rest) rest
    → before ≡ steps_in gives → give_of_line callers line before text ≡ Err fault → gives_from callers line gives (lines_of rest) ≡ Err fault
line_fails callers line gives rest text before fault e b h =
    line_first callers line gives rest text e
    ∙ ap (λ (o : Result (Option Give) ScheduleFault). after_line gives o (λ next. gives_from callers (line + 1) next (behind is_feed (drop (piece_len is_feed rest) rest)))) (ap (λ (n : ℕ). give_of_line callers line n text) (sym b) ∙ h)

-- a line that says a give or none
pub line_says : (callers line : ℕ) (gives next : List Give) (rest text more : List ℕ) (before : ℕ) (give : Option Give) → text ≡ take (piece_len is_feed rest) rest
    → more ≡ drop 1 (drop (piece_len is_feed rest) rest) → before ≡ steps_in gives → give_of_line callers line before text ≡ Ok give → next ≡ with_give gives give
    → gives_from callers (line + 1) next (lines_of more) ≡ gives_from callers line gives (lines_of rest)
line_says callers line gives next rest text more before give e m b h w =
    sym (line_first callers line gives rest text e
    ∙ ap (λ (o : Result (Option Give) ScheduleFault). after_line gives o (λ next. gives_from callers (line + 1) next (behind is_feed (drop (piece_len is_feed rest) rest)))) (ap (λ (n : ℕ). give_of_line callers line n text) (sym b) ∙ h)
    ∙ behind_feed callers (line + 1) (with_give gives give) (drop (piece_len is_feed rest) rest)
    ∙ ap (λ (t : List ℕ). gives_from callers (line + 1) (with_give gives give) (lines_of t)) (sym m)
    ∙ ap (λ (gs : List Give). gives_from callers (line + 1) gs (lines_of more)) (sym w))

-- where the outcome is a list of gives, a fault can only be want of memory
not_fault : (outcome : Result (List Give) ScheduleFault) (gives : List Give) (fault : ScheduleFault) → outcome ≡ Ok gives → (fault ≢ Memory → outcome ≡ Err fault) → fault ≡ Memory
not_fault outcome gives (NotAscii line) e g = let h : outcome ≡ Err (NotAscii line) = g (λ (z : NotAscii line ≡ Memory). cc) in cc
not_fault outcome gives (BadByte line) e g = let h : outcome ≡ Err (BadByte line) = g (λ (z : BadByte line ≡ Memory). cc) in cc
not_fault outcome gives (BadStep line) e g = let h : outcome ≡ Err (BadStep line) = g (λ (z : BadStep line ≡ Memory). cc) in cc
not_fault outcome gives (NoCaller line) e g = let h : outcome ≡ Err (NoCaller line) = g (λ (z : NoCaller line ≡ Memory). cc) in cc
not_fault outcome gives (TooMany line) e g = let h : outcome ≡ Err (TooMany line) = g (λ (z : TooMany line ≡ Memory). cc) in cc
not_fault outcome gives Memory e g = refl

-- what a reader that gives the outcome answers where there are gives
pub gives_only : (outcome result : Result (List Give) ScheduleFault) → Gives outcome result → (gives : List Give) → outcome ≡ Ok gives
    → MatchResult result (λ found. found ≡ gives) (λ fault. fault ≡ Memory)
gives_only outcome (Ok found) g gives e = cc
gives_only outcome (Err fault) g gives e = not_fault outcome gives fault e g

-- and where there is a fault
pub gives_fault : (outcome result : Result (List Give) ScheduleFault) → Gives outcome result → (fault : ScheduleFault) → outcome ≡ Err fault
    → MatchResult result (λ _. ⊥) (λ found. found ≢ Memory → found ≡ fault)
gives_fault outcome (Ok found) g fault e = cc
gives_fault outcome (Err found) g fault e = λ ne. let h : outcome ≡ Err found = g ne in cc
