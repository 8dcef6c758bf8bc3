-- How the calls of a text follow from its first line and the lines behind it.
use Rattle.std.proofs.Common.{◌≡◌, ◌≢◌, ℕ, ◌+◌, List, [], ◌∷◌, length, take, drop, refl, ap, ◌∙◌, sym}
use Rattle.std.specs.Prelude.{Option, Result, Ok, Err, MatchResult}
use Rattle.dl_ir.specs.declared.modules.Module.{Module}
use Rattle.dl_ir.specs.declared.calls.Call.{Call}
use Rattle.dl_syntax.specs.declared.calls.CallsFault.{CallsFault}
use Rattle.dl_syntax.specs.declared.calls.CallsFault.TheVariants.{NotAscii, BadByte, TooMany, NoOp, ArgCount, NotNumber, NoRoot, Memory}
use Rattle.dl_syntax.specs.Line.{is_feed, lines_of}
use Rattle.dl_syntax.specs.Calls.{call_of_line, after_line, calls_from, Gives}
use Rattle.dl_syntax.specs.Rules.{with_call}
use Rattle.dl_syntax.proofs.WordCuts.{piece_len, behind, pieces_cut}

-- the lines behind a line feed are those of the bytes behind it
behind_feed : (source : Module) (line : ℕ) (calls : List Call) (rest : List ℕ) → calls_from source line calls (behind is_feed rest) ≡ calls_from source line calls (lines_of (drop 1 rest))
behind_feed source line calls [] = refl
behind_feed source line calls (b ∷ rest) = refl

-- the first line, and what the lines behind it say
line_first : (source : Module) (line : ℕ) (calls : List Call) (rest text : List ℕ) → text ≡ take (piece_len is_feed rest) rest
    → calls_from source line calls (lines_of rest)
    ≡ after_line calls (call_of_line source line (length calls) text) (λ next. calls_from source (line + 1) next (behind is_feed (drop (piece_len is_feed rest) rest)))
line_first source line calls rest text e =
    ap (calls_from source line calls) (pieces_cut is_feed rest)
    ∙ ap (λ (t : List ℕ). after_line calls (call_of_line source line (length calls) t) (λ next. calls_from source (line + 1) next (behind is_feed (drop (piece_len is_feed rest) rest)))) (sym e)

-- a line at fault decides
pub line_fails : (source : Module) (line : ℕ) (calls : List Call) (rest text : List ℕ) (before : ℕ) (fault : CallsFault) → text ≡ take (piece_len is_feed rest) rest
    → before ≡ length calls → call_of_line source line before text ≡ Err fault → calls_from source line calls (lines_of rest) ≡ Err fault
line_fails source line calls rest text before fault e b h =
    line_first source line calls rest text e
    ∙ ap (λ (o : Result (Option Call) CallsFault). after_line calls o (λ next. calls_from source (line + 1) next (behind is_feed (drop (piece_len is_feed rest) rest)))) (ap (λ (n : ℕ). call_of_line source line n text) (sym b) ∙ h)

-- a line that says a call or none
pub line_says : (source : Module) (line : ℕ) (calls next : List Call) (rest text more : List ℕ) (before : ℕ) (call : Option Call) → text ≡ take (piece_len is_feed rest) rest
    → more ≡ drop 1 (drop (piece_len is_feed rest) rest) → before ≡ length calls → call_of_line source line before text ≡ Ok call → next ≡ with_call calls call
    → calls_from source (line + 1) next (lines_of more) ≡ calls_from source line calls (lines_of rest)
line_says source line calls next rest text more before call e m b h w =
    sym (line_first source line calls rest text e
    ∙ ap (λ (o : Result (Option Call) CallsFault). after_line calls o (λ next. calls_from source (line + 1) next (behind is_feed (drop (piece_len is_feed rest) rest)))) (ap (λ (n : ℕ). call_of_line source line n text) (sym b) ∙ h)
    ∙ behind_feed source (line + 1) (with_call calls call) (drop (piece_len is_feed rest) rest)
    ∙ ap (λ (t : List ℕ). calls_from source (line + 1) (with_call calls call) (lines_of t)) (sym m)
    ∙ ap (λ (cs : List Call). calls_from source (line + 1) cs (lines_of more)) (sym w))

-- where the outcome is a list of calls, a fault can only be want of memory
not_fault : (outcome : Result (List Call) CallsFault) (calls : List Call) (fault : CallsFault) → outcome ≡ Ok calls → (fault ≢ Memory → outcome ≡ Err fault) → fault ≡ Memory
not_fault outcome calls (NotAscii line) e g = let h : outcome ≡ Err (NotAscii line) = g (λ (z : NotAscii line ≡ Memory). cc) in cc
not_fault outcome calls (BadByte line) e g = let h : outcome ≡ Err (BadByte line) = g (λ (z : BadByte line ≡ Memory). cc) in cc
not_fault outcome calls (TooMany line) e g = let h : outcome ≡ Err (TooMany line) = g (λ (z : TooMany line ≡ Memory). cc) in cc
not_fault outcome calls (NoOp line) e g = let h : outcome ≡ Err (NoOp line) = g (λ (z : NoOp line ≡ Memory). cc) in cc
not_fault outcome calls (ArgCount line) e g = let h : outcome ≡ Err (ArgCount line) = g (λ (z : ArgCount line ≡ Memory). cc) in cc
not_fault outcome calls (NotNumber line) e g = let h : outcome ≡ Err (NotNumber line) = g (λ (z : NotNumber line ≡ Memory). cc) in cc
not_fault outcome calls (NoRoot line) e g = let h : outcome ≡ Err (NoRoot line) = g (λ (z : NoRoot line ≡ Memory). cc) in cc
not_fault outcome calls Memory e g = refl

-- what a reader that gives the outcome answers where there are calls
pub gives_only : (outcome result : Result (List Call) CallsFault) → Gives outcome result → (calls : List Call) → outcome ≡ Ok calls
    → MatchResult result (λ found. found ≡ calls) (λ fault. fault ≡ Memory)
gives_only outcome (Ok found) g calls e = cc
gives_only outcome (Err fault) g calls e = not_fault outcome calls fault e g

-- and where there is a fault
pub gives_fault : (outcome result : Result (List Call) CallsFault) → Gives outcome result → (fault : CallsFault) → outcome ≡ Err fault
    → MatchResult result (λ _. ⊥) (λ found. found ≢ Memory → found ≡ fault)
gives_fault outcome (Ok found) g fault e = cc
gives_fault outcome (Err found) g fault e = λ ne. let h : outcome ≡ Err found = g ne in cc
