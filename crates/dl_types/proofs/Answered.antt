-- What an answer says of the outcome that it gives.
use Rattle.std.proofs.Common.{◌≡◌, ◌≢◌, refl}
use Rattle.std.specs.Prelude.{Result, Ok, Err, MatchResult}
use Rattle.dl_types.specs.declared.fault.TypeFault.{TypeFault}
use Rattle.dl_types.specs.declared.fault.TypeFault.TheVariants.{Twice, Unknown, KindClash, RootInField, NewRoot, AssignRoot, NoRoots, Memory}
use Rattle.dl_types.specs.Checks.{Gives}

-- where the outcome is a value, a fault can only be want of memory
not_fault : {A : Type 0} (outcome : Result A TypeFault) (a : A) (fault : TypeFault) → outcome ≡ Ok a → (fault ≢ Memory → outcome ≡ Err fault) → fault ≡ Memory
not_fault outcome a (Twice line) e g = let h : outcome ≡ Err (Twice line) = g (λ (z : Twice line ≡ Memory). cc) in cc
not_fault outcome a (Unknown line) e g = let h : outcome ≡ Err (Unknown line) = g (λ (z : Unknown line ≡ Memory). cc) in cc
not_fault outcome a (KindClash line) e g = let h : outcome ≡ Err (KindClash line) = g (λ (z : KindClash line ≡ Memory). cc) in cc
not_fault outcome a (RootInField line) e g = let h : outcome ≡ Err (RootInField line) = g (λ (z : RootInField line ≡ Memory). cc) in cc
not_fault outcome a (NewRoot line) e g = let h : outcome ≡ Err (NewRoot line) = g (λ (z : NewRoot line ≡ Memory). cc) in cc
not_fault outcome a (AssignRoot line) e g = let h : outcome ≡ Err (AssignRoot line) = g (λ (z : AssignRoot line ≡ Memory). cc) in cc
not_fault outcome a (NoRoots line) e g = let h : outcome ≡ Err (NoRoots line) = g (λ (z : NoRoots line ≡ Memory). cc) in cc
not_fault outcome a Memory e g = refl

-- what is answered where the outcome is a value
pub gives_only : {A : Type 0} (outcome result : Result A TypeFault) → Gives outcome result → (a : A) → outcome ≡ Ok a
    → MatchResult result (λ found. found ≡ a) (λ fault. fault ≡ Memory)
gives_only outcome (Ok found) g a e = cc
gives_only outcome (Err fault) g a e = not_fault outcome a fault e g

-- what is answered where the outcome is a fault
pub gives_fault : {A : Type 0} (outcome result : Result A TypeFault) → Gives outcome result → (fault : TypeFault) → outcome ≡ Err fault
    → MatchResult result (λ _. ⊥) (λ found. found ≢ Memory → found ≡ fault)
gives_fault outcome (Ok found) g fault e = cc
gives_fault outcome (Err found) g fault e = λ ne. let h : outcome ≡ Err found = g ne in cc
