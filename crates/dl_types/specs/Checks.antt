-- Checks that give a value or a fault, one after another: the first fault decides.
use Rattle.std.specs.Prelude.{◌≡◌, ◌≢◌, List, [], ◌∷◌, ◌++◌, Option, Some, None, Result, Ok, Err}
use Rattle.dl_types.specs.declared.fault.TypeFault.{TypeFault}
use Rattle.dl_types.specs.declared.fault.TypeFault.TheVariants.{Memory}

infixl 10 ◌>>=◌
-- goes on with the value, if there is one
abbrev pub ◌>>=◌ : {A B : Type 0} → Result A TypeFault → (A → Result B TypeFault) → Result B TypeFault
Ok a >>= next = next a
Err fault >>= next = Err fault

-- the value, or the fault where there is none
abbrev pub or_fault : {A : Type 0} → Option A → TypeFault → Result A TypeFault
or_fault (Some a) fault = Ok a
or_fault None fault = Err fault

-- each of a list is checked behind what those before it gave
abbrev pub each : {A B : Type 0} → (List B → A → Result B TypeFault) → List B → List A → Result (List B) TypeFault
each check done [] = Ok done
each check done (a ∷ more) = check done a >>= λ b. each check (done ++ b ∷ []) more

-- what a function answers that may run out of memory at any point: the outcome, or that
abbrev pub Gives : {A : Type 0} → Result A TypeFault → Result A TypeFault → Type 0
Gives outcome (Ok a) = outcome ≡ Ok a
Gives outcome (Err fault) = fault ≢ Memory → outcome ≡ Err fault
