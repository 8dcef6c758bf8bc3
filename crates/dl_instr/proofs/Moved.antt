-- Steps and their jumps.
use Rattle.std.proofs.Common.{◌≡◌, ℕ, refl, sym, ap, ◌∙◌, Some, None}
use Rattle.dl_instr.specs.declared.steps.Step.{Step}
use Rattle.dl_instr.specs.declared.steps.Step.TheVariants.{Read, Want, Set, Drop, Make, Eval, Write, Emit, Test, Jump, Give}
use Rattle.dl_instr.specs.Drops.{moved}
use Rattle.dl_instr.specs.Jumps.{jump_of}
use Rattle.dl_instr.specs.Matching.{opened}

-- a moved jump goes where it was moved to
pub jump_on : (f : ℕ → ℕ) (step : Step) (t : ℕ) → jump_of step ≡ Some t → jump_of (moved f step) ≡ Some (f t)
jump_on f (Read q d) t is = cc
jump_on f Want t is = cc
jump_on f (Set p from) t is = cc
jump_on f (Drop p) t is = cc
jump_on f (Make kind) t is = cc
jump_on f (Eval value) t is = cc
jump_on f (Write q d content) t is = cc
jump_on f Emit t is = cc
jump_on f (Test c is_turn place) t is = let same : place ≡ t = cc in ap (λ n. Some (f n)) same
jump_on f (Jump place) t is = let same : place ≡ t = cc in ap (λ n. Some (f n)) same
jump_on f (Give value) t is = cc

-- and comes from a jump
pub jump_back : (f : ℕ → ℕ) (step : Step) (z : ℕ) → jump_of (moved f step) ≡ Some z → (t : ℕ) × (jump_of step ≡ Some t) × (f t ≡ z)
jump_back f (Read q d) z is = absurd cc
jump_back f Want z is = absurd cc
jump_back f (Set p from) z is = absurd cc
jump_back f (Drop p) z is = absurd cc
jump_back f (Make kind) z is = absurd cc
jump_back f (Eval value) z is = absurd cc
jump_back f (Write q d content) z is = absurd cc
jump_back f Emit z is = absurd cc
jump_back f (Test c is_turn place) z is = (place, refl, cc)
jump_back f (Jump place) z is = (place, refl, cc)
jump_back f (Give value) z is = absurd cc

-- moving twice is moving once
pub moved_twice : (f g : ℕ → ℕ) (step : Step) → moved f (moved g step) ≡ moved (λ n. f (g n)) step
moved_twice f g (Read q d) = refl
moved_twice f g Want = refl
moved_twice f g (Set p from) = refl
moved_twice f g (Drop p) = refl
moved_twice f g (Make kind) = refl
moved_twice f g (Eval value) = refl
moved_twice f g (Write q d content) = refl
moved_twice f g Emit = refl
moved_twice f g (Test c is_turn place) = refl
moved_twice f g (Jump place) = refl
moved_twice f g (Give value) = refl

-- a step without a jump is not moved
pub no_jump : (f : ℕ → ℕ) (step : Step) → jump_of step ≡ None → moved f step ≡ step
no_jump f (Read q d) is = refl
no_jump f Want is = refl
no_jump f (Set p from) is = refl
no_jump f (Drop p) is = refl
no_jump f (Make kind) is = refl
no_jump f (Eval value) is = refl
no_jump f (Write q d content) is = refl
no_jump f Emit is = refl
no_jump f (Test c is_turn place) is = cc
no_jump f (Jump place) is = cc
no_jump f (Give value) is = refl

-- where a jump is moved to is all that its move says
pub moved_to : (f : ℕ → ℕ) (step : Step) (t z : ℕ) → jump_of step ≡ Some t → f t ≡ z → moved (λ n. z) step ≡ moved f step
moved_to f (Read q d) t z is at = refl
moved_to f Want t z is at = refl
moved_to f (Set p from) t z is at = refl
moved_to f (Drop p) t z is at = refl
moved_to f (Make kind) t z is at = refl
moved_to f (Eval value) t z is at = refl
moved_to f (Write q d content) t z is at = refl
moved_to f Emit t z is at = refl
moved_to f (Test c is_turn place) t z is at = let same : place ≡ t = cc in ap (Test c is_turn) (sym at ∙ sym (ap f same))
moved_to f (Jump place) t z is at = let same : place ≡ t = cc in ap Jump (sym at ∙ sym (ap f same))
moved_to f (Give value) t z is at = refl

-- a step stays where it is moved to its own place
pub stays : (step : Step) (z : ℕ) → jump_of step ≡ Some z → moved (λ n. z) step ≡ step
stays (Read q d) z is = refl
stays Want z is = refl
stays (Set p from) z is = refl
stays (Drop p) z is = refl
stays (Make kind) z is = refl
stays (Eval value) z is = refl
stays (Write q d content) z is = refl
stays Emit z is = refl
stays (Test c is_turn place) z is = let same : place ≡ z = cc in ap (Test c is_turn) (sym same)
stays (Jump place) z is = let same : place ≡ z = cc in ap Jump (sym same)
stays (Give value) z is = refl

-- two steps that are the same but for their jumps
pub same_jump : (f : ℕ → ℕ) (a b : Step) (t z : ℕ) → opened a ≡ opened b → jump_of a ≡ Some t → jump_of b ≡ Some z → f t ≡ z → b ≡ moved f a
same_jump f a b t z same from to at =
    sym (stays b z to) ∙ sym (moved_twice (λ n. z) (λ n. 0) b) ∙ ap (moved (λ n. z)) (sym same) ∙ moved_twice (λ n. z) (λ n. 0) a ∙ moved_to f a t z from at

-- and neither jumps where one does not
pub both_jump : (a b : Step) (t : ℕ) → opened a ≡ opened b → jump_of a ≡ Some t → (z : ℕ) × (jump_of b ≡ Some z)
both_jump a b t same from =
    let there = jump_back (λ n. 0) b 0 (sym (ap jump_of same) ∙ jump_on (λ n. 0) a t from) in (there.0, there.1)

pub no_jumps : (f : ℕ → ℕ) (a b : Step) → opened a ≡ opened b → jump_of a ≡ None → jump_of b ≡ None → b ≡ moved f a
no_jumps f a b same from to = sym (no_jump (λ n. 0) b to) ∙ sym same ∙ no_jump (λ n. 0) a from ∙ sym (no_jump f a from)

-- what is the same as a drop is that drop
pub drop_is : (a : Step) (p : ℕ) → opened a ≡ opened (Drop p) → a ≡ Drop p
drop_is (Read q d) p is = cc
drop_is Want p is = cc
drop_is (Set q from) p is = cc
drop_is (Drop q) p is = is
drop_is (Make kind) p is = cc
drop_is (Eval value) p is = cc
drop_is (Write q d content) p is = cc
drop_is Emit p is = cc
drop_is (Test c is_turn place) p is = cc
drop_is (Jump place) p is = cc
drop_is (Give value) p is = cc
