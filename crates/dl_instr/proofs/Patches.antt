-- Steps that are put in the place of steps that stood in for them.
use Rattle.std.proofs.Common.{◌≡◌, ℕ, ◌+◌, ◌-◌, Bool, true, false, IsTrue, ◌↔◌, List, [], ◌∷◌, ◌++◌, length, slice_set, Result, OnOk, refl, sym, ◌∙◌, ap, arith, append_assoc, length-append}
use Rattle.std.proofs.lemmas.Result.{on_ok_weaker}
use Rattle.std.proofs.Math.Seq.{set-append_seam}
use Rattle.dl_ir.specs.declared.expressions.Cond.{Cond}
use Rattle.dl_ir.specs.declared.statements.Stmt.{Stmt, Stmt-F}
use Rattle.dl_ir.specs.declared.statements.Stmt.TheFolds.{fold_out-Stmt, map-Stmt}
use Rattle.dl_ir.specs.declared.statements.Stmt.TheVariants.{If, outs-If}
use Rattle.dl_instr.specs.declared.steps.Step.{Step}
use Rattle.dl_instr.specs.declared.steps.Step.TheVariants.{Test, Jump}
use Rattle.dl_instr.specs.Code.{Placed, steps_of, tested, skipped, if_code, if_else_code, stmt_code, block_code}

-- a step that stands in is replaced, with what follows it
pub replaced : (old more : List Step) (stands_in step : Step) → slice_set ((old ++ stands_in ∷ []) ++ more) (length old) step ≡ old ++ step ∷ more
replaced old more stands_in step = rw append_assoc (set-append_seam old stands_in more step)

-- a step that stands in, a part behind it, and then the step, which names the place behind the part
pub put_before : (step : ℕ → Step) (part : Placed) (old one two new : List Step) (stands_in : Step) → one ≡ old ++ stands_in ∷ [] → two ≡ one ++ part (length one) →
    new ≡ slice_set two (length old) (step (length two)) → new ≡ old ++ step (length old + 1 + length (part (length old + 1))) ∷ part (length old + 1)
put_before step part old one two new stands_in is_one is_two is_new =
    let long : length one ≡ length old + 1 = ap length is_one ∙ length-append old (stands_in ∷ []) in
    let whole : two ≡ (old ++ stands_in ∷ []) ++ part (length old + 1) = is_two ∙ ap (λ n. one ++ part n) long ∙ ap (λ o. o ++ part (length old + 1)) is_one in
    let end : length two ≡ length old + 1 + length (part (length old + 1)) =
    ap length whole ∙ length-append (old ++ stands_in ∷ []) (part (length old + 1)) ∙ ap (λ n. n + length (part (length old + 1))) (length-append old (stands_in ∷ [])) in
    is_new ∙ ap (λ n. slice_set two (length old) (step n)) end
    ∙ ap (λ l. slice_set l (length old) (step (length old + 1 + length (part (length old + 1))))) whole
    ∙ replaced old (part (length old + 1)) stands_in (step (length old + 1 + length (part (length old + 1))))

-- a test that was put before a block and a last step
pub put_tested : (c : Cond) (is_turn : Bool) (block : Placed) (last : Step) (old one two three new : List Step) (stands_in : Step) → one ≡ old ++ stands_in ∷ [] →
    two ≡ one ++ block (length one) → three ≡ two ++ last ∷ [] → new ≡ slice_set three (length old) (Test c is_turn (length three)) →
    new ≡ old ++ tested c is_turn block last (length old)
put_tested c is_turn block last old one two three new stands_in is_one is_two is_three is_new =
    let part : Placed = λ n. block n ++ last ∷ [] in
    let whole : three ≡ one ++ part (length one) = is_three ∙ ap (λ l. l ++ last ∷ []) is_two ∙ append_assoc one (block (length one)) (last ∷ []) in
    let first : ℕ = length old + 1 in
    let long : length (part first) ≡ length (block first) + 1 = length-append (block first) (last ∷ []) in
    let place : first + length (part first) ≡ first + length (block first) + 1 = omega arith in
    put_before (Test c is_turn) part old one three new stands_in is_one whole is_new ∙ ap (λ n. old ++ Test c is_turn n ∷ part first) place

-- a jump that was put before another block
pub put_skipped : (block : Placed) (front old added new : List Step) (last : Step) → old ≡ front ++ last ∷ [] → added ≡ old ++ block (length old) →
    new ≡ slice_set added (length old - 1) (Jump (length added)) → new ≡ front ++ skipped block (length old)
put_skipped block front old added new last is_old is_added is_new =
    let more : List Step = block (length old) in
    let long : length old ≡ length front + 1 = ap length is_old ∙ length-append front (last ∷ []) in
    let at : length old - 1 ≡ length front = omega arith in
    let end : length added ≡ length old + length more = ap length is_added ∙ length-append old more in
    is_new ∙ ap (λ n. slice_set added n (Jump (length added))) at
    ∙ ap (λ n. slice_set added (length front) (Jump n)) end
    ∙ ap (λ l. slice_set l (length front) (Jump (length old + length more))) (is_added ∙ ap (λ l. l ++ more) is_old)
    ∙ replaced front more last (Jump (length old + length more))

-- what an `if` with two blocks becomes
if_else_is : (c : Cond) (block other : List Stmt) (first : ℕ) → (other ≡ [] → ⊥) → stmt_code (If c block other) first ≡ if_else_code c (block_code block) (block_code other) first
if_else_is c block [] first some = absurd (some refl)
if_else_is c block (d ∷ ds) first some =
    ap (λ (g : Placed). g first) (fold_out-Stmt Placed steps_of (If c block (d ∷ ds)))
    ∙ ap (λ (l : Stmt-F Stmt). steps_of (map-Stmt Stmt Placed stmt_code l) first) (outs-If c block (d ∷ ds))

-- both blocks of an `if` were put, the jump standing in the place of the last step of the first part
pub put_both : {T E : Type 0} (r : Result T E) (c : Cond) (block other : List Stmt) (s : Stmt) (old mid new : List Step) (stands_in : Step) → s ≡ If c block other → (other ≡ [] → ⊥) →
    mid ≡ old ++ tested c false (block_code block) stands_in (length old) →
    ((front : List Step) (last : Step) → mid ≡ front ++ last ∷ [] → OnOk r (new ≡ front ++ skipped (block_code other) (length mid))) →
    OnOk r (new ≡ old ++ stmt_code s (length old))
put_both r c block other s old mid new stands_in is_if some is_mid is_new =
    let first : ℕ = length old + 1 in
    let body : List Step = block_code block first in
    let second : ℕ = first + length body + 1 in
    let front : List Step = Test c false second ∷ body in
    let split : mid ≡ (old ++ front) ++ stands_in ∷ [] = is_mid ∙ sym (append_assoc old front (stands_in ∷ [])) in
    let long : length mid ≡ length (old ++ front) + 1 = ap length split ∙ length-append (old ++ front) (stands_in ∷ []) in
    let both : length (old ++ front) ≡ length old + length front = length-append old front in
    let place : length mid ≡ second = omega arith in
    on_ok_weaker r (λ (is : new ≡ (old ++ front) ++ skipped (block_code other) (length mid)).
    is ∙ ap (λ n. (old ++ front) ++ skipped (block_code other) n) place
    ∙ append_assoc old front (skipped (block_code other) second)
    ∙ ap (λ l. old ++ l) (sym (if_else_is c block other (length old) some))
    ∙ ap (λ d. old ++ stmt_code d (length old)) (sym is_if))
    (is_new (old ++ front) stands_in split)

-- a test that was put before the block that it guards
pub put_if : {T E : Type 0} (r : Result T E) (c : Cond) (block : Placed) (old one two new : List Step) (at : ℕ) (stands_in : Step) → at ≡ length old → one ≡ old ++ stands_in ∷ [] →
    two ≡ one ++ block (length one) → OnOk r (new ≡ slice_set two at (Test c false (length two))) → OnOk r (new ≡ old ++ if_code c block (length old))
put_if r c block old one two new at stands_in is_at is_one is_two is_new =
    on_ok_weaker r (λ (is : new ≡ slice_set two at (Test c false (length two))).
    put_before (Test c false) block old one two new stands_in is_one is_two (is ∙ ap (λ n. slice_set two n (Test c false (length two))) is_at))
    is_new

-- the same of a test before a block and a last step
pub put_tested_at : {T E : Type 0} (r : Result T E) (c : Cond) (is_turn : Bool) (block : Placed) (last : Step) (old one two three new : List Step) (at : ℕ) (stands_in : Step) → at ≡ length old →
    one ≡ old ++ stands_in ∷ [] → two ≡ one ++ block (length one) → three ≡ two ++ last ∷ [] → OnOk r (new ≡ slice_set three at (Test c is_turn (length three))) →
    OnOk r (new ≡ old ++ tested c is_turn block last (length old))
put_tested_at r c is_turn block last old one two three new at stands_in is_at is_one is_two is_three is_new =
    on_ok_weaker r (λ (is : new ≡ slice_set three at (Test c is_turn (length three))).
    put_tested c is_turn block last old one two three new stands_in is_one is_two is_three (is ∙ ap (λ n. slice_set three n (Test c is_turn (length three))) is_at))
    is_new

-- what is tested false does not hold
pub not_so : {P : Type 0} (b : Bool) → IsTrue b ↔ P → b ≡ false → P → ⊥
not_so b tests is_false holds = let is_true : b ≡ true = tests.1 holds in cc

-- a jump that was put at the place of the last step before another block
pub put_skipped_at : (block : Placed) (front old added new : List Step) (last : Step) (long place : ℕ) → long ≡ length old → place ≡ length added →
    old ≡ front ++ last ∷ [] → added ≡ old ++ block (length old) → new ≡ slice_set added (long - 1) (Jump place) → new ≡ front ++ skipped block (length old)
put_skipped_at block front old added new last long place is_long is_place is_old is_added is_new =
    put_skipped block front old added new last is_old is_added
    (is_new ∙ ap (λ n. slice_set added (n - 1) (Jump place)) is_long ∙ ap (λ n. slice_set added (length old - 1) (Jump n)) is_place)
