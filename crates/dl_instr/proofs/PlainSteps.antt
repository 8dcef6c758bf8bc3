-- Where the steps of statements and blocks stand.
use Rattle.std.proofs.Common.{◌≡◌, ℕ, zero, suc, ◌+◌, ◌-◌, ◌<◌, ◌≤◌, ◌^◌, true, false, List, [], ◌∷◌, ◌++◌, length, drop, get_or, refl, sym, ap, subst, ◌∙◌, Option, Some, None, arith, inl, inr, slice_get, MatchOption, length-append, drop-cons, add-one}
use Rattle.std.specs.Option.{SomeIff}
use Rattle.std.proofs.lemmas.Bool.{cases_lt}
use Rattle.std.proofs.lemmas.Option.{slice_get_past}
use Rattle.dl_ir.specs.declared.expressions.Cond.{Cond}
use Rattle.dl_ir.specs.declared.statements.Stmt.{Stmt}
use Rattle.dl_ir.specs.declared.statements.Stmt.TheFolds.{fold_out-Stmt, map-Stmt}
use Rattle.dl_ir.specs.declared.statements.Stmt.TheVariants.{If, While, outs-If, outs-While}
use Rattle.dl_instr.specs.declared.steps.Step.{Step}
use Rattle.dl_instr.specs.declared.steps.Step.TheVariants.{Test, Jump}
use Rattle.dl_instr.specs.Code.{Placed, stmt_code, block_code, steps_of, if_code, if_else_code, while_code}

pub if_alone_is : (s : Stmt) (c : Cond) (body other : List Stmt) (first : ℕ) → s ≡ If c body other → other ≡ [] → stmt_code s first ≡ if_code c (block_code body) first
if_alone_is s c body [] first is none =
    ap (λ d. stmt_code d first) is ∙ ap (λ (p : Placed). p first) (fold_out-Stmt Placed steps_of (If c body []))
    ∙ ap (λ m. steps_of (map-Stmt Stmt Placed stmt_code m) first) (outs-If c body [])
if_alone_is s c body (d ∷ other) first is none = absurd cc

pub if_else_is : (s : Stmt) (c : Cond) (body other : List Stmt) (first : ℕ) → s ≡ If c body other → (other ≡ [] → ⊥) → stmt_code s first ≡ if_else_code c (block_code body) (block_code other) first
if_else_is s c body [] first is some = absurd (some refl)
if_else_is s c body (d ∷ other) first is some =
    ap (λ e. stmt_code e first) is ∙ ap (λ (p : Placed). p first) (fold_out-Stmt Placed steps_of (If c body (d ∷ other)))
    ∙ ap (λ m. steps_of (map-Stmt Stmt Placed stmt_code m) first) (outs-If c body (d ∷ other))

pub while_is : (s : Stmt) (c : Cond) (body : List Stmt) (first : ℕ) → s ≡ While c body → stmt_code s first ≡ while_code c (block_code body) first
while_is s c body first is =
    ap (λ d. stmt_code d first) is ∙ ap (λ (p : Placed). p first) (fold_out-Stmt Placed steps_of (While c body))
    ∙ ap (λ m. steps_of (map-Stmt Stmt Placed stmt_code m) first) (outs-While c body)

-- an end that is there where it fits
abbrev pub Ends : Option ℕ → ℕ → Type 0
Ends found end = MatchOption found (2 ^ 64 ≤ end) (λ e. e ≡ end)

pub same_end : (found : Option ℕ) (a b : ℕ) → a ≡ b → Ends found a → Ends found b
same_end found a b same ends = subst (λ n. Ends found n) same ends

pub added_one : (found : Option ℕ) (end : ℕ) → SomeIff found (end + 1 < 2 ^ 64) (end + 1) → Ends found (end + 1)
added_one None end iff = elim (cases_lt (end + 1) (2 ^ 64)) [ inl less ↦ absurd (iff less) | inr more ↦ more ]
added_one (Some e) end iff = iff.1

pub if_else_ends : (s : Stmt) (c : Cond) (body other : List Stmt) (first end : ℕ) → s ≡ If c body other → (other ≡ [] → ⊥) → end ≡ first + 1 + length (block_code body (first + 1))
    → end + 1 + length (block_code other (end + 1)) ≡ first + length (stmt_code s first)
if_else_ends s c body other first end is some at =
    let second = first + 1 + length (block_code body (first + 1)) + 1 in
    let whole = ap length (if_else_is s c body other first is some) in
    let parts = length-append (block_code body (first + 1)) (Jump (second + length (block_code other second)) ∷ block_code other second) in
    let same : end + 1 ≡ second = omega (arith, at) in
    let long = ap (λ n. length (block_code other n)) same in
    omega (arith, whole, parts, at, long)

pub while_ends : (s : Stmt) (c : Cond) (body : List Stmt) (first end : ℕ) → s ≡ While c body → end ≡ first + 1 + length (block_code body (first + 1))
    → end + 1 ≡ first + length (stmt_code s first)
while_ends s c body first end is at =
    let whole = ap length (while_is s c body first is) in
    let back : List Step = Jump first ∷ [] in
    let parts = length-append (block_code body (first + 1)) back in
    omega (arith, whole, parts, at)

-- the steps of two lists, one behind the other
pub in_front_part : (xs ys : List Step) (i : ℕ) → i < length xs → slice_get (xs ++ ys) i ≡ slice_get xs i
in_front_part [] ys i h = absurd (omega (arith, h))
in_front_part (x ∷ xs) ys zero h = refl
in_front_part (x ∷ xs) ys (suc i) h = in_front_part xs ys i (omega (arith, h))

pub in_back_part : (xs ys : List Step) (i k : ℕ) → i ≡ length xs + k → slice_get (xs ++ ys) i ≡ slice_get ys k
in_back_part [] ys i k at = ap (slice_get ys) (omega (arith, at))
in_back_part (x ∷ xs) ys zero k at = absurd (omega (arith, at))
in_back_part (x ∷ xs) ys (suc i) k at = in_back_part xs ys i k (omega (arith, at))

-- the steps of a test, a block and what follows
pub at_test : (t : Step) (rest : List Step) (at : ℕ) → at ≡ 0 → slice_get (t ∷ rest) at ≡ Some t
at_test t rest zero is = refl
at_test t rest (suc at) is = absurd (omega (arith, is))

pub at_block : (t : Step) (block rest : List Step) (at k : ℕ) → at ≡ k + 1 → k < length block → slice_get (t ∷ block ++ rest) at ≡ slice_get block k
at_block t block rest zero k is h = absurd (omega (arith, is))
at_block t block rest (suc at) k is h = let same : at ≡ k = omega (arith, is) in ap (slice_get (block ++ rest)) same ∙ in_front_part block rest k h

pub at_alone : (t : Step) (block : List Step) (at k : ℕ) → at ≡ k + 1 → slice_get (t ∷ block) at ≡ slice_get block k
at_alone t block zero k is = absurd (omega (arith, is))
at_alone t block (suc at) k is = ap (slice_get block) (omega (arith, is))

pub at_rest : (t : Step) (block rest : List Step) (at k : ℕ) → at ≡ length block + 1 + k → slice_get (t ∷ block ++ rest) at ≡ slice_get rest k
at_rest t block rest zero k is = absurd (omega (arith, is))
at_rest t block rest (suc at) k is = in_back_part block rest at k (omega (arith, is))

pub past_block : (t : Step) (block : List Step) (at : ℕ) → length block < at → slice_get (t ∷ block) at ≡ None
past_block t block zero h = absurd (omega (arith, h))
past_block t block (suc at) h = slice_get_past block at (omega (arith, h))

-- the rest of a block begins with its first statement
pub row_is : (items : List Stmt) (i : ℕ) (s : Stmt) (place : ℕ) → i < length items → s ≡ get_or items i s
    → block_code (drop i items) place ≡ stmt_code s place ++ block_code (drop (i + 1) items) (place + length (stmt_code s place))
row_is items i s place h is =
    let next : i + 1 ≡ suc i = add-one i in
    let row : drop i items ≡ s ∷ drop (i + 1) items = drop-cons items i s h ∙ ap (λ d. d ∷ drop (suc i) items) (sym is) ∙ ap (λ n. s ∷ drop n items) (sym next) in
    ap (λ block. block_code block place) row

pub row_first : (items : List Stmt) (i : ℕ) (s : Stmt) (place left : ℕ) → i < length items → s ≡ get_or items i s → left < length (stmt_code s place)
    → slice_get (block_code (drop i items) place) left ≡ slice_get (stmt_code s place) left
row_first items i s place left h is less =
    ap (λ steps. slice_get steps left) (row_is items i s place h is) ∙ in_front_part (stmt_code s place) (block_code (drop (i + 1) items) (place + length (stmt_code s place))) left less

pub row_next : (items : List Stmt) (i : ℕ) (s : Stmt) (place left end : ℕ) → i < length items → s ≡ get_or items i s → end ≡ place + length (stmt_code s place) → length (stmt_code s place) ≤ left
    → slice_get (block_code (drop (i + 1) items) end) (left - (end - place)) ≡ slice_get (block_code (drop i items) place) left
row_next items i s place left end h is at more =
    let n = length (stmt_code s place) in
    sym (ap (λ steps. slice_get steps left) (row_is items i s place h is)
    ∙ in_back_part (stmt_code s place) (block_code (drop (i + 1) items) (place + n)) left (left - (end - place)) (omega (arith, at, more))
    ∙ ap (λ p. slice_get (block_code (drop (i + 1) items) p) (left - (end - place))) (sym at))

pub row_length : (items : List Stmt) (i : ℕ) (s : Stmt) (place end : ℕ) → i < length items → s ≡ get_or items i s → end ≡ place + length (stmt_code s place)
    → end + length (block_code (drop (i + 1) items) end) ≡ place + length (block_code (drop i items) place)
row_length items i s place end h is at =
    let whole = ap length (row_is items i s place h is) in
    let parts = length-append (stmt_code s place) (block_code (drop (i + 1) items) (place + length (stmt_code s place))) in
    let same = ap (λ p. length (block_code (drop (i + 1) items) p)) at in
    omega (arith, whole, parts, same, at)

-- the steps of an `if` and of a loop, by how far they are behind the test
module _ (s : Stmt) (c : Cond) (body : List Stmt) (first at end : ℕ) (is_end : end ≡ first + 1 + length (block_code body (first + 1))) where
  pub if_test_alone : (other : List Stmt) → s ≡ If c body other → other ≡ [] → at ≡ 0 → Some (Test c false end) ≡ slice_get (stmt_code s first) at
  if_test_alone other is none zero_is =
      sym (ap (λ steps. slice_get steps at) (if_alone_is s c body other first is none) ∙ at_test (Test c false (first + 1 + length (block_code body (first + 1)))) (block_code body (first + 1)) at zero_is
      ∙ ap (λ n. Some (Test c false n)) (sym is_end))

  pub if_test_else : (other : List Stmt) → s ≡ If c body other → (other ≡ [] → ⊥) → at ≡ 0 → Some (Test c false (end + 1)) ≡ slice_get (stmt_code s first) at
  if_test_else other is some zero_is =
      let second = first + 1 + length (block_code body (first + 1)) + 1 in
      let same : second ≡ end + 1 = omega (arith, is_end) in
      sym (ap (λ steps. slice_get steps at) (if_else_is s c body other first is some)
      ∙ at_test (Test c false second) (block_code body (first + 1) ++ Jump (second + length (block_code other second)) ∷ block_code other second) at zero_is
      ∙ ap (λ n. Some (Test c false n)) same)

  pub if_first : (other : List Stmt) (k : ℕ) → s ≡ If c body other → at ≡ k + 1 → k < length (block_code body (first + 1))
      → slice_get (block_code body (first + 1)) k ≡ slice_get (stmt_code s first) at
  if_first [] k is behind less =
      sym (ap (λ steps. slice_get steps at) (if_alone_is s c body [] first is refl)
      ∙ at_alone (Test c false (first + 1 + length (block_code body (first + 1)))) (block_code body (first + 1)) at k behind)
  if_first (d ∷ other) k is behind less =
      let second = first + 1 + length (block_code body (first + 1)) + 1 in
      sym (ap (λ steps. slice_get steps at) (if_else_is s c body (d ∷ other) first is (λ none. absurd cc))
      ∙ at_block (Test c false second) (block_code body (first + 1)) (Jump (second + length (block_code (d ∷ other) second)) ∷ block_code (d ∷ other) second) at k behind less)

  pub if_none : (other : List Stmt) → s ≡ If c body other → other ≡ [] → end - first ≤ at → None ≡ slice_get (stmt_code s first) at
  if_none other is none more =
      sym (ap (λ steps. slice_get steps at) (if_alone_is s c body other first is none)
      ∙ past_block (Test c false (first + 1 + length (block_code body (first + 1)))) (block_code body (first + 1)) at (omega (arith, is_end, more)))

  else_rest : (other : List Stmt) (k : ℕ) → s ≡ If c body other → (other ≡ [] → ⊥) → at ≡ end - first + k
      → slice_get (stmt_code s first) at ≡ slice_get (Jump (end + 1 + length (block_code other (end + 1))) ∷ block_code other (end + 1)) k
  else_rest other k is some behind =
      let second = first + 1 + length (block_code body (first + 1)) + 1 in
      let same : second ≡ end + 1 = omega (arith, is_end) in
      ap (λ steps. slice_get steps at) (if_else_is s c body other first is some)
      ∙ at_rest (Test c false second) (block_code body (first + 1)) (Jump (second + length (block_code other second)) ∷ block_code other second) at k (omega (arith, is_end, behind))
      ∙ ap (λ n. slice_get (Jump (n + length (block_code other n)) ∷ block_code other n) k) same

  pub if_jump : (other : List Stmt) (last : ℕ) → s ≡ If c body other → (other ≡ [] → ⊥) → at ≡ end - first → last ≡ end + 1 + length (block_code other (end + 1))
      → Some (Jump last) ≡ slice_get (stmt_code s first) at
  if_jump other last is some behind is_last = ap (λ n. Some (Jump n)) is_last ∙ sym (else_rest other 0 is some (omega (arith, behind)))

  pub if_second : (other : List Stmt) (k : ℕ) → s ≡ If c body other → (other ≡ [] → ⊥) → at ≡ end - first + suc k
      → slice_get (block_code other (end + 1)) k ≡ slice_get (stmt_code s first) at
  if_second other k is some behind = sym (else_rest other (suc k) is some behind)

  pub while_test : s ≡ While c body → at ≡ 0 → Some (Test c true (end + 1)) ≡ slice_get (stmt_code s first) at
  while_test is zero_is =
      let end_is : first + 1 + length (block_code body (first + 1)) + 1 ≡ end + 1 = omega (arith, is_end) in
      sym (ap (λ steps. slice_get steps at) (while_is s c body first is)
      ∙ at_test (Test c true (first + 1 + length (block_code body (first + 1)) + 1)) (block_code body (first + 1) ++ Jump first ∷ []) at zero_is
      ∙ ap (λ n. Some (Test c true n)) end_is)

  pub while_first : (k : ℕ) → s ≡ While c body → at ≡ k + 1 → k < length (block_code body (first + 1)) → slice_get (block_code body (first + 1)) k ≡ slice_get (stmt_code s first) at
  while_first k is behind less =
      sym (ap (λ steps. slice_get steps at) (while_is s c body first is)
      ∙ at_block (Test c true (first + 1 + length (block_code body (first + 1)) + 1)) (block_code body (first + 1)) (Jump first ∷ []) at k behind less)

  while_rest : (k : ℕ) → s ≡ While c body → at ≡ end - first + k → slice_get (stmt_code s first) at ≡ slice_get {X = Step} (Jump first ∷ []) k
  while_rest k is behind =
      ap (λ steps. slice_get steps at) (while_is s c body first is)
      ∙ at_rest (Test c true (first + 1 + length (block_code body (first + 1)) + 1)) (block_code body (first + 1)) (Jump first ∷ []) at k (omega (arith, is_end, behind))

  pub while_jump : s ≡ While c body → at ≡ end - first → Some (Jump first) ≡ slice_get (stmt_code s first) at
  while_jump is behind = sym (while_rest 0 is (omega (arith, behind)))

  pub while_none : s ≡ While c body → end - first < at → None ≡ slice_get (stmt_code s first) at
  while_none is more = sym (while_rest (suc (at - (end - first) - 1)) is (omega (arith, more)) ∙ slice_get_past {X = Step} [] (at - (end - first) - 1) (omega arith))
