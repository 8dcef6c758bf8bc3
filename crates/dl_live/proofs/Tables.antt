-- Marks of each local.
use Rattle.std.proofs.Common.{◌≡◌, ℕ, zero, suc, ◌+◌, ◌<◌, true, false, Bool, Some, List, [], ◌∷◌, ◌++◌, length, slice_get, arith, refl, sym, ap, subst, ◌∙◌, inl, inr, ◌↔◌, Result, Ok, Err, IfOk}
use Rattle.std.proofs.lemmas.Bool.{cases_lt}
use Rattle.std.proofs.lemmas.Option.{slice_get_past}
use Rattle.dl_ir.specs.declared.modules.LocalDecl.{LocalDecl}
use Rattle.dl_ir.specs.declared.modules.OpDecl.{OpDecl}
use Rattle.dl_instr.specs.declared.steps.Step.{Step}
use Rattle.dl_instr.specs.Drops.{is_reference}
use Rattle.dl_live.specs.Dropped.{IsDroppedBefore, IsDropped, drops_of, spread}
use Rattle.dl_live.specs.Marks.{AreDropped, IsTable, is_marked, is_picked, marks_or_none, drops_at}
use Rattle.dl_lemmas.proofs.Places.{at_seam, within_first}

-- one more row
pub rows_more : (op : OpDecl) (steps : List Step) (table : List (List Bool)) (row : List Bool) (local : ℕ) → length table ≡ local
    → ((at k : ℕ) → k < local → (is_picked table at k ≡ true) ↔ IsDroppedBefore op steps at k) → AreDropped op steps local row
    → (at k : ℕ) → k < local + 1 → (is_picked (table ++ row ∷ []) at k ≡ true) ↔ IsDroppedBefore op steps at k
rows_more op steps table row local long before here at k h = elim (cases_lt k local) [
  | inl less ↦
      let same : is_picked (table ++ row ∷ []) at k ≡ is_picked table at k = ap (λ o. is_marked (marks_or_none o) at) (within_first table (row ∷ []) k (omega (arith, less, long))) in
      subst (λ b. (b ≡ true) ↔ IsDroppedBefore op steps at k) (sym same) (before at k less)
  | inr behind ↦
      let one : length table ≡ k = omega (arith, behind, h, long) in
      let other : local ≡ k = omega (arith, behind, h) in
      let same : is_picked (table ++ row ∷ []) at k ≡ is_marked row at =
      ap (λ n. is_picked (table ++ row ∷ []) at n) (sym one) ∙ ap (λ o. is_marked (marks_or_none o) at) (at_seam table [] row) in
      subst (λ b. (b ≡ true) ↔ IsDroppedBefore op steps at k) (sym same) (subst (λ n. (is_marked row at ≡ true) ↔ IsDroppedBefore op steps at n) other (here at))
]

within : (declared : List LocalDecl) (k : ℕ) → is_reference (slice_get declared k) ≡ true → k < length declared
within declared k is = elim (cases_lt k (length declared)) [
  | inl h ↦ h
  | inr past ↦ let none : false ≡ true = ap is_reference (sym (slice_get_past declared k past)) ∙ is in absurd cc
]

pub all_rows : (op : OpDecl) (steps : List Step) (table : List (List Bool)) → length table ≡ length (op.params ++ op.vars)
    → ((at k : ℕ) → k < length table → (is_picked table at k ≡ true) ↔ IsDroppedBefore op steps at k) → IsTable op steps table
all_rows op steps table long rows = record {
  one_each = long;
  rows = λ at k. elim (cases_lt k (length table)) [
    | inl h ↦ rows at k h
    | inr past ↦
        let none : is_picked table at k ≡ false = ap (λ o. is_marked (marks_or_none o) at) (slice_get_past table k past) in (
          λ is. absurd (let wrong : false ≡ true = sym none ∙ is in cc),
          λ d. absurd (let h = within (op.params ++ op.vars) k (d.refers) in omega (arith, h, long, past)),
        )
  ];
}

-- what is made with a table is what the definition says
pub made_by : {E : Type 0} (op : OpDecl) (steps : List Step) (table : List (List Bool)) (result : Result (List Step) E) → IsTable op steps table
    → IfOk result (λ made. made ≡ spread (drops_at table) steps) → IfOk result (IsDropped op steps)
made_by op steps table (Ok made) t is = record {
  picks = is_picked table;
  exact = t.rows;
  is = is ∙ ap (λ n. spread (λ at. drops_of (is_picked table at) n) steps) (t.one_each);
}
made_by op steps table (Err error) t is = is
