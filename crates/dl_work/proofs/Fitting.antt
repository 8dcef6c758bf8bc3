-- Generated work fits each module that takes it, and its schedule has the callers that there are.
use Rattle.std.proofs.Common.{◌≡◌, ℕ, zero, suc, ◌+◌, ◌*◌, ◌%◌, ◌≤◌, true, false, cond, List, [], ◌∷◌, map, filter, ℤ, pos, refl, ap, subst, ◌∙◌, arith}
use Rattle.std.specs.Prelude.{◌==◌, nat_lt, slice_index_or, All}
use Rattle.std.specs.List.{range_with_len}
use Rattle.std.proofs.lemmas.List.{length-map}
use Rattle.std.proofs.lemmas.List.Elements.{All-map}
use Rattle.std.proofs.lemmas.List.FromFn.{length-range_with_len}
use Rattle.std.proofs.lemmas.List.Sums.{length-filter, count_by-le-length, sum_by-cons}
use Rattle.dl_ir.specs.declared.calls.Call.{Call}
use Rattle.dl_ir.specs.declared.modules.LocalDecl.{LocalDecl}
use Rattle.dl_ir.specs.declared.modules.Module.{Module}
use Rattle.dl_ir.specs.declared.modules.Ty.{Ty}
use Rattle.dl_ir.specs.declared.modules.Ty.TheVariants.{Of}
use Rattle.dl_ir.specs.CallForms.{FitsType, AllFit, IsCallOf, AreCallsOf}
use Rattle.dl_schedule.specs.declared.give.Give.{Give}
use Rattle.dl_schedule.specs.Rules.{AreGivesOf, IsGiveOf, steps_in}
use Rattle.dl_work.specs.Draws.{drawn}
use Rattle.dl_work.specs.Works.{call_from, call_of, file_of, files_of, give_of, schedule_of, TakesWork}

abbrev types : List LocalDecl → List Ty
types params = map (λ (param : LocalDecl). param.ty) params

module _ (source : Module) where
  one_fits : (params : List LocalDecl) (a : Ty) (x : ℤ) → types params ≡ a ∷ [] → FitsType source a x → AllFit source params (x ∷ [])
  one_fits [] a x is fits = cc
  one_fits (p ∷ []) a x is fits = let same : a ≡ p.ty = cc in (subst (λ t. FitsType source t x) same fits, tt)
  one_fits (p ∷ q ∷ rest) a x is fits = cc

  two_fit : (params : List LocalDecl) (a b : Ty) (x y : ℤ) → types params ≡ a ∷ b ∷ [] → FitsType source a x → FitsType source b y → AllFit source params (x ∷ y ∷ [])
  two_fit [] a b x y is first second = cc
  two_fit (p ∷ params) a b x y is first second =
      let same : a ≡ p.ty = cc in
      let rest : types params ≡ b ∷ [] = cc in
      (subst (λ t. FitsType source t x) same first, one_fits params b y rest second)

  module _ (takes : TakesWork source) where
    root_fits : (number : ℕ) → FitsType source (Of takes.kind) (pos (number % 4))
    root_fits number = record {
      number = number % 4;
      is_number = refl;
      decl = takes.declared;
      declared = takes.is_there;
      is_root = takes.is_root;
      not_before = omega (arith, takes.first);
      not_behind = omega (arith, takes.first, takes.roots);
    }

    call_fits : (which root number : ℕ) → IsCallOf source (call_from which root number)
    call_fits which root number =
        let insert : Call = record { op = 0; args = pos (root % 4) ∷ pos (number % 1000000) ∷ [] } in
        let pop : Call = record { op = 1; args = pos (root % 4) ∷ [] } in
        let meld : Call = record { op = 2; args = pos (root % 4) ∷ pos (number % 4) ∷ [] } in
        let inserts : IsCallOf source insert = record { op = takes.inserts.declared; declared = takes.inserts.is_there; fits = two_fit takes.inserts.declared.params _ _ _ _ takes.inserts.typed (root_fits root) tt } in
        let pops : IsCallOf source pop = record { op = takes.pops.declared; declared = takes.pops.is_there; fits = one_fits takes.pops.declared.params _ _ takes.pops.typed (root_fits root) } in
        let melds : IsCallOf source meld = record { op = takes.melds.declared; declared = takes.melds.is_there; fits = two_fit takes.melds.declared.params _ _ _ _ takes.melds.typed (root_fits root) (root_fits number) } in
        elim (nat_lt (which % 8) 4) as (λ a. IsCallOf source (cond a insert (cond (nat_lt (which % 8) 7) pop meld))) [
          | true ↦ inserts
          | false ↦ elim (nat_lt (which % 8) 7) as (λ b. IsCallOf source (cond b pop meld)) [ true ↦ pops | false ↦ melds ]
        ]

    of_number : (seed number : ℕ) → IsCallOf source (call_of seed number)
    of_number seed number = call_fits (drawn seed (3 * number)) (drawn seed (3 * number + 1)) (drawn seed (3 * number + 2))

    file_fits : (seed count callers caller : ℕ) → count ≤ 65536 → AreCallsOf source (file_of seed count callers caller)
    file_fits seed count callers caller few =
        let numbers = range_with_len 0 count in
        let test = λ (number : ℕ). number % callers + 1 == caller in
        record {
          each = All-map (IsCallOf source) (call_of seed) (filter test numbers) (λ k d within. of_number seed (slice_index_or (filter test numbers) k d));
          short = omega (arith, length-map (filter test numbers) (call_of seed), length-filter test numbers, count_by-le-length test numbers, length-range_with_len 0 count, few);
        }

    pub files_fit : (seed count callers : ℕ) → count ≤ 65536 → All (AreCallsOf source) (files_of seed count callers)
    files_fit seed count callers few = All-map (AreCallsOf source) (file_of seed count callers) (range_with_len 1 callers) (λ k d within. file_fits seed count callers (slice_index_or (range_with_len 1 callers) k d) few)

-- each give is of one step
steps_of_gives : (callers : ℕ) (number : ℕ → ℕ) (first n : ℕ) → steps_in (map (λ at. give_of callers (number at)) (range_with_len first n)) ≡ n
steps_of_gives callers number first zero = refl
steps_of_gives callers number first (suc n) =
    sum_by-cons (λ (give : Give). give.times) (give_of callers (number first)) (map (λ at. give_of callers (number at)) (range_with_len (first + 1) n))
    ∙ ap (λ k. 1 + k) (steps_of_gives callers number (first + 1) n) ∙ omega arith

pub schedule_fits : (seed count callers : ℕ) → 1 ≤ callers → count ≤ 65536 → AreGivesOf callers (schedule_of seed count callers)
schedule_fits seed count callers some few =
    let give = λ (at : ℕ). give_of callers (drawn seed (3 * count + at)) in
    record {
      each = All-map (IsGiveOf callers) give (range_with_len 0 (4 * count)) (λ k d within. record { caller = record { low = omega arith; high = omega (arith, some) }; some = omega arith; few = omega arith });
      few = omega (arith, steps_of_gives callers (λ at. drawn seed (3 * count + at)) 0 (4 * count), few);
    }
