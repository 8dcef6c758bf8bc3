-- the pool of served calls
use Rattle.std.proofs.Common.{◌≡◌, ℕ, ◌+◌, ◌≤◌, true, false, [], ◌∷◌, ◌++◌, refl, arith, pos, ◌-ℤ◌}
use Rattle.std.specs.Prelude.{nat_lt, if◌then◌else◌}
use Rattle.std.proofs.lemmas.Int.{ints}
use Rattle.std.proofs.lemmas.Bool.Decides.{nat_tests}
use Rattle.dl_ir.specs.declared.answers.Entry.{Entry}
use Rattle.dl_ir.specs.declared.moves.Move.{Move}
use Rattle.dl_shape.specs.Pool.{reservation_of, return_of}
use Rattle.dl_serial.proofs.Lawful.{level, Stays}

not_less : (n : ℕ) → nat_lt 0 n ≡ false → n ≡ 0
not_less n t = grind (arith, nat_tests)

-- the moves of an entry keep the free places from being negative, and leave what the heap leaves
pub entry_pool : (e : Entry) (allocs hidden left places : ℕ) → allocs + hidden ≤ places → e.returned + left ≡ allocs + hidden
    → Stays (pos places -ℤ pos hidden) (reservation_of e allocs ++ return_of e) × (level (pos places -ℤ pos hidden) (reservation_of e allocs ++ return_of e) ≡ pos places -ℤ pos left)
entry_pool e allocs hidden left places fits back =
    let reserved : Move = record { version = e.reserved_at; change = pos 0 -ℤ pos allocs; ticket = e.ticket } in
    let returned : Move = record { version = e.returned_at; change = pos e.returned; ticket = e.ticket } in
    let free = pos places -ℤ pos hidden in
    elim (nat_lt 0 allocs) as (λ t. nat_lt 0 allocs ≡ t → Stays free ((if t then reserved ∷ [] else []) ++ return_of e) × (level free ((if t then reserved ∷ [] else []) ++ return_of e) ≡ pos places -ℤ pos left)) [
      | true ↦ λ _. elim (nat_lt 0 e.returned) as (λ u. nat_lt 0 e.returned ≡ u → Stays free (reserved ∷ (if u then returned ∷ [] else [])) × (level free (reserved ∷ (if u then returned ∷ [] else [])) ≡ pos places -ℤ pos left)) [
        | true ↦ λ _. ((omega (arith, ints), (omega (arith, ints), omega (arith, ints))), omega (arith, ints))
        | false ↦ λ u. let none = not_less e.returned u in ((omega (arith, ints), omega (arith, ints, none)), omega (arith, ints, none))
      ] refl
      | false ↦ λ t. let nothing = not_less allocs t in elim (nat_lt 0 e.returned) as (λ u. nat_lt 0 e.returned ≡ u → Stays free (if u then returned ∷ [] else []) × (level free (if u then returned ∷ [] else []) ≡ pos places -ℤ pos left)) [
        | true ↦ λ _. ((omega (arith, ints), omega (arith, ints, nothing)), omega (arith, ints, nothing))
        | false ↦ λ u. let none = not_less e.returned u in (omega (arith, ints), omega (arith, ints, nothing, none))
      ] refl
    ] refl
