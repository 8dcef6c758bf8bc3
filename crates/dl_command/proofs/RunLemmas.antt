-- Lists of one element, refusals of one caller, and the history of no operation.
use Rattle.std.proofs.Common.{◌≡◌, ◌∙◌, zero, suc, List, [], ◌∷◌, length, get_or, sym, ap, subst, arith, inr}
use Rattle.std.specs.Prelude.{All}
use Rattle.std.specs.List.Sorted.{IsNonDecreasingBy}
use Rattle.std.proofs.lemmas.Option.{same_Some}
use Rattle.dl_ir.specs.declared.answers.Refusal.{Refusal}
use Rattle.dl_ir.specs.declared.answers.Entry.{Entry}
use Rattle.dl_ir.specs.declared.moves.Move.{Move}
use Rattle.dl_history.specs.Histories.{AreByCaller, Seen}
use Rattle.dl_command.specs.Promise.{AreInOrder, nothing_done}

-- a list of one element
pub one_element : {A : Type 0} (xs : List A) (x : A) → length xs ≡ 1 → x ≡ get_or xs 0 x → xs ≡ x ∷ []
one_element [] x one is = absurd (omega arith)
one_element (y ∷ []) x one is = ap (λ z. z ∷ []) (sym is)
one_element (y ∷ z ∷ rest) x one is = absurd (omega arith)

-- one list of the refusals of caller 1, in order of index
pub one_by_caller : (rs : List Refusal) → All (λ (r : Refusal). r.caller ≡ 1) rs → IsNonDecreasingBy (λ (r : Refusal). r.index) rs → AreByCaller (rs ∷ [])
one_by_caller rs of_it up zero list there = subst (λ l. All (λ (r : Refusal). r.caller ≡ 1) l × IsNonDecreasingBy (λ (r : Refusal). r.index) l) (same_Some rs list there) (of_it, up)
one_by_caller rs of_it up (suc at) list there = absurd (cc)

-- the refusals of caller 1, in order of index, stand by caller and index
pub one_in_order : (rs : List Refusal) → All (λ (r : Refusal). r.caller ≡ 1) rs → IsNonDecreasingBy (λ (r : Refusal). r.index) rs → AreInOrder rs
one_in_order rs of_it up = λ i j d less within. inr (of_it i d (omega (arith, less, within)) ∙ sym (of_it j d within), up i j d (omega (arith, less)) within)

-- a history without entries and moves is that of no operation
pub nothing_is : (history : Seen) → history.entries ≡ [] → history.moves ≡ [] → history ≡ nothing_done
nothing_is history no_entries no_moves =
    let made : List Entry → List Move → Seen = λ entries moves. record { entries = entries; moves = moves } in
    ap (λ entries. made entries history.moves) no_entries ∙ ap (λ moves. made [] moves) no_moves
