-- Texts put with moves or elements that are told otherwise.
use Rattle.std.proofs.Common.{◌≡◌, ℕ, ◌+◌, ◌<◌, List, ◌++◌, Result, length, get_or, drop, sym, ap, ◌∙◌, subst}
use Rattle.std.specs.List.{flat_map}
use Rattle.dl_text.proofs.Loops.{each_element}
use Rattle.dl_io.specs.Taken.{Taken}
use Rattle.dl_ir.specs.declared.modules.Module.{Module}
use Rattle.dl_ir.specs.declared.moves.Move.{Move}
use Rattle.dl_ir.specs.Heap.{Objects}
use Rattle.dl_text.specs.Writing.{Buffered, Puts}
use Rattle.dl_history.specs.Report.{state_part}

-- what was put with these moves was put with moves that are the same
pub with_moves : {E : Type 0} (s t : Taken) (o p : Buffered) (r : Result (Unit {0}) E) (front : List ℕ) (source : Module) (moves others : List Move) (heap : Objects) →
    moves ≡ others → Puts s o (front ++ state_part source moves heap) r t p → Puts s o (front ++ state_part source others heap) r t p
with_moves s t o p r front source moves others heap same puts = subst (λ m. Puts s o (front ++ state_part source m heap) r t p) same puts

-- the texts of the elements from a place on begin with that of the element that is known to stand there
pub element_at : {A : Type 0} (line : A → List ℕ) (xs : List A) (i : ℕ) (x : A) → i < length xs → x ≡ get_or xs i x →
    flat_map line (drop i xs) ≡ line x ++ flat_map line (drop (i + 1) xs)
element_at line xs i x within is = each_element line xs i x within ∙ ap (λ y. line y ++ flat_map line (drop (i + 1) xs)) (sym is)
