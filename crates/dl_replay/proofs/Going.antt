-- What one entry adds to a replay, and which fault one entry gives.
use Rattle.std.proofs.Common.{◌≡◌, ◌≢◌, ℕ, ◌+◌, ◌<◌, List, [], ◌∷◌, ◌++◌, get_or, take, drop, length, refl, sym, ap, subst, ◌∙◌, arith, length-take}
use Rattle.std.proofs.lemmas.List.{take_more, drop_more, take-append-drop}
use Rattle.dl_ir.specs.declared.answers.Entry.{Entry}
use Rattle.dl_ir.specs.declared.calls.Call.{Call}
use Rattle.dl_ir.specs.declared.modules.Module.{Module}
use Rattle.dl_ir.specs.Heap.{Objects}
use Rattle.dl_serial.proofs.Laws.{replayed-push, legal-push}
use Rattle.dl_shape.specs.Operation.{operated}
use Rattle.dl_shape.specs.Replay.{replayed, greatest_ticket, IsLegalFrom}
use Rattle.dl_replay.specs.declared.replays.ReplayFault.{ReplayFault}
use Rattle.dl_replay.specs.declared.replays.ReplayFault.TheVariants.{Gap, Differs, Memory}
use Rattle.dl_replay.specs.Faults.{IsFault, IsLegalUpTo, gap, differs, next_ticket, answer_after}
use Rattle.dl_replay.specs.Steps.{GoesOn, IsFaultHere}

-- the elements up to one, with it, and all of them around it
pub up_to : (es : List Entry) (at : ℕ) (e : Entry) → at < length es → e ≡ get_or es at e → take (at + 1) es ≡ take at es ++ e ∷ []
up_to es at e within is = take_more es at e within ∙ ap (λ x. take at es ++ x ∷ []) (sym is)

pub around : (es : List Entry) (at : ℕ) (e : Entry) → at < length es → e ≡ get_or es at e → es ≡ take at es ++ e ∷ drop (at + 1) es
around es at e within is =
    sym (take-append-drop at es) ∙ ap (λ xs. take at es ++ xs) (drop_more es at e within ∙ ap (λ x. x ∷ drop (at + 1) es) (sym is))

module _ (source : Module) (files : List (List Call)) (start : Objects) where
  -- where the ticket of an entry comes next
  pub next_at : (es : List Entry) (at first : ℕ) → first ≡ greatest_ticket start + 1 → at < length es → first + at ≡ next_ticket start (take at es)
  next_at es at first is within = omega (arith, length-take at es)

  pub goes : (es : List Entry) (e : Entry) (heap left : Objects) (ticket : ℕ) → IsLegalFrom source files (greatest_ticket start + 1) start es
      → heap ≡ replayed source files start es → ticket ≡ next_ticket start es → GoesOn source files heap ticket e left
      → IsLegalFrom source files (greatest_ticket start + 1) start (es ++ e ∷ []) × (left ≡ replayed source files start (es ++ e ∷ []))
  goes es e heap left ticket legal here next on =
      let answer = on.answer ∙ ap (λ (g : Objects). (operated source g ticket on.call).answer) here
      ∙ ap (λ n. (operated source (replayed source files start es) n on.call).answer) (sym on.own) in
      let leaves = on.leaves ∙ ap (λ (g : Objects). (operated source g ticket on.call).objects) here
      ∙ ap (λ n. (operated source (replayed source files start es) n on.call).objects) (sym on.own) in
      (legal-push source files e on.call legal (on.own ∙ next) on.named answer, leaves ∙ sym (replayed-push source files start es e on.call on.named))

  pub fault_here : (history before : List Entry) (e : Entry) (heap : Objects) (ticket : ℕ) (fault : ReplayFault) → IsLegalUpTo source files start history before e
      → heap ≡ replayed source files start before → ticket ≡ next_ticket start before → fault ≢ Memory → IsFaultHere source files heap ticket e fault
      → IsFault source files start history fault
  fault_here history before e heap ticket (Gap next) upto here is some wrong =
      subst (λ n. IsFault source files start history (Gap n)) (sym (wrong.0 ∙ is)) (gap before e upto (λ same. wrong.1 (same ∙ sym is)))
  fault_here history before e heap ticket (Differs at kept given) upto here is some wrong =
      let other = wrong.1 in
      let answer : given ≡ answer_after source files start before other.call
      = other.is_given ∙ ap (λ (g : Objects). (operated source g ticket other.call).answer) here
      ∙ ap (λ n. (operated source (replayed source files start before) n other.call).answer) is in
      subst (λ n. IsFault source files start history (Differs n kept given)) (sym (wrong.0 ∙ is))
      (subst (λ a. IsFault source files start history (Differs (next_ticket start before) a given)) (sym other.is_kept)
      (subst (λ a. IsFault source files start history (Differs (next_ticket start before) e.answer a)) (sym answer)
      (differs before e other.call upto (other.own ∙ is) other.named (λ same. other.other (other.is_kept ∙ same ∙ sym answer)))))
  fault_here history before e heap ticket Memory upto here is some wrong = absurd (some refl)
