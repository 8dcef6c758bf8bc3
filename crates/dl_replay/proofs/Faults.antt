-- A history is legal or has one fault.
use Rattle.std.proofs.Common.{◌≡◌, ◌≢◌, ℕ, suc, ◌+◌, List, ◌∷◌, ◌++◌, length, refl, sym, ap, subst, ◌∙◌, Some, arith}
use Rattle.dl_ir.specs.declared.answers.Entry.{Entry}
use Rattle.dl_ir.specs.declared.calls.Call.{Call}
use Rattle.dl_ir.specs.declared.modules.Module.{Module}
use Rattle.dl_ir.specs.Cover.{call_at}
use Rattle.dl_ir.specs.Heap.{Objects}
use Rattle.dl_shape.specs.Operation.{operated}
use Rattle.dl_shape.specs.Replay.{after_call, replayed, greatest_ticket, IsLegalFrom, ends, goes_on}
use Rattle.dl_replay.specs.declared.replays.ReplayFault.{ReplayFault}
use Rattle.dl_replay.specs.declared.replays.ReplayFault.TheVariants.{Gap, Differs}
use Rattle.dl_replay.specs.Faults.{IsFault, gap, differs}

-- the fault of a history from a ticket and a heap on, entry by entry
data Faulty (source : Module) (files : List (List Call)) : ℕ → Objects → List Entry → ReplayFault → Type 0 where
  gap_here : {ticket : ℕ} {heap : Objects} {entry : Entry} {rest : List Entry} → entry.ticket ≢ ticket → Faulty source files ticket heap (entry ∷ rest) (Gap ticket)
  differs_here : {ticket : ℕ} {heap : Objects} {entry : Entry} {rest : List Entry} (call : Call) → entry.ticket ≡ ticket → call_at files entry.caller entry.index ≡ Some call
      → entry.answer ≢ (operated source heap ticket call).answer
      → Faulty source files ticket heap (entry ∷ rest) (Differs ticket entry.answer (operated source heap ticket call).answer)
  later : {ticket : ℕ} {heap : Objects} {entry : Entry} {rest : List Entry} {fault : ReplayFault} (call : Call) → entry.ticket ≡ ticket
      → call_at files entry.caller entry.index ≡ Some call → entry.answer ≡ (operated source heap ticket call).answer
      → Faulty source files (ticket + 1) (operated source heap ticket call).objects rest fault → Faulty source files ticket heap (entry ∷ rest) fault

module _ (source : Module) (files : List (List Call)) where
  -- a place has one call
  one_call : (caller index : ℕ) (a b : Call) → call_at files caller index ≡ Some a → call_at files caller index ≡ Some b → a ≡ b
  one_call caller index a b is_a is_b = let both : Some a ≡ Some b = sym is_a ∙ is_b in cc

  -- a legal history has no fault
  not_faulty : {ticket : ℕ} {heap : Objects} {es : List Entry} {fault : ReplayFault} → Faulty source files ticket heap es fault → IsLegalFrom source files ticket heap es → ⊥
  not_faulty (gap_here other) (goes_on call own named answer legal) = other own
  not_faulty (differs_here {ticket = ticket} {heap = heap} {entry = e} known own named other) (goes_on call _ found answer legal) =
      other (answer ∙ ap (λ c. (operated source heap ticket c).answer) (one_call e.caller e.index call known found named))
  not_faulty (later {ticket = ticket} {heap = heap} {entry = e} {rest = rest} known own named same fault) (goes_on call _ found answer legal) =
      not_faulty fault (subst (λ c. IsLegalFrom source files (ticket + 1) (operated source heap ticket c).objects rest) (one_call e.caller e.index call known found named) legal)

  -- a history has one fault
  one_fault : {ticket : ℕ} {heap : Objects} {es : List Entry} {a b : ReplayFault} → Faulty source files ticket heap es a → Faulty source files ticket heap es b → a ≡ b
  one_fault (gap_here other) (gap_here _) = refl
  one_fault (gap_here other) (differs_here call own named answer) = absurd (other own)
  one_fault (gap_here other) (later call own named answer fault) = absurd (other own)
  one_fault (differs_here call own named answer) (gap_here other) = absurd (other own)
  one_fault (differs_here {ticket = ticket} {heap = heap} {entry = e} known own named answer) (differs_here call _ found _) =
      ap (λ c. Differs ticket e.answer (operated source heap ticket c).answer) (one_call e.caller e.index known call named found)
  one_fault (differs_here {ticket = ticket} {heap = heap} {entry = e} known own named other) (later call _ found answer fault) =
      absurd (other (answer ∙ ap (λ c. (operated source heap ticket c).answer) (one_call e.caller e.index call known found named)))
  one_fault (later call own named answer fault) (gap_here other) = absurd (other own)
  one_fault (later {ticket = ticket} {heap = heap} {entry = e} known own named answer fault) (differs_here call _ found other) =
      absurd (other (answer ∙ ap (λ c. (operated source heap ticket c).answer) (one_call e.caller e.index known call named found)))
  one_fault (later {ticket = ticket} {heap = heap} {entry = e} {rest = rest} {fault = a} known own named answer fault) (later {fault = b} call _ found _ other) =
      one_fault fault (subst (λ c. Faulty source files (ticket + 1) (operated source heap ticket c).objects rest b) (one_call e.caller e.index call known found named) other)

  -- what stands behind a legal history has its fault from there on
  faulty_behind : {ticket : ℕ} {heap : Objects} {before : List Entry} (es : List Entry) (fault : ReplayFault) → IsLegalFrom source files ticket heap before
      → Faulty source files (ticket + length before) (replayed source files heap before) es fault → Faulty source files ticket heap (before ++ es) fault
  faulty_behind {ticket = ticket} {heap = heap} es fault ends faulty = subst (λ n. Faulty source files n heap es fault) (omega arith) faulty
  faulty_behind {ticket = ticket} {heap = heap} es fault (goes_on {entry = e} {rest = rest} call own named answer legal) faulty =
      let after : replayed source files heap (e ∷ rest) ≡ replayed source files (operated source heap ticket call).objects rest
      = ap (λ (g : Objects). replayed source files g rest) (ap (after_call source heap e.ticket) named ∙ ap (λ (n : ℕ). (operated source heap n call).objects) own) in
      let count : ticket + suc (length rest) ≡ ticket + 1 + length rest = omega arith in
      later call own named answer (faulty_behind es fault legal
      (subst (λ n. Faulty source files n (replayed source files (operated source heap ticket call).objects rest) es fault) count
      (subst (λ (g : Objects). Faulty source files (ticket + suc (length rest)) g es fault) after faulty)))

  module _ (heap : Objects) (history : List Entry) where
    faulty : {fault : ReplayFault} → IsFault source files heap history fault → Faulty source files (greatest_ticket heap + 1) heap history fault
    faulty (gap before entry upto other) =
        subst (λ es. Faulty source files (greatest_ticket heap + 1) heap es (Gap (greatest_ticket heap + 1 + length before))) (sym upto.whole)
        (faulty_behind (entry ∷ upto.behind) _ upto.legal.goes (gap_here other))
    faulty (differs before entry call upto own named other) =
        let next = greatest_ticket heap + 1 + length before in
        subst (λ es. Faulty source files (greatest_ticket heap + 1) heap es (Differs next entry.answer (operated source (replayed source files heap before) next call).answer)) (sym upto.whole)
        (faulty_behind (entry ∷ upto.behind) _ upto.legal.goes (differs_here call own named other))

    pub legal_has_none : {fault : ReplayFault} → IsLegalFrom source files (greatest_ticket heap + 1) heap history → IsFault source files heap history fault → ⊥
    legal_has_none legal is = not_faulty (faulty is) legal

    pub has_one : {a b : ReplayFault} → IsFault source files heap history a → IsFault source files heap history b → a ≡ b
    has_one is_a is_b = one_fault (faulty is_a) (faulty is_b)
