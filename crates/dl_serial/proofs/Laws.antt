-- what a line of calls comes to: a replay, a legal history that covers its calls
use Rattle.std.proofs.Common.{◌≡◌, ℕ, ◌+◌, List, [], ◌∷◌, ◌++◌, length, refl, sym, ap, ◌∙◌, Some, arith, add-one}
use Rattle.std.specs.Prelude.{slice_get}
use Rattle.std.proofs.lemmas.List.Sums.{fold-append}
use Rattle.dl_ir.specs.declared.answers.Entry.{Entry}
use Rattle.dl_ir.specs.declared.answers.Refusal.{Refusal}
use Rattle.dl_ir.specs.declared.calls.Call.{Call}
use Rattle.dl_ir.specs.declared.modules.Module.{Module}
use Rattle.dl_ir.specs.Cover.{call_at}
use Rattle.dl_ir.specs.Heap.{Objects}
use Rattle.dl_shape.specs.Operation.{operated}
use Rattle.dl_shape.specs.Replay.{after_call, replayed, IsLegalFrom, ends, goes_on}
use Rattle.dl_serial.specs.Serving.{Serves, begins, carries_out, refuses}

-- the call of caller 1 with this index
pub call_of_one : (calls : List Call) (n caller index : ℕ) (call : Call) → slice_get calls n ≡ Some call → caller ≡ 1 → index ≡ n + 1 → call_at (calls ∷ []) caller index ≡ Some call
call_of_one calls n caller index call there is_one is_next = rw (is_one, is_next, add-one n) there

-- a replay of one entry more
pub replayed-push : (source : Module) (files : List (List Call)) (heap : Objects) (es : List Entry) (e : Entry) (call : Call) → call_at files e.caller e.index ≡ Some call
    → replayed source files heap (es ++ e ∷ []) ≡ (operated source (replayed source files heap es) e.ticket call).objects
replayed-push source files heap es e call there =
    fold-append (λ (objects : Objects) (entry : Entry). after_call source objects entry.ticket (call_at files entry.caller entry.index)) heap es (e ∷ [])
    ∙ ap (after_call source (replayed source files heap es) e.ticket) there

-- a legal history goes on with one entry more
pub legal-push : (source : Module) (files : List (List Call)) {ticket : ℕ} {heap : Objects} {es : List Entry} (e : Entry) (call : Call) → IsLegalFrom source files ticket heap es
    → e.ticket ≡ ticket + length es → call_at files e.caller e.index ≡ Some call → e.answer ≡ (operated source (replayed source files heap es) e.ticket call).answer
    → IsLegalFrom source files ticket heap (es ++ e ∷ [])
legal-push source files {ticket = t} {heap = h} e call ends drawn there answered =
    goes_on call (drawn ∙ omega arith) there
    (answered ∙ ap (λ (n : ℕ). (operated source h n call).answer) (drawn ∙ omega arith)) ends
legal-push source files {ticket = t} {heap = h} e call (goes_on {entry = d} {rest = rest} first is_ticket there_first answered_first legal) drawn there answered =
    let after : replayed source files h (d ∷ rest) ≡ replayed source files (operated source h t first).objects rest
    = ap (λ (g : Objects). replayed source files g rest) (ap (after_call source h d.ticket) there_first ∙ ap (λ (n : ℕ). (operated source h n first).objects) is_ticket) in
    goes_on first is_ticket there_first answered_first
    (legal-push source files e call legal (omega (arith, drawn)) there (answered ∙ ap (λ (g : Objects). (operated source g e.ticket call).answer) after))

module _ (source : Module) (places first : ℕ) (start : Objects) (calls : List Call) where
  -- the heap is that of the replay
  pub serves_replayed : {n version : ℕ} {es : List Entry} {rs : List Refusal} {heap : Objects} → Serves source places first start calls n es rs heap version
      → replayed source (calls ∷ []) start es ≡ heap
  serves_replayed begins = refl
  serves_replayed (carries_out {count = n} {entries = es} {heap = h} call e before there fits is) =
      replayed-push source (calls ∷ []) start es e call (call_of_one calls n e.caller e.index call there is.caller is.index)
      ∙ ap (λ (g : Objects). (operated source g e.ticket call).objects) (serves_replayed before)
      ∙ ap (λ (t : ℕ). (operated source h t call).objects) is.ticket
  serves_replayed (refuses call r before there short is) = serves_replayed before

  -- the entries are legal
  pub serves_legal : {n version : ℕ} {es : List Entry} {rs : List Refusal} {heap : Objects} → Serves source places first start calls n es rs heap version
      → IsLegalFrom source (calls ∷ []) first start es
  serves_legal begins = ends
  serves_legal (carries_out {count = n} {entries = es} {heap = h} call e before there fits is) =
      legal-push source (calls ∷ []) e call (serves_legal before) is.ticket (call_of_one calls n e.caller e.index call there is.caller is.index)
      (is.answer ∙ ap (λ (g : Objects). (operated source g (first + length es) call).answer) (sym (serves_replayed before)) ∙ ap (λ (t : ℕ). (operated source (replayed source (calls ∷ []) start es) t call).answer) (sym is.ticket))
  serves_legal (refuses call r before there short is) = serves_legal before
