-- Along a legal history of a forest-closed module no heap has a sealed object.
use Rattle.std.proofs.Common.{◌≡◌, ◌≢◌, ℕ, zero, suc, ℤ, List, [], ◌∷◌, Option, Some, None, refl, sym, ap, subst}
use Rattle.std.specs.Prelude.{All, IfSome, slice_get, option_and_then}
use Rattle.std.proofs.lemmas.List.Elements.{All-nil, All-cons}
use Rattle.dl_ir.specs.declared.answers.End.{End}
use Rattle.dl_ir.specs.declared.answers.End.TheVariants as ends
use Rattle.dl_ir.specs.declared.answers.Entry.{Entry}
use Rattle.dl_ir.specs.declared.calls.Call.{Call}
use Rattle.dl_ir.specs.declared.modules.Module.{Module}
use Rattle.dl_ir.specs.declared.modules.OpDecl.{OpDecl}
use Rattle.dl_ir.specs.declared.names.Name.{Name}
use Rattle.dl_ir.specs.CallForms.{IsCallOf, AreCallsOf}
use Rattle.dl_ir.specs.Cover.{call_at}
use Rattle.dl_ir.specs.Heap.{Objects}
use Rattle.dl_shape.specs.Closed.{AllEndInForest, IsForestClosed}
use Rattle.dl_shape.specs.Operation.{Result, context_of, begun, end_of, body_outcome, operated_where}
use Rattle.dl_shape.specs.References.{IsForest}
use Rattle.dl_shape.specs.Replay.{IsLegal, IsLegalFrom}
use Rattle.dl_shape.specs.Settling.{trim}
use Rattle.dl_closed.specs.Unsealed.{IsUnsealed}
use Rattle.dl_closed.proofs.Settled.{no_breach, settled_unsealed}
use Rattle.dl_closed.proofs.Statements.{NoneSealed, NotAtSealed, block_keeps}
use Rattle.dl_lemmas.proofs.Places.{all_at}

end_passed : (end : Option End) → NotAtSealed end → (name : Name) → end_of end ≢ ends.Sealed name
end_passed None passed name is = cc
end_passed (Some end) passed name is = passed name (ap Some is)

-- what an operation gives: an answer that tells of no sealed object, and a heap that has none
record Clean (result : Result) : Type 0 where
  answer : IsUnsealed result.answer
  objects : NoneSealed result.objects

clean_op : (source : Module) (heap : Objects) (ticket : ℕ) (arguments : List ℤ) (op : OpDecl) → NoneSealed heap
    → IsForest (trim (body_outcome source heap ticket arguments op).state.objects) → Clean (operated_where source heap ticket arguments (Some op))
clean_op source heap ticket arguments op none forest =
    let body = block_keeps (context_of source ticket op) op.body (begun op arguments heap op.fuel) none in
    let after : Objects = (body_outcome source heap ticket arguments op).state.objects in
    record {
      answer = record { passed = end_passed (body_outcome source heap ticket arguments op).end body.passed; seals_none = no_breach after forest };
      objects = settled_unsealed after forest body.unsealed;
    }

clean_found : (source : Module) (heap : Objects) (ticket : ℕ) (arguments : List ℤ) (found : Option OpDecl) (op : OpDecl) → found ≡ Some op → NoneSealed heap
    → IfSome found (λ (o : OpDecl). IsForest (trim (body_outcome source heap ticket arguments o).state.objects)) → Clean (operated_where source heap ticket arguments found)
clean_found source heap ticket arguments None op is none forest = cc
clean_found source heap ticket arguments (Some found) op is none forest = clean_op source heap ticket arguments found none forest

in_calls : (source : Module) (found : Option (List Call)) (i : ℕ) (call : Call) → ((calls : List Call) → found ≡ Some calls → AreCallsOf source calls)
    → option_and_then (λ (calls : List Call). slice_get calls i) found ≡ Some call → IsCallOf source call
in_calls source None i call are is = cc
in_calls source (Some calls) i call are is = let of_module = are calls refl in all_at (IsCallOf source) calls i call of_module.each is

-- a call of the files is one of the module
call_of : (source : Module) (all : List (List Call)) (caller index : ℕ) (call : Call) → All (AreCallsOf source) all → call_at all caller index ≡ Some call → IsCallOf source call
call_of source all zero index call are is = cc
call_of source all (suc caller) zero call are is = cc
call_of source all (suc caller) (suc index) call are is =
    in_calls source (slice_get all caller) index call (λ calls found. all_at (AreCallsOf source) all caller calls are found) is

-- each serial run from the heap and the ticket on ends each operation in a forest
abbrev RunsEnd : Module → ℕ → Objects → Type 0
RunsEnd source ticket heap = (calls : List Call) → All (IsCallOf source) calls → AllEndInForest source ticket heap calls

all_unsealed : {source : Module} {all : List (List Call)} {ticket : ℕ} {heap : Objects} {history : List Entry} → All (AreCallsOf source) all → NoneSealed heap
    → RunsEnd source ticket heap → IsLegalFrom source all ticket heap history → All (λ (entry : Entry). IsUnsealed entry.answer) history
all_unsealed are none runs IsLegalFrom.ends = All-nil (λ (entry : Entry). IsUnsealed entry.answer)
all_unsealed {source = source} {all = all} {ticket = ticket} {heap = heap} are none runs (IsLegalFrom.goes_on {entry = entry} {rest = rest} call is_ticket is_call is_answer legal) =
    let of_module = call_of source all entry.caller entry.index call are is_call in
    let forest = (runs (call ∷ []) (All-cons (IsCallOf source) call [] of_module (All-nil (IsCallOf source)))).0 in
    let here = clean_found source heap ticket call.args (slice_get source.ops call.op) of_module.op of_module.declared none forest in
    All-cons (λ (e : Entry). IsUnsealed e.answer) entry rest (subst IsUnsealed (sym is_answer) here.answer)
    (all_unsealed are here.objects (λ calls more. (runs (call ∷ calls) (All-cons (IsCallOf source) call calls of_module more)).1) legal)

pub never_seals : (source : Module) (all : List (List Call)) (heap : Objects) (history : List Entry) → All (AreCallsOf source) all
    → IsForestClosed source heap → IsLegal source all heap history → All (λ (entry : Entry). IsUnsealed entry.answer) history
never_seals source all heap history are closed legal = all_unsealed are closed.unsealed closed.each_run legal.goes
