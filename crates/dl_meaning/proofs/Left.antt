-- A call of a checked module has one outcome, and leaves a heap of the module.
use Rattle.std.proofs.Common.{◌≡◌, ℕ, zero, suc, ◌+◌, ◌<◌, ◌≤◌, List, [], ◌∷◌, max, fold, refl, sym, ap, subst, ◌∙◌, Option, Some, None, arith, All, inl, inr, slice_get, true, false, ◌||◌}
use Rattle.std.specs.Prelude.{option_and_then}
use Rattle.std.specs.List.{list_any}
use Rattle.std.specs.FinMap as finite
use Rattle.dl_ir.specs.declared.answers.Entry.{Entry}
use Rattle.dl_ir.specs.declared.calls.Call.{Call}
use Rattle.dl_ir.specs.declared.modules.KindDecl.{KindDecl}
use Rattle.dl_ir.specs.declared.modules.Module.{Module}
use Rattle.dl_ir.specs.declared.names.Name.{Name}
use Rattle.dl_ir.specs.declared.objects.Obj.{Obj}
use Rattle.dl_ir.specs.CallForms.{IsCallOf}
use Rattle.dl_ir.specs.Checked.{HasRoot, IsChecked, IsOperation, is_root}
use Rattle.dl_ir.specs.Cover.{call_at}
use Rattle.dl_ir.specs.Heap.{Objects, IsHeapOf, root}
use Rattle.dl_ir.specs.Typed.{types_of}
use Rattle.dl_shape.specs.Operation.{result_of, operated_where}
use Rattle.dl_shape.specs.Replay.{after_call, greatest_ticket, IsLegalFrom, ends, goes_on}
use Rattle.dl_ir.proofs.Members.{Held, In, in_entries}
use Rattle.dl_meaning.specs.FirstStates.{HasTicketsBelow}
use Rattle.dl_meaning.specs.Operations.{context_of, begun, OperationsHaveOneOutcome, CallsGiveTheOutcome, CallsLeaveHeaps, AreFilesOf, RisesFrom, ReplaysLeaveHeaps, LegalReplaysLeaveHeaps}
pub use Rattle.dl_meaning.proofs.First.{begun_fits}
use Rattle.dl_meaning.proofs.One.{one}
use Rattle.dl_lemmas.proofs.Places.{all_at}
use Rattle.dl_meaning.proofs.Settled.{heap_settled, settled_below}
use Rattle.dl_meaning.proofs.Sound.{sound_block}

-- some kind is a root kind
root_kind : (kinds : List KindDecl) → list_any is_root kinds ≡ true → (at : ℕ) × (d : KindDecl) × (slice_get kinds at ≡ Some d) × (d.is_root ≡ true)
root_kind [] e = cc
root_kind (d ∷ kinds) e = elim d.is_root as (λ b. d.is_root ≡ b → (b || list_any is_root kinds) ≡ true → (at : ℕ) × (k : KindDecl) × (slice_get (d ∷ kinds) at ≡ Some k) × (k.is_root ≡ true)) [
  | true ↦ λ t some. (0, d, refl, t)
  | false ↦ λ t rest. let found = root_kind kinds rest in (suc found.0, found.1, found.2, found.3)
] refl e

-- a heap of a checked module has a root, whose ticket is 0
pub is_positive : (source : Module) (h : Objects) (ticket : ℕ) → IsChecked source → IsHeapOf source h → HasTicketsBelow ticket h → 0 < ticket
is_positive source h ticket checked heap below =
    let kind = root_kind source.kinds checked.rooted in
    let some = all_at HasRoot source.kinds kind.0 kind.1 checked.some_roots kind.2 kind.3 in
    let there = heap.roots kind.0 (root kind.1.first) (record { declared = kind.1; is_there = kind.2; is_root = kind.3; ticket = refl; from_first = omega arith; to_last = omega (arith, some) }) in
    let early = below (root kind.1.first) there.0 there.1 in
    omega (arith, early)

pub operations_have_one_outcome : OperationsHaveOneOutcome
operations_have_one_outcome source number op arguments h ticket turns checked declared fits heap below =
    one (context_of source ticket op) (types_of op) op.body (begun op arguments h turns) checked.fields (all_at (IsOperation source) source.ops number op checked.ops declared).body
    (begun_fits source op arguments h ticket turns fits heap (is_positive source h ticket checked heap below) below)

pub calls_give_the_outcome : CallsGiveTheOutcome
calls_give_the_outcome source h ticket call op after end declared runs =
    ap (operated_where source h ticket call.args) declared ∙ ap result_of (sound_block (context_of source ticket op) runs)

-- what fits when an operation has ended leaves a heap of the module
pub calls_leave_heaps : CallsLeaveHeaps
calls_leave_heaps source h ticket call checked of_module heap below =
    let op = of_module.op in
    let there = operations_have_one_outcome source call.op op call.args h ticket op.fuel checked of_module.declared of_module.fits heap below in
    let same = ap (λ r. r.objects) (calls_give_the_outcome source h ticket call op there.after there.end of_module.declared there.runs) in (
      subst (IsHeapOf source) (sym same) (heap_settled source there.after.objects there.fits.heap),
      subst (HasTicketsBelow (ticket + 1)) (sym same) (settled_below (ticket + 1) there.after.objects (λ q p is. let early = there.fits.not_later q p is in omega (arith, early))),
    )

-- ---- replays
then_some : {A B : Type 0} (o : Option A) (next : A → Option B) (b : B) → option_and_then next o ≡ Some b → (a : A) × (o ≡ Some a) × (next a ≡ Some b)
then_some None next b e = cc
then_some (Some a) next b e = (a, refl, e)

-- the calls of the files are calls of the module
call_of : (source : Module) (files : List (List Call)) (caller index : ℕ) (call : Call) → AreFilesOf source files → call_at files caller index ≡ Some call → IsCallOf source call
call_of source files zero index call all is = cc
call_of source files (suc caller) zero call all is = cc
call_of source files (suc caller) (suc index) call all is =
    let file = then_some (slice_get files caller) (λ (calls : List Call). slice_get calls index) call is in
    all_at (IsCallOf source) file.0 index call (all_at (λ calls. All (IsCallOf source) calls) files caller file.0 all file.1) file.2

-- what an entry leaves
after_left : (source : Module) (files : List (List Call)) (ticket caller index : ℕ) (h : Objects) (found : Option Call) → IsChecked source → AreFilesOf source files → IsHeapOf source h
    → HasTicketsBelow ticket h → call_at files caller index ≡ found → IsHeapOf source (after_call source h ticket found) × HasTicketsBelow (ticket + 1) (after_call source h ticket found)
after_left source files ticket caller index h None checked all heap below is = (heap, λ q p there. let early = below q p there in omega (arith, early))
after_left source files ticket caller index h (Some call) checked all heap below is = calls_leave_heaps source h ticket call checked (call_of source files caller index call all is) heap below

pub replays_leave_heaps : ReplaysLeaveHeaps
replays_leave_heaps source files ticket h [] checked all heap below rises = heap
replays_leave_heaps source files ticket h (entry ∷ rest) checked all heap below rises =
    let later : HasTicketsBelow entry.ticket h = λ q p there. let early = below q p there in omega (arith, early, rises.0) in
    let left = after_left source files entry.ticket entry.caller entry.index h (call_at files entry.caller entry.index) checked all heap later refl in
    replays_leave_heaps source files (entry.ticket + 1) (after_call source h entry.ticket (call_at files entry.caller entry.index)) rest checked all left.0 left.1 rises.1

-- the tickets of a legal history rise
rises_from : {source : Module} {files : List (List Call)} {ticket : ℕ} {h : Objects} {history : List Entry} → IsLegalFrom source files ticket h history → RisesFrom ticket history
rises_from ends = tt
rises_from (goes_on {ticket = ticket} {rest = rest} call own named answer legal) =
    (omega (arith, own), subst (λ t. RisesFrom (t + 1) rest) (sym own) (rises_from legal))

-- no ticket is above the greatest
in_greatest : (start : ℕ) (es : Held) → start ≤ fold (λ greatest (entry : Name × Obj). max greatest entry.0.ticket) start es
in_greatest start [] = omega arith
in_greatest start (e ∷ es) = let rest = in_greatest (max start e.0.ticket) es in omega (arith, rest)

at_most : (start : ℕ) (es : Held) (e : Name × Obj) → In e es → e.0.ticket ≤ fold (λ greatest (entry : Name × Obj). max greatest entry.0.ticket) start es
at_most start [] e is = absurd is
at_most start (x ∷ es) e is = elim is [
  | inl same ↦ let rest = in_greatest (max start x.0.ticket) es in let own = ap (λ (y : Name × Obj). y.0.ticket) same in omega (arith, rest, own)
  | inr there ↦ at_most (max start x.0.ticket) es e there
]

pub below_next : (h : Objects) → HasTicketsBelow (greatest_ticket h + 1) h
below_next h q p is = let most = at_most 0 (finite.entries h) (q, p) (in_entries h q p is) in omega (arith, most)

pub legal_replays_leave_heaps : LegalReplaysLeaveHeaps
legal_replays_leave_heaps source files h history checked all legal =
    replays_leave_heaps source files (greatest_ticket h + 1) h history checked all legal.startable.of_module (below_next h) (rises_from legal.goes)
