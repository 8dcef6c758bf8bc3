use Rattle.std.proofs.Common.{◌⊎◌, inl, inr, Result, Ok, Err, IsErr, ◌≡◌, ◌≢◌, ◌+◌, take, drop, sym, ap, subst, ◌∙◌, refl, arith}
use Rattle.std.specs.Prelude.{IfErr, IsErrAnd, MatchResult}
use Rattle.std.proofs.lemmas.List.{take_all}
use Rattle.dl_ir.specs.Heap.{Objects, View, IsHeapOf}
use Rattle.dl_meaning.specs.FirstStates.{HasTicketsBelow}
use Rattle.dl_meaning.proofs.Left.{below_next}
use Rattle.dl_shape.specs.Replay.{replayed, greatest_ticket, IsLegalFrom, ends}
use Rattle.dl_replay.specs.declared.replays.ReplayFault.{ReplayFault}
use Rattle.dl_replay.specs.declared.replays.ReplayFault.TheVariants.{Gap, Differs, Memory}
use Rattle.dl_replay.specs.Faults.{IsFault}
use Rattle.dl_replay.proofs.Faults.{legal_has_none, has_one}
use Rattle.dl_replay.proofs.Going.{up_to, around, next_at, goes, fault_here}
use Rattle.dl_replay.proofs.replays.replay.Goals as goal
use Rattle.dl_replay.proofs.replays.replay.Goals.{In_err-replay_entry}

pub loop-at-init : goal.loop-at-init
loop-at-init c =
    let copy = ap (λ (v : View). v.objects) c.in_ok-heap.ensures in
    let start = c.args.start.now.objects in
    let first : greatest_ticket start + 1 ≡ c.greatest_ticket-first.result + 1 + 0 = omega (arith, c.greatest_ticket-first.ensures) in
    record {
      same = c.entries-entries.ensures;
      legal = ends;
      left = copy;
      of_module = subst (IsHeapOf c.args.source.now) (sym copy) c.requires.startable.of_module;
      below = subst (λ (h : Objects). HasTicketsBelow (c.greatest_ticket-first.result + 1 + 0) h) (sym copy) (subst (λ n. HasTicketsBelow n start) first (below_next start));
    }

pub loop-at-preserved : goal.loop-at-preserved
loop-at-preserved c =
    let source = c.args.source.now in
    let files = c.args.files.now in
    let start = c.args.start.now.objects in
    let es = c.entries-entries.result.now in
    let at = c.loop-at.at in
    let e = c.index-entries-at.result in
    let first : c.greatest_ticket-first.result + 1 ≡ greatest_ticket start + 1 = omega (arith, c.greatest_ticket-first.ensures) in
    let more = up_to es at e c.loop-at-test.true c.index-entries-at.is in
    let on = c.in_ok-replay_entry.ensures.goes_on in
    let next = goes source files start (take at es) e c.loop-at.heap.objects c.replay_entry.new.heap.objects (c.greatest_ticket-first.result + 1 + at) c.loop-at.invariant.legal c.loop-at.invariant.left
    (next_at source files start es at (c.greatest_ticket-first.result + 1) first c.loop-at-test.true) on in
    record {
      same = c.loop-at.invariant.same;
      legal = subst (IsLegalFrom source files (greatest_ticket start + 1) start) (sym more) next.0;
      left = next.1 ∙ ap (replayed source files start) (sym more);
      of_module = on.of_module;
      below = subst (λ n. HasTicketsBelow n c.replay_entry.new.heap.objects) (omega arith) on.below;
    }

-- the fault of the entry is passed on
passed : {X F : Type 0} (r : Result X F) (fault : F) (P : F → Type 0) → IsErrAnd r (λ found. found ≡ fault) → P fault → IfErr r P
passed (Ok x) fault P is holds = tt
passed (Err e) fault P is holds = subst P (sym is) holds

-- where the fault of the entry is not want of memory, it is that of the history
fault_at : (c : In_err-replay_entry) → c.in_err-replay_entry.field-0.0 ≢ Memory
    → IsFault c.args.source.now c.args.files.now c.args.start.now.objects c.args.history.now.entries c.in_err-replay_entry.field-0.0
fault_at c some =
    let start = c.args.start.now.objects in
    let es = c.entries-entries.result.now in
    let at = c.loop-at.at in
    let e = c.index-entries-at.result in
    let first : c.greatest_ticket-first.result + 1 ≡ greatest_ticket start + 1 = omega (arith, c.greatest_ticket-first.ensures) in
    fault_here c.args.source.now c.args.files.now start c.args.history.now.entries (take at es) e c.loop-at.heap.objects (c.greatest_ticket-first.result + 1 + at) c.in_err-replay_entry.field-0.0
    (record { behind = drop (at + 1) es; whole = sym c.loop-at.invariant.same ∙ around es at e c.loop-at-test.true c.index-entries-at.is; legal = record { startable = c.requires.startable; goes = c.loop-at.invariant.legal } })
    c.loop-at.invariant.left (next_at c.args.source.now c.args.files.now start es at (c.greatest_ticket-first.result + 1) first c.loop-at-test.true) some c.in_err-replay_entry.ensures.fault

-- a fault is want of memory, or it is not
memory_or_not : (fault : ReplayFault) → (fault ≡ Memory) ⊎ (fault ≢ Memory)
memory_or_not (Gap ticket) = inr (λ is. cc)
memory_or_not (Differs ticket kept given) = inr (λ is. cc)
memory_or_not Memory = inl refl

pub returns-in_err-replay_entry-clause-only : goal.returns-in_err-replay_entry-clause-only
returns-in_err-replay_entry-clause-only c legal =
    let d = (goal.at.returns-in_err-replay_entry-clause-only c).In_err-replay_entry in
    passed c.from_residual-in_err-replay_entry.result c.in_err-replay_entry.field-0.0 (λ fault. fault ≡ Memory) c.from_residual-in_err-replay_entry.ensures.1
    (elim (memory_or_not c.in_err-replay_entry.field-0.0) [
      | inl none ↦ none
      | inr some ↦ absurd (legal_has_none c.args.source.now c.args.files.now c.args.start.now.objects c.args.history.now.entries legal.goes (fault_at d some))
    ])

pub returns-in_err-replay_entry-clause-fault : goal.returns-in_err-replay_entry-clause-fault
returns-in_err-replay_entry-clause-fault c =
    let d = (goal.at.returns-in_err-replay_entry-clause-fault c).In_err-replay_entry in
    passed c.from_residual-in_err-replay_entry.result c.in_err-replay_entry.field-0.0
    (λ fault. fault ≢ Memory → IsFault c.args.source.now c.args.files.now c.args.start.now.objects c.args.history.now.entries fault)
    c.from_residual-in_err-replay_entry.ensures.1 (fault_at d)

-- what holds where there is a fault
failed : {X F : Type 0} (r : Result X F) (P : X → Type 0) (Q : F → Type 0) → IsErr r → IfErr r Q → MatchResult r P Q
failed (Ok x) P Q is holds = cc
failed (Err e) P Q is holds = holds

pub returns-in_err-replay_entry-clause-only_fault : goal.returns-in_err-replay_entry-clause-only_fault
returns-in_err-replay_entry-clause-only_fault c fault is =
    let d = (goal.at.returns-in_err-replay_entry-clause-only_fault c).In_err-replay_entry in
    let same : ReplayFault → Type 0 = λ found. found ≢ Memory → found ≡ fault in
    failed c.from_residual-in_err-replay_entry.result (λ _. ⊥) same c.from_residual-in_err-replay_entry.ensures.0
    (passed c.from_residual-in_err-replay_entry.result c.in_err-replay_entry.field-0.0 same c.from_residual-in_err-replay_entry.ensures.1
    (λ some. has_one c.args.source.now c.args.files.now c.args.start.now.objects c.args.history.now.entries (fault_at d some) is))

pub returns-clause-legal : goal.returns-clause-legal
returns-clause-legal c = record {
  startable = c.requires.startable;
  goes = subst (IsLegalFrom c.args.source.now c.args.files.now (greatest_ticket c.args.start.now.objects + 1) c.args.start.now.objects)
      (take_all c.loop-at.at c.entries-entries.result.now c.loop-at-test.false ∙ c.loop-at.invariant.same) c.loop-at.invariant.legal;
}

pub returns-clause-only_fault : goal.returns-clause-only_fault
returns-clause-only_fault c fault is =
    legal_has_none c.args.source.now c.args.files.now c.args.start.now.objects c.args.history.now.entries
    (subst (IsLegalFrom c.args.source.now c.args.files.now (greatest_ticket c.args.start.now.objects + 1) c.args.start.now.objects)
    (take_all c.loop-at.at c.entries-entries.result.now c.loop-at-test.false ∙ c.loop-at.invariant.same) c.loop-at.invariant.legal) is
