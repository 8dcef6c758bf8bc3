use Rattle.std.proofs.Common.{◌≡◌, ℕ, ◌+◌, List, ◌∷◌, [], arith, length, refl, sym, ap, subst}
use Rattle.std.proofs.lemmas.Option.{slice_get_read}
use Rattle.dl_ir.specs.Heap.{Objects, View}
use Rattle.dl_shape.specs.Replay.{IsLegalFrom, greatest_ticket}
use Rattle.dl_meaning.specs.FirstStates.{HasTicketsBelow}
use Rattle.dl_meaning.proofs.Left.{below_next}
use Rattle.dl_serial.proofs.Covering.{serves_covers}
use Rattle.dl_serial.proofs.Lawfulness.{serves_lawful}
use Rattle.dl_serial.proofs.Laws.{serves_replayed, serves_legal}
use Rattle.dl_serial.proofs.Listed.{serves_short, serves_apart, serves_caller, serves_in_order}
use Rattle.dl_serial.proofs.Modules.{serves_heap}
use Rattle.dl_serial.proofs.Refusing.{serves_refuses}
use Rattle.dl_serial.proofs.Rising.{serves_rise, serves_versions}
use Rattle.dl_serial.specs.declared.serving.Line.{Line}
use Rattle.dl_serial.specs.Progress.{IsAfter}
use Rattle.dl_ir.specs.declared.calls.Call.{Call}
use Rattle.dl_ir.specs.declared.modules.Module.{Module}
use Rattle.dl_serial.specs.Serving.{Serves, begins}
use Rattle.dl_serial.proofs.serving.run_calls.Goals as goal

pub loop-at-init : goal.loop-at-init
loop-at-init c = rw (c.from_vec.ensures, c.in_ok-with_capacity.ensures.items, c.new.ensures) (record {
  same = c.as_slice-call-items.ensures;
  after = record {
    serves = begins;
    ticket = omega arith;
    free = omega (arith, c.hidden_len-hidden.ensures);
    version = omega arith;
    few = omega arith;
  };
})

pub loop-at-preserved : goal.loop-at-preserved
loop-at-preserved c = record {
  same = c.loop-at.invariant.same;
  after = c.in_ok-serve.ensures c.args.places c.args.first c.loop-at.at c.args.heap.now.objects c.args.calls.now c.loop-at.invariant.after
      (slice_get_read c.args.calls.now (length c.as_slice-call-items.result.now) c.loop-at.at c.call-item.result (ap length c.loop-at.invariant.same) c.loop-at-test.true (rw (← c.loop-at.invariant.same) c.call-item.is)) refl;
}

-- every call is served
all_served : (source : Module) (places first : ℕ) (start : Objects) (calls : List Call) (at : ℕ) (line : Line) (heap : View) (end : ℕ) → IsAfter source places first start calls at line heap
    → at ≡ end → Serves source places first start calls end line.entries line.refusals heap.objects line.version
all_served source places first start calls at line heap end after same =
    subst (λ n. Serves source places first start calls n line.entries line.refusals heap.objects line.version) same after.serves

pub returns-clause-refuses : goal.returns-clause-refuses
returns-clause-refuses c =
    serves_refuses c.args.source.now c.args.places c.args.first c.args.heap.now.objects c.args.calls.now
    (all_served _ _ _ _ _ _ _ c.loop-at.heap (length c.args.calls.now) c.loop-at.invariant.after (omega (arith, ap length c.loop-at.invariant.same)))

pub returns-clause-refusals : goal.returns-clause-refusals
returns-clause-refusals c = let served = c.loop-at.invariant.after.serves in record { caller = serves_caller _ _ _ _ _ served; in_order = serves_in_order _ _ _ _ _ served }

pub returns-clause-short : goal.returns-clause-short
returns-clause-short c = omega (arith, serves_short _ _ _ _ _ c.loop-at.invariant.after.serves, ap length c.loop-at.invariant.same)

pub returns-clause-apart : goal.returns-clause-apart
returns-clause-apart c = serves_apart _ _ _ _ _ c.loop-at.invariant.after.serves

pub returns-clause-versions : goal.returns-clause-versions
returns-clause-versions c = serves_versions _ _ _ _ _ c.loop-at.invariant.after.serves

pub returns-clause-replay : goal.returns-clause-replay
returns-clause-replay c = serves_replayed _ _ _ _ _ c.loop-at.invariant.after.serves

pub returns-clause-legal : goal.returns-clause-legal
returns-clause-legal c = record {
  startable = c.requires.startable;
  goes = subst (λ n. IsLegalFrom c.args.source.now (c.args.calls.now ∷ []) n c.args.heap.now.objects c.loop-at.line.entries) c.requires.next (serves_legal _ _ _ _ _ c.loop-at.invariant.after.serves);
}

pub returns-clause-covers : goal.returns-clause-covers
returns-clause-covers c =
    let all : c.loop-at.at ≡ length c.args.calls.now = omega (arith, ap length c.loop-at.invariant.same) in
    serves_covers c.args.source.now c.args.places c.args.first c.args.heap.now.objects c.args.calls.now
    (subst (λ n. Serves c.args.source.now c.args.places c.args.first c.args.heap.now.objects c.args.calls.now n c.loop-at.line.entries c.loop-at.line.refusals c.loop-at.heap.objects c.loop-at.line.version) all c.loop-at.invariant.after.serves)

pub returns-clause-rising : goal.returns-clause-rising
returns-clause-rising c = serves_rise _ _ _ _ _ c.loop-at.invariant.after.serves

pub returns-clause-pool : goal.returns-clause-pool
returns-clause-pool c = serves_lawful _ _ _ _ _ c.requires.hidden c.loop-at.invariant.after.serves

-- the tickets of the heap are below the first
below_first : (h : Objects) (first : ℕ) → first ≡ greatest_ticket h + 1 → HasTicketsBelow first h
below_first h first next = subst (λ n. HasTicketsBelow n h) (sym next) (below_next h)

pub returns-clause-heap : goal.returns-clause-heap
returns-clause-heap c =
    (serves_heap c.args.source.now c.args.places c.args.first c.args.heap.now.objects c.args.calls.now c.requires.checked c.requires.of_module.each c.requires.startable.of_module (below_first _ _ c.requires.next)
    c.loop-at.invariant.after.serves).0

pub serve-requires-clause-heap : goal.serve-requires-clause-heap
serve-requires-clause-heap c =
    (serves_heap c.args.source.now c.args.places c.args.first c.args.heap.now.objects c.args.calls.now c.requires.checked c.requires.of_module.each c.requires.startable.of_module (below_first _ _ c.requires.next)
    c.loop-at.invariant.after.serves).0

pub serve-requires-clause-below : goal.serve-requires-clause-below
serve-requires-clause-below c = subst (λ n. HasTicketsBelow n c.loop-at.heap.objects) (sym c.loop-at.invariant.after.ticket)
    (serves_heap c.args.source.now c.args.places c.args.first c.args.heap.now.objects c.args.calls.now c.requires.checked c.requires.of_module.each c.requires.startable.of_module (below_first _ _ c.requires.next)
    c.loop-at.invariant.after.serves).1
