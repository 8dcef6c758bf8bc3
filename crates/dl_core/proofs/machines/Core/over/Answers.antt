use Rattle.std.proofs.Common.{◌≡◌, ◌∷◌, ◌+◌, ℕ, List, length, map, sym, ap, subst, ◌∙◌, arith}
use Rattle.dl_ir.specs.Rows.{Rows}
use Rattle.dl_core.specs.declared.closes.Leavings.{Leavings}
use Rattle.dl_core.specs.declared.counters.Counters.{Counters}
use Rattle.dl_core.specs.declared.frames.Frame.{Frame as Kept}
use Rattle.dl_core.specs.declared.objects.Object.{Object}
use Rattle.dl_core.specs.Core.{Core}
use Rattle.dl_core.specs.Heaps.{marked}
use Rattle.dl_core.specs.Machines.{Machine, IsRunning, opened, plan_at}
use Rattle.dl_core.specs.Machinery.{IsOfRun, kept_idle, machine_of}
use Rattle.dl_core.specs.Passes.{plan_over}
use Rattle.dl_core.proofs.FirstRun.{objects_fit, first_core, first_of_run}
use Rattle.dl_core.specs.Reached.{no_calls}
use Rattle.dl_core.proofs.Opened.{opened_plan, opened_running}
use Rattle.dl_core.proofs.machines.Core.over.Goals as goal

pub shared_heap-requires : goal.shared_heap-requires
shared_heap-requires c = objects_fit c.args.code c.args.heap.now.objects c.args.places c.args.sizes.now c.requires.plan

pub invariant_of-result : goal.invariant_of-result
invariant_of-result c =
    let heap = c.in_ok-shared_heap.ensures in
    let frames = c.in_ok-idle_frames.ensures in
    let sizes = c.in_ok-from_slice.ensures in
    let counters = c.first_counters-counters.ensures in
    let left = c.in_ok-new.ensures in (
      subst (λ (ss : List ℕ). IsOfRun c.args.code c.args.places ss c.in_ok-shared_heap.field-0 c.in_ok-idle_frames.field-0.items c.first_counters-counters.result) (sym sizes)
          (subst (λ (h : Rows Object). IsOfRun c.args.code c.args.places c.args.sizes.now h c.in_ok-idle_frames.field-0.items c.first_counters-counters.result) (sym heap)
          (subst (λ (fs : List Kept). IsOfRun c.args.code c.args.places c.args.sizes.now (record { rows = marked c.args.heap.now.objects; room = c.args.places + 1024 }) fs c.first_counters-counters.result) (sym frames)
          (subst (λ (n : Counters). IsOfRun c.args.code c.args.places c.args.sizes.now (record { rows = marked c.args.heap.now.objects; room = c.args.places + 1024 }) (kept_idle (c.args.places + 1024) 0 ∷ map (kept_idle (c.args.places + 1024)) c.args.sizes.now) n) (sym counters) (first_of_run c.args.code c.args.heap.now.objects c.args.places c.args.sizes.now c.requires.plan)))),
      record {
        empty = ap (λ (l : Leavings). l.heap.objects) left;
        room = omega (arith, ap (λ (h : Rows Object). h.room) heap, ap (λ (l : Leavings). l.heap.room) left);
        no_entries = ap (λ (l : Leavings). l.entries.items) left;
        entries_room = omega (arith, ap length sizes, ap (λ (l : Leavings). l.entries.room) left);
        no_refusals = ap (λ (l : Leavings). l.refusals.items) left;
        refusals_room = omega (arith, ap length sizes, ap (λ (l : Leavings). l.refusals.room) left);
      },
    )

pub returns : goal.returns
returns c =
    let heap = c.in_ok-shared_heap.ensures in
    let frames = c.in_ok-idle_frames.ensures in
    let sizes = c.in_ok-from_slice.ensures in
    let counters = c.first_counters-counters.ensures in
    let plan = plan_over c.args.code c.args.heap.now.objects c.args.places c.args.sizes.now in
    let is : machine_of c.args.code c.args.places c.in_ok-from_slice.field-0 c.in_ok-shared_heap.field-0 c.in_ok-idle_frames.field-0.items c.first_counters-counters.result ≡ opened plan =
    (λ i. machine_of c.args.code c.args.places (sizes i) (heap i) (frames i) (counters i))
    ∙ ap (λ (s : Core). record { code = c.args.code; places = c.args.places; sizes = c.args.sizes.now; state = s }) (first_core c.args.code c.args.heap.now.objects c.args.places c.args.sizes.now c.requires.plan) in
    record {
      opened = is;
      running = subst (λ (m : Machine). IsRunning plan m (no_calls plan)) (sym is) (opened_running plan c.requires.plan);
      plan = ap plan_at is ∙ opened_plan plan;
    }
