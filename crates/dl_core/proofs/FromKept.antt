-- In every state of a run, what giving a caller a step needs is there.
use Rattle.std.proofs.Common.{◌≡◌, ◌≢◌, ℕ, ◌+◌, ◌<◌, ◌≤◌, ◌^◌, List, [], length, map, Some, refl, sym, ap, subst, ◌∙◌, arith}
use Rattle.std.specs.FinMap as finite
use Rattle.std.proofs.lemmas.List.{length-map}
use Rattle.std.specs.FinMap.{len-entries}
use Rattle.std.proofs.lemmas.List.Sums.{get_or-le-sum_by}
use Rattle.dl_ir.specs.declared.answers.End.{End}
use Rattle.dl_ir.specs.declared.names.Name.{Name}
use Rattle.dl_ir.specs.Heap.{name_cmp}
use Rattle.dl_ir.specs.Rows.{Rows}
use Rattle.dl_instr.specs.declared.steps.Step.TheVariants.{Make}
use Rattle.dl_core.specs.declared.counters.Counters.{Counters}
use Rattle.dl_core.specs.declared.frames.Frame.{Frame as Kept}
use Rattle.dl_core.specs.declared.objects.Object.{Object}
use Rattle.dl_core.specs.declared.objects.Mark.TheVariants as marks
use Rattle.dl_core.specs.declared.stages.Stage.{Stage}
use Rattle.dl_core.specs.declared.stages.Stage.TheVariants as stages
use Rattle.dl_core.specs.Arguments.{HoldsCall}
use Rattle.dl_core.specs.Core.{frame_of}
use Rattle.dl_core.specs.Frames.{Frame, idle, IsEntered}
use Rattle.dl_core.specs.Heaps.{Heap, plain, plain_object}
use Rattle.dl_core.specs.Laws.{IsKept}
use Rattle.dl_core.specs.Needs.{CanHoldMore}
use Rattle.dl_core.specs.Parts.{core_of, CanAdvance, CanAsk, CanEnter, CanFinish, HasMemory}
use Rattle.dl_core.specs.Plans.{Plan, IsPlan, IsCaller, allocs_of}
use Rattle.dl_core.specs.Reached.{Calls}
use Rattle.dl_core.specs.LocalSteps.{IsReady}
use Rattle.dl_core.specs.Shown.{shown, CanGoOn, HasFewRefs}
use Rattle.dl_core.specs.Sound.{HasBook, HasCall, Stands, idles, waits, works}
use Rattle.dl_core.proofs.CallerFacts.{no_entries, few_refs, holds_call, few_allocs, called_waits, asks_first}
use Rattle.dl_core.proofs.Fits.{HasFacts, steps_need}
use Rattle.dl_core.proofs.HeldFew.{book_few, free_more}
use Rattle.dl_core.proofs.PlacesFew.{objects_few}
use Rattle.dl_lemmas.proofs.Entries.{entries-changed}
use Rattle.dl_core.proofs.RunCounts.{clock_fits, version_fits}
use Rattle.dl_core.proofs.Why.{why, IsAtStep}

-- marks left aside there are as many objects
len_plain : (heap : Heap) → finite.len (plain heap) ≡ finite.len heap
len_plain heap = len-entries (plain heap) ∙ ap length (entries-changed name_cmp (λ e. plain_object e.1) heap) ∙ length-map (finite.entries heap) _ ∙ sym (len-entries heap)

-- there is memory for all objects
pub heap_fits : (plan : Plan) (heap : Rows Object) (frames : List Kept) (counters : Counters) (calls : Calls) → IsPlan plan → IsKept plan (core_of heap frames counters) calls → plan.places + 1024 ≤ heap.room → finite.len heap.rows ≤ heap.room
heap_fits plan heap frames counters calls is all room =
    omega (arith, objects_few plan.code.source is.checked.start (plain heap.rows) all.sound.heap, len_plain heap.rows, all.lawful.totals.places, room)

module _ (plan : Plan) (heap : Rows Object) (frames : List Kept) (counters : Counters) (calls : Calls) (caller : ℕ) (kept : Kept) (is : IsPlan plan) (all : IsKept plan (core_of heap frames counters) calls) (who : IsCaller plan caller)
    (e : frame_of (core_of heap frames counters).world caller ≡ shown kept) (room : plan.places + 1024 ≤ heap.room) (memory : HasMemory kept heap) (can : CanGoOn plan.code kept) where
  -- there is memory for an object in each spare place
  heap_few : (finite.len heap.rows + kept.spares + counters.free ≤ plan.places + 1024)
  heap_few =
      let within : caller < length (map shown frames) = omega (arith, all.sound.frames, who.to_last) in
      let spares = get_or-le-sum_by (λ (f : Frame). f.spares) (map shown frames) caller idle within in
      let same : (frame_of (core_of heap frames counters).world caller).spares ≡ kept.spares = ap (λ (f : Frame). f.spares) e in
      omega (arith, objects_few plan.code.source is.checked.start (plain heap.rows) all.sound.heap, len_plain heap.rows, all.lawful.totals.places, spares, same)

  book : HasBook heap.rows caller (shown kept)
  book = subst (HasBook heap.rows caller) e (all.sound.each caller).book

  more : (name : Name) (object : Object) → finite.get heap.rows name ≡ Some object → object.mark ≡ marks.Free → CanHoldMore kept
  more name object there free =
      let few = free_more heap.rows caller (shown kept) name object book there free in
      record { book = omega (arith, few, heap_few, room, memory.book); loose = omega (arith, few, heap_few, room, memory.loose) }

  refs : HasFewRefs kept
  refs name booked there = let few = few_refs plan (core_of heap frames counters) calls caller is all can.few name in omega (arith, (book.booked name booked there).fields, few, heap_few, is.few_places)

  -- who runs has entered
  runs : (frame_of (core_of heap frames counters).world caller).stage ≡ stages.Running
      → HasCall plan calls caller (frame_of (core_of heap frames counters).world caller) × IsEntered (frame_of (core_of heap frames counters).world caller)
  runs running = by (all.sound.each caller).stands
    where
      not_idle : stages.Running ≡ stages.Idle → ⊥
      not_idle p = cc

      not_called : stages.Running ≡ stages.Called → ⊥
      not_called p = cc

      by : Stands plan heap.rows calls caller (frame_of (core_of heap frames counters).world caller)
          → HasCall plan calls caller (frame_of (core_of heap frames counters).world caller) × IsEntered (frame_of (core_of heap frames counters).world caller)
      by (idles rest) = absurd (not_idle (sym running ∙ ap (λ (f : Frame). f.stage) rest))
      by (waits call wait) = absurd (not_called (sym running ∙ ap (λ (f : Frame). f.stage) wait.is))
      by (works call entered work) = (call, entered)

  make : (kind : ℕ) → IsAtStep plan (shown kept) (Make kind) → kept.made < allocs_of plan (shown kept).call → CanHoldMore kept × (kept.made + 1 < 2 ^ 32) × (finite.len heap.rows < heap.room)
  make kind at few =
      let run = runs (ap (λ (f : Frame). f.stage) e ∙ at.running) in
      let allocs : allocs_of plan (frame_of (core_of heap frames counters).world caller).call ≡ allocs_of plan (shown kept).call = ap (λ (f : Frame). allocs_of plan f.call) e in
      let spares : (frame_of (core_of heap frames counters).world caller).spares ≡ kept.spares = ap (λ (f : Frame). f.spares) e in
      let made : (frame_of (core_of heap frames counters).world caller).made ≡ kept.made = ap (λ (f : Frame). f.made) e in
      let enough = all.lawful.totals.enough caller run.1 in
      let held = book_few heap.rows caller (shown kept) book in
      let some : 0 < kept.spares = omega (arith, enough, allocs, spares, made, few) in (
        record { book = omega (arith, held, heap_few, some, room, memory.book); loose = omega (arith, held, heap_few, some, room, memory.loose) },
        omega (arith, few, allocs, few_allocs plan (core_of heap frames counters) calls caller is all run.0),
        omega (arith, heap_few, some, room),
      )

  is_busy : (stage : Stage) → stage ≢ stages.Idle → kept.stage ≡ stage → kept.stage ≢ stages.Idle
  is_busy stage not now idles_now = not (sym now ∙ idles_now)

  called_busy : stages.Called ≢ stages.Idle
  called_busy p = cc

  ended_busy : (end : End) → stages.Ended end ≢ stages.Idle
  ended_busy end p = cc

  asks : kept.stage ≡ stages.Called → kept.spares < allocs_of plan (shown kept).call → CanAsk kept counters
  asks called few =
      let allocs : allocs_of plan (frame_of (core_of heap frames counters).world caller).call ≡ allocs_of plan (shown kept).call = ap (λ (f : Frame). allocs_of plan f.call) e in
      let spares : (frame_of (core_of heap frames counters).world caller).spares ≡ kept.spares = ap (λ (f : Frame). f.spares) e in
      record {
        book = sym (ap (λ (f : Frame). f.book) e) ∙ asks_first plan (core_of heap frames counters) calls caller is all (ap (λ (f : Frame). f.stage) e ∙ called) (omega (arith, allocs, spares, few));
        room = omega (arith, memory.busy (is_busy stages.Called called_busy called), memory.refusals);
        move = version_fits plan (core_of heap frames counters) calls is all;
      }

  enters : kept.stage ≡ stages.Called → CanEnter plan.code kept counters
  enters called =
      let wait = called_waits plan (core_of heap frames counters) calls caller is all (ap (λ (f : Frame). f.stage) e ∙ called) in
      record {
        held = subst (λ (f : Frame). HoldsCall plan.code f.call) e (holds_call plan (core_of heap frames counters) calls caller is all wait.0);
        room = memory.locals;
        ticket = clock_fits plan (core_of heap frames counters) calls is all;
      }

  finishes : (end : End) → kept.stage ≡ stages.Ended end → finite.entries kept.book.rows ≡ [] → CanFinish kept counters
  finishes end ended none = record {
    book = no_entries kept.book.rows none;
    room = omega (arith, memory.busy (is_busy (stages.Ended end) (ended_busy end) ended), memory.entries);
    move = version_fits plan (core_of heap frames counters) calls is all;
    free = omega (arith, heap_few, is.few_places);
  }

  facts : HasFacts plan kept heap counters
  facts = record {
    fields = can.few;
    roots = can.roots plan refl;
    more = more;
    refs = refs;
    spares = omega (arith, heap_few, is.few_places);
    make = make;
    asks = asks;
    enters = enters;
    finishes = finishes;
  }

  -- what giving the caller a step needs
  pub can_advance : CanAdvance plan.code kept heap counters
  can_advance = record {
    can = can;
    ready = record { plan = plan; code_is = refl; ready = subst (IsReady plan) e (all.sound.each caller).ready };
    needs = steps_need plan kept heap counters facts _ (why plan (shown kept));
  }
