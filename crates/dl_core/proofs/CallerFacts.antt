-- What holds of a caller's frame in every state of a run, as numbers and memory need it.
use Rattle.std.proofs.Common.{◌≡◌, inl, inr, ℕ, zero, suc, ◌+◌, ◌*◌, ◌<◌, ◌≤◌, List, [], ◌∷◌, length, get_or, Option, Some, refl, sym, ap, subst, ◌∙◌, arith}
use Rattle.std.specs.Prelude.{slice_get, All}
use Rattle.std.specs.Option.{option_map_or}
use Rattle.std.specs.FinMap as finite
use Rattle.std.specs.FinMap.{len-entries, empty_of_len}
use Rattle.std.proofs.lemmas.Option.{slice_get_within, get_or_from_slice_get}
use Rattle.std.proofs.lemmas.List.Sums.{sum_by-le, get_or-le-sum_by, count_by-le-length}
use Rattle.dl_ir.specs.declared.answers.End.{End}
use Rattle.dl_ir.specs.declared.modules.OpDecl.{OpDecl}
use Rattle.dl_ir.specs.declared.names.Name.{Name}
use Rattle.dl_ir.specs.Checked.{IsOperation}
use Rattle.dl_ir.specs.References.{refers_to}
use Rattle.dl_core.specs.declared.objects.Object.{Object}
use Rattle.dl_core.specs.declared.stages.Booked.{Booked}
use Rattle.dl_core.specs.declared.stages.Stage.TheVariants as stages
use Rattle.dl_core.specs.Arguments.{HoldsCall}
use Rattle.dl_core.specs.Core.{Core, frame_of}
use Rattle.dl_core.specs.Frames.{Frame, Book, idle}
use Rattle.dl_core.specs.Heaps.{Heap, refs, refs_in, total, plain_object}
use Rattle.dl_core.specs.Laws.{IsKept}
use Rattle.dl_core.specs.Plans.{Plan, IsPlan, IsCaller, source_of, allocs_of}
use Rattle.dl_core.specs.Reached.{Calls}
use Rattle.dl_core.specs.Shown.{HasFewFields}
use Rattle.dl_core.specs.Sound.{HasCall, IsWaiting, Stands, idles, waits, works}
use Rattle.dl_shape.proofs.Names.{names}
use Rattle.dl_lemmas.proofs.Entries.{AreEntries, entries_are}
use Rattle.dl_core.proofs.RootNumbers.{all_held}
use Rattle.dl_core.proofs.Typing.{kind_of, plain_there}

-- a map without entries is empty
pub no_entries : (book : Book) → finite.entries book ≡ [] → book ≡ finite.empty
no_entries book e = empty_of_len book (len-entries book ∙ ap length e)

-- each entry is there
entry_there : (heap : Heap) (es : List (Name × Object)) → AreEntries heap es → (k : ℕ) (d : Name × Object) → k < length es → finite.get heap (get_or es k d).0 ≡ Some (get_or es k d).1
entry_there heap [] are k d less = absurd (omega (arith, less))
entry_there heap (e ∷ es) are zero d less = are.0
entry_there heap (e ∷ es) are (suc k) d less = entry_there heap es are.2 k d (omega (arith, less))

-- an operation of a checked module is checked
pub op_checked : (plan : Plan) → IsPlan plan → (number : ℕ) (op : OpDecl) → slice_get (source_of plan).ops number ≡ Some op → IsOperation (source_of plan) op
op_checked plan is number op e =
    subst (IsOperation (source_of plan)) (get_or_from_slice_get (source_of plan).ops number op op e) (is.checked.ops number op (slice_get_within (source_of plan).ops number op e))

module _ (plan : Plan) (core : Core) (calls : Calls) (caller : ℕ) (is : IsPlan plan) (all : IsKept plan core calls) where
  -- no more fields refer to an object than all objects have
  few_fields : HasFewFields plan.code → (name : Name) (object : Object) → finite.get core.world.heap name ≡ Some object → length object.fields ≤ 16
  few_fields few name object there =
      let declared = kind_of (source_of plan) core.world.heap all.sound.heap name object there in
      let fields = all.sound.heap.fields name (plain_object object) declared.0 (plain_there core.world.heap name object there) declared.1 in
      omega (arith, fields.one_each, few object.kind declared.0 declared.1)

  pub few_refs : HasFewFields plan.code → (name : Name) → refs core.world.heap name ≤ finite.len core.world.heap * 16
  unfolding total
  few_refs few name =
      let each : All (λ (e : Name × Object). refs_in name e.1 ≤ 16) (finite.entries core.world.heap) = λ k d less.
      omega (
        arith,
        count_by-le-length (refers_to name) (get_or (finite.entries core.world.heap) k d).1.fields,
        few_fields few (get_or (finite.entries core.world.heap) k d).0 (get_or (finite.entries core.world.heap) k d).1
            (entry_there core.world.heap (finite.entries core.world.heap) (entries_are names core.world.heap) k d less),
      ) in
      let sum = sum_by-le (λ (e : Name × Object). refs_in name e.1) 16 (finite.entries core.world.heap) each in
      subst (λ n. refs core.world.heap name ≤ n * 16) (sym (len-entries core.world.heap)) sum

  -- spare and free places are places
  pub few_spares : IsCaller plan caller → core.pool.free + (frame_of core.world caller).spares ≤ plan.places
  few_spares who =
      let within : caller < length core.world.frames = omega (arith, all.sound.frames, who.to_last) in
      omega (arith, get_or-le-sum_by (λ (frame : Frame). frame.spares) core.world.frames caller idle within, all.lawful.totals.places)

  -- the call in hand can be held
  pub holds_call : HasCall plan calls caller (frame_of core.world caller) → HoldsCall plan.code (frame_of core.world caller).call
  holds_call call = record {
    op = call.fits.op;
    declared = call.fits.declared;
    held = all_held (source_of plan) call.fits.op.params (frame_of core.world caller).call.args is.checked.start call.fits.fits;
    few_locals = (op_checked plan is (frame_of core.world caller).call.op call.fits.op call.fits.declared).few_locals;
  }

  -- a call may make few objects
  pub few_allocs : HasCall plan calls caller (frame_of core.world caller) → allocs_of plan (frame_of core.world caller).call ≤ 64
  few_allocs call =
      let same : allocs_of plan (frame_of core.world caller).call ≡ call.op.allocs = ap (λ (o : Option OpDecl). option_map_or (λ (op : OpDecl). op.allocs) o 0) call.declared in
      omega (arith, same, (op_checked plan is (frame_of core.world caller).call.op call.op call.declared).few_allocs)

  -- who has a call in hand and has not entered
  pub called_waits : (frame_of core.world caller).stage ≡ stages.Called → (call : HasCall plan calls caller (frame_of core.world caller)) × IsWaiting plan (frame_of core.world caller) call.op
  called_waits called = by (all.sound.each caller).stands
    where
      not_idle : stages.Called ≡ stages.Idle → ⊥
      not_idle p = cc

      not_running : stages.Called ≡ stages.Running → ⊥
      not_running p = cc

      not_ended : (end : End) → stages.Called ≡ stages.Ended end → ⊥
      not_ended end p = cc

      by : Stands plan core.world.heap calls caller (frame_of core.world caller) → (call : HasCall plan calls caller (frame_of core.world caller)) × IsWaiting plan (frame_of core.world caller) call.op
      by (idles rest) = absurd (not_idle (sym called ∙ ap (λ (f : Frame). f.stage) rest))
      by (waits call wait) = (call, wait)
      by (works call entered work) = absurd (elim work.stage [ inl running ↦ not_running (sym called ∙ running) | inr ended ↦ not_ended ended.0 (sym called ∙ ended.1) ])

  -- before it has its places it holds nothing
  pub asks_first : (frame_of core.world caller).stage ≡ stages.Called → (frame_of core.world caller).spares < allocs_of plan (frame_of core.world caller).call → (frame_of core.world caller).book ≡ finite.empty
  asks_first called few = no_entries (frame_of core.world caller).book (none (finite.entries (frame_of core.world caller).book) (entries_are names (frame_of core.world caller).book))
    where
      waits_so : (call : HasCall plan calls caller (frame_of core.world caller)) × IsWaiting plan (frame_of core.world caller) call.op
      waits_so = called_waits called

      taken_none : (frame_of core.world caller).taken ≡ 0
      taken_none =
          let same : allocs_of plan (frame_of core.world caller).call ≡ waits_so.0.op.allocs = ap (λ (o : Option OpDecl). option_map_or (λ (op : OpDecl). op.allocs) o 0) waits_so.0.declared in
          elim waits_so.1.places [ inl has ↦ absurd (omega (arith, has, same, few)) | inr not_yet ↦ not_yet.1 ]

      none : (es : List (Name × Booked)) → AreEntries (frame_of core.world caller).book es → es ≡ []
      none [] are = refl
      none (e ∷ es) are =
          let held = (all.sound.each caller).book.booked e.0 e.1 are.0 in
          let root = all.lawful.who_holds.roots caller e.0 (ap (λ (f : Frame). f.ticket) waits_so.1.is) (record { object = held.object; there = held.there; held = held.held }) in
          absurd (omega (arith, root.within, taken_none))
