-- A small plan is one, its serial runs seal nothing, and a run of it comes to the states that the example tells of.
use Rattle.std.proofs.Common.{◌≡◌, ℕ, zero, suc, ℤ, pos, ◌+◌, ◌<◌, ◌≤◌, true, false, Bool, List, [], ◌∷◌, Some, None, refl, sym, ap, subst, ◌∙◌, arith}
use Rattle.std.specs.Prelude.{All, slice_get, sum_by, count_by, find, filter, fold, length, max, nat_lt, cond}
use Rattle.std.specs.Option.{option_map}
use Rattle.std.specs.Ordering.{eq_by_cmp}
use Rattle.std.specs.FinMap as finite
use Rattle.std.proofs.lemmas.List.Elements.{All-nil, All-cons}
use Rattle.dl_ir.specs.declared.calls.Call.{Call}
use Rattle.dl_ir.specs.declared.modules.FieldDecl.{FieldDecl}
use Rattle.dl_ir.specs.declared.modules.KindDecl.{KindDecl}
use Rattle.dl_ir.specs.declared.modules.LocalDecl.{LocalDecl}
use Rattle.dl_ir.specs.declared.modules.OpDecl.{OpDecl}
use Rattle.dl_ir.specs.declared.modules.Ty.{Ty}
use Rattle.dl_ir.specs.declared.modules.Ty.TheVariants.{Int, Of}
use Rattle.dl_ir.specs.declared.names.Name.{Name}
use Rattle.dl_ir.specs.declared.names.Value.{Value}
use Rattle.dl_ir.specs.declared.names.Value.TheVariants as values
use Rattle.dl_ir.specs.declared.objects.Obj.{Obj}
use Rattle.dl_ir.specs.CallForms.{IsCallOf, AllFit, IsRootNumber}
use Rattle.dl_ir.specs.Checked.{IsChecked, IsOperation, HasRoot, IsParamType, IsVarType}
use Rattle.dl_ir.specs.Heap.{IsHidden, name_cmp, root, IsHeapOf, IsRootOf, HasFields, HasType, hidden_count}
use Rattle.dl_ir.specs.References.{refs, refers_to, is_loose, is_shared}
use Rattle.dl_ir.specs.Typed as typed
use Rattle.dl_ir.specs.Typed.{HasFieldOf}
use Rattle.dl_shape.specs.Closed.{AllEndInForest}
use Rattle.dl_shape.specs.Operation.{operated}
use Rattle.dl_shape.specs.References.{IsForest}
use Rattle.dl_shape.specs.Replay.{greatest_ticket}
use Rattle.dl_shape.specs.Settling.{trim, settled, sealed_heap}
use Rattle.dl_shape.proofs.Order.{trim_end}
use Rattle.dl_shape.proofs.Sealing.{seal_end}
use Rattle.dl_instr.specs.DropsLaws.{PlainIsCode}
use Rattle.dl_core.specs.declared.answers.Event.TheVariants as events
use Rattle.dl_core.specs.declared.answers.Progress.TheVariants as progress
use Rattle.dl_core.specs.declared.dues.Due.TheVariants.{TakesRoot}
use Rattle.dl_core.specs.declared.objects.Mark.TheVariants as marks
use Rattle.dl_core.specs.declared.objects.Object.{Object}
use Rattle.dl_core.specs.Heaps.{marked_object}
use Rattle.dl_core.specs.declared.stages.Stage.TheVariants as stages
use Rattle.dl_core.specs.Plans.{Plan, IsPlan, fuel_of, locals_of}
use Rattle.dl_core.specs.Frames.{IsEntered}
use Rattle.dl_core.specs.Events.{act, event_of, took_root}
use Rattle.dl_core.specs.Core.{Core, acted, enters, frame_of, fresh, step, with_call, with_event}
use Rattle.dl_core.specs.Reached.{IsReached, starts, begins, steps}
use Rattle.dl_core.specs.Reach.{WaitsFor, ticket_in}
use Rattle.dl_core.specs.Laws.{HasJustEntered}
use Rattle.dl_core.proofs.Kept.{ready_same}
use Rattle.dl_shape.proofs.Names.{names}
use Rattle.dl_lemmas.proofs.Maps.{same_key}
use Rattle.dl_core.proofs.Maps.{get_here}
use Rattle.dl_core.proofs.Names.{same_some, no_some}
use Rattle.dl_core.proofs.Plain.{get_marked}
use Rattle.dl_order.specs.Example.{OneWaits, BothRun, look_op, look_module, look, look_heap, look_plan, look_calls, IsExample}
use Rattle.dl_order.proofs.Always.{serial_always}
use Rattle.dl_order.proofs.Answering.{takers_wait}
use Rattle.dl_order.proofs.Ending.{each_run_can_end}
use Rattle.dl_order.proofs.Ends.{runs_end}
use Rattle.dl_order.proofs.Entering.{enters_when, just_entered}
use Rattle.dl_order.proofs.Measure.{oldest_moves}

-- ---- the heap

abbrev counter : KindDecl
counter = record { name = []; is_root = true; first = 0; count = 1; fields = record { name = []; ty = Int } ∷ [] }

abbrev object : Obj
object = record { kind = 0; sealed = false; fields = values.Int (pos 0) ∷ [] }

entries_are : finite.entries look_heap ≡ (root 0, object) ∷ []
entries_are = finite.entries-from_sorted name_cmp ((root 0, object) ∷ []) tt

by_entries : {X : Type 0} (f : List (Name × Obj) → X) → f (finite.entries look_heap) ≡ f ((root 0, object) ∷ [])
by_entries f = ap f entries_are

-- the root is the only object
is_root : (name : Name) (found : Obj) → finite.get look_heap name ≡ Some found → (name ≡ root 0) × (found ≡ object)
is_root name found there = by (eq_by_cmp name_cmp name (root 0)) refl (sym (finite.get-from_sorted name_cmp ((root 0, object) ∷ []) name tt) ∙ there)
  where
    by : (b : Bool) → eq_by_cmp name_cmp name (root 0) ≡ b → cond b (Some object) None ≡ Some found → (name ≡ root 0) × (found ≡ object)
    by true t e = (same_key names name (root 0) t, sym (same_some e))
    by false t e = absurd (no_some e)

root_there : finite.get look_heap (root 0) ≡ Some object
root_there = finite.get-from_sorted name_cmp ((root 0, object) ∷ []) (root 0) tt

none_refers : (name : Name) → refs look_heap name ≡ 0
none_refers name = by_entries (λ es. sum_by (λ (entry : Name × Obj). count_by (refers_to name) entry.1.fields) es)

first_kind : (kind : ℕ) (declared : KindDecl) → slice_get look_module.kinds kind ≡ Some declared → (kind ≡ 0) × (declared ≡ counter)
first_kind zero declared e = (refl, sym (same_some e))
first_kind (suc kind) declared e = absurd (no_some e)

of_module : IsHeapOf look_module look_heap
of_module = record {
  roots = λ kind name is. root_of kind name is (first_kind kind is.declared is.is_there);
  exposed = λ name found there ticket. exposed name found (is_root name found there);
  hidden = λ name found there hid. absurd (let same = is_root name found there in omega (arith, hid, ap (λ (n : Name). n.ticket) same.0));
  fields = λ name found declared there is_there. fields name found declared (is_root name found there) is_there;
}
  where
    root_of : (kind : ℕ) (name : Name) (is : IsRootOf look_module kind name) → (kind ≡ 0) × (is.declared ≡ counter)
        → (found : Obj) × (finite.get look_heap name ≡ Some found) × (found.kind ≡ kind) × (found.sealed ≡ false)
    root_of kind name is first =
        let low : 0 ≤ name.index = omega arith in
        let high : name.index < 1 = omega (arith, is.to_last, ap (λ (d : KindDecl). d.first + d.count) first.1) in
        let index : name.index ≡ 0 = omega (arith, high) in
        let same : root 0 ≡ name = λ i. record { ticket = sym is.ticket i; index = sym index i } in
        (object, subst (λ n. finite.get look_heap n ≡ Some object) same root_there, sym first.0, refl)

    exposed : (name : Name) (found : Obj) → (name ≡ root 0) × (found ≡ object) → IsRootOf look_module found.kind name
    exposed name found same = subst (λ (o : Obj). IsRootOf look_module o.kind name) (sym same.1) (subst (IsRootOf look_module 0) (sym same.0)
        (record { declared = counter; is_there = refl; is_root = refl; ticket = refl; from_first = omega arith; to_last = omega arith }))

    typed_at : (at : ℕ) (field : FieldDecl) (value : Value) → slice_get (record { name = []; ty = Int } ∷ []) at ≡ Some field → slice_get (values.Int (pos 0) ∷ []) at ≡ Some value → HasType look_heap field.ty value
    typed_at zero field value p q = subst (λ (f : FieldDecl). HasType look_heap f.ty value) (same_some p) (subst (HasType look_heap Int) (same_some q) tt)
    typed_at (suc at) field value p q = absurd (no_some p)

    fields : (name : Name) (found : Obj) (declared : KindDecl) → (name ≡ root 0) × (found ≡ object) → slice_get look_module.kinds found.kind ≡ Some declared → HasFields look_heap declared.fields found.fields
    fields name found declared same is_there =
        let first : declared ≡ counter = sym (same_some (ap (λ (o : Obj). slice_get look_module.kinds o.kind) (sym same.1) ∙ is_there)) in
        subst (λ (d : KindDecl). HasFields look_heap d.fields found.fields) (sym first) (subst (λ (o : Obj). HasFields look_heap (record { name = []; ty = Int } ∷ []) o.fields) (sym same.1)
        (record { one_each = refl; typed = typed_at }))

-- ---- the module

checked : IsChecked look_module
checked = record {
  start = record { few_kinds = omega arith; few_fields = (omega arith, tt); row = (record { of_root = λ e. refl; of_node = λ e. absurd (no_root e) }, omega arith) };
  some_roots = All-cons HasRoot counter [] (λ e. omega arith) (All-nil HasRoot);
  rooted = refl;
  fields = λ kind f target has. absurd (no_reference kind f target has);
  few_ops = omega arith;
  ops = All-cons (IsOperation look_module) look_op [] operation (All-nil (IsOperation look_module));
}
  where
    no_root : true ≡ false → ⊥
    no_root e = cc

    number : (ty : Ty) (target : ℕ) → ty ≡ Int → ty ≡ Of target → ⊥
    number ty target p q = let e : Int ≡ Of target = sym p ∙ q in cc

    no_reference : (kind f target : ℕ) → HasFieldOf look_module kind f (Of target) → ⊥
    no_reference kind f target has = by f (subst (λ (d : KindDecl). slice_get d.fields f ≡ Some has.field) (first_kind kind has.declared has.is_there).1 has.is_its_field)
      where
        by : (f : ℕ) → slice_get (record { name = []; ty = Int } ∷ []) f ≡ Some has.field → ⊥
        by zero e = number has.field.ty target (ap (λ (d : FieldDecl). d.ty) (sym (same_some e))) has.of_type
        by (suc f) e = no_some e

    operation : IsOperation look_module look_op
    operation = record {
      params = All-cons (λ (param : LocalDecl). IsParamType look_module param.ty) (record { name = []; ty = Of 0 }) [] (record { declared = counter; is_there = refl; is_root = refl }) (All-nil (λ (param : LocalDecl). IsParamType look_module param.ty));
      rooted = refl;
      vars = All-nil (λ (var : LocalDecl). IsVarType look_module var.ty);
      few_locals = omega arith;
      few_allocs = omega arith;
      little_fuel = omega arith;
      body = typed.nothing;
    }

first_ticket : greatest_ticket look_heap ≡ 0
first_ticket = by_entries (fold (λ greatest (entry : Name × Obj). max greatest entry.0.ticket) 0)

is_plan : PlainIsCode → IsPlan look_plan
is_plan plain = record {
  checked = checked;
  code = plain look_module;
  start = record {
    startable = record {
      of_module = of_module;
      settled = λ name found there hid unsealed. absurd (not_hidden name found there hid);
      low_tickets = omega (arith, first_ticket);
      low_indexes = λ name found there hid. absurd (not_hidden name found there hid);
    };
    room = omega (arith, nothing_hidden);
  };
  some_callers = omega arith;
  few_callers = omega arith;
  few_calls = All-cons (λ size. size ≤ 65536) 1 (1 ∷ []) (omega arith) (All-cons (λ size. size ≤ 65536) 1 [] (omega arith) (All-nil (λ size. size ≤ 65536)));
  few_places = omega arith;
}
  where
    not_hidden : (name : Name) (found : Obj) → finite.get look_heap name ≡ Some found → IsHidden name → ⊥
    not_hidden name found there hid = let same = is_root name found there in omega (arith, hid, ap (λ (n : Name). n.ticket) same.0)

    nothing_hidden : hidden_count look_heap ≡ 0
    nothing_hidden = by_entries (λ es. length (filter (λ (e : Name × Obj). nat_lt 0 e.0.ticket) es))

-- ---- serial runs

-- there is one call
only_call : (call : Call) → IsCallOf look_module call → call ≡ look
only_call call fits = by call.op call.args fits.declared
  where
    one_argument : (params : List LocalDecl) (args : List ℤ) → params ≡ look_op.params → AllFit look_module params args → args ≡ pos 0 ∷ []
    one_argument params args e fit = by args (subst (λ ps. AllFit look_module ps args) e fit)
      where
        zero_root : (a : ℤ) → IsRootNumber look_module 0 a → a ≡ pos 0
        zero_root a fit = fit.is_number ∙ ap pos (let first = (first_kind 0 fit.decl fit.declared).1 in omega (arith, fit.not_behind, ap (λ (d : KindDecl). d.first + d.count) first))

        by : (args : List ℤ) → AllFit look_module look_op.params args → args ≡ pos 0 ∷ []
        by [] f = absurd f
        by (a ∷ []) f = ap (λ n. n ∷ []) (zero_root a f.0)
        by (a ∷ b ∷ rest) f = absurd f.1

    by : (op : ℕ) (args : List ℤ) → slice_get look_module.ops op ≡ Some fits.op → call ≡ look
    by op args e = λ i. record { op = number call.op fits.declared i; args = one_argument fits.op.params call.args (of_op call.op fits.declared) fits.fits i }
      where
        number : (op : ℕ) → slice_get look_module.ops op ≡ Some fits.op → op ≡ 0
        number zero f = refl
        number (suc op) f = absurd (no_some f)

        of_op : (op : ℕ) → slice_get look_module.ops op ≡ Some fits.op → fits.op.params ≡ look_op.params
        of_op zero f = ap (λ (o : OpDecl). o.params) (sym (same_some f))
        of_op (suc op) f = absurd (no_some f)

-- nothing is trimmed, and nothing sealed
trimmed : trim look_heap ≡ look_heap
trimmed = sym (trim_end look_heap (finite.len look_heap) (sym (by_entries (λ es. option_map (λ (entry : Name × Obj). entry.0) (find (is_loose look_heap) es)))))

stays : settled look_heap ≡ look_heap
stays = ap sealed_heap trimmed ∙ sym (seal_end look_heap (sym (by_entries (λ es. option_map (λ (entry : Name × Obj). entry.0) (find (is_shared look_heap) es)))))

is_forest : IsForest (trim look_heap)
is_forest = subst IsForest (sym trimmed) (record { roots_free = λ name z. none_refers name; at_most_one = λ name found there hid unsealed. omega (arith, none_refers name) })

all_forests : (calls : List Call) (ticket : ℕ) → All (IsCallOf look_module) calls → AllEndInForest look_module ticket look_heap calls
all_forests [] ticket fits = tt
all_forests (call ∷ rest) ticket fits =
    let is_look = only_call call (fits 0 call (omega arith)) in
    let first : (operated look_module look_heap ticket look).objects ≡ look_heap = stays in
    subst (λ c. AllEndInForest look_module ticket look_heap (c ∷ rest)) (sym is_look)
    (is_forest, subst (λ h. AllEndInForest look_module (ticket + 1) h rest) (sym first) (all_forests rest (ticket + 1) (λ k d lt. fits (suc k) d (omega (arith, lt)))))

pub example : PlainIsCode → IsExample
example plain = record {
  is_plan = is_plan plain;
  closed = record {
    unsealed = λ name found there. ap (λ (o : Obj). o.sealed) (is_root name found there).1;
    each_run = λ calls fits. all_forests calls (greatest_ticket look_heap + 1) fits;
  };
}

-- ---- a run

abbrev plan : Plan
plan = look_plan

abbrev object_held : Object
object_held = record { kind = 0; mark = marks.Held 1; fields = values.Int (pos 0) ∷ [] }

-- both have begun
abbrev both : Core
both = with_call (with_call (fresh plan) 1 look) 2 look

fits_look : IsCallOf look_module look
fits_look = record { op = look_op; declared = refl; fits = (record { number = 0; is_number = refl; decl = counter; declared = refl; is_root = refl; not_before = omega arith; not_behind = omega arith }, tt) }

both_reached : IsReached plan both look_calls
both_reached =
    begins 2 look
    (begins 1 look starts (record { is_caller = record { from_one = omega arith; to_last = omega arith }; idle = refl; room = omega arith; fits = fits_look }))
    (record { is_caller = record { from_one = omega arith; to_last = omega arith }; idle = refl; room = omega arith; fits = fits_look })

-- the first has the root
marked_root : finite.get both.world.heap (root 0) ≡ Some (marked_object object)
marked_root = get_marked look_heap (root 0) ∙ ap (option_map marked_object) root_there

abbrev with_root : Core
with_root = acted both 1 (root 0) (took_root 0 0 (frame_of both.world 1), Some object_held)

takes_root : step plan both 1 ≡ Some (with_root, progress.Moved (events.TakeRoot 0))
takes_root = ap (λ o. with_event both 1 (root 0) (event_of (TakesRoot 0) o) (act plan 1 (frame_of both.world 1) (TakesRoot 0) o)) marked_root

root_reached : IsReached plan with_root look_calls
root_reached = steps 1 (progress.Moved (events.TakeRoot 0)) both_reached takes_root

-- and enters
abbrev entered_one : Core
entered_one = (enters plan with_root 1 (frame_of with_root.world 1)).0

entered_reached : IsReached plan entered_one look_calls
entered_reached = steps 1 (enters plan with_root 1 (frame_of with_root.world 1)).1 root_reached refl

nobody : (other : ℕ) → IsEntered (frame_of with_root.world other) → ⊥
nobody zero e = omega (arith, e)
nobody (suc zero) e = omega (arith, e)
nobody (suc (suc zero)) e = omega (arith, e)
nobody (suc (suc (suc other))) e = omega (arith, e)

entered_ticket : ticket_in entered_one.world 1 ≡ with_root.clock + 1
entered_ticket =
    let frame = frame_of with_root.world 1 in
    (ready_same plan (record frame { stage = stages.Running; ticket = with_root.clock + 1; locals = locals_of plan frame.call; turns = fuel_of plan frame.call })).3

-- the first is the only one, and so the oldest
oldest : (other : ℕ) → IsEntered (frame_of entered_one.world other) → ticket_in entered_one.world 1 ≤ ticket_in entered_one.world other
oldest zero e = absurd (omega (arith, e))
oldest (suc zero) e = omega arith
oldest (suc (suc zero)) e = absurd (omega (arith, e))
oldest (suc (suc (suc other))) e = absurd (omega (arith, e))

pub one_waits : PlainIsCode → OneWaits
one_waits plain =
    let is = is_plan plain in
    let waits : WaitsFor plan entered_one.world 2 1 = record { name = root 0; takes = refl; held = record { object = object_held; there = get_here names both.world.heap (root 0) (Some object_held); held = refl }; apart = λ e. omega (arith, e) } in
    let clock : with_root.clock + 1 ≡ 1 = omega (arith, first_ticket) in
    let enters_one : HasJustEntered plan entered_one.world 1 1 look = subst (λ n. HasJustEntered plan entered_one.world 1 n look) clock (just_entered plan is with_root look_calls 1 root_reached (enters_when plan is with_root look_calls 1 root_reached refl) (omega arith) nobody) in
    record {
      core = entered_one;
      reached = entered_reached;
      enters = enters_one;
      unentered = refl;
      waits = waits;
      serial = serial_always plan entered_one look_calls is entered_reached;
      moves = oldest_moves plan entered_one look_calls 1 is entered_reached (omega (arith, entered_ticket)) oldest;
      told = takers_wait plan entered_one look_calls 2 1 is entered_reached waits;
    }

pub both_run : PlainIsCode → BothRun
both_run plain =
    let is = is_plan plain in
    let end = each_run_can_end plan entered_one look_calls is entered_reached in
    record { core = end.0; reached = end.1; idle = end.2; run = runs_end plan end.0 look_calls is end.1 end.2 }
