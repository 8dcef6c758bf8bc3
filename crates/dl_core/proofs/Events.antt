-- Each event that touches an object does there what a caller may do.
use Rattle.std.proofs.Common.{◌≡◌, ◌≢◌, ◌⊎◌, inl, inr, ℕ, ℤ, zero, suc, ◌+◌, ◌<◌, ◌≤◌, Bool, true, false, List, [], ◌∷◌, length, get_or, Option, Some, None, refl, sym, ap, subst, ◌∙◌, arith}
use Rattle.std.specs.Prelude.{slice_get, slice_set, nat_lt, ◌==◌, ◌&&◌, ◌||◌, All, is_some}
use Rattle.std.specs.FinMap as finite
use Rattle.std.proofs.lemmas.Bool.{cases_lt}
use Rattle.std.proofs.lemmas.Bool.Decides.{nat_tests}
use Rattle.std.proofs.lemmas.Option.{slice_get-get_or, slice_get_within}
use Rattle.dl_ir.specs.declared.answers.End.{End}
use Rattle.dl_ir.specs.declared.modules.FieldDecl.{FieldDecl}
use Rattle.dl_ir.specs.declared.modules.KindDecl.{KindDecl}
use Rattle.dl_ir.specs.declared.modules.Module.{Module}
use Rattle.dl_ir.specs.declared.modules.Ty.{Ty}
use Rattle.dl_ir.specs.declared.modules.Ty.TheVariants as types
use Rattle.dl_ir.specs.declared.names.Name.{Name}
use Rattle.dl_ir.specs.declared.names.Value.{Value}
use Rattle.dl_ir.specs.declared.names.Value.TheVariants.{Int, Ref}
use Rattle.dl_ir.specs.declared.objects.Obj.{Obj}
use Rattle.dl_ir.specs.Evaluation.{target_of}
use Rattle.dl_ir.specs.Heap.{IsHidden, HasType, IsNodeKind, root, blank, blank_fields}
use Rattle.dl_ir.specs.Meaning.{object_of}
use Rattle.dl_ir.specs.References.{target_in}
use Rattle.dl_ir.specs.Typed.{IsLocalOf, HasFieldOf, types_of}
use Rattle.dl_instr.specs.declared.steps.Step.{Step}
use Rattle.dl_instr.specs.declared.steps.Step.TheVariants.{Read, Want, Make, Write}
use Rattle.dl_instr.specs.declared.steps.Content.{Content}
use Rattle.dl_instr.specs.declared.steps.Content.TheVariants as contents
use Rattle.dl_instr.specs.Jumps.{jump_of}
use Rattle.dl_core.specs.declared.objects.Mark.{Mark}
use Rattle.dl_core.specs.declared.objects.Mark.TheVariants.{Free, Held, Sealed}
use Rattle.dl_core.specs.declared.objects.Object.{Object}
use Rattle.dl_core.specs.declared.stages.Booked.{Booked}
use Rattle.dl_core.specs.declared.stages.Stage.TheVariants as stages
use Rattle.dl_core.specs.Codes.{IsTypedStep, read, want, set, copy, drop, make, write, eval, emit, test, give, FitsContent, a_number, a_local, a_null, IsGoodCode}
use Rattle.dl_core.specs.Heaps.{Heap, refs, field_of, plain, IsHeld, IsSealed}
use Rattle.dl_core.specs.Plans.{Plan, IsPlan, source_of, steps_of, reference_from}
use Rattle.dl_core.specs.Frames.{Frame, IsEntered, target_at, target_in_hand, value_in_hand, has_booked}
use Rattle.dl_core.specs.declared.dues.Due.{Due}
use Rattle.dl_core.specs.declared.dues.Due.TheVariants.{TakesRoot, Reads, Writes, Takes, LetsGo, GivesUp, Seals, Makes}
use Rattle.dl_core.specs.LocalSteps.{due, first_referring, or_next, content_of, next_name}
use Rattle.dl_core.specs.Events.{Acted, act, act_on, take, take_root, aim, made_object}
use Rattle.dl_core.specs.Core.{Core, frame_of}
use Rattle.dl_core.specs.Reached.{Calls}
use Rattle.dl_core.specs.Reach.{Links, ticket_in}
use Rattle.dl_core.specs.Changes.{May, reads, sees, writes, takes, takes_root, lets_go, seals, gives_up, makes, MayLose, MayWrite}
use Rattle.dl_core.specs.Lawful.{IsLawful, HasReason, for_a_local, for_fields, for_the_list, for_the_hand}
use Rattle.dl_core.specs.Sound.{IsSound, HasCall, IsWorking, Stands, idles, waits, works, HandAt, HandWhile, HandBefore, HasCleared, clears, lets_go as lets_go_first, IsClearing, IsFieldInHand, HoldsHand, IsLoose}
use Rattle.dl_core.proofs.GoodCode.{plans_have_good_code}
use Rattle.dl_lemmas.proofs.Entries.{AreEntries, entries_are}
use Rattle.dl_shape.proofs.Names.{names}
use Rattle.dl_core.proofs.Names.{same_some, no_some}
use Rattle.dl_core.proofs.Rows.{target_held, target_value, none_refers, link_hidden, field_links, first_of_all}
use Rattle.dl_core.proofs.Typing.{plain_there, node_hidden, field_has_type, no_dangling, no_reference_from}
use Rattle.dl_core.proofs.Why as why
use Rattle.dl_core.proofs.Why.{Why, IsAtStep, IsGivenUp}

-- ---- what a typed step says

-- of a write
pub record WriteFits (source : Module) (locals : List Ty) (local field : ℕ) (content : Content) : Type 0 where
  pub kind : ℕ
  pub ty : Ty
  pub is_local : IsLocalOf locals local kind
  pub has_field : HasFieldOf source kind field ty
  pub fits : FitsContent source locals ty content

no_read : {a b c d : ℕ} {e : Content} → Read a b ≡ Write c d e → ⊥
no_read e = cc

pub write_fits : (source : Module) (locals : List Ty) (step : Step) → IsTypedStep source locals step → (local field : ℕ) (content : Content) → step ≡ Write local field content → WriteFits source locals local field content
write_fits source locals step (read l f) local field content e = absurd (cc)
write_fits source locals step want local field content e = absurd (cc)
write_fits source locals step (set l) local field content e = absurd (cc)
write_fits source locals step (copy l o) local field content e = absurd (cc)
write_fits source locals step (drop l) local field content e = absurd (cc)
write_fits source locals step (make k) local field content e = absurd (cc)
write_fits source locals step (write {local = l} {field = f} {kind = k} {ty = t} {content = c} is has fits) local field content e =
    let l_is : l ≡ local = cc in
    let f_is : f ≡ field = cc in
    let c_is : c ≡ content = cc in
    record {
      kind = k;
      ty = t;
      is_local = subst (λ x. IsLocalOf locals x k) l_is is;
      has_field = subst (λ x. HasFieldOf source k x t) f_is has;
      fits = subst (λ x. FitsContent source locals t x) c_is fits;
    }
write_fits source locals step eval local field content e = absurd (cc)
write_fits source locals step emit local field content e = absurd (cc)
write_fits source locals step (test jumps) local field content e = absurd (no_some (sym (ap jump_of e) ∙ jumps))
write_fits source locals step give local field content e = absurd (cc)

-- ---- what first_referring says

pub all_null : (at : ℕ) (values : List Value) → first_referring at values ≡ None → (i : ℕ) → target_in (get_or values i (Ref None)) ≡ None
all_null at [] e i = refl
all_null at (value ∷ rest) e zero = by (target_in value) refl e
  where
    by : (t : Option Name) → target_in value ≡ t → or_next t at (first_referring (at + 1) rest) ≡ None → target_in value ≡ None
    by None p q = p
    by (Some name) p q = absurd (no_some (sym q))
all_null at (value ∷ rest) e (suc i) = all_null (at + 1) rest (by (target_in value) e) i
  where
    by : (t : Option Name) → or_next t at (first_referring (at + 1) rest) ≡ None → first_referring (at + 1) rest ≡ None
    by None q = q
    by (Some name) q = absurd (no_some (sym q))

-- ---- new objects refer to nothing

blank_null : (fields : List FieldDecl) (i : ℕ) → target_in (get_or (blank_fields fields) i (Ref None)) ≡ None
blank_null [] i = refl
blank_null (field ∷ rest) zero = by field.ty
  where
    by : (ty : Ty) → target_in (blank ty) ≡ None
    by types.Int = refl
    by (types.Of kind) = refl
blank_null (field ∷ rest) (suc i) = blank_null rest i

pub made_null : (kind : ℕ) (declared : Option KindDecl) (i : ℕ) → target_in (get_or (object_of kind declared).fields i (Ref None)) ≡ None
made_null kind None i = refl
made_null kind (Some declared) i = blank_null declared.fields i

module _ (plan : Plan) (core : Core) (calls : Calls) (caller : ℕ) (is : IsPlan plan) (lawful : IsLawful plan core calls) (sound : IsSound plan core calls) where
  abbrev pub heap : Heap
  heap = core.world.heap

  abbrev pub frame : Frame
  frame = frame_of core.world caller

  abbrev pub Row : Name → Option Object → Option Object → Type 0
  Row name found left = May heap (ticket_in core.world) caller name found left

  -- the caller has entered
  abbrev pub Works : Type 0
  Works = (call : HasCall plan calls caller frame) × IsEntered frame × IsWorking plan heap caller frame call.op

  works_if : (frame.stage ≢ stages.Idle) → (frame.stage ≢ stages.Called) → Works
  works_if not_idle not_called = by (sound.each caller).stands
    where
      by : Stands plan heap calls caller frame → Works
      by (idles e) = absurd (not_idle (ap (λ (f : Frame). f.stage) e))
      by (waits call w) = absurd (not_called (ap (λ (f : Frame). f.stage) w.is))
      by (works call e w) = (call, e, w)

  pub works_running : frame.stage ≡ stages.Running → Works
  works_running e = works_if (λ f. running_idle (sym e ∙ f)) (λ f. running_called (sym e ∙ f))
    where
      running_idle : stages.Running ≡ stages.Idle → ⊥
      running_idle f = cc

      running_called : stages.Running ≡ stages.Called → ⊥
      running_called f = cc

  pub works_ended : (end : End) → frame.stage ≡ stages.Ended end → Works
  works_ended end e = works_if (λ f. ended_idle (sym e ∙ f)) (λ f. ended_called (sym e ∙ f))
    where
      ended_idle : stages.Ended end ≡ stages.Idle → ⊥
      ended_idle f = cc

      ended_called : stages.Ended end ≡ stages.Called → ⊥
      ended_called f = cc

  pub works_loose : (name : Name) (rest : List Name) → frame.loose ≡ name ∷ rest → Works
  works_loose name rest e = by (sound.each caller).stands
    where
      none_loose : {l : List Name} → l ≡ [] → l ≡ name ∷ rest → ⊥
      none_loose p q = cc

      by : Stands plan heap calls caller frame → Works
      by (idles f) = absurd (none_loose (ap (λ (g : Frame). g.loose) f) e)
      by (waits call w) = absurd (none_loose (ap (λ (g : Frame). g.loose) w.is) e)
      by (works call f w) = (call, f, w)

  -- what a local refers to is held
  pub local_held : (w : Works) (local : ℕ) (name : Name) → target_at frame local ≡ Some name → IsHeld heap caller name
  local_held w local name e = lawful.locals_held caller local name w.1 (target_held (slice_get frame.locals local) name e)

  -- what the book has is held
  pub booked_held : (name : Name) → has_booked frame name ≡ true → IsHeld heap caller name
  booked_held name e = by (finite.get frame.book name) refl e
    where
      by : (b : Option Booked) → finite.get frame.book name ≡ b → is_some b ≡ true → IsHeld heap caller name
      by None p q = absurd (let clash : false ≡ true = q in cc)
      by (Some booked) p q = let at = (sound.each caller).book.booked name booked p in record { object = at.object; there = at.there; held = at.held }

  -- the first loose object is held
  pub loose_held : (w : Works) (name : Name) (rest : List Name) → frame.loose ≡ name ∷ rest → IsLoose heap caller frame name
  loose_held w name rest e = first_of_all (IsLoose heap caller frame) name rest (subst (All (IsLoose heap caller frame)) e w.2.loose.each)

  -- what is in the hand while the code runs
  pub hand_before : (w : Works) (step : Step) → IsAtStep plan frame step → HandBefore plan heap caller frame w.0.op (Some step)
  hand_before w step at =
      subst (λ s. HandBefore plan heap caller frame w.0.op s) at.there
      (subst (λ s. HandWhile plan heap caller frame w.0.op s) at.running (subst (λ l. HandAt plan heap caller frame w.0.op l) at.tidy w.2.hand).1)

  -- the row of an event, from what it finds and what it leaves
  row_of : (name : Name) (found left : Option Object) (outcome : Acted) → finite.get heap name ≡ found → outcome.1 ≡ left → Row name found left → Row name (finite.get heap name) outcome.1
  row_of name found left outcome p q row = subst (λ x. Row name x outcome.1) (sym p) (subst (λ y. Row name found y) (sym q) row)

  -- what an event finds at an object that is there
  at_there : (what : Due) (name : Name) (object : Object) (outcome : Acted) → finite.get heap name ≡ Some object → act plan caller frame what (finite.get heap name) ≡ Some outcome → act_on plan caller frame what object ≡ Some outcome
  at_there what name object outcome there acts = sym (ap (act plan caller frame what) there) ∙ acts

  -- ---- reads

  row_reads : (name : Name) (field : ℕ) (outcome : Acted) → IsHeld heap caller name → act plan caller frame (Reads name field) (finite.get heap name) ≡ Some outcome → Row name (finite.get heap name) outcome.1
  row_reads name field outcome held acts =
      row_of name (Some held.object) (Some held.object) outcome held.there (ap (λ (o : Acted). o.1) (sym (same_some (at_there (Reads name field) name held.object outcome held.there acts)))) (reads held.held)

  -- ---- writes

  row_writes : (name : Name) (field : ℕ) (value : Value) (outcome : Acted) (held : IsHeld heap caller name) → MayLose heap caller (field_of held.object field) → MayWrite heap caller value
      → act plan caller frame (Writes name field value) (finite.get heap name) ≡ Some outcome → Row name (finite.get heap name) outcome.1
  row_writes name field value outcome held lose may acts =
      row_of name (Some held.object) (Some (record held.object { fields = slice_set held.object.fields field value })) outcome held.there
      (ap (λ (o : Acted). o.1) (sym (same_some (at_there (Writes name field value) name held.object outcome held.there acts)))) (writes field value held.held lose may)

  -- a number, null, or what is held may be lost
  lose_held : (value : Value) → ((name : Name) → value ≡ Ref (Some name) → IsHeld heap caller name ⊎ IsSealed heap name) → MayLose heap caller value
  lose_held (Int n) each = tt
  lose_held (Ref None) each = tt
  lose_held (Ref (Some name)) each = each name refl

  same_object : (name : Name) (a b : Object) → finite.get heap name ≡ Some a → finite.get heap name ≡ Some b → a ≡ b
  same_object name a b p q = same_some (sym p ∙ q)

  -- ---- takes

  row_takes : (from name : Name) (outcome : Acted) → IsHeld heap caller from → Links heap from name → act plan caller frame (Takes name) (finite.get heap name) ≡ Some outcome → Row name (finite.get heap name) outcome.1
  row_takes from name outcome held link acts = by (finite.get heap name) refl acts
    where
      no_take : {o : Acted} → None ≡ Some o → ⊥
      no_take e = cc

      by_mark : (object : Object) → finite.get heap name ≡ Some object → (mark : Mark) → object.mark ≡ mark → take plan caller name frame object mark ≡ Some outcome → Row name (finite.get heap name) outcome.1
      by_mark object there Free m e =
          row_of name (Some object) (Some (record object { mark = Held caller })) outcome there (ap (λ (o : Acted). o.1) (sym (same_some e)))
          (takes from m (link_hidden heap lawful.free_refs from name link) held link)
      by_mark object there (Held other) m e = absurd (no_take e)
      by_mark object there (Sealed ticket) m e = row_of name (Some object) (Some object) outcome there (ap (λ (o : Acted). o.1) (sym (same_some e))) (sees ticket from m (link_hidden heap lawful.free_refs from name link) held link)

      by : (found : Option Object) → finite.get heap name ≡ found → act plan caller frame (Takes name) found ≡ Some outcome → Row name (finite.get heap name) outcome.1
      by None p e = absurd (no_take e)
      by (Some object) p e = by_mark object p object.mark refl e

  -- ---- the object that is being given up

  pub record IsCleared (name : Name) (booked : Booked) : Type 0 where
    pub object : Object
    pub there : finite.get heap name ≡ Some object
    pub held : object.mark ≡ Held caller
    pub kind : booked.kind ≡ object.kind
    pub unreferred : refs heap name ≡ 0
    pub clearing : IsClearing plan heap frame object

  pub cleared : (w : Works) (name : Name) (booked : Booked) → IsGivenUp frame name booked → IsCleared name booked
  cleared w name booked given = by (subst (λ l. HandAt plan heap caller frame w.0.op l) given.first w.2.hand).0
    where
      by : HasCleared plan heap frame name → IsCleared name booked
      by (clears object there hidden none clearing) =
          let at = (sound.each caller).book.booked name booked given.there in
          let same : at.object ≡ object = same_object name at.object object at.there there in
          record {
            object = object;
            there = there;
            held = sym (ap (λ (o : Object). o.mark) same) ∙ at.held;
            kind = at.kind ∙ ap (λ (o : Object). o.kind) same;
            unreferred = none;
            clearing = clearing;
          }
      by (lets_go_first (inl root) other none) = absurd (omega (arith, root, given.hidden))
      by (lets_go_first (inr one) other none) = let at = (sound.each caller).book.booked name booked given.there in absurd (omega (arith, one, at.fields, given.unreferred))

  abbrev pub held_cleared : (name : Name) (booked : Booked) → IsCleared name booked → IsHeld heap caller name
  held_cleared name booked c = record { object = c.object; there = c.there; held = c.held }

  -- what is in the hand stands in the field that comes
  pub cleared_hand : (name : Name) (booked : Booked) (c : IsCleared name booked) (value : Value) (field : ℕ) → frame.hand ≡ Some value → reference_from plan booked.kind frame.cursor ≡ Some field → value ≡ field_of c.object field
  cleared_hand name booked c value field hand at =
      let got = c.clearing.in_hand value hand in
      let same : got.0 ≡ field = same_some (sym got.1 ∙ ap (λ k. reference_from plan k frame.cursor) (sym c.kind) ∙ at) in
      got.2 ∙ ap (field_of c.object) same

  -- ---- the code of the call in hand

  pub code_now : (w : Works) → IsGoodCode (source_of plan) (types_of w.0.op) (steps_of plan frame.call)
  code_now w =
      let within : frame.call.op < length plan.code.ops = omega (arith, slice_get_within (source_of plan).ops frame.call.op w.0.op w.0.declared, is.code.one_each) in
      plans_have_good_code plan is frame.call.op w.0.op (steps_of plan frame.call) w.0.declared (slice_get-get_or plan.code.ops frame.call.op [] within)

  -- ---- writes of the code

  -- a local of a node kind refers to what is hidden
  pub local_hidden : (w : Works) (local kind : ℕ) (name : Name) → IsLocalOf (types_of w.0.op) local kind → IsNodeKind (source_of plan) kind → target_at frame local ≡ Some name → IsHidden name
  local_hidden w local kind name of node e =
      node_hidden (source_of plan) heap sound.heap name kind (w.2.locals.typed local (types.Of kind) (Ref (Some name)) of (target_held (slice_get frame.locals local) name e)) node

  pub content_may : (w : Works) (kind : ℕ) (ty : Ty) (field : ℕ) → HasFieldOf (source_of plan) kind field ty → (content : Content) → FitsContent (source_of plan) (types_of w.0.op) ty content
      → (content ≡ contents.Number → (n : ℤ) × (frame.hand ≡ Some (Int n))) → MayWrite heap caller (content_of content frame)
  content_may w kind ty field has content a_number hand =
      let n = hand refl in subst (MayWrite heap caller) (sym (ap value_in_hand n.1)) tt
  content_may w kind ty field has (contents.Local other) (a_local {kind = target} of) hand = by (target_at frame other) refl
    where
      by : (t : Option Name) → target_at frame other ≡ t → MayWrite heap caller (Ref t)
      by None e = tt
      by (Some name) e = (local_held w other name e, local_hidden w other target name of (is.checked.fields kind field target has) e)
  content_may w kind ty field has content a_null hand = tt

  -- the old value of a field that the code writes
  pub content_lose : (w : Works) (name : Name) (local field kind : ℕ) (ty : Ty) (held : IsHeld heap caller name) → target_at frame local ≡ Some name → IsLocalOf (types_of w.0.op) local kind → HasFieldOf (source_of plan) kind field ty
      → (content : Content) → FitsContent (source_of plan) (types_of w.0.op) ty content → HandBefore plan heap caller frame w.0.op (Some (Write local field content)) → MayLose heap caller (field_of held.object field)
  content_lose w name local field kind ty held at of has content fits hand = by_fits ty has content fits hand
    where
      -- the object has the kind of the local
      same_kind : held.object.kind ≡ kind
      same_kind =
          let obj = w.2.locals.typed local (types.Of kind) (Ref (Some name)) of (target_held (slice_get frame.locals local) name at) in
          ap (λ (o : Obj). o.kind) (same_some (sym (plain_there heap name held.object held.there) ∙ obj.is_there)) ∙ obj.of_kind

      number_lose : (v : Value) → HasType (plain heap) types.Int v → MayLose heap caller v
      number_lose (Int n) h = tt
      number_lose (Ref target) h = absurd h

      hand_lose : IsFieldInHand heap caller frame local field → HoldsHand heap caller frame → MayLose heap caller (field_of held.object field)
      hand_lose got holds_hand =
          let same_name : name ≡ got.name = same_some (sym at ∙ got.is_local) in
          let same : held.object ≡ got.object = same_some (sym held.there ∙ ap (finite.get heap) same_name ∙ got.there) in
          lose_held (field_of held.object field) (λ target e. inl (holds_hand target (got.in_hand ∙ ap Some (sym (ap (λ (o : Object). field_of o field) same) ∙ e))))

      by_fits : (t : Ty) → HasFieldOf (source_of plan) kind field t → (c : Content) → FitsContent (source_of plan) (types_of w.0.op) t c → HandBefore plan heap caller frame w.0.op (Some (Write local field c)) → MayLose heap caller (field_of held.object field)
      by_fits t has' c a_number h = number_lose (field_of held.object field) (field_has_type (source_of plan) heap sound.heap name held.object kind field types.Int held.there same_kind has')
      by_fits t has' c (a_local of') h = hand_lose h.0 h.1
      by_fits t has' c a_null h = hand_lose h.0 h.1

  pub number_hand : (w : Works) (local field : ℕ) (content : Content) → IsAtStep plan frame (Write local field content) → content ≡ contents.Number → (n : ℤ) × (frame.hand ≡ Some (Int n))
  number_hand w local field content at e = subst (λ c. IsAtStep plan frame (Write local field c) → (n : ℤ) × (frame.hand ≡ Some (Int n))) (sym e) (λ at'. hand_before w (Write local field contents.Number) at') at

  -- ---- letting go, sealing, giving up, making, taking a root

  row_lets_go : (name : Name) (rest : List Name) (outcome : Acted) → frame.loose ≡ name ∷ rest
      → (finite.get frame.book name ≡ None) ⊎ ((booked : Booked) × (finite.get frame.book name ≡ Some booked) × ((nat_lt 0 name.ticket && (booked.fields == 0)) ≡ false))
      → act plan caller frame (LetsGo name) (finite.get heap name) ≡ Some outcome → Row name (finite.get heap name) outcome.1
  row_lets_go name rest outcome first what acts =
      let w = works_loose name rest first in
      let loose = loose_held w name rest first in
      row_of name (Some loose.held.object) (Some (record loose.held.object { mark = Free })) outcome loose.held.there
      (ap (λ (o : Acted). o.1) (sym (same_some (at_there (LetsGo name) name loose.held.object outcome loose.held.there acts))))
      (lets_go loose.held.held (one loose what))
    where
      one : IsLoose heap caller frame name → (finite.get frame.book name ≡ None) ⊎ ((booked : Booked) × (finite.get frame.book name ≡ Some booked) × ((nat_lt 0 name.ticket && (booked.fields == 0)) ≡ false)) → IsHidden name → refs heap name ≡ 1
      one loose (inl none) hidden = let at = (sound.each caller).book.all name loose.held in absurd (no_some (sym none ∙ at.1))
      one loose (inr some) hidden =
          let at = (sound.each caller).book.booked name some.0 some.1 in
          let more : some.0.fields ≢ 0 = grind (arith, nat_tests, some.2, hidden) in
          let few : refs heap name ≤ 1 = loose.few_fields in
          let same : some.0.fields ≡ refs heap name = at.fields in
          grind (arith, more, few, same)

  row_gives_up : (name : Name) (booked : Booked) (outcome : Acted) → IsGivenUp frame name booked → reference_from plan booked.kind frame.cursor ≡ None
      → act plan caller frame (GivesUp name) (finite.get heap name) ≡ Some outcome → Row name (finite.get heap name) outcome.1
  row_gives_up name booked outcome given none acts =
      let w = works_loose name given.rest given.first in
      let c = cleared w name booked given in
      let no_more : reference_from plan c.object.kind frame.cursor ≡ None = ap (λ k. reference_from plan k frame.cursor) (sym c.kind) ∙ none in
      let null = λ (at : ℕ). elim (cases_lt at frame.cursor) as (λ _. target_in (field_of c.object at) ≡ None) [
        | inl before ↦ c.clearing.before at before
        | inr behind ↦ no_reference_from plan heap sound.heap name c.object c.there frame.cursor no_more at behind
      ] in
      row_of name (Some c.object) None outcome c.there (ap (λ (o : Acted). o.1) (sym (same_some (at_there (GivesUp name) name c.object outcome c.there acts))))
      (gives_up c.held given.hidden c.unreferred (λ other. none_refers other c.object.fields null))

  row_seals : (end : End) (entry : Name × Booked) (rest : List (Name × Booked)) (outcome : Acted) → frame.loose ≡ [] → frame.stage ≡ stages.Ended end → first_referring 0 frame.locals ≡ None
      → finite.entries frame.book ≡ entry ∷ rest → act plan caller frame (Seals entry.0) (finite.get heap entry.0) ≡ Some outcome → Row entry.0 (finite.get heap entry.0) outcome.1
  row_seals end entry rest outcome tidy ended null entries acts =
      let w = works_ended end ended in
      let are = subst (AreEntries frame.book) entries (entries_are names frame.book) in
      let at = (sound.each caller).book.booked entry.0 entry.1 are.0 in
      let held : IsHeld heap caller entry.0 = record { object = at.object; there = at.there; held = at.held } in
      let several = by w (lawful.held_why caller entry.0 w.1 held) in
      row_of entry.0 (Some at.object) (Some (record at.object { mark = Sealed frame.ticket })) outcome at.there
      (ap (λ (o : Acted). o.1) (sym (same_some (at_there (Seals entry.0) entry.0 at.object outcome at.there acts))))
      (seals at.held (hidden several entry.0.ticket refl) several)
    where
      by : Works → HasReason heap frame entry.0 → 1 < refs heap entry.0
      by w (for_a_local some) = absurd (omega (arith, some, none_refers entry.0 frame.locals (all_null 0 frame.locals null)))
      by w (for_fields several) = several
      by w (for_the_list has) = absurd (let none : length frame.loose ≡ 0 = ap length tidy in omega (arith, has.1, none))
      by w (for_the_hand e) =
          let none : frame.hand ≡ None = subst (λ s. HandWhile plan heap caller frame w.0.op s) ended (subst (λ l. HandAt plan heap caller frame w.0.op l) tidy w.2.hand).1 in
          absurd (no_some (sym (ap target_of none) ∙ e))

      hidden : 1 < refs heap entry.0 → (t : ℕ) → entry.0.ticket ≡ t → 0 < entry.0.ticket
      hidden several zero e = absurd (omega (arith, several, lawful.free_refs.roots entry.0 e))
      hidden several (suc t) e = omega (arith, e)

  row_makes : (kind : ℕ) (outcome : Acted) → IsAtStep plan frame (Make kind) → act plan caller frame (Makes (next_name frame) kind) (finite.get heap (next_name frame)) ≡ Some outcome
      → Row (next_name frame) (finite.get heap (next_name frame)) outcome.1
  row_makes kind outcome at acts = by (finite.get heap (next_name frame)) refl acts
    where
      by : (found : Option Object) → finite.get heap (next_name frame) ≡ found → act plan caller frame (Makes (next_name frame) kind) found ≡ Some outcome → Row (next_name frame) (finite.get heap (next_name frame)) outcome.1
      by (Some object) p e = absurd (no_some e)
      by None p e =
          let w = works_running at.running in
          let object : Object = made_object plan caller kind in
          row_of (next_name frame) None (Some object) outcome p (ap (λ (o : Acted). o.1) (sym (same_some e)))
          (makes refl w.1 (no_dangling (source_of plan) heap sound.heap (next_name frame) p) refl (λ other. none_refers other object.fields (made_null kind (slice_get (source_of plan).kinds kind))))

  row_takes_root : (number : ℕ) (outcome : Acted) → frame.stage ≡ stages.Called → act plan caller frame (TakesRoot number) (finite.get heap (root number)) ≡ Some outcome
      → Row (root number) (finite.get heap (root number)) outcome.1
  row_takes_root number outcome called acts = by (finite.get heap (root number)) refl acts
    where
      waiting_ticket : Stands plan heap calls caller frame → frame.ticket ≡ 0
      waiting_ticket (idles e) = ap (λ (f : Frame). f.ticket) e
      waiting_ticket (waits call w) = ap (λ (f : Frame). f.ticket) w.is
      waiting_ticket (works call e w) = absurd (by_stage w.stage)
        where
          by_stage : (frame.stage ≡ stages.Running) ⊎ ((end : End) × (frame.stage ≡ stages.Ended end)) → ⊥
          by_stage (inl f) = let clash : stages.Running ≡ stages.Called = sym f ∙ called in cc
          by_stage (inr f) = let clash : stages.Ended f.0 ≡ stages.Called = sym f.1 ∙ called in cc

      by_mark : (object : Object) → finite.get heap (root number) ≡ Some object → (mark : Mark) → object.mark ≡ mark → take_root caller number frame object mark ≡ Some outcome → Row (root number) (finite.get heap (root number)) outcome.1
      by_mark object there Free m e =
          row_of (root number) (Some object) (Some (record object { mark = Held caller })) outcome there (ap (λ (o : Acted). o.1) (sym (same_some e)))
          (takes_root m refl (waiting_ticket (sound.each caller).stands))
      by_mark object there (Held other) m e = absurd (no_some e)
      by_mark object there (Sealed ticket) m e = absurd (no_some e)

      by : (found : Option Object) → finite.get heap (root number) ≡ found → act plan caller frame (TakesRoot number) found ≡ Some outcome → Row (root number) (finite.get heap (root number)) outcome.1
      by None p e = absurd (no_some e)
      by (Some object) p e = by_mark object p object.mark refl e

  -- ---- all together

  row_writes_code : (local field : ℕ) (content : Content) (name : Name) (outcome : Acted) → IsAtStep plan frame (Write local field content) → target_at frame local ≡ Some name
      → act plan caller frame (Writes name field (content_of content frame)) (finite.get heap name) ≡ Some outcome → Row name (finite.get heap name) outcome.1
  row_writes_code local field content name outcome at e acts =
      let w = works_running at.running in
      let held = local_held w local name e in
      let fits = write_fits (source_of plan) (types_of w.0.op) (Write local field content) ((code_now w).typed frame.place (Write local field content) at.there) local field content refl in
      row_writes name field (content_of content frame) outcome held
      (content_lose w name local field fits.kind fits.ty held e fits.is_local fits.has_field content fits.fits (hand_before w (Write local field content) at))
      (content_may w fits.kind fits.ty field fits.has_field content fits.fits (number_hand w local field content at)) acts

  row_writes_first : (field : ℕ) (name target : Name) (value : Value) (booked : Booked) (outcome : Acted) → IsGivenUp frame name booked → reference_from plan booked.kind frame.cursor ≡ Some field
      → frame.hand ≡ Some value → target_in value ≡ Some target → (has_booked frame target || frame.seen) ≡ true
      → act plan caller frame (Writes name field (Ref None)) (finite.get heap name) ≡ Some outcome → Row name (finite.get heap name) outcome.1
  row_writes_first field name target value booked outcome given at hand to may acts =
      let w = works_loose name given.rest given.first in
      let c = cleared w name booked given in
      let in_field = cleared_hand name booked c value field hand at in
      row_writes name field (Ref None) outcome (held_cleared name booked c)
      (lose_held (field_of c.object field) (λ other e. by c other (sym (target_value value target to) ∙ in_field ∙ e) (has_booked frame target) refl may)) tt acts
    where
      same_target : (other : Name) → Ref (Some target) ≡ Ref (Some other) → target ≡ other
      same_target other e = cc

      by : IsCleared name booked → (other : Name) → Ref (Some target) ≡ Ref (Some other) → (b : Bool) → has_booked frame target ≡ b → (b || frame.seen) ≡ true → IsHeld heap caller other ⊎ IsSealed heap other
      by c other e true p q = inl (subst (IsHeld heap caller) (same_target other e) (booked_held target p))
      by c other e false p q =
          let seen = c.clearing.seen q in
          let same : seen.0 ≡ target = by_hand seen.0 (same_some (sym seen.1 ∙ hand) ∙ target_value value target to) in
          inr (subst (IsSealed heap) (same ∙ same_target other e) seen.2)
        where
          by_hand : (n : Name) → Ref (Some n) ≡ Ref (Some target) → n ≡ target
          by_hand n f = cc

  row_takes_code : (name : Name) (outcome : Acted) → IsAtStep plan frame Want → target_in_hand frame ≡ Some name → act plan caller frame (Takes name) (finite.get heap name) ≡ Some outcome → Row name (finite.get heap name) outcome.1
  row_takes_code name outcome at e acts =
      let w = works_running at.running in
      let got = (hand_before w Want at).read in
      let value : field_of got.object (hand_before w Want at).field ≡ Ref (Some name) = same_some (sym got.in_hand ∙ target_held frame.hand name e) in
      row_takes got.name name outcome (record { object = got.object; there = got.there; held = got.held }) (field_links heap got.name name got.object (hand_before w Want at).field got.there value) acts

  row_takes_first : (field : ℕ) (name target : Name) (value : Value) (booked : Booked) (outcome : Acted) → IsGivenUp frame name booked → reference_from plan booked.kind frame.cursor ≡ Some field
      → frame.hand ≡ Some value → target_in value ≡ Some target → act plan caller frame (Takes target) (finite.get heap target) ≡ Some outcome → Row target (finite.get heap target) outcome.1
  row_takes_first field name target value booked outcome given at hand to acts =
      let w = works_loose name given.rest given.first in
      let c = cleared w name booked given in
      let in_field = cleared_hand name booked c value field hand at in
      row_takes name target outcome (held_cleared name booked c) (field_links heap name target c.object field c.there (sym in_field ∙ target_value value target to)) acts

  at_name : (d : Due) (n name : Name) → Some n ≡ Some name → (outcome : Acted) → (act plan caller frame d (finite.get heap n) ≡ Some outcome → Row n (finite.get heap n) outcome.1)
      → act plan caller frame d (finite.get heap name) ≡ Some outcome → Row name (finite.get heap name) outcome.1
  at_name d n name e outcome row = subst (λ m. act plan caller frame d (finite.get heap m) ≡ Some outcome → Row m (finite.get heap m) outcome.1) (same_some e) row

  by_why : (d : Due) → Why plan frame d → (name : Name) → aim d ≡ Some name → (outcome : Acted) → act plan caller frame d (finite.get heap name) ≡ Some outcome → Row name (finite.get heap name) outcome.1
  by_why d why.idles name e outcome acts = absurd (no_some e)
  by_why d (why.reserves tidy stage few) name e outcome acts = absurd (no_some e)
  by_why d (why.takes_root number tidy called next) name e outcome acts = at_name (TakesRoot number) (root number) name e outcome (row_takes_root number outcome called) acts
  by_why d (why.enters tidy stage next) name e outcome acts = absurd (no_some e)
  by_why d (why.reads_code local field n at to) name e outcome acts = at_name (Reads n field) n name e outcome (row_reads n field outcome (local_held (works_running at.running) local n to)) acts
  by_why d (why.reads_first field n booked given at hand) name e outcome acts =
      at_name (Reads n field) n name e outcome (row_reads n field outcome (held_cleared n booked (cleared (works_loose n given.rest given.first) n booked given))) acts
  by_why d (why.writes_code local field content n at to) name e outcome acts = at_name (Writes n field (content_of content frame)) n name e outcome (row_writes_code local field content n outcome at to) acts
  by_why d (why.writes_first field n target value booked given at hand to may) name e outcome acts =
      at_name (Writes n field (Ref None)) n name e outcome (row_writes_first field n target value booked outcome given at hand to may) acts
  by_why d (why.takes_code n at to other) name e outcome acts = at_name (Takes n) n name e outcome (row_takes_code n outcome at to) acts
  by_why d (why.takes_first field n target value booked given at hand to other) name e outcome acts =
      at_name (Takes target) target name e outcome (row_takes_first field n target value booked outcome given at hand to) acts
  by_why d (why.lets_go n rest first what) name e outcome acts = at_name (LetsGo n) n name e outcome (row_lets_go n rest outcome first what) acts
  by_why d (why.gives_up n booked given none) name e outcome acts = at_name (GivesUp n) n name e outcome (row_gives_up n booked outcome given none) acts
  by_why d (why.seals end entry rest tidy ended null entries) name e outcome acts = at_name (Seals entry.0) entry.0 name e outcome (row_seals end entry rest outcome tidy ended null entries) acts
  by_why d (why.makes kind at few) name e outcome acts = at_name (Makes (next_name frame) kind) (next_name frame) name e outcome (row_makes kind outcome at) acts
  by_why d (why.finishes end tidy stage null none) name e outcome acts = absurd (no_some e)

  -- each event that touches an object does there what the caller may do
  pub events_may : (name : Name) → aim (due plan frame) ≡ Some name → (outcome : Acted) → act plan caller frame (due plan frame) (finite.get heap name) ≡ Some outcome → Row name (finite.get heap name) outcome.1
  events_may name e outcome acts = by_why (due plan frame) (why.why plan frame) name e outcome acts
