-- The lone run of an operation that has just entered ends in what its call gives.
use Rattle.std.proofs.Common.{◌≡◌, inl, inr, ℕ, zero, suc, pos, ◌+◌, ◌<◌, ◌≤◌, List, [], ◌∷◌, ◌++◌, length, get_or, set, Option, Some, None, refl, sym, ap, subst, ◌∙◌, arith, slice_get}
use Rattle.std.specs.Option.{option_map, option_map_or}
use Rattle.std.specs.FinMap as finite
use Rattle.std.proofs.lemmas.Bool.{cases_lt}
use Rattle.std.proofs.lemmas.List.{set-get_or}
use Rattle.std.proofs.lemmas.Option.{slice_get-get_or, slice_get_within}
use Rattle.dl_ir.specs.declared.answers.End.{End}
use Rattle.dl_ir.specs.declared.answers.End.TheVariants as ends
use Rattle.dl_ir.specs.declared.calls.Call.{Call}
use Rattle.dl_ir.specs.declared.expressions.Expr.TheVariants.{Num, outs-Num}
use Rattle.dl_ir.specs.declared.modules.Module.{Module}
use Rattle.dl_ir.specs.declared.modules.OpDecl.{OpDecl}
use Rattle.dl_ir.specs.Checked.{IsOperation}
use Rattle.dl_ir.specs.Heap.{hidden_count}
use Rattle.dl_ir.specs.Meaning.{State, Outcome}
use Rattle.dl_ir.specs.Relation.{RunsBlock}
use Rattle.dl_ir.specs.Typed as typed
use Rattle.dl_ir.specs.Typed.{types_of}
use Rattle.dl_shape.specs.Operation.{Result, first_locals, operated, result_of, body_outcome, end_of}
use Rattle.dl_meaning.specs.FirstStates.{HasTicketsBelow}
use Rattle.dl_meaning.specs.Fitting.{Fits}
use Rattle.dl_meaning.specs.Operations.{begun, context_of}
use Rattle.dl_meaning.specs.Single.{outcome}
use Rattle.dl_meaning.proofs.Left.{begun_fits, is_positive, calls_give_the_outcome}
use Rattle.dl_lemmas.proofs.Places.{all_at, same_place}
use Rattle.dl_meaning.proofs.Sound.{sound_block}
use Rattle.dl_instr.specs.declared.steps.Step.TheVariants.{Give}
use Rattle.dl_instr.specs.Code.{op_code, block_code}
use Rattle.dl_instr.specs.Drops.{IsWithDrops}
use Rattle.dl_core.specs.declared.objects.Object.{Object}
use Rattle.dl_core.specs.declared.stages.Finished.{Finished}
use Rattle.dl_core.specs.declared.stages.Stage.TheVariants as stages
use Rattle.dl_core.specs.Heaps.{Heap, plain, plain_object}
use Rattle.dl_core.specs.Plans.{Plan, IsPlan, source_of, op_of, steps_of, allocs_of, fuel_of, locals_of, roots_of}
use Rattle.dl_core.specs.Frames.{Frame, idle, at_rest, waiting}
use Rattle.dl_core.specs.LocalSteps.{ready, GoesBackToTurns}
use Rattle.dl_core.specs.Events.{entered}
use Rattle.dl_core.specs.Steps.{World, Rules, Nowhere, Alone, over, then_on, frame_by, at_aim, step_by}
use Rattle.dl_core.specs.Core.{Core, Shared, Pool, frame_of, rules_of}
use Rattle.dl_core.specs.Reached.{Calls}
use Rattle.dl_core.specs.Laws as laws
use Rattle.dl_core.specs.Laws.{IsKept, HasJustEntered, IsOutcome, RunsAlone, LoneRunsEnd, LoneRunsAreSerial}
use Rattle.dl_core.proofs.Names.{same_some, no_some}
use Rattle.dl_core.proofs.Plain.{get_plain}
use Rattle.dl_core.proofs.Kept.{ready_same}
use Rattle.dl_core.proofs.GoodCode.{plans_have_good_code}
use Rattle.dl_core.proofs.Prunes.{unpruned}
use Rattle.dl_core.proofs.Alike.{level, is_same_value}
use Rattle.dl_core.proofs.Lone.{Lone, Ends}
use Rattle.dl_core.proofs.Body.{At, From, Over, give_on}
use Rattle.dl_core.proofs.Placing.{HasCode, code_head, code_front, code_back, Front, arrive}
use Rattle.dl_core.proofs.Bodies.{Onward, carried_block}
use Rattle.dl_core.proofs.LoneRun.{Here, IsHere, frame_here, places_here, Comes, Passes, lone_whole, Final, over_on}

-- ---- what is past the end of a list

pub past_list : {A : Type 0} (xs : List A) (i : ℕ) (d : A) → length xs ≤ i → get_or xs i d ≡ d
past_list [] i d le = refl
past_list (x ∷ xs) zero d le = absurd (omega (arith, le))
past_list (x ∷ xs) (suc i) d le = past_list xs i d (omega (arith, le))

-- codes of no operation go nowhere
no_turns_back : GoesBackToTurns []
no_turns_back at place step is jumps = absurd (no_some is)

-- ---- the body of an operation, from its first step to its end

module _ (l : Lone) (base : Frame) (op : OpDecl) (drops : IsWithDrops op (op_code op) (steps_of l.plan base.call)) (allocs_is : allocs_of l.plan base.call ≡ op.allocs) (nodes : typed.FieldsReferToNodes (source_of l.plan))
    (body : typed.IsTypedBlock (source_of l.plan) (types_of op) op.body) where
  whole_code : HasCode (op_code op) 0 (block_code op.body 0)
  whole_code = code_front (op_code op) 0 (block_code op.body 0) (Give (Num (pos 0)) ∷ []) (λ k step is. ap (slice_get (op_code op)) (let e : 0 + k ≡ k = omega arith in e) ∙ is)

  last_code : slice_get (op_code op) (0 + length (block_code op.body 0)) ≡ Some (Give (Num (pos 0)))
  last_code = code_head (op_code op) (0 + length (block_code op.body 0)) (Give (Num (pos 0))) []
      (code_back (op_code op) 0 (block_code op.body 0) (Give (Num (pos 0)) ∷ []) (λ k step is. ap (slice_get (op_code op)) (let e : 0 + k ≡ k = omega arith in e) ∙ is))

  -- a body that does not end early gives 0
  fallen : (t : State) → Fits (context_of (source_of l.plan) base.ticket op) (types_of op) t → Over l base (ends.Ok (pos 0)) t → From l base (Front op (steps_of l.plan base.call) drops (0 + length (block_code op.body 0))) t
  fallen t fits on = arrive l base op drops (context_of (source_of l.plan) base.ticket op) (0 + length (block_code op.body 0)) (Give (Num (pos 0))) t last_code fits (λ at.
      give_on l base (types_of op) (drops.at (0 + length (block_code op.body 0))) (Num (pos 0)) (pos 0) t at (typed.num (pos 0)) (level t.locals (Num (pos 0)) _ (outs-Num (pos 0))) on)

  -- the whole body
  pub whole_body : (s : State) → Fits (context_of (source_of l.plan) base.ticket op) (types_of op) s
      → ((t : State) (end : Option End) → RunsBlock (context_of (source_of l.plan) base.ticket op) op.body s t end → Over l base (end_of end) t) → From l base 0 s
  whole_body s fits on = carried_block l base op drops allocs_is nodes body 0 whole_code s fits (λ t end runs t_fits. by t end (on t end runs) t_fits)
    where
      by : (t : State) (end : Option End) → Over l base (end_of end) t → Fits (context_of (source_of l.plan) base.ticket op) (types_of op) t → Onward l base op drops allocs_is nodes end (0 + length (block_code op.body 0)) t
      by t None goes t_fits = fallen t t_fits goes
      by t (Some end) goes t_fits = goes

-- ---- an operation that has just entered

module _ (plan : Plan) (core : Core) (calls : Calls) (caller ticket : ℕ) (call : Call) (is : IsPlan plan) (kept : IsKept plan core calls)
    (just : HasJustEntered plan core.world caller ticket call) where
  abbrev heap : Heap
  heap = core.world.heap

  abbrev frames : List Frame
  frames = core.world.frames

  abbrev pool : Pool
  pool = core.pool

  abbrev op : OpDecl
  op = just.fits.op

  abbrev source : Module
  source = source_of plan

  -- the frame with which it enters
  abbrev base : Frame
  base = record (waiting call (length (roots_of plan call)) (allocs_of plan call) just.book just.index just.finished) { stage = stages.Running; ticket = ticket; locals = locals_of plan call; turns = fuel_of plan call }

  frame_is : frame_of core.world caller ≡ ready plan base
  frame_is = just.frame ∙ ap (entered plan ticket) just.before_is

  below : HasTicketsBelow ticket (plain heap)
  below name object there = by (finite.get heap name) refl
    where
      by : (o : Option Object) → finite.get heap name ≡ o → name.ticket < ticket
      by None e = absurd (no_some (sym (get_plain heap name ∙ ap (option_map plain_object) e) ∙ there))
      by (Some found) e = just.above name found e

  positive : 0 < ticket
  positive = is_positive source (plain heap) ticket is.checked just.of_module below

  within : caller < length frames
  within = elim (cases_lt caller (length frames)) [
    | inl less ↦ less
    | inr past ↦ absurd (let none : ticket ≡ 0 = sym (ap (λ (f : Frame). f.ticket) frame_is ∙ (ready_same plan base).3) ∙ ap (λ (f : Frame). f.ticket) (past_list frames caller idle past) in omega (arith, none, positive))
  ]

  steps_are : slice_get plan.code.ops call.op ≡ Some (steps_of plan call)
  steps_are = slice_get-get_or plan.code.ops call.op [] (omega (arith, slice_get_within source.ops call.op op just.fits.declared, is.code.one_each))

  drops : IsWithDrops op (op_code op) (steps_of plan call)
  drops = is.code.ops call.op op (steps_of plan call) just.fits.declared steps_are

  turns_back : (any : Call) → GoesBackToTurns (steps_of plan any)
  turns_back any = elim (cases_lt any.op (length plan.code.ops)) [
    | inl less ↦
        let there = slice_get-get_or plan.code.ops any.op [] less in
        let found = same_place plan.code.ops source.ops any.op (steps_of plan any) is.code.one_each there in
        (plans_have_good_code plan is any.op found.0 (steps_of plan any) found.1 there).turns
    | inr past ↦ subst GoesBackToTurns (sym (past_list plan.code.ops any.op [] past)) no_turns_back
  ]

  world_is : core.world ≡ Here plan caller frames pool heap (ready plan base)
  world_is = ap (λ fs. record { heap = heap; frames = fs }) (sym (ap (set frames caller) (sym frame_is) ∙ set-get_or frames caller idle))

  start : IsHere plan caller frames pool heap (ready plan base)
  start = record { clock = core.clock; calls = calls; kept = subst (λ w. IsKept plan (record { world = w; clock = core.clock; pool = pool }) calls) world_is kept }

  abbrev given : Result
  given = operated source (plain heap) ticket call

  abbrev total : ℕ
  total = allocs_of plan call + hidden_count (plain heap)

  total_is : (other : Heap) (frame : Frame) → IsHere plan caller frames pool other frame → frame.spares + hidden_count (plain other) ≡ total
  total_is other frame here =
      places_here plan caller frames pool within just.alone is turns_back other heap frame (ready plan base) here start
      ∙ ap (λ n. n + hidden_count (plain heap)) (ready_same plan base).6

  -- the frame when the body has ended
  abbrev Mid : Frame → Type 0
  Mid frame = (how : End) × (frame.stage ≡ stages.Ended how) × ((o : OpDecl) → op_of plan call ≡ Some o → frame.turns ≡ (body_outcome source (plain heap) ticket call.args o).state.turns)

  abbrev Leaves : Shared → Type 0
  Leaves left = Final plan caller frames pool within just.alone is turns_back base total given.objects given.answer Mid left

  abbrev run : Lone
  run = lone_whole plan caller frames pool within just.alone is turns_back Leaves Mid

  abbrev first : State
  first = begun op call.args (plain heap) op.fuel

  over_all : (t : State) (end : Option End) → RunsBlock (context_of source ticket op) op.body first t end → Over run base (end_of end) t
  over_all t end runs =
      let gives : given ≡ result_of (outcome t end) = calls_give_the_outcome source (plain heap) ticket call op t end just.fits.declared runs in
      over_on plan caller frames pool within just.alone is turns_back base total given.objects given.answer Mid t (end_of end) (ap (λ (r : Result). r.objects) (sym gives)) (ap (λ (r : Result). r.answer) (sym gives))
      total_is refl (λ frame has. (
        end_of end,
        has.0,
        λ o o_is.
            let same : op ≡ o = same_some (sym just.fits.declared ∙ o_is) in
            has.1 ∙ ap (λ (r : Outcome). r.state.turns) (sym (sound_block (context_of source ticket op) runs)) ∙ ap (λ p. (body_outcome source (plain heap) ticket call.args p).state.turns) same,
      ))

  base_is : At run base 0 (first_locals op call.args) None op.fuel 0 [] just.book (allocs_of plan call) ≡ base
  base_is =
      let locals_are : first_locals op call.args ≡ locals_of plan call = sym (ap (λ o. option_map_or (λ (p : OpDecl). first_locals p call.args) o []) just.fits.declared) in
      let fuel_is : op.fuel ≡ fuel_of plan call = sym (ap (λ o. option_map_or (λ (p : OpDecl). p.fuel) o 0) just.fits.declared) in
      λ i. record base { locals = locals_are i; turns = fuel_is i }

  done : Comes plan caller frames pool within just.alone is turns_back Leaves heap (ready plan base) × Passes plan caller frames pool within just.alone is turns_back Mid heap (ready plan base)
  done =
      let checked = all_at (IsOperation source) source.ops call.op op is.checked.ops just.fits.declared in
      let from = whole_body run base op drops (ap (λ o. option_map_or (λ (p : OpDecl). p.allocs) o 0) just.fits.declared) is.checked.fields checked.body first
      (begun_fits source op call.args (plain heap) ticket op.fuel just.fits.fits just.of_module positive below) over_all in
      subst (Ends run heap) base_is (from (first_locals op call.args) just.book (allocs_of plan call) heap (record { pruned = unpruned; alike = λ x. is_same_value refl })) start

  ends_so : RunsAlone plan core.world caller ticket call
  ends_so =
      let left = done.0.0 in
      let final = done.0.2 in
      let same_index : base.index ≡ (frame_of core.world caller).index = sym (ap (λ (f : Frame). f.index) frame_is ∙ (ready_same plan base).1) in
      let same_finished : base.finished ≡ (frame_of core.world caller).finished = sym (ap (λ (f : Frame). f.finished) frame_is ∙ (ready_same plan base).9) in
      let kept_so : Finished = record { index = base.index; ticket = ticket; answer = given.answer; returned = final.spares } in
      let mid_frame = frame_here plan caller frames pool within done.1.0 done.1.1 in
      record {
        end = left;
        runs = subst (λ w. Alone (rules_of plan) caller w left) (sym world_is) done.0.1;
        is = record {
          heap = final.heap;
          kept = kept_so;
          frame = final.frame ∙ ap (λ n. at_rest n (base.finished ++ kept_so ∷ [])) same_index ∙ ap (λ fs. at_rest (frame_of core.world caller).index (fs ++ kept_so ∷ [])) same_finished;
          kept_ticket = refl;
          kept_index = same_index;
          answer = refl;
          returned = final.returned;
          mid = Here plan caller frames pool done.1.0 done.1.1;
          leads = subst (λ w. laws.Leads plan caller w (Here plan caller frames pool done.1.0 done.1.1)) (sym world_is) done.1.2;
          ended = (done.1.3.0, ap (λ (f : Frame). f.stage) mid_frame ∙ done.1.3.1);
          turns = λ o o_is. ap (λ (f : Frame). f.turns) mid_frame ∙ done.1.3.2 o o_is;
        };
      }

-- the lone run of an operation that has just entered ends, without a wait, in what its call gives
pub lone_runs_end : LoneRunsEnd
lone_runs_end plan core calls caller ticket call is kept just = ends_so plan core calls caller ticket call is kept just

-- ---- there is one lone run

one_some : {A : Type 0} {a b : A} {o : Option A} → o ≡ Some a → o ≡ Some b → a ≡ b
one_some p q = cc

module _ {F : Type 0} (rules : Rules F) (caller : ℕ) where
  none_due : (world mid : World F) → rules.aim (frame_by rules world caller) ≡ Nowhere → step_by rules world caller ≡ Some mid → ⊥
  none_due world mid is_none moves = no_some (sym (ap (at_aim rules world caller) is_none) ∙ moves)

  -- two lone runs end in one state
  pub one_alone : {world left other : World F} → Alone rules caller world left → Alone rules caller world other → left ≡ other
  one_alone (over e) (over f) = refl
  one_alone (over e) (then_on moves rest) = absurd (none_due _ _ e moves)
  one_alone (then_on moves rest) (over f) = absurd (none_due _ _ f moves)
  one_alone {other = other} (then_on moves rest) (then_on moves' rest') = one_alone rest (subst (λ w. Alone rules caller w other) (one_some moves' moves) rest')

-- and wherever the lone run ends, it ends in that
pub lone_runs_are_serial : LoneRunsAreSerial
lone_runs_are_serial plan core calls end caller ticket call is kept just alone =
    let ends_so = lone_runs_end plan core calls caller ticket call is kept just in
    subst (λ w. IsOutcome plan core.world w caller ticket call) (one_alone (rules_of plan) caller ends_so.runs alone) ends_so.is
