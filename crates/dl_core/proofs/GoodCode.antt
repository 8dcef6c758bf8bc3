-- Every plan has code on which the machine can rest.
use Rattle.std.proofs.Common.{◌≡◌, ◌⊎◌, inl, inr, ℕ, zero, suc, ◌+◌, ◌-◌, ◌<◌, ◌≤◌, pos, true, false, List, [], ◌∷◌, ◌++◌, length, drop, get_or, Option, Some, None, refl, sym, ap, subst, ◌∙◌, arith, length-append}
use Rattle.std.specs.Prelude.{slice_get}
use Rattle.std.specs.Option.{option_map}
use Rattle.std.proofs.lemmas.Bool.{cases_lt}
use Rattle.std.proofs.lemmas.Option.{slice_get-map, slice_get-get_or, slice_get_within, get_or_from_slice_get}
use Rattle.std.proofs.lemmas.List.{at_drop_more}
use Rattle.dl_ir.specs.declared.expressions.Expr.{Expr}
use Rattle.dl_ir.specs.declared.expressions.Expr.TheVariants.{Num}
use Rattle.dl_ir.specs.declared.modules.LocalDecl.{LocalDecl}
use Rattle.dl_ir.specs.declared.modules.Module.{Module}
use Rattle.dl_ir.specs.declared.modules.OpDecl.{OpDecl}
use Rattle.dl_ir.specs.declared.modules.Ty.{Ty}
use Rattle.dl_ir.specs.declared.modules.Ty.TheVariants.{Int, Of}
use Rattle.dl_ir.specs.Checked.{IsOperation}
use Rattle.dl_ir.specs.Typed.{IsTypedBlock, types_of}
use Rattle.dl_instr.specs.declared.steps.Step.{Step}
use Rattle.dl_instr.specs.declared.steps.Step.TheVariants.{Read, Want, Set, Drop, Make, Eval, Write, Emit, Test, Jump, Give}
use Rattle.dl_instr.specs.declared.steps.Origin.TheVariants as origins
use Rattle.dl_instr.specs.Code.{block_code, op_code}
use Rattle.dl_instr.specs.Drops.{is_use, is_kind, is_reference, front, moved, IsAddedDrop, IsWithDrops}
use Rattle.dl_instr.specs.Jumps.{jump_of}
use Rattle.dl_core.specs.Codes as codes
use Rattle.dl_core.specs.Codes.{IsTypedStep, IsReadAt, IsFilledFor, IsGoodCode, HasGoodCode, PlansHaveGoodCode, fills}
use Rattle.dl_core.specs.LocalSteps.{drops_before_turn, GoesBackToTurns}
use Rattle.dl_core.specs.Plans.{source_of}
use Rattle.dl_core.proofs.Names.{same_some, no_some}
use Rattle.dl_core.proofs.PlainCode.{Hand, HandEmpty, HasValue, HasLoaded, HasRead, HasFollowed, HasNew, Moves, evals, loads, reads, wants, makes, sets_value, sets_loaded, sets_followed, sets_new, stores, tells, joins, copies, drops, gives, tests, leaps, Flows, flows_on, IsTurnAt, IsOpenAt, past_all, at_step, Lands, moved_to, block_part, land_append, land_straight, lands_front, get_front, get_back, IsPart}

module _ (source : Module) (types : List Ty) where
  -- ---- how the hand came to hold what it holds

  abbrev Came : List Step → ℕ → Hand → Type 0
  Came steps at HandEmpty = Unit {0}
  Came steps at HasValue = (before : ℕ) × (at ≡ before + 1) × ((value : Expr) × (slice_get steps before ≡ Some (Eval value)))
  Came steps at HasLoaded = (before : ℕ) × (at ≡ before + 1) × ((local : ℕ) × ((field : ℕ) × IsReadAt source types steps before local field Int))
  Came steps at (HasRead local field kind) = (before : ℕ) × (at ≡ before + 1) × IsReadAt source types steps before local field (Of kind)
  Came steps at (HasFollowed local field kind) = (before : ℕ) × (at ≡ before + 2) × IsReadAt source types steps before local field (Of kind) × (slice_get steps (before + 1) ≡ Some Want)
  Came steps at (HasNew kind) = (before : ℕ) × (at ≡ before + 1) × (slice_get steps before ≡ Some (Make kind))

  came_next : (steps : List Step) (at : ℕ) (step : Step) (hand next : Hand) → slice_get steps at ≡ Some step → Came steps at hand → Moves source types hand step next → Came steps (at + 1) next
  came_next steps at step hand next is came (evals {value}) = (at, refl, (value, is))
  came_next steps at step hand next is came (loads {local} {field} {kind} of has) = (at, refl, (local, (field, record { step = is; kind = kind; is_local = of; has_field = has })))
  came_next steps at step hand next is came (reads {local} {field} {kind} of has) = (at, refl, record { step = is; kind = kind; is_local = of; has_field = has })
  came_next steps at step hand next is came wants = (came.0, omega (arith, came.1), came.2, subst (λ n. slice_get steps n ≡ Some Want) came.1 is)
  came_next steps at step hand next is came (makes node) = (at, refl, is)
  came_next steps at step hand next is came (sets_value a) = tt
  came_next steps at step hand next is came (sets_loaded a) = tt
  came_next steps at step hand next is came (sets_followed a) = tt
  came_next steps at step hand next is came (sets_new a) = tt
  came_next steps at step hand next is came (stores a b) = tt
  came_next steps at step hand next is came tells = tt
  came_next steps at step hand next is came (joins a b c) = tt
  came_next steps at step hand next is came (copies a b) = tt
  came_next steps at step hand next is came (drops a) = tt
  came_next steps at step hand next is came gives = tt
  came_next steps at step hand next is came tests = tt
  came_next steps at step hand next is came leaps = tt

  -- what a step is to the hand
  record AtStep (steps : List Step) (at : ℕ) (step : Step) : Type 0 where
    pub hand : Hand
    pub next : Hand
    pub came : Came steps at hand
    pub moves : Moves source types hand step next
    pub used : fills step ≡ true → (user : Step) × (slice_get steps (at + 1) ≡ Some user) × (is_use user ≡ true)

  -- a step from a hand that is not empty uses it
  uses : (hand next : Hand) (step : Step) → (hand ≡ HandEmpty → ⊥) → Moves source types hand step next → is_use step ≡ true
  uses hand next step full evals = absurd (full refl)
  uses hand next step full (loads a b) = absurd (full refl)
  uses hand next step full (reads a b) = absurd (full refl)
  uses hand next step full wants = refl
  uses hand next step full (makes a) = absurd (full refl)
  uses hand next step full (sets_value a) = refl
  uses hand next step full (sets_loaded a) = refl
  uses hand next step full (sets_followed a) = refl
  uses hand next step full (sets_new a) = refl
  uses hand next step full (stores a b) = refl
  uses hand next step full tells = refl
  uses hand next step full (joins a b c) = refl
  uses hand next step full (copies a b) = absurd (full refl)
  uses hand next step full (drops a) = absurd (full refl)
  uses hand next step full gives = absurd (full refl)
  uses hand next step full tests = absurd (full refl)
  uses hand next step full leaps = absurd (full refl)

  -- what fills the hand leaves it full
  full_after : (hand next : Hand) (step : Step) → fills step ≡ true → Moves source types hand step next → next ≡ HandEmpty → ⊥
  full_after hand next step is evals e = absurd (cc)
  full_after hand next step is (loads a b) e = absurd (cc)
  full_after hand next step is (reads a b) e = absurd (cc)
  full_after hand next step is wants e = absurd (cc)
  full_after hand next step is (makes a) e = absurd (cc)
  full_after hand next step is (sets_value a) e = absurd (cc)
  full_after hand next step is (sets_loaded a) e = absurd (cc)
  full_after hand next step is (sets_followed a) e = absurd (cc)
  full_after hand next step is (sets_new a) e = absurd (cc)
  full_after hand next step is (stores a b) e = absurd (cc)
  full_after hand next step is tells e = absurd (cc)
  full_after hand next step is (joins a b c) e = absurd (cc)
  full_after hand next step is (copies a b) e = absurd (cc)
  full_after hand next step is (drops a) e = absurd (cc)
  full_after hand next step is gives e = absurd (cc)
  full_after hand next step is tests e = absurd (cc)
  full_after hand next step is leaps e = absurd (cc)

  used_next : (steps rest : List Step) (at : ℕ) (next : Hand) → (next ≡ HandEmpty → ⊥) → Flows source types next rest → ((i : ℕ) (s : Step) → slice_get rest i ≡ Some s → slice_get steps (at + 1 + i) ≡ Some s)
      → (user : Step) × (slice_get steps (at + 1) ≡ Some user) × (is_use user ≡ true)
  used_next steps [] at next full f sub = absurd (full f)
  used_next steps (s ∷ rest) at next full f sub = (s, moved_to (λ n. slice_get steps n ≡ Some s) (at + 1 + 0) (at + 1) (omega arith) (sub 0 s refl), uses next f.0 s full f.1)

  go : (steps rest : List Step) (done : ℕ) (hand : Hand) → ((i : ℕ) (s : Step) → slice_get rest i ≡ Some s → slice_get steps (done + i) ≡ Some s) → Came steps done hand → Flows source types hand rest
      → (at : ℕ) (step : Step) → slice_get rest at ≡ Some step → AtStep steps (done + at) step
  go steps [] done hand sub came f at step is = absurd (no_some is)
  go steps (s ∷ rest) done hand sub came f zero step is =
      let same : s ≡ step = same_some is in
      moved_to (λ n. AtStep steps n step) done (done + 0) (omega arith)
      (subst (AtStep steps done) same (record {
        hand = hand;
        next = f.0;
        came = came;
        moves = f.1;
        used = λ filled. used_next steps rest done f.0 (full_after hand f.0 s filled f.1) f.2 (λ i t e. moved_to (λ n. slice_get steps n ≡ Some t) (done + suc i) (done + 1 + i) (omega arith) (sub (suc i) t e));
      }))
  go steps (s ∷ rest) done hand sub came f (suc at) step is =
      moved_to (λ n. AtStep steps n step) (done + 1 + at) (done + suc at) (omega arith)
      (go steps rest (done + 1) f.0 (λ i t e. moved_to (λ n. slice_get steps n ≡ Some t) (done + suc i) (done + 1 + i) (omega arith) (sub (suc i) t e))
      (came_next steps done s hand f.0 (moved_to (λ n. slice_get steps n ≡ Some s) (done + 0) done (omega arith) (sub 0 s refl)) came f.1) f.2 at step is)

  all_at : (steps : List Step) → Flows source types HandEmpty steps → (at : ℕ) (step : Step) → slice_get steps at ≡ Some step → AtStep steps at step
  all_at steps f at step is = moved_to (λ n. AtStep steps n step) (0 + at) at (omega arith) (go steps steps 0 HandEmpty (λ i s e. moved_to (λ n. slice_get steps n ≡ Some s) i (0 + i) (omega arith) e) tt f at step is)

  typed_by : (hand next : Hand) (step : Step) → Moves source types hand step next → IsTypedStep source types step
  typed_by hand next step evals = codes.eval
  typed_by hand next step (loads a b) = codes.read a b
  typed_by hand next step (reads a b) = codes.read a b
  typed_by hand next step wants = codes.want
  typed_by hand next step (makes a) = codes.make a
  typed_by hand next step (sets_value a) = codes.set a
  typed_by hand next step (sets_loaded a) = codes.set a
  typed_by hand next step (sets_followed a) = codes.set a
  typed_by hand next step (sets_new a) = codes.set a
  typed_by hand next step (stores a b) = codes.write a b codes.a_number
  typed_by hand next step tells = codes.emit
  typed_by hand next step (joins a b c) = codes.write a b c
  typed_by hand next step (copies a b) = codes.copy a b
  typed_by hand next step (drops a) = codes.drop a
  typed_by hand next step gives = codes.give
  typed_by hand next step tests = codes.test refl
  typed_by hand next step leaps = codes.test refl

-- ---- the plain code of an operation

record IsPlain (source : Module) (types : List Ty) (plain : List Step) : Type 0 where
  pub flows : Flows source types HandEmpty plain
  pub back : (at place : ℕ) (step : Step) → slice_get plain at ≡ Some step → jump_of step ≡ Some place → (at < place) ⊎ IsTurnAt source types plain 0 place
  pub lands : (at place : ℕ) (step : Step) → slice_get plain at ≡ Some step → jump_of step ≡ Some place → (target : Step) × (slice_get plain place ≡ Some target) × (is_use target ≡ false)
  pub last : slice_get plain (length plain - 1) ≡ Some (Give (Num (pos 0)))
  pub some : 0 < length plain

plain_is : (source : Module) (op : OpDecl) → IsTypedBlock source (types_of op) op.body → IsPlain source (types_of op) (op_code op)
plain_is source op typed = record {
  flows = flows_on source (types_of op) HandEmpty body end part.flows end_flows;
  back = λ at place step is jumps. (wide at place step is jumps).back;
  lands = λ at place step is jumps. opened place (narrow at place step is jumps).opens;
  last = moved_to (λ n. slice_get (body ++ end) n ≡ Some (Give (Num (pos 0)))) (length body + 0) (length (body ++ end) - 1) (omega (arith, all)) (get_back source (types_of op) body end 0 (Give (Num (pos 0))) refl);
  some = omega (arith, all);
}
  where
    body : List Step
    body = block_code op.body 0

    end : List Step
    end = Give (Num (pos 0)) ∷ []

    part : IsPart source (types_of op) 0 body
    part = block_part source (types_of op) typed 0

    all : length (body ++ end) ≡ length body + 1
    all = length-append body end

    end_flows : Flows source (types_of op) HandEmpty end
    end_flows = (HandEmpty, gives, refl)

    narrow : (at place : ℕ) (step : Step) → slice_get (body ++ end) at ≡ Some step → jump_of step ≡ Some place → Lands source (types_of op) body 0 (0 + at) place
    narrow = land_append source (types_of op) (Lands source (types_of op) body 0) 0 body end part.lands (land_straight source (types_of op) (Lands source (types_of op) body 0) (0 + length body) end (refl, tt))

    wide : (at place : ℕ) (step : Step) → slice_get (body ++ end) at ≡ Some step → jump_of step ≡ Some place → Lands source (types_of op) (body ++ end) 0 at place
    wide at place step is jumps = moved_to (λ n. Lands source (types_of op) (body ++ end) 0 n place) (0 + at) at (omega arith) (lands_front source (types_of op) body end 0 (0 + at) place end_flows (narrow at place step is jumps))

    opened : (place : ℕ) → IsOpenAt source (types_of op) body 0 place → (target : Step) × (slice_get (body ++ end) place ≡ Some target) × (is_use target ≡ false)
    opened place (past_all e) = (Give (Num (pos 0)), moved_to (λ n. slice_get (body ++ end) n ≡ Some (Give (Num (pos 0)))) (length body + 0) place (omega (arith, e)) (get_back source (types_of op) body end 0 (Give (Num (pos 0))) refl), refl)
    opened place (at_step at step e there shut) = (step, moved_to (λ n. slice_get (body ++ end) n ≡ Some step) at place (omega (arith, e)) (get_front source (types_of op) body end at step there), shut)

-- ---- functions that rise

module _ (at : ℕ → ℕ) (n : ℕ) (rises : (i : ℕ) → i + 1 < n → at i < at (i + 1)) where
  rising : (i j : ℕ) → i < j → j < n → at i < at j
  rising i zero h k = absurd (omega (arith, h))
  rising i (suc j) h k =
      let up : at j < at (suc j) = moved_to (λ m. at j < at m) (j + 1) (suc j) (omega arith) (rises j (omega (arith, k))) in
      elim (cases_lt i j) [
        | inl less ↦ let below = rising i j less (omega (arith, k)) in omega (arith, below, up)
        | inr more ↦ let same : i ≡ j = omega (arith, h, more) in omega (arith, ap at same, up)
      ]

  not_falling : (i j : ℕ) → i ≤ j → j < n → at i ≤ at j
  not_falling i j h k = elim (cases_lt i j) [
    | inl less ↦ let up = rising i j less k in omega (arith, up)
    | inr more ↦ let same : i ≡ j = omega (arith, h, more) in omega (arith, ap at same)
  ]

  -- between the values of two numbers that follow one another there is none
  none_between : (i j : ℕ) → i < n → j < n → at i < at j → i < j
  none_between i j h k less = elim (cases_lt i j) [
    | inl is ↦ is
    | inr more ↦ let up = not_falling j i more h in absurd (omega (arith, up, less))
  ]

-- ---- with drops added

is_use_moved : (to : ℕ → ℕ) (step : Step) → is_use (moved to step) ≡ is_use step
is_use_moved to (Read local field) = refl
is_use_moved to Want = refl
is_use_moved to (Set local origins.Hand) = refl
is_use_moved to (Set local (origins.Local other)) = refl
is_use_moved to (Drop local) = refl
is_use_moved to (Make kind) = refl
is_use_moved to (Eval value) = refl
is_use_moved to (Write local field content) = refl
is_use_moved to Emit = refl
is_use_moved to (Test c is_turn place) = refl
is_use_moved to (Jump place) = refl
is_use_moved to (Give value) = refl

fills_moved : (to : ℕ → ℕ) (step : Step) → fills (moved to step) ≡ fills step
fills_moved to (Read local field) = refl
fills_moved to Want = refl
fills_moved to (Set local from) = refl
fills_moved to (Drop local) = refl
fills_moved to (Make kind) = refl
fills_moved to (Eval value) = refl
fills_moved to (Write local field content) = refl
fills_moved to Emit = refl
fills_moved to (Test c is_turn place) = refl
fills_moved to (Jump place) = refl
fills_moved to (Give value) = refl

jump_moved : (to : ℕ → ℕ) (step : Step) → jump_of (moved to step) ≡ option_map to (jump_of step)
jump_moved to (Read local field) = refl
jump_moved to Want = refl
jump_moved to (Set local from) = refl
jump_moved to (Drop local) = refl
jump_moved to (Make kind) = refl
jump_moved to (Eval value) = refl
jump_moved to (Write local field content) = refl
jump_moved to Emit = refl
jump_moved to (Test c is_turn place) = refl
jump_moved to (Jump place) = refl
jump_moved to (Give value) = refl

typed_moved : (source : Module) (types : List Ty) (to : ℕ → ℕ) (step : Step) → IsTypedStep source types step → IsTypedStep source types (moved to step)
typed_moved source types to (Read local field) t = t
typed_moved source types to Want t = t
typed_moved source types to (Set local from) t = t
typed_moved source types to (Drop local) t = t
typed_moved source types to (Make kind) t = t
typed_moved source types to (Eval value) t = t
typed_moved source types to (Write local field content) t = t
typed_moved source types to Emit t = t
typed_moved source types to (Test c is_turn place) t = codes.test refl
typed_moved source types to (Jump place) t = codes.test refl
typed_moved source types to (Give value) t = t

no_jump : {local : ℕ} {step : Step} {place : ℕ} → step ≡ Drop local → jump_of step ≡ Some place → ⊥
no_jump e j = no_some (sym (ap jump_of e) ∙ j)

clash : true ≡ false → ⊥
clash e = cc

module _ (source : Module) (op : OpDecl) (plain steps : List Step) (is : IsPlain source (types_of op) plain) (w : IsWithDrops op plain steps) where
  abbrev types : List Ty
  types = types_of op

  -- a step of the code is a plain one or an added drop
  record IsKept (y : ℕ) (step : Step) : Type 0 where
    pub i : ℕ
    pub plain_step : Step
    pub there : slice_get plain i ≡ Some plain_step
    pub at : w.at i ≡ y
    pub same : step ≡ moved (front w.at) plain_step

  kept_or_added : (y : ℕ) (step : Step) → slice_get steps y ≡ Some step → IsKept y step ⊎ IsAddedDrop op steps y
  kept_or_added y step e = by (w.added y (slice_get_within steps y step e))
    where
      by : ((i : ℕ) × (i < length plain) × (w.at i ≡ y)) ⊎ IsAddedDrop op steps y → IsKept y step ⊎ IsAddedDrop op steps y
      by (inr a) = inr a
      by (inl k) =
          let s = get_or plain k.0 Want in
          let there : slice_get plain k.0 ≡ Some s = slice_get-get_or plain k.0 Want k.1 in
          inl (record { i = k.0; plain_step = s; there = there; at = k.2; same = same_some (sym e ∙ ap (slice_get steps) (sym k.2) ∙ w.kept k.0 s there) })

  -- a used_so stands directly behind the step before it
  neighbour : (i : ℕ) (before step : Step) → slice_get plain i ≡ Some before → slice_get plain (i + 1) ≡ Some step → is_use step ≡ true → w.at (i + 1) ≡ w.at i + 1
  neighbour i before step b s used_so = elim (cases_lt (w.at i + 1) (w.at (i + 1))) [
    | inr not_less ↦ omega (arith, up, not_less)
    | inl less ↦ absurd (between (w.at (i + 1) - 1) (omega (arith, less)) (omega (arith, less)))
  ]
    where
      within : i + 1 < length plain
      within = slice_get_within plain (i + 1) step s

      up : w.at i < w.at (i + 1)
      up = w.rises i within

      at_next : slice_get steps (w.at (i + 1)) ≡ Some (moved (front w.at) step)
      at_next = w.kept (i + 1) step s

      between : (y : ℕ) → y + 1 ≡ w.at (i + 1) → w.at i < y → ⊥
      between y e above = by (w.added y (let l = slice_get_within steps (w.at (i + 1)) (moved (front w.at) step) at_next in omega (arith, e, l)))
        where
          by : ((j : ℕ) × (j < length plain) × (w.at j ≡ y)) ⊎ IsAddedDrop op steps y → ⊥
          by (inl k) =
              let low : i < k.0 = none_between w.at (length plain) w.rises i k.0 (omega (arith, within)) k.1 (omega (arith, above, k.2)) in
              let high : k.0 < i + 1 = none_between w.at (length plain) w.rises k.0 (i + 1) k.1 within (omega (arith, k.2, e)) in
              omega (arith, low, high)
          by (inr a) = clash (sym used_so ∙ sym (is_use_moved (front w.at) step) ∙ a.is_apart (moved (front w.at) step) (ap (slice_get steps) e ∙ at_next))

  read_at : (before local field : ℕ) (ty : Ty) → IsReadAt source types plain before local field ty → IsReadAt source types steps (w.at before) local field ty
  read_at before local field ty r = record { step = w.kept before (Read local field) r.step; kind = r.kind; is_local = r.is_local; has_field = r.has_field }

  -- a used_so has what it needs
  filled : (i : ℕ) (hand next : Hand) (step : Step) → slice_get plain i ≡ Some step → is_use step ≡ true → Came source types plain i hand → Moves source types hand step next → IsFilledFor source types steps (w.at i) step
  filled i hand next step there used_so came (sets_value of) =
      codes.evaluated (w.at came.0) (ap w.at came.1 ∙ neighbour came.0 (Eval came.2.0) step came.2.1 (ap (slice_get plain) (sym came.1) ∙ there) used_so) (w.kept came.0 (Eval came.2.0) came.2.1) of
  filled i hand next step there used_so came (sets_loaded of) =
      codes.loaded (w.at came.0) (ap w.at came.1 ∙ neighbour came.0 (Read came.2.0 came.2.1.0) step came.2.1.1.step (ap (slice_get plain) (sym came.1) ∙ there) used_so) (read_at came.0 came.2.0 came.2.1.0 Int came.2.1.1) of
  filled i hand next step there used_so came (sets_followed {local = l} {other} {field} {kind} of) =
      let first : w.at (came.0 + 1) ≡ w.at came.0 + 1 = neighbour came.0 (Read other field) Want came.2.step came.3 refl in
      let on : i ≡ came.0 + 1 + 1 = omega (arith, came.1) in
      let second = neighbour (came.0 + 1) Want step came.3 (ap (slice_get plain) (sym on) ∙ there) used_so in
      codes.followed (w.at came.0) (omega (arith, ap w.at on, second, first)) (read_at came.0 other field (Of kind) came.2) (ap (slice_get steps) (sym first) ∙ w.kept (came.0 + 1) Want came.3) of
  filled i hand next step there used_so came (sets_new {local} {kind} of) =
      codes.made (w.at came.0) (ap w.at came.1 ∙ neighbour came.0 (Make kind) step came.2 (ap (slice_get plain) (sym came.1) ∙ there) used_so) (w.kept came.0 (Make kind) came.2) of
  filled i hand next step there used_so came (wants {local} {field} {kind}) =
      codes.wanted (w.at came.0) (ap w.at came.1 ∙ neighbour came.0 (Read local field) step came.2.step (ap (slice_get plain) (sym came.1) ∙ there) used_so) (read_at came.0 local field (Of kind) came.2)
  filled i hand next step there used_so came (stores of has) =
      codes.stored (w.at came.0) (ap w.at came.1 ∙ neighbour came.0 (Eval came.2.0) step came.2.1 (ap (slice_get plain) (sym came.1) ∙ there) used_so) (w.kept came.0 (Eval came.2.0) came.2.1)
  filled i hand next step there used_so came tells =
      codes.told (w.at came.0) (ap w.at came.1 ∙ neighbour came.0 (Eval came.2.0) step came.2.1 (ap (slice_get plain) (sym came.1) ∙ there) used_so) (w.kept came.0 (Eval came.2.0) came.2.1)
  filled i hand next step there used_so came (joins {local} {field} {kind} {target} of has fits) =
      let first : w.at (came.0 + 1) ≡ w.at came.0 + 1 = neighbour came.0 (Read local field) Want came.2.step came.3 refl in
      let on : i ≡ came.0 + 1 + 1 = omega (arith, came.1) in
      let second = neighbour (came.0 + 1) Want step came.3 (ap (slice_get plain) (sym on) ∙ there) used_so in
      codes.linked (w.at came.0) (omega (arith, ap w.at on, second, first)) (read_at came.0 local field (Of target) came.2) (ap (slice_get steps) (sym first) ∙ w.kept (came.0 + 1) Want came.3) fits
  filled i hand next step there used_so came evals = absurd (clash (sym used_so))
  filled i hand next step there used_so came (loads a b) = absurd (clash (sym used_so))
  filled i hand next step there used_so came (reads a b) = absurd (clash (sym used_so))
  filled i hand next step there used_so came (makes a) = absurd (clash (sym used_so))
  filled i hand next step there used_so came (copies a b) = absurd (clash (sym used_so))
  filled i hand next step there used_so came (drops a) = absurd (clash (sym used_so))
  filled i hand next step there used_so came gives = absurd (clash (sym used_so))
  filled i hand next step there used_so came tests = absurd (clash (sym used_so))
  filled i hand next step there used_so came leaps = absurd (clash (sym used_so))

  -- a use is not changed by moving
  used_as_is : (to : ℕ → ℕ) (step : Step) → is_use step ≡ true → moved to step ≡ step
  used_as_is to (Read local field) e = refl
  used_as_is to Want e = refl
  used_as_is to (Set local from) e = refl
  used_as_is to (Drop local) e = refl
  used_as_is to (Make kind) e = refl
  used_as_is to (Eval value) e = refl
  used_as_is to (Write local field content) e = refl
  used_as_is to Emit e = refl
  used_as_is to (Test c is_turn place) e = absurd (clash (sym e))
  used_as_is to (Jump place) e = absurd (clash (sym e))
  used_as_is to (Give value) e = refl

  plain_at : (i : ℕ) (step : Step) → slice_get plain i ≡ Some step → AtStep source types plain i step
  plain_at i step there = all_at source types plain is.flows i step there

  -- a jump of the code is a plain one, moved
  record IsJump (y place : ℕ) : Type 0 where
    pub i : ℕ
    pub at : w.at i ≡ y
    pub plain_step : Step
    pub there : slice_get plain i ≡ Some plain_step
    pub to : ℕ
    pub jumps : jump_of plain_step ≡ Some to
    pub place_is : place ≡ front w.at to

  jump_is : (y place : ℕ) (step : Step) → slice_get steps y ≡ Some step → jump_of step ≡ Some place → IsJump y place
  jump_is y place step there goes = by (kept_or_added y step there)
    where
      by_jump : (k : IsKept y step) → (o : Option ℕ) → jump_of k.plain_step ≡ o → option_map (front w.at) o ≡ Some place → IsJump y place
      by_jump k None e f = absurd (no_some f)
      by_jump k (Some to) e f = record { i = k.i; at = k.at; plain_step = k.plain_step; there = k.there; to = to; jumps = e; place_is = sym (same_some f) }

      by : IsKept y step ⊎ IsAddedDrop op steps y → IsJump y place
      by (inl k) = by_jump k (jump_of k.plain_step) refl (sym (jump_moved (front w.at) k.plain_step) ∙ ap jump_of (sym k.same) ∙ goes)
      by (inr a) = absurd (no_jump (same_some (sym there ∙ a.is_drop)) goes)

  front_within : (to : ℕ) → to < length plain → front w.at to < length steps
  front_within zero less =
      let s = get_or plain 0 Want in
      let first = slice_get_within steps (w.at 0) (moved (front w.at) s) (w.kept 0 s (slice_get-get_or plain 0 Want less)) in
      omega (arith, first)
  front_within (suc to) less =
      let s = get_or plain (suc to) Want in
      let first = slice_get_within steps (w.at (suc to)) (moved (front w.at) s) (w.kept (suc to) s (slice_get-get_or plain (suc to) Want less)) in
      let up = rising w.at (length plain) w.rises to (suc to) (omega arith) less in
      omega (arith, first, up)

  front_below : (to : ℕ) → to < length plain → front w.at to ≤ w.at to
  front_below zero less = omega arith
  front_below (suc to) less = let up = rising w.at (length plain) w.rises to (suc to) (omega arith) less in omega (arith, up)

  -- from what stands in front of a plain step only added drops lead to it
  in_front : (to j : ℕ) → to < length plain → j < length plain → front w.at to ≤ w.at j → w.at j ≤ w.at to → j ≡ to
  in_front zero j less within low high = elim (cases_lt 0 j) [
    | inl above ↦ let up = rising w.at (length plain) w.rises 0 j above within in absurd (omega (arith, up, high))
    | inr below ↦ omega (arith, below)
  ]
  in_front (suc to) j less within low high =
      let above = none_between w.at (length plain) w.rises to j (omega (arith, less)) within (omega (arith, low)) in
      elim (cases_lt (suc to) j) [
        | inl far ↦ let up = rising w.at (length plain) w.rises (suc to) j far within in absurd (omega (arith, up, high))
        | inr near ↦ omega (arith, above, near)
      ]

  -- where jumps go stands no use
  passed : (to : ℕ) (plain_target target : Step) → slice_get plain to ≡ Some plain_target → is_use plain_target ≡ false → slice_get steps (front w.at to) ≡ Some target → is_use target ≡ false
  passed to plain_target target there shut found = by (kept_or_added (front w.at to) target found)
    where
      within : to < length plain
      within = slice_get_within plain to plain_target there

      by : IsKept (front w.at to) target ⊎ IsAddedDrop op steps (front w.at to) → is_use target ≡ false
      by (inl k) =
          let same : k.i ≡ to = in_front to k.i within (slice_get_within plain k.i k.plain_step k.there) (omega (arith, k.at)) (omega (arith, k.at, front_below to within)) in
          let step_is : k.plain_step ≡ plain_target = same_some (sym k.there ∙ ap (slice_get plain) same ∙ there) in
          ap is_use k.same ∙ is_use_moved (front w.at) k.plain_step ∙ ap is_use step_is ∙ shut
      by (inr a) = ap is_use (same_some (sym found ∙ a.is_drop))

  at_place : (place : ℕ) (step : Step) → slice_get steps place ≡ Some step → drop place steps ≡ step ∷ drop (place + 1) steps
  at_place place step found = at_drop_more (λ rest. rest) steps place step (slice_get_within steps place step found) ∙ ap (λ s. s ∷ drop (place + 1) steps) (get_or_from_slice_get steps place step step found)

  -- only drops stand between what stands in front of a loop's test and the test
  drops_on : (to : ℕ) (test : Step) → slice_get plain to ≡ Some test → (c : _) (place : ℕ) → test ≡ Test c true place → (gap y : ℕ) → y + gap ≡ w.at to → front w.at to ≤ y
      → (count : ℕ) × (drops_before_turn (drop y steps) ≡ Some count)
  drops_on to test there c place e zero y on low =
      let here : y ≡ w.at to = omega (arith, on) in
      let found : slice_get steps y ≡ Some (Test c true (front w.at place)) = ap (slice_get steps) here ∙ w.kept to test there ∙ ap (λ s. Some (moved (front w.at) s)) e in
      (0, ap drops_before_turn (at_place y (Test c true (front w.at place)) found))
  drops_on to test there c place e (suc gap) y on low = by (w.added y (omega (arith, on, last))) (drops_on to test there c place e gap (y + 1) (omega (arith, on)) (omega (arith, low)))
    where
      within : to < length plain
      within = slice_get_within plain to test there

      last : w.at to < length steps
      last = slice_get_within steps (w.at to) (moved (front w.at) test) (w.kept to test there)

      by : ((i : ℕ) × (i < length plain) × (w.at i ≡ y)) ⊎ IsAddedDrop op steps y → (count : ℕ) × (drops_before_turn (drop (y + 1) steps) ≡ Some count) → (count : ℕ) × (drops_before_turn (drop y steps) ≡ Some count)
      by (inl k) next = let same : k.0 ≡ to = in_front to k.0 within k.1 (omega (arith, k.2, low)) (omega (arith, k.2, on)) in absurd (omega (arith, ap w.at same, k.2, on))
      by (inr a) next = (suc next.0, ap drops_before_turn (at_place y (Drop a.local) a.is_drop) ∙ ap (option_map suc) next.1)

  turns : GoesBackToTurns steps
  turns y place step found goes = by (is.back j.i j.to j.plain_step j.there j.jumps)
    where
      j : IsJump y place
      j = jump_is y place step found goes

      within : j.to < length plain
      within = let t = is.lands j.i j.to j.plain_step j.there j.jumps in slice_get_within plain j.to t.0 t.1

      ahead : (to : ℕ) → j.to ≡ to → j.i < to → y < front w.at to
      ahead zero e less = absurd (omega (arith, less))
      ahead (suc to) e less = let up = not_falling w.at (length plain) w.rises j.i to (omega (arith, less)) (omega (arith, within, e)) in omega (arith, up, j.at)

      by : (j.i < j.to) ⊎ IsTurnAt source types plain 0 j.to → (y < place) ⊎ ((count : ℕ) × (drops_before_turn (drop place steps) ≡ Some count))
      by (inl less) = inl (let a = ahead j.to refl less in omega (arith, a, j.place_is))
      by (inr turn) =
          let there : slice_get plain j.to ≡ Some (Test turn.c true turn.place) = moved_to (λ n. slice_get plain n ≡ Some (Test turn.c true turn.place)) turn.at j.to (omega (arith, turn.is)) turn.there in
          let below = front_below j.to within in
          inr (subst (λ n. (count : ℕ) × (drops_before_turn (drop n steps) ≡ Some count)) (sym j.place_is)
          (drops_on j.to (Test turn.c true turn.place) there turn.c turn.place refl (w.at j.to - front w.at j.to) (front w.at j.to) (omega (arith, below)) (omega arith)))

  drop_local : (declared : Option LocalDecl) → is_reference declared ≡ true → (kind : ℕ) × (option_map (λ (local : LocalDecl). local.ty) declared ≡ Some (Of kind))
  drop_local None e = absurd (clash (sym e))
  drop_local (Some declared) e = by declared.ty refl
    where
      by : (ty : Ty) → declared.ty ≡ ty → (kind : ℕ) × (Some declared.ty ≡ Some (Of kind))
      by Int f = absurd (clash (sym e ∙ ap is_kind f))
      by (Of kind) f = (kind, ap Some f)

  good_code : IsGoodCode source types steps
  good_code = record {
    typed = λ y step found. elim (kept_or_added y step found) [
      | inl k ↦ subst (IsTypedStep source types) (sym k.same) (let a = plain_at k.i k.plain_step k.there in typed_moved source types (front w.at) k.plain_step (typed_by source types a.hand a.next k.plain_step a.moves))
      | inr a ↦
          let d = drop_local (slice_get (op.params ++ op.vars) a.local) a.refers in
          subst (IsTypedStep source types) (same_some (sym a.is_drop ∙ found)) (codes.drop (slice_get-map (λ (local : LocalDecl). local.ty) (op.params ++ op.vars) a.local ∙ d.1))
    ];
    jumps = λ y place step found goes.
        let j = jump_is y place step found goes in
        let t = is.lands j.i j.to j.plain_step j.there j.jumps in
        let within = front_within j.to (slice_get_within plain j.to t.0 t.1) in
        omega (arith, within, j.place_is);
    turns = turns;
    filled = λ y step found used. elim (kept_or_added y step found) [
      | inl k ↦
          let a = plain_at k.i k.plain_step k.there in
          let plain_used : is_use k.plain_step ≡ true = sym (is_use_moved (front w.at) k.plain_step) ∙ ap is_use (sym k.same) ∙ used in
          subst (IsFilledFor source types steps y) (sym (k.same ∙ used_as_is (front w.at) k.plain_step plain_used))
          (subst (λ n. IsFilledFor source types steps n k.plain_step) k.at (filled k.i a.hand a.next k.plain_step k.there plain_used a.came a.moves))
      | inr a ↦ absurd (clash (sym used ∙ ap is_use (same_some (sym found ∙ a.is_drop))))
    ];
    used = λ y step found fills_it. elim (kept_or_added y step found) [
      | inl k ↦
          let a = plain_at k.i k.plain_step k.there in
          let next = a.used (sym (fills_moved (front w.at) k.plain_step) ∙ ap fills (sym k.same) ∙ fills_it) in
          let stands = neighbour k.i k.plain_step next.0 k.there next.1 next.2 in
          (moved (front w.at) next.0, subst (λ n. slice_get steps n ≡ Some (moved (front w.at) next.0)) (stands ∙ ap (λ n. n + 1) k.at) (w.kept (k.i + 1) next.0 next.1), is_use_moved (front w.at) next.0 ∙ next.2)
      | inr a ↦ absurd (clash (sym fills_it ∙ ap fills (same_some (sym found ∙ a.is_drop))))
    ];
    passed = λ y place step target found goes there.
        let j = jump_is y place step found goes in
        let t = is.lands j.i j.to j.plain_step j.there j.jumps in
        passed j.to t.0 target t.1 t.2 (ap (slice_get steps) (sym j.place_is) ∙ there);
    last =
        let n = length plain - 1 in
        let on : suc n ≡ length plain = omega (arith, is.some) in
        let end : length steps ≡ w.at n + 1 = w.ends ∙ ap (front w.at) (sym on) in
        subst (λ m. slice_get steps m ≡ Some (Give (Num (pos 0)))) (last_place (w.at n) end) (w.kept n (Give (Num (pos 0))) is.last);
  }
    where
      last_place : (m : ℕ) → length steps ≡ m + 1 → m ≡ length steps - 1
      last_place m e = omega (arith, e)

-- every plan has good code
pub plans_have_good_code : PlansHaveGoodCode
plans_have_good_code plan is number op steps declared there =
    good_code (source_of plan) op (op_code op) steps (plain_is (source_of plan) op operation.body) (is.code.ops number op steps declared there)
  where
    operation : IsOperation (source_of plan) op
    operation = subst (IsOperation (source_of plan)) (get_or_from_slice_get (source_of plan).ops number op op declared) (is.checked.ops number op (slice_get_within (source_of plan).ops number op declared))
