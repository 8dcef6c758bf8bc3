-- What holds of an entered caller while it goes on, between local steps too; and what loosening makes of it.
use Rattle.std.proofs.Common.{◌≡◌, ◌≢◌, ◌⊎◌, inl, inr, ℕ, zero, suc, ◌≤◌, Bool, true, false, List, [], ◌∷◌, ◌++◌, get_or, Option, Some, None, refl, sym, ap, subst, ◌∙◌, arith}
use Rattle.std.specs.Prelude.{slice_get, nat_le, not, ◌==◌, ◌&&◌, ◌||◌, All, Contains, if◌then◌else◌}
use Rattle.std.specs.Option.{option_map_or}
use Rattle.std.specs.FinMap as finite
use Rattle.std.proofs.lemmas.Bool.Decides.{nat_tests}
use Rattle.std.proofs.lemmas.List.Elements.{All-push, Contains-push, Contains-append_left}
use Rattle.std.proofs.lemmas.List.Folds.{list_any_at}
use Rattle.std.proofs.lemmas.List.Quantifiers.{all_pairs_push}
use Rattle.std.proofs.lemmas.List.{get_or_default}
use Rattle.dl_core.proofs.Rows.{first_of_all}
use Rattle.dl_ir.specs.declared.answers.End.{End}
use Rattle.dl_ir.specs.declared.modules.OpDecl.{OpDecl}
use Rattle.dl_ir.specs.declared.names.Name.{Name}
use Rattle.dl_ir.specs.declared.names.Value.TheVariants.{Ref}
use Rattle.dl_ir.specs.References.{name_eq}
use Rattle.dl_ir.specs.Typed.{types_of}
use Rattle.dl_instr.specs.declared.steps.Step.{Step}
use Rattle.dl_instr.specs.declared.steps.Step.TheVariants.{Read, Want, Set, Drop, Make, Eval, Write, Emit, Test, Jump, Give}
use Rattle.dl_instr.specs.declared.steps.Origin.TheVariants as origins
use Rattle.dl_instr.specs.Drops.{is_use}
use Rattle.dl_core.specs.declared.objects.Mark.TheVariants as marks
use Rattle.dl_core.specs.declared.objects.Object.{Object}
use Rattle.dl_core.specs.declared.stages.Booked.{Booked}
use Rattle.dl_core.specs.declared.stages.Stage.{Stage}
use Rattle.dl_core.specs.declared.stages.Stage.TheVariants as stages
use Rattle.dl_core.specs.Codes.{IsGoodCode}
use Rattle.dl_core.specs.Heaps.{Heap, refs, IsHeld}
use Rattle.dl_core.specs.Plans.{Plan, source_of, steps_of, reference_from}
use Rattle.dl_core.specs.Frames.{Frame, is_to_loosen, is_among, loosened, locals_to}
use Rattle.dl_core.specs.Lawful.{HasReason, for_a_local, for_fields, for_the_list, for_the_hand}
use Rattle.dl_core.specs.Sound.{HasBook, IsLoose, HasLoose, HasLocals, HandBefore, HandWhile, HandAt, HasCleared, clears, lets_go, IsNotClearing, StandsOpen, IsWorking}
use Rattle.dl_core.proofs.Names.{same_name, same_named, name_itself, same_some, no_some}

-- ---- what loosening does

pub data HowLoosened (target : Option Name) (frame : Frame) : Frame → Type 0 where
  stays_so : ((name : Name) → target ≡ Some name → is_to_loosen frame name ≡ false) → HowLoosened target frame frame
  gets_loose : (name : Name) → target ≡ Some name → is_to_loosen frame name ≡ true → HowLoosened target frame (record frame { loose = frame.loose ++ name ∷ [] })

pub how_loosened : (target : Option Name) (frame : Frame) → HowLoosened target frame (loosened target frame)
how_loosened None frame = stays_so (λ name e. absurd (no_some e))
how_loosened (Some name) frame = by (is_to_loosen frame name) refl
  where
    by : (b : Bool) → is_to_loosen frame name ≡ b → HowLoosened (Some name) frame (if b then record frame { loose = frame.loose ++ name ∷ [] } else frame)
    by true e = gets_loose name refl e
    by false e = stays_so (λ n same. subst (λ m. is_to_loosen frame m ≡ false) (same_some same) e)

among_has : (name : Name) (names : List Name) → is_among name names ≡ true → Contains names name
among_has name [] e = absurd (cc)
among_has name (n ∷ ns) e = by (name_eq name n) refl e (among_has name ns)
  where
    by : (b : Bool) → name_eq name n ≡ b → (b || is_among name ns) ≡ true → (is_among name ns ≡ true → Contains ns name) → Contains (n ∷ ns) name
    by true p q rest = (0, omega arith, sym (same_named name n p))
    by false p q rest = let r = rest q in (suc r.0, omega (arith, r.1), r.2)

has_among : (name : Name) (names : List Name) → Contains names name → is_among name names ≡ true
has_among name names h = list_any_at (name_eq name) names h.0 name h.1 (ap (name_eq name) h.2 ∙ name_itself name)

-- what the test of loosening says
record IsToLoosen (frame : Frame) (name : Name) : Type 0 where
  pub booked : Booked
  pub there : finite.get frame.book name ≡ Some booked
  pub few : booked.fields ≤ 1
  pub no_local : locals_to frame name ≡ 0
  pub absent : is_among name frame.loose ≡ false

to_loosen : (frame : Frame) (name : Name) → is_to_loosen frame name ≡ true → IsToLoosen frame name
to_loosen frame name e = by (finite.get frame.book name) refl (locals_to frame name == 0) refl (is_among name frame.loose) refl e
  where
    by : (o : Option Booked) → finite.get frame.book name ≡ o → (b : Bool) → (locals_to frame name == 0) ≡ b → (c : Bool) → is_among name frame.loose ≡ c
        → (option_map_or (λ (booked : Booked). nat_le booked.fields 1) o false && b && not c) ≡ true → IsToLoosen frame name
    by None p b q c r f = absurd (cc)
    by (Some k) p b q c r f = by_few k p (nat_le k.fields 1) refl b q c r f
      where
        by_few : (k : Booked) → finite.get frame.book name ≡ Some k → (a : Bool) → nat_le k.fields 1 ≡ a → (b : Bool) → (locals_to frame name == 0) ≡ b → (c : Bool) → is_among name frame.loose ≡ c → (a && b && not c) ≡ true → IsToLoosen frame name
        by_few k p false t b q c r f = absurd (cc)
        by_few k p true t false q c r f = absurd (cc)
        by_few k p true t true q true r f = absurd (cc)
        by_few k p true t true q false r f = record { booked = k; there = p; few = grind (arith, nat_tests, t); no_local = grind (arith, nat_tests, q); absent = r }

module _ (heap : Heap) (caller : ℕ) where
  -- a held object that is not to be loosened is held for another reason
  not_to_loosen : (frame : Frame) → HasBook heap caller frame → (name : Name) → IsHeld heap caller name → is_to_loosen frame name ≡ false → HasReason heap frame name
  not_to_loosen frame book name held e =
      let at = book.all name held in
      let right = book.booked name at.0 at.1 in
      by at.0 at.1 right.fields (nat_le at.0.fields 1) refl (locals_to frame name == 0) refl (is_among name frame.loose) refl (subst (λ o. (option_map_or (λ (booked : Booked). nat_le booked.fields 1) o false && (locals_to frame name == 0) && not (is_among name frame.loose)) ≡ false) at.1 e)
    where
      by : (k : Booked) → finite.get frame.book name ≡ Some k → k.fields ≡ refs heap name → (a : Bool) → nat_le k.fields 1 ≡ a → (b : Bool) → (locals_to frame name == 0) ≡ b → (c : Bool) → is_among name frame.loose ≡ c
          → (a && b && not c) ≡ false → HasReason heap frame name
      by k p right false t b q c r f = for_fields (grind (arith, nat_tests, t, right))
      by k p right true t false q c r f = for_a_local (grind (arith, nat_tests, q))
      by k p right true t true q true r f = for_the_list (among_has name frame.loose r)
      by k p right true t true q false r f = absurd (cc)

  -- after loosening each held object is held for a reason, if each other one was before
  pub why_loosened : (target : Option Name) (frame after : Frame) → HasBook heap caller frame → ((name : Name) → IsHeld heap caller name → (target ≡ Some name → ⊥) → HasReason heap frame name)
      → HowLoosened target frame after → (name : Name) → IsHeld heap caller name → HasReason heap after name
  why_loosened target frame after book why (stays_so no_loosening) name held = by target why no_loosening
    where
      by : (t : Option Name) → ((n : Name) → IsHeld heap caller n → (t ≡ Some n → ⊥) → HasReason heap frame n) → ((n : Name) → t ≡ Some n → is_to_loosen frame n ≡ false) → HasReason heap frame name
      by None why' never = why' name held (λ e. no_some e)
      by (Some n) why' never = elim (same_name n name) [
        | inl same ↦ not_to_loosen frame book name held (never name (ap Some same))
        | inr other ↦ why' name held (λ e. other (same_some e))
      ]
  why_loosened target frame after book why (gets_loose n t e) name held = elim (same_name n name) [
    | inl same ↦ for_the_list (subst (Contains (frame.loose ++ n ∷ [])) same (Contains-push frame.loose n))
    | inr other ↦ by (why name held (λ f. other (same_some (sym t ∙ f))))
  ]
    where
      by : HasReason heap frame name → HasReason heap (record frame { loose = frame.loose ++ n ∷ [] }) name
      by (for_a_local some) = for_a_local some
      by (for_fields several) = for_fields several
      by (for_the_list has) = for_the_list (Contains-append_left frame.loose (n ∷ []) name has)
      by (for_the_hand f) = for_the_hand f

  -- what is loose stays so where the locals stay
  pub loose_as : (frame after : Frame) → after.locals ≡ frame.locals → (names : List Name) → All (IsLoose heap caller frame) names → All (IsLoose heap caller after) names
  loose_as frame after same names all k d lt =
      let l = all k d lt in
      record { held = l.held; no_local = ap (λ ls. locals_to (record frame { locals = ls }) (get_or names k d)) same ∙ l.no_local; few_fields = l.few_fields }

  pub loose_loosened : (target : Option Name) (frame after : Frame) → HasBook heap caller frame → HasLoose heap caller frame → HowLoosened target frame after → HasLoose heap caller after
  loose_loosened target frame after book loose (stays_so never) = loose
  loose_loosened target frame after book loose (gets_loose n t e) =
      let is = to_loosen frame n e in
      let at = book.booked n is.booked is.there in
      record {
        each = All-push (IsLoose heap caller (record frame { loose = frame.loose ++ n ∷ [] })) frame.loose n (loose_as frame (record frame { loose = frame.loose ++ n ∷ [] }) refl frame.loose loose.each)
            (record { held = record { object = at.object; there = at.there; held = at.held }; no_local = is.no_local; few_fields = omega (arith, is.few, at.fields) });
        once = all_pairs_push (λ (a b : Name). a ≢ b) frame.loose n loose.once (λ k d lt same. differ (sym is.absent ∙ has_among n frame.loose (k, lt, get_or_default frame.loose k n d lt ∙ same)));
      }
    where
      differ : false ≡ true → ⊥
      differ e' = cc

-- ---- what holds while a caller goes on

module _ (plan : Plan) (heap : Heap) (caller : ℕ) (op : OpDecl) where
  -- where no use of the hand stands, the hand is empty
  pub before_open : (frame : Frame) (step : Option Step) → ((s : Step) → step ≡ Some s → is_use s ≡ false) → frame.hand ≡ None → HandBefore plan heap caller frame op step
  before_open frame None shut e = e
  before_open frame (Some (Read local field)) shut e = e
  before_open frame (Some Want) shut e = absurd (let clash : true ≡ false = shut Want refl in cc)
  before_open frame (Some (Set local origins.Hand)) shut e = absurd (let clash : true ≡ false = shut (Set local origins.Hand) refl in cc)
  before_open frame (Some (Set local (origins.Local other))) shut e = e
  before_open frame (Some (Drop local)) shut e = e
  before_open frame (Some (Make kind)) shut e = e
  before_open frame (Some (Eval value)) shut e = e
  before_open frame (Some (Write local field content)) shut e = absurd (let clash : true ≡ false = shut (Write local field content) refl in cc)
  before_open frame (Some Emit) shut e = absurd (let clash : true ≡ false = shut Emit refl in cc)
  before_open frame (Some (Test c is_turn place)) shut e = e
  before_open frame (Some (Jump place)) shut e = e
  before_open frame (Some (Give value)) shut e = e

  pub open_while : (frame : Frame) (stage : Stage) → StandsOpen plan frame stage → frame.hand ≡ None → HandWhile plan heap caller frame op stage
  open_while frame stages.Idle opens e = e
  open_while frame stages.Called opens e = e
  open_while frame stages.Running opens e = before_open frame (slice_get (steps_of plan frame.call) frame.place) opens e
  open_while frame (stages.Ended end) opens e = e

  -- the cursor, the hand and what was seen decide what is cleared
  pub cleared_as : (frame after : Frame) (name : Name) → after.cursor ≡ frame.cursor → after.hand ≡ frame.hand → after.seen ≡ frame.seen → HasCleared plan heap frame name → HasCleared plan heap after name
  cleared_as frame after name c h s (clears object there hidden none clearing) =
      clears object there hidden none
      (record {
        before = λ field less. clearing.before field (omega (arith, less, c));
        in_hand = λ value e. let got = clearing.in_hand value (sym h ∙ e) in (got.0, ap (reference_from plan object.kind) c ∙ got.1, got.2);
        seen = λ e. let got = clearing.seen (sym s ∙ e) in (got.0, h ∙ got.1, got.2);
      })
  cleared_as frame after name c h s (lets_go what not_now none) = lets_go what (record { cursor = c ∙ not_now.cursor; seen = s ∙ not_now.seen }) (h ∙ none)

  -- a loose object of which nothing is cleared yet
  pub fresh_loose : (frame : Frame) (name : Name) → IsLoose heap caller frame name → IsNotClearing frame → frame.hand ≡ None → HasCleared plan heap frame name
  fresh_loose frame name loose not_now none = by name.ticket refl (refs heap name) refl
    where
      by : (t : ℕ) → name.ticket ≡ t → (r : ℕ) → refs heap name ≡ r → HasCleared plan heap frame name
      by zero e r f = lets_go (inl e) not_now none
      by (suc t) e zero f =
          clears loose.held.object loose.held.there (omega (arith, e)) f
          (record {
            before = λ field less. absurd (omega (arith, less, not_now.cursor));
            in_hand = λ value h. absurd (no_some (sym none ∙ h));
            seen = λ s. absurd (seen_not (sym s ∙ not_now.seen));
          })
        where
          seen_not : true ≡ false → ⊥
          seen_not g = cc
      by (suc t) e (suc r) f = lets_go (inr (omega (arith, f, loose.few_fields))) not_now none

  pub record IsGoing (frame : Frame) : Type 0 where
    pub code : IsGoodCode (source_of plan) (types_of op) (steps_of plan frame.call)
    pub book : HasBook heap caller frame
    pub works : IsWorking plan heap caller frame op
    -- what a local refers to is held
    pub held : (local : ℕ) (name : Name) → slice_get frame.locals local ≡ Some (Ref (Some name)) → IsHeld heap caller name
    pub why : (name : Name) → IsHeld heap caller name → HasReason heap frame name

  -- all but that a reason is known for one object, and with the hand empty where nothing is loose
  pub record IsGoingBut (target : Option Name) (frame : Frame) : Type 0 where
    pub code : IsGoodCode (source_of plan) (types_of op) (steps_of plan frame.call)
    pub book : HasBook heap caller frame
    pub stage : (frame.stage ≡ stages.Running) ⊎ ((end : End) × (frame.stage ≡ stages.Ended end))
    pub locals : HasLocals plan heap frame op
    pub loose : HasLoose heap caller frame
    pub few_made : frame.made ≤ op.allocs
    pub own_names : (name : Name) (object : Object) → finite.get heap name ≡ Some object → name.ticket ≡ frame.ticket → name.index ≤ frame.made
    pub own_seals : (name : Name) (object : Object) → finite.get heap name ≡ Some object → object.mark ≡ marks.Sealed frame.ticket → frame.stage ≢ stages.Running
    pub no_breach : frame.stage ≡ stages.Running → frame.breach ≡ None
    pub held : (local : ℕ) (name : Name) → slice_get frame.locals local ≡ Some (Ref (Some name)) → IsHeld heap caller name
    pub why : (name : Name) → IsHeld heap caller name → (target ≡ Some name → ⊥) → HasReason heap frame name
    pub stands : StandsOpen plan frame frame.stage
    pub none_loose : frame.loose ≡ [] → IsNotClearing frame × (frame.hand ≡ None)
    pub some_loose : (name : Name) (rest : List Name) → frame.loose ≡ name ∷ rest → HasCleared plan heap frame name

  pub loosen : (target : Option Name) (frame : Frame) → IsGoingBut target frame → IsGoing (loosened target frame)
  loosen target frame g = by (loosened target frame) (how_loosened target frame) (loose_loosened heap caller target frame (loosened target frame) g.book g.loose (how_loosened target frame)) (why_loosened heap caller target frame (loosened target frame) g.book g.why (how_loosened target frame))
    where
      at_none : (loose : List Name) → frame.loose ≡ loose → HandAt plan heap caller frame op loose
      at_none [] e = let n = g.none_loose e in (n.0, open_while frame frame.stage g.stands n.1)
      at_none (name ∷ rest) e = (g.some_loose name rest e, g.stands)

      at_some : (n : Name) → (let after : Frame = record frame { loose = frame.loose ++ n ∷ [] } in HasLoose heap caller after → (loose : List Name) → frame.loose ≡ loose → HandAt plan heap caller after op (loose ++ n ∷ []))
      at_some n l [] e =
          let not_now = g.none_loose e in
          let is : IsLoose heap caller (record frame { loose = frame.loose ++ n ∷ [] }) n = first_of_all (IsLoose heap caller (record frame { loose = frame.loose ++ n ∷ [] })) n [] (subst (λ names. All (IsLoose heap caller (record frame { loose = frame.loose ++ n ∷ [] })) (names ++ n ∷ [])) e l.each) in
          (fresh_loose (record frame { loose = frame.loose ++ n ∷ [] }) n is (record { cursor = not_now.0.cursor; seen = not_now.0.seen }) not_now.1, g.stands)
      at_some n l (name ∷ rest) e = (cleared_as frame (record frame { loose = frame.loose ++ n ∷ [] }) name refl refl refl (g.some_loose name rest e), g.stands)

      by : (after : Frame) → HowLoosened target frame after → HasLoose heap caller after → ((name : Name) → IsHeld heap caller name → HasReason heap after name) → IsGoing after
      by after (stays_so never) l why = record {
        code = g.code;
        book = g.book;
        works = record { stage = g.stage; locals = g.locals; loose = l; hand = at_none frame.loose refl; few_made = g.few_made; own_names = g.own_names; own_seals = g.own_seals; no_breach = g.no_breach };
        held = g.held;
        why = why;
      }
      by after (gets_loose n t e) l why = record {
        code = g.code;
        book = record { booked = g.book.booked; all = g.book.all };
        works = record {
          stage = g.stage;
          locals = record { one_each = g.locals.one_each; typed = g.locals.typed };
          loose = l;
          hand = at_some n l frame.loose refl;
          few_made = g.few_made;
          own_names = g.own_names;
          own_seals = g.own_seals;
          no_breach = g.no_breach;
        };
        held = g.held;
        why = why;
      }
