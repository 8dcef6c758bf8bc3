-- What holds of the plain code of a checked operation: what the hand holds at each step, and where jumps land.
use Rattle.std.proofs.Common.{◌≡◌, ◌⊎◌, inl, inr, ℕ, zero, suc, ◌+◌, ◌<◌, true, false, List, [], ◌∷◌, ◌++◌, length, Some, None, refl, sym, ap, subst, ◌∙◌, arith, length-append}
use Rattle.std.specs.Prelude.{slice_get}
use Rattle.dl_ir.specs.declared.expressions.Cond.{Cond}
use Rattle.dl_ir.specs.declared.expressions.Expr.{Expr}
use Rattle.dl_ir.specs.declared.modules.Module.{Module}
use Rattle.dl_ir.specs.declared.modules.Ty.{Ty}
use Rattle.dl_ir.specs.declared.modules.Ty.TheVariants.{Int, Of}
use Rattle.dl_ir.specs.declared.statements.Stmt.{Stmt, Stmt-F, roll-Stmt}
use Rattle.dl_ir.specs.declared.statements.Stmt.TheVariants as variants
use Rattle.dl_ir.specs.declared.statements.Stmt.TheFolds.{fold-roll-Stmt, map-Stmt}
use Rattle.dl_ir.specs.Heap.{IsNodeKind}
use Rattle.dl_ir.specs.Typed as typed
use Rattle.dl_ir.specs.Typed.{IsNumberLocal, IsLocalOf, HasFieldOf, IsTyped, IsTypedBlock, types_of}
use Rattle.dl_instr.specs.declared.steps.Step.{Step}
use Rattle.dl_instr.specs.declared.steps.Step.TheVariants.{Read, Want, Set, Drop, Make, Eval, Write, Emit, Test, Jump, Give}
use Rattle.dl_instr.specs.declared.steps.Origin.TheVariants as origins
use Rattle.dl_instr.specs.declared.steps.Content.{Content}
use Rattle.dl_instr.specs.declared.steps.Content.TheVariants as contents
use Rattle.dl_instr.specs.Code.{Placed, stmt_code, block_code, steps_of, if_code, if_else_code, while_code}
use Rattle.dl_instr.specs.Drops.{is_use}
use Rattle.dl_instr.specs.Jumps.{jump_of}
use Rattle.dl_core.specs.Codes as codes
use Rattle.dl_core.specs.Codes.{FitsContent, IsTypedStep, IsReadAt, fills}
use Rattle.dl_core.proofs.Names.{same_some, no_some}

-- what the hand holds before a step of plain code
pub data Hand : Type 0 where
  HandEmpty : Hand
  HasValue : Hand
  HasLoaded : Hand
  HasRead : (local field kind : ℕ) → Hand
  HasFollowed : (local field kind : ℕ) → Hand
  HasNew : (kind : ℕ) → Hand

pub moved_to : (P : ℕ → Type 0) (a b : ℕ) → a ≡ b → P a → P b
moved_to P a b e p = subst P e p

module _ (source : Module) (types : List Ty) where
  -- a step that fits its types, and what the hand holds before it and after it
  pub data Moves : Hand → Step → Hand → Type 0 where
    evals : {value : Expr} → Moves HandEmpty (Eval value) HasValue
    loads : {local field kind : ℕ} → IsLocalOf types local kind → HasFieldOf source kind field Int → Moves HandEmpty (Read local field) HasLoaded
    reads : {local field kind target : ℕ} → IsLocalOf types local kind → HasFieldOf source kind field (Of target) → Moves HandEmpty (Read local field) (HasRead local field target)
    wants : {local field kind : ℕ} → Moves (HasRead local field kind) Want (HasFollowed local field kind)
    makes : {kind : ℕ} → IsNodeKind source kind → Moves HandEmpty (Make kind) (HasNew kind)
    sets_value : {local : ℕ} → IsNumberLocal types local → Moves HasValue (Set local origins.Hand) HandEmpty
    sets_loaded : {local : ℕ} → IsNumberLocal types local → Moves HasLoaded (Set local origins.Hand) HandEmpty
    sets_followed : {local other field kind : ℕ} → IsLocalOf types local kind → Moves (HasFollowed other field kind) (Set local origins.Hand) HandEmpty
    sets_new : {local kind : ℕ} → IsLocalOf types local kind → Moves (HasNew kind) (Set local origins.Hand) HandEmpty
    stores : {local field kind : ℕ} → IsLocalOf types local kind → HasFieldOf source kind field Int → Moves HasValue (Write local field contents.Number) HandEmpty
    tells : Moves HasValue Emit HandEmpty
    joins : {local field kind target : ℕ} {content : Content} → IsLocalOf types local kind → HasFieldOf source kind field (Of target) → FitsContent source types (Of target) content
        → Moves (HasFollowed local field target) (Write local field content) HandEmpty
    copies : {local other kind : ℕ} → IsLocalOf types local kind → IsLocalOf types other kind → Moves HandEmpty (Set local (origins.Local other)) HandEmpty
    drops : {local kind : ℕ} → IsLocalOf types local kind → Moves HandEmpty (Drop local) HandEmpty
    gives : {value : Expr} → Moves HandEmpty (Give value) HandEmpty
    tests : {c : Cond} {b : _} {place : ℕ} → Moves HandEmpty (Test c b place) HandEmpty
    leaps : {place : ℕ} → Moves HandEmpty (Jump place) HandEmpty

  -- steps that leave the hand empty
  abbrev pub Flows : Hand → List Step → Type 0
  Flows hand [] = hand ≡ HandEmpty
  Flows hand (step ∷ rest) = (next : Hand) × Moves hand step next × Flows next rest

  pub flows_on : (hand : Hand) (xs ys : List Step) → Flows hand xs → Flows HandEmpty ys → Flows hand (xs ++ ys)
  flows_on hand [] ys e f = subst (λ h. Flows h ys) (sym e) f
  flows_on hand (x ∷ xs) ys f g = (f.0, f.1, flows_on f.0 xs ys f.2 g)

  no_use : (step : Step) (next : Hand) → Moves HandEmpty step next → is_use step ≡ false
  no_use step next evals = refl
  no_use step next (loads a b) = refl
  no_use step next (reads a b) = refl
  no_use step next (makes a) = refl
  no_use step next (copies a b) = refl
  no_use step next (drops a) = refl
  no_use step next gives = refl
  no_use step next tests = refl
  no_use step next leaps = refl

  -- ---- where jumps land

  -- a loop's test stands at a place
  pub record IsTurnAt (steps : List Step) (first to : ℕ) : Type 0 where
    pub at : ℕ
    pub is : to ≡ first + at
    pub c : Cond
    pub place : ℕ
    pub there : slice_get steps at ≡ Some (Test c true place)

  -- a place behind the steps, or a step that is no use of the hand
  pub data IsOpenAt (steps : List Step) (first to : ℕ) : Type 0 where
    past_all : to ≡ first + length steps → IsOpenAt steps first to
    at_step : (at : ℕ) (step : Step) → to ≡ first + at → slice_get steps at ≡ Some step → is_use step ≡ false → IsOpenAt steps first to

  pub record Lands (steps : List Step) (first from to : ℕ) : Type 0 where
    pub back : (from < to) ⊎ IsTurnAt steps first to
    pub opens : IsOpenAt steps first to

  -- each jump of a part goes where it may
  abbrev pub AllLand : (ℕ → ℕ → Type 0) → ℕ → List Step → Type 0
  AllLand May first part = (at place : ℕ) (step : Step) → slice_get part at ≡ Some step → jump_of step ≡ Some place → May (first + at) place

  land_none : (May : ℕ → ℕ → Type 0) (first : ℕ) → AllLand May first []
  land_none May first at place step is jumps = absurd (no_some is)

  land_cons : (May : ℕ → ℕ → Type 0) (first : ℕ) (s : Step) (ss : List Step) → ((place : ℕ) → jump_of s ≡ Some place → May first place) → AllLand May (first + 1) ss → AllLand May first (s ∷ ss)
  land_cons May first s ss here rest zero place step is jumps =
      moved_to (λ n. May n place) first (first + 0) (omega arith) (here place (ap jump_of (same_some is) ∙ jumps))
  land_cons May first s ss here rest (suc at) place step is jumps = moved_to (λ n. May n place) (first + 1 + at) (first + suc at) (omega arith) (rest at place step is jumps)

  pub land_append : (May : ℕ → ℕ → Type 0) (first : ℕ) (xs ys : List Step) → AllLand May first xs → AllLand May (first + length xs) ys → AllLand May first (xs ++ ys)
  land_append May first [] ys a b = λ at place step is jumps. moved_to (λ n. May n place) (first + 0 + at) (first + at) (omega arith) (b at place step is jumps)
  land_append May first (x ∷ xs) ys a b =
      land_cons May first x (xs ++ ys) (λ place jumps. moved_to (λ n. May n place) (first + 0) first (omega arith) (a 0 place x refl jumps))
      (land_append May (first + 1) xs ys (λ at place step is jumps. moved_to (λ n. May n place) (first + suc at) (first + 1 + at) (omega arith) (a (suc at) place step is jumps))
      (λ at place step is jumps. moved_to (λ n. May n place) (first + length (x ∷ xs) + at) (first + 1 + length xs + at) (omega arith) (b at place step is jumps)))

  pub land_more : (May May' : ℕ → ℕ → Type 0) (first : ℕ) (xs : List Step) → ((from to : ℕ) → May from to → May' from to) → AllLand May first xs → AllLand May' first xs
  land_more May May' first xs on a at place step is jumps = on (first + at) place (a at place step is jumps)

  pub get_front : (xs ys : List Step) (at : ℕ) (s : Step) → slice_get xs at ≡ Some s → slice_get (xs ++ ys) at ≡ Some s
  get_front [] ys at s e = absurd (no_some e)
  get_front (x ∷ xs) ys zero s e = e
  get_front (x ∷ xs) ys (suc at) s e = get_front xs ys at s e

  pub get_back : (xs ys : List Step) (at : ℕ) (s : Step) → slice_get ys at ≡ Some s → slice_get (xs ++ ys) (length xs + at) ≡ Some s
  get_back [] ys at s e = moved_to (λ n. slice_get ys n ≡ Some s) at (length {A = Step} [] + at) (omega arith) e
  get_back (x ∷ xs) ys at s e = moved_to (λ n. slice_get (x ∷ xs ++ ys) n ≡ Some s) (suc (length xs + at)) (length (x ∷ xs) + at) (omega arith) (get_back xs ys at s e)

  -- where the first step is no use
  first_open : (ys : List Step) (first to : ℕ) → Flows HandEmpty ys → to ≡ first → IsOpenAt ys first to
  first_open [] first to f e = past_all (omega (arith, e))
  first_open (y ∷ ys) first to f e = at_step 0 y (omega (arith, e)) refl (no_use y f.0 f.1)

  open_back : (xs ys : List Step) (first to : ℕ) → IsOpenAt ys (first + length xs) to → IsOpenAt (xs ++ ys) first to
  open_back xs ys first to (past_all e) = past_all (omega (arith, e, length-append xs ys))
  open_back xs ys first to (at_step at step e there shut) = at_step (length xs + at) step (omega (arith, e)) (get_back xs ys at step there) shut

  open_front : (xs ys : List Step) (first to : ℕ) → Flows HandEmpty ys → IsOpenAt xs first to → IsOpenAt (xs ++ ys) first to
  open_front xs ys first to f (past_all e) = open_back xs ys first to (first_open ys (first + length xs) to f e)
  open_front xs ys first to f (at_step at step e there shut) = at_step at step e (get_front xs ys at step there) shut

  pub lands_front : (xs ys : List Step) (first from to : ℕ) → Flows HandEmpty ys → Lands xs first from to → Lands (xs ++ ys) first from to
  lands_front xs ys first from to f l = record { back = by l.back; opens = open_front xs ys first to f l.opens }
    where
      by : (from < to) ⊎ IsTurnAt xs first to → (from < to) ⊎ IsTurnAt (xs ++ ys) first to
      by (inl less) = inl less
      by (inr turn) = inr (record { at = turn.at; is = turn.is; c = turn.c; place = turn.place; there = get_front xs ys turn.at _ turn.there })

  lands_back : (xs ys : List Step) (first from to : ℕ) → Lands ys (first + length xs) from to → Lands (xs ++ ys) first from to
  lands_back xs ys first from to l = record { back = by l.back; opens = open_back xs ys first to l.opens }
    where
      by : (from < to) ⊎ IsTurnAt ys (first + length xs) to → (from < to) ⊎ IsTurnAt (xs ++ ys) first to
      by (inl less) = inl less
      by (inr turn) = inr (record { at = length xs + turn.at; is = omega (arith, turn.is); c = turn.c; place = turn.place; there = get_back xs ys turn.at _ turn.there })

  -- ---- parts

  pub record IsPart (first : ℕ) (xs : List Step) : Type 0 where
    pub flows : Flows HandEmpty xs
    pub lands : AllLand (Lands xs first) first xs

  part_none : (first : ℕ) → IsPart first []
  part_none first = record { flows = refl; lands = land_none (Lands [] first) first }

  part_append : (first : ℕ) (xs ys : List Step) → IsPart first xs → IsPart (first + length xs) ys → IsPart first (xs ++ ys)
  part_append first xs ys a b = record {
    flows = flows_on HandEmpty xs ys a.flows b.flows;
    lands = land_append (Lands (xs ++ ys) first) first xs ys
        (land_more (Lands xs first) (Lands (xs ++ ys) first) first xs (λ from to. lands_front xs ys first from to b.flows) a.lands)
        (land_more (Lands ys (first + length xs)) (Lands (xs ++ ys) first) (first + length xs) ys (lands_back xs ys first) b.lands);
  }

  -- steps without jumps
  abbrev NoJumps : List Step → Type 0
  NoJumps [] = Unit {0}
  NoJumps (s ∷ ss) = (jump_of s ≡ None) × NoJumps ss

  pub land_straight : (May : ℕ → ℕ → Type 0) (first : ℕ) (xs : List Step) → NoJumps xs → AllLand May first xs
  land_straight May first [] nj = land_none May first
  land_straight May first (x ∷ xs) nj = land_cons May first x xs (λ place jumps. absurd (no_some (sym nj.0 ∙ jumps))) (land_straight May (first + 1) xs nj.1)

  straight : (first : ℕ) (xs : List Step) → Flows HandEmpty xs → NoJumps xs → IsPart first xs
  straight first xs f nj = record { flows = f; lands = land_straight (Lands xs first) first xs nj }

  part_if : (c : Cond) (block : Placed) → ((first : ℕ) → IsPart first (block first)) → (first : ℕ) → IsPart first (if_code c block first)
  part_if c block is first =
      let xs = block (first + 1) in
      let end = first + 1 + length xs in
      let part = is (first + 1) in
      let head : List Step = Test c false end ∷ [] in
      record {
        flows = (HandEmpty, tests, part.flows);
        lands = land_cons (Lands (head ++ xs) first) first (Test c false end) xs
            (λ place e. let same : end ≡ place = cc in record { back = inl (omega (arith, same)); opens = past_all (omega (arith, same)) })
            (land_more (Lands xs (first + 1)) (Lands (head ++ xs) first) (first + 1) xs (lands_back head xs first) part.lands);
      }

  part_if_else : (c : Cond) (block other : Placed) → ((first : ℕ) → IsPart first (block first)) → ((first : ℕ) → IsPart first (other first)) → (first : ℕ) → IsPart first (if_else_code c block other first)
  part_if_else c block other is is' first =
      let xs = block (first + 1) in
      let second = first + 1 + length xs + 1 in
      let ys = other second in
      let end = second + length ys in
      let part = is (first + 1) in
      let part' = is' second in
      let head : List Step = Test c false second ∷ [] in
      let jump : List Step = Jump end ∷ [] in
      let tail : List Step = Jump end ∷ ys in
      let all : List Step = Test c false second ∷ xs ++ tail in
      let long = length-append xs tail in
      let tail_flows : Flows HandEmpty tail = (HandEmpty, leaps, part'.flows) in
      let flow : Flows HandEmpty (xs ++ tail) = flows_on HandEmpty xs tail part.flows tail_flows in
      let second_is : second ≡ first + 1 + length xs + 1 = refl in
      record {
        flows = (HandEmpty, tests, flow);
        lands = land_cons (Lands all first) first (Test c false second) (xs ++ tail)
            (λ place e.
            let same : second ≡ place = cc in
            record {
              back = inl (omega (arith, same));
              opens = open_back head (xs ++ tail) first place (open_back xs tail (first + 1) place (open_back jump ys (first + 1 + length xs) place (first_open ys (first + 1 + length xs + 1) place part'.flows (sym same))));
            })
            (land_append (Lands all first) (first + 1) xs tail
            (land_more (Lands xs (first + 1)) (Lands all first) (first + 1) xs
            (λ from to l. lands_back head (xs ++ tail) first from to (lands_front xs tail (first + 1) from to tail_flows l)) part.lands)
            (land_cons (Lands all first) (first + 1 + length xs) (Jump end) ys
            (λ place e. let same : end ≡ place = cc in record { back = inl (omega (arith, same)); opens = past_all (omega (arith, same, long)) })
            (land_more (Lands ys second) (Lands all first) second ys
            (λ from to l. lands_back head (xs ++ tail) first from to (lands_back xs tail (first + 1) from to (lands_back jump ys (first + 1 + length xs) from to l))) part'.lands)));
      }

  part_while : (c : Cond) (block : Placed) → ((first : ℕ) → IsPart first (block first)) → (first : ℕ) → IsPart first (while_code c block first)
  part_while c block is first =
      let xs = block (first + 1) in
      let end = first + 1 + length xs + 1 in
      let part = is (first + 1) in
      let head : List Step = Test c true end ∷ [] in
      let tail : List Step = Jump first ∷ [] in
      let all : List Step = Test c true end ∷ xs ++ tail in
      let long = length-append xs tail in
      let tail_flows : Flows HandEmpty tail = (HandEmpty, leaps, refl) in
      record {
        flows = (HandEmpty, tests, flows_on HandEmpty xs tail part.flows tail_flows);
        lands = land_cons (Lands all first) first (Test c true end) (xs ++ tail)
            (λ place e. let same : end ≡ place = cc in record { back = inl (omega (arith, same)); opens = past_all (omega (arith, same, long)) })
            (land_append (Lands all first) (first + 1) xs tail
            (land_more (Lands xs (first + 1)) (Lands all first) (first + 1) xs
            (λ from to l. lands_back head (xs ++ tail) first from to (lands_front xs tail (first + 1) from to tail_flows l)) part.lands)
            (land_cons (Lands all first) (first + 1 + length xs) (Jump first) []
            (λ place e.
            let same : first ≡ place = cc in
            record {
              back = inr (record { at = 0; is = omega (arith, same); c = c; place = end; there = refl });
              opens = at_step 0 (Test c true end) (omega (arith, same)) refl refl;
            })
            (land_none (Lands all first) (first + 1 + length xs + 1))));
      }

  -- ---- statements

  rolled : (x : Stmt-F Stmt) (d : Stmt) → roll-Stmt x ≡ d → (first : ℕ) → IsPart first (steps_of (map-Stmt Stmt Placed stmt_code x) first) → IsPart first (stmt_code d first)
  rolled x d is first part = subst (λ e. IsPart first (stmt_code e first)) is (subst (λ p. IsPart first (p first)) (sym (fold-roll-Stmt Placed steps_of x)) part)

  mutual
    part_of : {d : Stmt} → IsTyped source types d → (first : ℕ) → IsPart first (stmt_code d first)
    part_of (typed.set_int {x} {e} is fits) first = rolled (Stmt-F.SetInt x e) _ (variants.rolls-SetInt x e) first (straight first _ (HasValue, evals, (HandEmpty, sets_value is, refl)) (refl, (refl, tt)))
    part_of (typed.load {x} {p} {f} is of has) first = rolled (Stmt-F.Load x p f) _ (variants.rolls-Load x p f) first (straight first _ (HasLoaded, loads of has, (HandEmpty, sets_loaded is, refl)) (refl, (refl, tt)))
    part_of (typed.store {p} {f} {kind} {e} of has fits) first = rolled (Stmt-F.Store p f e) _ (variants.rolls-Store p f e) first (straight first _ (HasValue, evals, (HandEmpty, stores of has, refl)) (refl, (refl, tt)))
    part_of (typed.copy {p} {q} of other node) first = rolled (Stmt-F.Copy p q) _ (variants.rolls-Copy p q) first (straight first _ (HandEmpty, copies of other, refl) (refl, tt))
    part_of (typed.null {p} of) first = rolled (Stmt-F.Null p) _ (variants.rolls-Null p) first (straight first _ (HandEmpty, drops of, refl) (refl, tt))
    part_of (typed.follow {p} {q} {f} {kind} of node other has) first =
        rolled (Stmt-F.Follow p q f) _ (variants.rolls-Follow p q f) first (straight first _ (HasRead q f kind, reads other has, (HasFollowed q f kind, wants, (HandEmpty, sets_followed of, refl))) (refl, (refl, (refl, tt))))
    part_of (typed.new {p} {kind} of node) first = rolled (Stmt-F.New p kind) _ (variants.rolls-New p kind) first (straight first _ (HasNew kind, makes node, (HandEmpty, sets_new of, refl)) (refl, (refl, tt)))
    part_of (typed.link {q} {f} {p} {kind} of has other) first =
        rolled (Stmt-F.Link q f p) _ (variants.rolls-Link q f p) first (straight first _ (HasRead q f kind, reads of has, (HasFollowed q f kind, wants, (HandEmpty, joins of has (codes.a_local other), refl))) (refl, (refl, (refl, tt))))
    part_of (typed.cut {q} {f} {kind} of has) first =
        rolled (Stmt-F.Cut q f) _ (variants.rolls-Cut q f) first (straight first _ (HasRead q f kind, reads of has, (HasFollowed q f kind, wants, (HandEmpty, joins of has codes.a_null, refl))) (refl, (refl, (refl, tt))))
    part_of (typed.choose {c} {first = block} fits some typed.nothing) first = rolled (Stmt-F.If c block []) _ (variants.rolls-If c block []) first (part_if c (block_code block) (block_part some) first)
    part_of (typed.choose {c} {first = block} fits some (typed.more {d} {ds} d_is ds_is)) first =
        rolled (Stmt-F.If c block (d ∷ ds)) _ (variants.rolls-If c block (d ∷ ds)) first (part_if_else c (block_code block) (block_code (d ∷ ds)) (block_part some) (block_part (typed.more d_is ds_is)) first)
    part_of (typed.while {c} {body} fits some) first = rolled (Stmt-F.While c body) _ (variants.rolls-While c body) first (part_while c (block_code body) (block_part some) first)
    part_of (typed.emit {e} fits) first = rolled (Stmt-F.Emit e) _ (variants.rolls-Emit e) first (straight first _ (HasValue, evals, (HandEmpty, tells, refl)) (refl, (refl, tt)))
    part_of (typed.return {e} fits) first = rolled (Stmt-F.Return e) _ (variants.rolls-Return e) first (straight first _ (HandEmpty, gives, refl) (refl, tt))

    pub block_part : {block : List Stmt} → IsTypedBlock source types block → (first : ℕ) → IsPart first (block_code block first)
    block_part typed.nothing first = part_none first
    block_part (typed.more {d} {ds} d_is ds_is) first = part_append first (stmt_code d first) (block_code ds (first + length (stmt_code d first))) (part_of d_is first) (block_part ds_is (first + length (stmt_code d first)))
