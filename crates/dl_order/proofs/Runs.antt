-- A step of a caller does not change where the lone runs of all end, and takes one step off them.
use Rattle.std.proofs.Common.{◌≡◌, ◌≢◌, inl, inr, length, ℕ, ◌+◌, List, [], ◌∷◌, ◌++◌, Option, Some, refl, sym, ap, ◌∙◌, subst, arith}
use Rattle.std.proofs.lemmas.List.{get_or-set_other, length-set}
use Rattle.dl_core.specs.Steps.{World, Nowhere, Rules, frame_by, with_frame_by, step_by, Alone, over, then_on, InTurn, none, next}
use Rattle.dl_core.proofs.Diamond.{Moves, moves→step, step→moves, Clear, diamond, frame_aside}
use Rattle.dl_core.proofs.Names.{same_number}
use Rattle.dl_order.specs.Lengths.{steps_alone, steps_in_turn}
use Rattle.dl_core.proofs.Elements.{In}

one_some : {A : Type 0} {a b : A} {o : Option A} → o ≡ Some a → o ≡ Some b → a ≡ b
one_some p q = cc

-- these callers are all older than another
abbrev pub AllOlder : {Frame : Type 0} → (World Frame → ℕ → ℕ → Type 0) → World Frame → ℕ → List ℕ → Type 0
AllOlder Older w i [] = Unit {0}
AllOlder Older w i (j ∷ js) = Older w j i × AllOlder Older w i js

-- what the proof needs of an invariant: steps keep it, and who is older; and steps of an older and a younger caller are clear of each other
pub record IsOrdered {Frame : Type 0} (r : Rules Frame) (Inv : World Frame → Type 0) (Older : World Frame → ℕ → ℕ → Type 0) : Type 0 where
  pub kept : (w w' : World Frame) (c : ℕ) → Inv w → Moves r w c w' → Inv w'
  pub older : (w w' : World Frame) (c i j : ℕ) → Inv w → Moves r w c w' → Older w j i → Older w' j i
  pub apart : (w : World Frame) (i j : ℕ) → Older w j i → i ≢ j
  pub clear : (w wi wj : World Frame) (i j : ℕ) → Inv w → Older w j i → (mi : Moves r w i wi) (mj : Moves r w j wj) → Clear r w.heap mi.touch mj.touch

-- a caller is none of these
abbrev pub IsNone : ℕ → List ℕ → Type 0
IsNone i [] = Unit {0}
IsNone i (j ∷ js) = (i ≢ j) × IsNone i js

module _ {Frame : Type 0} (r : Rules Frame) where
  -- a lone run of so many steps
  abbrev pub AloneIn : ℕ → ℕ → World Frame → World Frame → Type 0
  AloneIn count c w d = (run : Alone r c w d) × (steps_alone r run ≡ count)

  abbrev pub InTurnIn : ℕ → List ℕ → World Frame → World Frame → Type 0
  InTurnIn count cs w d = (run : InTurn r cs w d) × (steps_in_turn r run ≡ count)

  not_due : (w w' : World Frame) (c : ℕ) → r.aim (frame_by r w c) ≡ Nowhere → step_by r w c ≡ Some w' → ⊥
  not_due w w' c e s = cc

  frame_stays : (w wi : World Frame) (i j : ℕ) → Moves r w i wi → i ≢ j → frame_by r wi j ≡ frame_by r w j
  frame_stays w wi i j m n = ap (λ (v : World Frame). frame_by r v j) m.is ∙ get_or-set_other w.frames i j m.frame r.idle (λ e. n (sym e))

  -- the frame of another stays through a lone run
  pub alone_frame : (j : ℕ) (w d : World Frame) → Alone r j w d → (i : ℕ) → i ≢ j → frame_by r d i ≡ frame_by r w i
  alone_frame j w d (over f) i n = refl
  alone_frame j w d (then_on {mid = mid} s rest) i n = alone_frame j mid d rest i n ∙ frame_stays w mid j i (step→moves r w j mid s) (λ e. n (sym e))

  -- and through the lone runs of others
  pub turn_frame : (js : List ℕ) (w d : World Frame) → InTurn r js w d → (i : ℕ) → IsNone i js → frame_by r d i ≡ frame_by r w i
  turn_frame js w d none i n = refl
  turn_frame js w d (next {caller = j} {callers = cs} {mid = mid} a rest) i n = turn_frame cs mid d rest i n.1 ∙ alone_frame j w mid a i n.0

  -- there are as many frames
  pub moves_long : (w w' : World Frame) (i : ℕ) → Moves r w i w' → length w'.frames ≡ length w.frames
  moves_long w w' i m = ap (λ (v : World Frame). length v.frames) m.is ∙ length-set w.frames i m.frame

  pub alone_long : (j : ℕ) (w d : World Frame) → Alone r j w d → length d.frames ≡ length w.frames
  alone_long j w d (over f) = refl
  alone_long j w d (then_on {mid = mid} s rest) = alone_long j mid d rest ∙ moves_long w mid j (step→moves r w j mid s)

  pub turn_long : (js : List ℕ) (w d : World Frame) → InTurn r js w d → length d.frames ≡ length w.frames
  turn_long js w d none = refl
  turn_long js w d (next {caller = j} {callers = cs} {mid = mid} a rest) = turn_long cs mid d rest ∙ alone_long j w mid a

  -- who makes no step makes none later
  step_nowhere : (w w' : World Frame) (j k : ℕ) → Moves r w j w' → r.aim (frame_by r w k) ≡ Nowhere → r.aim (frame_by r w' k) ≡ Nowhere
  step_nowhere w w' j k m e = elim (same_number j k) [
    | inl same ↦ absurd (not_due w w' j (ap (λ n. r.aim (frame_by r w n)) same ∙ e) (moves→step r w j w' m))
    | inr apart ↦ ap r.aim (frame_stays w w' j k m apart) ∙ e
  ]

  alone_nowhere : (j : ℕ) (w d : World Frame) → Alone r j w d → (k : ℕ) → r.aim (frame_by r w k) ≡ Nowhere → r.aim (frame_by r d k) ≡ Nowhere
  alone_nowhere j w d (over f) k e = e
  alone_nowhere j w d (then_on {mid = mid} s rest) k e = alone_nowhere j mid d rest k (step_nowhere w mid j k (step→moves r w j mid s) e)

  turn_nowhere : (js : List ℕ) (w d : World Frame) → InTurn r js w d → (k : ℕ) → r.aim (frame_by r w k) ≡ Nowhere → r.aim (frame_by r d k) ≡ Nowhere
  turn_nowhere js w d none k e = e
  turn_nowhere js w d (next {caller = j} {callers = cs} {mid = mid} a rest) k e = turn_nowhere cs mid d rest k (alone_nowhere j w mid a k e)

  alone_over : (j : ℕ) (w d : World Frame) → Alone r j w d → r.aim (frame_by r d j) ≡ Nowhere
  alone_over j w d (over f) = f
  alone_over j w d (then_on {mid = mid} s rest) = alone_over j mid d rest

  -- where lone runs have ended their callers make no step
  pub turn_over : (js : List ℕ) (w d : World Frame) → InTurn r js w d → (k : ℕ) → In k js → r.aim (frame_by r d k) ≡ Nowhere
  turn_over js w d none k there = absurd there
  turn_over js w d (next {caller = j} {callers = cs} {mid = mid} a rest) k (inl same) = turn_nowhere cs mid d rest k (subst (λ n. r.aim (frame_by r mid n) ≡ Nowhere) (sym same) (alone_over j w mid a))
  turn_over js w d (next {caller = j} {callers = cs} {mid = mid} a rest) k (inr there) = turn_over cs mid d rest k there

  -- a caller whose last step this was has no lone run left
  pub last_run : (i : ℕ) (w d : World Frame) → r.aim (frame_by r w i) ≡ Nowhere → (count : ℕ) → AloneIn count i w d → (w ≡ d) × (count ≡ 0)
  last_run i w d e count (over f, k) = (refl, sym k)
  last_run i w d e count (then_on {mid = mid} s rest, k) = absurd (not_due w mid i e s)

  -- the lone run of the caller itself begins with its step
  own_run : (i : ℕ) (w d wi : World Frame) (run : Alone r i w d) → Moves r w i wi → (count : ℕ) × (steps_alone r run ≡ count + 1) × AloneIn count i wi d
  own_run i w d wi (over f) m = absurd (not_due w wi i f (moves→step r w i wi m))
  own_run i w d wi (then_on {mid = mid} s rest) m = (steps_alone r rest, refl, subst (λ v. AloneIn (steps_alone r rest) i v d) (one_some s (moves→step r w i wi m)) (rest, refl))

  -- there is one lone run
  pub alone_one : (c : ℕ) (w d d' : World Frame) (run : Alone r c w d) (count : ℕ) → AloneIn count c w d' → (d ≡ d') × (steps_alone r run ≡ count)
  alone_one c w d d' (over f) count (over g, k) = (refl, k)
  alone_one c w d d' (over f) count (then_on {mid = mid} s rest, k) = absurd (not_due w mid c f s)
  alone_one c w d d' (then_on {mid = mid} s rest) count (over g, k) = absurd (not_due w mid c g s)
  alone_one c w d d' (then_on {mid = mid} s rest) count (then_on {mid = mid'} s' rest', k) =
      let one = alone_one c mid d d' rest (steps_alone r rest') (subst (λ v. AloneIn (steps_alone r rest') c v d') (one_some s' s) (rest', refl)) in
      (one.0, ap (λ n. n + 1) one.1 ∙ k)

  pub turn_one : (cs : List ℕ) (w d d' : World Frame) (run : InTurn r cs w d) (count : ℕ) → InTurnIn count cs w d' → (d ≡ d') × (steps_in_turn r run ≡ count)
  turn_one cs w d d' none count (none, k) = (refl, k)
  turn_one cs w d d' (next {caller = c} {callers = ks} {mid = mid} a rest) count (next {mid = mid'} a' rest', k) =
      let first = alone_one c w mid mid' a (steps_alone r a') (a', refl) in
      let on = turn_one ks mid d d' rest (steps_in_turn r rest') (subst (λ v. InTurnIn (steps_in_turn r rest') ks v d') (sym first.0) (rest', refl)) in
      (on.0, omega (arith, first.1, on.1, k))

  other_frame : (w : World Frame) (i j : ℕ) (f : Frame) → i ≢ j → frame_by r (with_frame_by r w i f) j ≡ frame_by r w j
  other_frame w i j f n = get_or-set_other w.frames i j f r.idle (λ e. n (sym e))

  -- a change of another's frame alone, as by a begin, a reservation or an entry, goes through a lone run
  pub alone_aside : (i j : ℕ) (w d : World Frame) → Alone r j w d → (f : Frame) → i ≢ j → Alone r j (with_frame_by r w i f) (with_frame_by r d i f)
  alone_aside i j w d (over e) f n = over (ap r.aim (other_frame w i j f n) ∙ e)
  alone_aside i j w d (then_on {mid = mid} s rest) f n =
      then_on (moves→step r (with_frame_by r w i f) j (with_frame_by r mid i f) (frame_aside r w mid i j f n (step→moves r w j mid s))) (alone_aside i j mid d rest f n)

  pub turns_aside : (i : ℕ) (js : List ℕ) (w d : World Frame) → InTurn r js w d → (f : Frame) → IsNone i js → InTurn r js (with_frame_by r w i f) (with_frame_by r d i f)
  turns_aside i js w d none f n = none
  turns_aside i js w d (next {caller = c} {callers = cs} {mid = mid} a rest) f n = next (alone_aside i c w mid a f n.0) (turns_aside i cs mid d rest f n.1)

  -- lone runs, and then those of others
  pub turns_then : (js ks : List ℕ) (w d e : World Frame) → InTurn r js w d → InTurn r ks d e → InTurn r (js ++ ks) w e
  turns_then js ks w d e none b = b
  turns_then js ks w d e (next {callers = cs} {mid = mid} a rest) b = next a (turns_then cs ks mid d e rest b)

module _ {Frame : Type 0} (r : Rules Frame) (Inv : World Frame → Type 0) (Older : World Frame → ℕ → ℕ → Type 0) (o : IsOrdered r Inv Older) where
  -- past a whole lone run
  past_alone : (i j : ℕ) (w d : World Frame) (run : Alone r j w d) → (wi : World Frame) → Inv w → Older w j i → Moves r w i wi → (d' : World Frame) × AloneIn r (steps_alone r run) j wi d' × Moves r d i d' × Inv d
  past_alone i j w d (over f) wi v a m = (wi, (over (ap r.aim (frame_stays r w wi i j m (o.apart w i j a)) ∙ f), refl), m, v)
  past_alone i j w d (then_on {mid = mid} s rest) wi v a m =
      let mj = step→moves r w j mid s in
      let dia = diamond r w wi mid i j (o.apart w i j a) m mj (o.clear w wi mid i j v a m mj) in
      let on = past_alone i j mid d rest dia.0 (o.kept w mid j v mj) (o.older w mid j i j v mj a) dia.2 in
      (on.0, (then_on (moves→step r wi j dia.0 dia.1) on.1.0, ap (λ n. n + 1) on.1.1), on.2, on.3)

  alone_keeps : (j : ℕ) (w d : World Frame) → Alone r j w d → Inv w → (k i : ℕ) → Older w k i → Older d k i
  alone_keeps j w d (over f) v k i a = a
  alone_keeps j w d (then_on {mid = mid} s rest) v k i a =
      let mj = step→moves r w j mid s in
      alone_keeps j mid d rest (o.kept w mid j v mj) k i (o.older w mid j i k v mj a)

  pub all_keep : (j : ℕ) (w d : World Frame) → Alone r j w d → Inv w → (i : ℕ) (js : List ℕ) → AllOlder Older w i js → AllOlder Older d i js
  all_keep j w d run v i [] a = tt
  all_keep j w d run v i (k ∷ ks) a = (alone_keeps j w d run v k i a.0, all_keep j w d run v i ks a.1)

  -- past the lone runs of all that are older
  pub past_all : (js : List ℕ) (i : ℕ) (w d : World Frame) → InTurn r js w d → (wi : World Frame) → Inv w → AllOlder Older w i js → Moves r w i wi → (d' : World Frame) × InTurn r js wi d' × Moves r d i d' × Inv d
  past_all js i w d none wi v older m = (wi, none, m, v)
  past_all js i w d (next {caller = j} {callers = cs} {mid = mid} a rest) wi v older m =
      let on = past_alone i j w mid a wi v older.0 m in
      let further = past_all cs i mid d rest on.0 on.3 (all_keep j w mid a v i cs older.1) on.2 in
      (further.0, next on.1.0 further.1, further.2, further.3)

  -- the invariant holds where lone runs end
  pub alone_inv : (j : ℕ) (w d : World Frame) → Alone r j w d → Inv w → Inv d
  alone_inv j w d (over f) v = v
  alone_inv j w d (then_on {mid = mid} s rest) v = alone_inv j mid d rest (o.kept w mid j v (step→moves r w j mid s))

  pub turn_inv : (js : List ℕ) (w d : World Frame) → InTurn r js w d → Inv w → Inv d
  turn_inv js w d none v = v
  turn_inv js w d (next {caller = j} {callers = cs} {mid = mid} a rest) v = turn_inv cs mid d rest (alone_inv j w mid a v)

  -- a step of a caller takes exactly one step off the lone runs, which end where they did
  pub same_end : (js : List ℕ) (i : ℕ) (ks : List ℕ) (w end : World Frame) (run : InTurn r (js ++ i ∷ ks) w end) → (wi : World Frame) → Inv w → AllOlder Older w i js → Moves r w i wi
      → (count : ℕ) × (steps_in_turn r run ≡ count + 1) × InTurnIn r count (js ++ i ∷ ks) wi end
  same_end [] i ks w end (next {mid = mid} a rest) wi v older m =
      let own = own_run r i w mid wi a m in
      (own.0 + steps_in_turn r rest, omega (arith, own.1), (next own.2.0 rest, ap (λ n. n + steps_in_turn r rest) own.2.1))
  same_end (j ∷ js) i ks w end (next {mid = mid} a rest) wi v older m =
      let on = past_alone i j w mid a wi v older.0 m in
      let more = same_end js i ks mid end rest on.0 on.3 (all_keep j w mid a v i js older.1) on.2 in
      (steps_alone r a + more.0, omega (arith, more.1), (next on.1.0 more.2.0, omega (arith, on.1.1, more.2.1)))

  -- and where it was its last, its lone run is gone
  pub without : (js : List ℕ) (i : ℕ) (ks : List ℕ) (w end : World Frame) (run : InTurn r (js ++ i ∷ ks) w end) → (wi : World Frame) → Inv w → AllOlder Older w i js → Moves r w i wi → r.aim (frame_by r wi i) ≡ Nowhere
      → (count : ℕ) × (steps_in_turn r run ≡ count + 1) × InTurnIn r count (js ++ ks) wi end
  without [] i ks w end (next {mid = mid} a rest) wi v older m e =
      let own = own_run r i w mid wi a m in
      let gone = last_run r i wi mid e own.0 own.2 in
      (steps_in_turn r rest, omega (arith, own.1, gone.1), subst (λ u. InTurnIn r (steps_in_turn r rest) ks u end) (sym gone.0) (rest, refl))
  without (j ∷ js) i ks w end (next {mid = mid} a rest) wi v older m e =
      let on = past_alone i j w mid a wi v older.0 m in
      let more = without js i ks mid end rest on.0 on.3 (all_keep j w mid a v i js older.1) on.2 (ap r.aim (alone_frame r j wi on.0 on.1.0 i (o.apart w i j older.0)) ∙ e) in
      (steps_alone r a + more.0, omega (arith, more.1), (next on.1.0 more.2.0, omega (arith, on.1.1, more.2.1)))
