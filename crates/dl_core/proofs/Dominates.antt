-- Each event keeps to what its caller holds.
use Rattle.std.proofs.Common.{◌≡◌, inl, inr, ℕ, zero, suc, ℤ, ◌<◌, true, false, List, [], ◌∷◌, Option, Some, None, refl, sym, ap, subst, ◌∙◌, arith}
use Rattle.std.specs.Prelude.{slice_get, nat_lt, ◌==◌, if◌then◌else◌}
use Rattle.std.specs.List.{zip}
use Rattle.std.specs.Option.{option_map_or}
use Rattle.std.specs.FinMap as finite
use Rattle.std.proofs.lemmas.Bool.Decides.{nat_tests}
use Rattle.dl_ir.specs.declared.calls.Call.{Call}
use Rattle.dl_ir.specs.declared.modules.LocalDecl.{LocalDecl}
use Rattle.dl_ir.specs.declared.modules.OpDecl.{OpDecl}
use Rattle.dl_ir.specs.declared.modules.Ty.{Ty}
use Rattle.dl_ir.specs.declared.modules.Ty.TheVariants as types
use Rattle.dl_ir.specs.declared.names.Name.{Name}
use Rattle.dl_ir.specs.Heap.{IsHidden, root}
use Rattle.dl_core.specs.declared.objects.Mark.TheVariants.{Free}
use Rattle.dl_core.specs.declared.objects.Object.{Object}
use Rattle.dl_core.specs.declared.stages.Stage.TheVariants as stages
use Rattle.dl_core.specs.Heaps.{Heap, IsHeld}
use Rattle.dl_core.specs.Plans.{Plan, IsPlan, op_of, roots_of, roots_among, put_root, put_in}
use Rattle.dl_core.specs.Frames.{Frame}
use Rattle.dl_core.specs.declared.dues.Due.{Due}
use Rattle.dl_core.specs.LocalSteps.{due}
use Rattle.dl_core.specs.Core.{Core, frame_of}
use Rattle.dl_core.specs.Reached.{Calls}
use Rattle.dl_core.specs.Reach.{Links, Path, Passes, IsFree, Dominates}
use Rattle.dl_core.specs.Changes.{IsCounted}
use Rattle.dl_core.specs.Lawful.{IsLawful}
use Rattle.dl_core.specs.Sound.{IsSound, Stands, idles, waits, works}
use Rattle.dl_core.proofs.Names.{same_some, no_some}
use Rattle.dl_core.proofs.Rows.{target_held, target_value, link_hidden, field_links}
use Rattle.dl_core.proofs.Dominated.{dominated}
use Rattle.dl_core.proofs.Why as why
use Rattle.dl_core.proofs.Why.{Why}
use Rattle.dl_core.proofs.Events.{works_ended, works_running, works_loose, local_held, cleared, held_cleared, cleared_hand, hand_before}

-- a free hidden object to which a field of a held object refers is dominated
pub take_dominated : (heap : Heap) → IsCounted heap → (caller : ℕ) (from name : Name) (object : Object) → finite.get heap name ≡ Some object → object.mark ≡ Free → IsHidden name → IsHeld heap caller from → Links heap from name
    → (first : ℕ) (path : Path heap (root first) name) → Passes heap caller (root first) name path
take_dominated heap counted caller from name object there free hidden held link first path =
    dominated heap caller from name (root first) held link (counted.one name object there free hidden) (λ e. omega (arith, hidden, ap (λ (n : Name). n.ticket) e)) path

-- ---- roots rise

-- each number of the list is above this one
abbrev AreAbove : ℕ → List ℕ → Type 0
AreAbove n [] = Unit {0}
AreAbove n (m ∷ rest) = (n < m) × AreAbove n rest

abbrev Rises : List ℕ → Type 0
Rises [] = Unit {0}
Rises (n ∷ rest) = AreAbove n rest × Rises rest

above_more : (n m : ℕ) → n < m → (ms : List ℕ) → AreAbove m ms → AreAbove n ms
above_more n m lt [] a = tt
above_more n m lt (k ∷ ks) a = (omega (arith, a.0), above_more n m lt ks a.1)

put_above : (n m : ℕ) → n < m → (ms : List ℕ) → AreAbove n ms → AreAbove n (put_in m ms)
put_above n m lt [] a = (lt, tt)
put_above n m lt (k ∷ ks) a =
    elim (m == k) as (λ b. AreAbove n (if b then k ∷ ks else (if nat_lt m k then m ∷ k ∷ ks else k ∷ put_in m ks))) [
      | true ↦ a
      | false ↦ elim (nat_lt m k) as (λ b. AreAbove n (if b then m ∷ k ∷ ks else k ∷ put_in m ks)) [
        | true ↦ (lt, a)
        | false ↦ (a.0, put_above n m lt ks a.1)
      ]
    ]

put_rises : (m : ℕ) (ms : List ℕ) → Rises ms → Rises (put_in m ms)
put_rises m [] r = (tt, tt)
put_rises m (k ∷ ks) r =
    elim (m == k) as (λ b. (m == k) ≡ b → Rises (if b then k ∷ ks else (if nat_lt m k then m ∷ k ∷ ks else k ∷ put_in m ks))) [
      | true ↦ λ e. r
      | false ↦ λ e. elim (nat_lt m k) as (λ b. nat_lt m k ≡ b → Rises (if b then m ∷ k ∷ ks else k ∷ put_in m ks)) [
        | true ↦ λ f. let lt : m < k = grind (arith, nat_tests, f) in ((lt, above_more m k lt ks r.0), r)
        | false ↦ λ f. let lt : k < m = grind (arith, nat_tests, e, f) in (put_above k m lt ks r.0, put_rises m ks r.1)
      ] refl
    ] refl

among_rises : (given : List (LocalDecl × ℤ)) → Rises (roots_among given)
among_rises [] = tt
among_rises (g ∷ rest) = by g.0.ty (roots_among rest) (among_rises rest)
  where
    by : (ty : Ty) (roots : List ℕ) → Rises roots → Rises (put_root ty g.1 roots)
    by types.Int roots r = r
    by (types.Of kind) roots r = put_rises _ roots r

roots_rise : (plan : Plan) (call : Call) → Rises (roots_of plan call)
roots_rise plan call = by (op_of plan call)
  where
    by : (op : Option OpDecl) → Rises (option_map_or (λ (o : OpDecl). roots_among (zip o.params call.args)) op [])
    by None = tt
    by (Some op) = among_rises (zip op.params call.args)

above_at : (n : ℕ) (ms : List ℕ) → AreAbove n ms → (i m : ℕ) → slice_get ms i ≡ Some m → n < m
above_at n [] a i m e = absurd (no_some e)
above_at n (k ∷ ks) a zero m e = let same : k ≡ m = same_some e in omega (arith, a.0, same)
above_at n (k ∷ ks) a (suc i) m e = above_at n ks a.1 i m e

earlier_less : (ms : List ℕ) → Rises ms → (i j a b : ℕ) → i < j → slice_get ms i ≡ Some a → slice_get ms j ≡ Some b → a < b
earlier_less [] r i j a b lt p q = absurd (no_some p)
earlier_less (k ∷ ks) r zero zero a b lt p q = absurd (omega arith)
earlier_less (k ∷ ks) r zero (suc j) a b lt p q = let same : k ≡ a = same_some p in let less = above_at k ks r.0 j b q in omega (arith, less, same)
earlier_less (k ∷ ks) r (suc i) zero a b lt p q = absurd (omega arith)
earlier_less (k ∷ ks) r (suc i) (suc j) a b lt p q = earlier_less ks r.1 i j a b (omega arith) p q

module _ (plan : Plan) (core : Core) (calls : Calls) (caller : ℕ) (is : IsPlan plan) (lawful : IsLawful plan core calls) (sound : IsSound plan core calls) where
  abbrev heap : Heap
  heap = core.world.heap

  abbrev frame : Frame
  frame = frame_of core.world caller

  pub called_ticket : frame.stage ≡ stages.Called → frame.ticket ≡ 0
  called_ticket called = by (sound.each caller).stands
    where
      by : Stands plan heap calls caller frame → frame.ticket ≡ 0
      by (idles e) = ap (λ (f : Frame). f.ticket) e
      by (waits call w) = ap (λ (f : Frame). f.ticket) w.is
      by (works call e w) = elim w.stage [
        | inl f ↦ absurd (let clash : stages.Running ≡ stages.Called = sym f ∙ called in cc)
        | inr f ↦ absurd (let clash : stages.Ended f.0 ≡ stages.Called = sym f.1 ∙ called in cc)
      ]

  root_above : (number : ℕ) → frame.stage ≡ stages.Called → slice_get (roots_of plan frame.call) frame.taken ≡ Some number → (name : Name) → IsHeld heap caller name → (name.ticket ≡ 0) × (name.index < number)
  root_above number called next name held =
      let taken = lawful.who_holds.roots caller name (called_ticket called) held in
      (ap (λ (n : Name). n.ticket) taken.is, subst (λ (n : Name). n.index < number) (sym taken.is) (earlier_less (roots_of plan frame.call) (roots_rise plan frame.call) taken.at frame.taken taken.number number taken.within taken.there next))

  take_path : (from name : Name) → IsHeld heap caller from → Links heap from name → IsFree heap name → (first : ℕ) (path : Path heap (root first) name) → Passes heap caller (root first) name path
  take_path from name held link free first path = take_dominated heap lawful.free_refs caller from name free.object free.there free.free (link_hidden heap lawful.free_refs from name link) held link first path

  by_why : (d : Due) → Why plan frame d → Dominates core.world caller frame d
  by_why d why.idles = tt
  by_why d (why.reserves tidy stage few) = tt
  by_why d (why.takes_root number tidy called next) = (λ entered. omega (arith, entered, called_ticket called), root_above number called next)
  by_why d (why.enters tidy stage next) = tt
  by_why d (why.reads_code local field n at to) = local_held plan core calls caller is lawful sound (works_running plan core calls caller is lawful sound at.running) local n to
  by_why d (why.reads_first field n booked given at hand) =
      held_cleared plan core calls caller is lawful sound n booked (cleared plan core calls caller is lawful sound (works_loose plan core calls caller is lawful sound n given.rest given.first) n booked given)
  by_why d (why.writes_code local field content n at to) = local_held plan core calls caller is lawful sound (works_running plan core calls caller is lawful sound at.running) local n to
  by_why d (why.writes_first field n target value booked given at hand to may) =
      held_cleared plan core calls caller is lawful sound n booked (cleared plan core calls caller is lawful sound (works_loose plan core calls caller is lawful sound n given.rest given.first) n booked given)
  by_why d (why.takes_code n at to other) =
      let w = works_running plan core calls caller is lawful sound at.running in
      let before = hand_before plan core calls caller is lawful sound w _ at in
      let got = before.read in
      take_path got.name n (record { object = got.object; there = got.there; held = got.held })
      (field_links heap got.name n got.object before.field got.there (same_some (sym got.in_hand ∙ target_held frame.hand n to)))
  by_why d (why.takes_first field n target value booked given at hand to other) =
      let w = works_loose plan core calls caller is lawful sound n given.rest given.first in
      let c = cleared plan core calls caller is lawful sound w n booked given in
      take_path n target (held_cleared plan core calls caller is lawful sound n booked c)
      (field_links heap n target c.object field c.there (sym (cleared_hand plan core calls caller is lawful sound n booked c value field hand at) ∙ target_value value target to))
  by_why d (why.lets_go n rest first what) = (works_loose plan core calls caller is lawful sound n rest first).1
  by_why d (why.gives_up n booked given none) = (works_loose plan core calls caller is lawful sound n given.rest given.first).1
  by_why d (why.seals end entry rest tidy ended null entries) = (works_ended plan core calls caller is lawful sound end ended).1
  by_why d (why.makes kind at few) = tt
  by_why d (why.finishes end tidy stage null none) = tt

  -- each event keeps to what its caller holds
  pub events_dominate : Dominates core.world caller frame (due plan frame)
  events_dominate = by_why (due plan frame) (why.why plan frame)
