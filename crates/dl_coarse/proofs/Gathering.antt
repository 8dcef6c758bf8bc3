-- What is left when the seats of all passes are joined.
use Rattle.std.proofs.Common.{◌≡◌, ◌≢◌, ℕ, zero, suc, ◌+◌, Bool, List, [], ◌∷◌, ◌++◌, length, sym, refl, ap, ◌∙◌, subst, arith, map, ℤ}
use Rattle.std.proofs.lemmas.List.{length-map}
use Rattle.std.specs.Prelude.{Option, Some, None, true, false, slice_get}
use Rattle.std.specs.List.{zip}
use Rattle.atomic_table.specs.Seated.{TableId}
use Rattle.atomic_table.specs.Table.{Me}
use Rattle.dl_ir.specs.declared.closed.Closed.{Closed}
use Rattle.dl_core.specs.declared.stages.Stage.TheVariants as stages
use Rattle.dl_core.specs.Closing.{AreIdle, EndsOn, begun_on}
use Rattle.dl_core.specs.Core.{Account, Core, frame_of, account_of, entry_of, entries_of, refusals_of}
use Rattle.dl_core.specs.Frames.{Frame}
use Rattle.dl_core.specs.Passes.{PassView, IsIdle, entries_in, refusals_in}
use Rattle.dl_core.specs.Plans.{Plan}
use Rattle.dl_core.specs.Reached.{IsReached}
use Rattle.dl_core.specs.Sound.{callers_of, numbers_from}
use Rattle.dl_coarse.specs.Ends.{HasAll, IsLeft, ShowsAll, calls_in}
use Rattle.dl_coarse.specs.Passes.{IsOf, CanJoin, CanJoinAll, HasGathered, hand_of, own_at, plan_in, view_of}
use Rattle.dl_coarse.specs.Sights.{Own, Sight, view_with}
use Rattle.dl_coarse.specs.declared.passes.Coarse.{Coarse}
use Rattle.dl_coarse.specs.declared.passes.Pass.{Pass}
use Rattle.dl_lemmas.proofs.Places.{in_map}

-- two lists made of the numbers of callers and of their passes are equal
by_caller : {A X : Type 0} (of_caller : ℕ → X) (of_pass : A → X) (first : ℕ) (passes : List A) → ((at : ℕ) (pass : A) → slice_get passes at ≡ Some pass → of_caller (first + at) ≡ of_pass pass)
    → map of_caller (numbers_from first (length passes)) ≡ map of_pass passes
by_caller of_caller of_pass first [] each = refl
by_caller of_caller of_pass first (pass ∷ passes) each =
    ap (λ x. x ∷ map of_caller (numbers_from (first + 1) (length passes))) (ap of_caller (omega arith) ∙ each 0 pass refl)
    ∙ ap (λ rest. of_pass pass ∷ rest) (by_caller of_caller of_pass (first + 1) passes (λ at other there. ap of_caller (omega arith) ∙ each (suc at) other there))

-- all but the last of passes that can be joined, and the last
pub before_last : {M : Type 0} (id : TableId) (items init : List (Pass M)) (last : Pass M) → items ≡ init ++ last ∷ [] → CanJoinAll id items → CanJoinAll id init × CanJoin id last
before_last {M} id items init last same all =
    let each : CanJoinAll id (init ++ last ∷ []) = subst (CanJoinAll id) same all in
    ((λ at pass there. each at pass (within init at pass there)), each (length init) last (behind init))
  where
    within : (xs : List (Pass M)) (at : ℕ) (pass : Pass M) → slice_get xs at ≡ Some pass → slice_get (xs ++ last ∷ []) at ≡ Some pass
    within [] at pass there = absurd (cc there)
    within (x ∷ xs) zero pass there = there
    within (x ∷ xs) (suc at) pass there = within xs at pass there

    behind : (xs : List (Pass M)) → slice_get (xs ++ last ∷ []) (length xs) ≡ Some last
    behind [] = refl
    behind (x ∷ xs) = behind xs

-- what was joined, and is still to be joined, stays the same
pub owns_before : {M : Type 0} (items init : List (Pass M)) (last : Pass M) (owns after all : List Own) → items ≡ init ++ last ∷ [] → last.seat.me.0.owns ≡ own_at last ∷ [] → after ≡ last.seat.me.0.owns ++ owns
    → map own_at items ++ owns ≡ all → map own_at init ++ after ≡ all
owns_before {M} items init last owns after all same one joined kept =
    ap (λ more. map own_at init ++ more) (joined ∙ ap (λ first. first ++ owns) one) ∙ moved init ∙ ap (λ passes. map own_at passes ++ owns) (sym same) ∙ kept
  where
    moved : (xs : List (Pass M)) → map own_at xs ++ own_at last ∷ owns ≡ map own_at (xs ++ last ∷ []) ++ owns
    moved [] = refl
    moved (x ∷ xs) = ap (λ rest. own_at x ∷ rest) (moved xs)

is_called : stages.Called ≢ stages.Idle
is_called same = cc same

-- an idle pass has no call in hand
idle_hand : (busy : Bool) (op : ℕ) (args : List ℤ) (sight : Sight) → IsIdle (view_with (hand_of busy op args) sight) → view_with (hand_of busy op args) sight ≡ view_with None sight
idle_hand false op args sight idle = refl
idle_hand true op args sight idle = absurd (is_called idle.stage)

module _ {M : Type 0} (opening : M → Plan) (coarse : Coarse M) (passes : List (Pass M)) (idle : AreIdle (plan_in opening coarse) (IsOf opening coarse) view_of passes) where
  abbrev plan : Plan
  plan = plan_in opening coarse

  pub can_join : CanJoinAll coarse.table.shared.table_id passes
  can_join at pass there =
      let is = (idle.each at pass there).0 in
      record { table = is.table; slot = is.slot; one = is.resting.one; no_turn = is.resting.no_turn }

  -- what contracts see of an idle pass is what its seat has
  view_is : (at : ℕ) (pass : Pass M) → slice_get passes at ≡ Some pass → view_of pass ≡ view_with None pass.seat.me.0
  view_is at pass there = idle_hand pass.busy pass.op pass.args.items pass.seat.me.0 (idle.each at pass there).1

  number_is : (at : ℕ) (pass : Pass M) → slice_get passes at ≡ Some pass → (own_at pass).number ≡ at + 1
  number_is at pass there = ap (λ (view : PassView). view.caller) (sym (view_is at pass there)) ∙ (idle.each at pass there).2

  module _ (me : Me (Option M) Sight) (gathered : HasGathered passes me) where
    pub has_all : HasAll plan me.0
    has_all = record {
      many = ap length gathered.owns ∙ length-map passes own_at ∙ idle.count;
      numbered = λ at own there.
          let from = in_map own_at passes at own (subst (λ (owns : List Own). slice_get owns at ≡ Some own) gathered.owns there) in
          ap (λ (o : Own). o.number) (sym from.2) ∙ number_is at from.0 from.1;
    }

    module _ (core : Core) (shows : ShowsAll plan me.0 core) where
      in_owns : (at : ℕ) (pass : Pass M) → slice_get passes at ≡ Some pass → slice_get me.0.owns at ≡ Some (own_at pass)
      in_owns at pass there = subst (λ (owns : List Own). slice_get owns at ≡ Some (own_at pass)) (sym gathered.owns) (mapped_at passes at pass there)
        where
          mapped_at : (ps : List (Pass M)) (at : ℕ) (pass : Pass M) → slice_get ps at ≡ Some pass → slice_get (map own_at ps) at ≡ Some (own_at pass)
          mapped_at [] at pass there = absurd (cc there)
          mapped_at (p ∷ ps) zero pass there = ap (λ (o : Option (Pass M)). option_own o) there
            where
              option_own : Option (Pass M) → Option Own
              option_own None = None
              option_own (Some pass) = Some (own_at pass)
          mapped_at (p ∷ ps) (suc at) pass there = mapped_at ps at pass there

      frame_is : (at : ℕ) (pass : Pass M) → slice_get passes at ≡ Some pass → frame_of core.world (own_at pass).number ≡ (own_at pass).frame
      frame_is at pass there = shows.frames at (own_at pass) (in_owns at pass there)

      account_is : (at : ℕ) (pass : Pass M) → slice_get passes at ≡ Some pass → account_of core (own_at pass).number ≡ (own_at pass).account
      account_is at pass there = shows.accounts at (own_at pass) (in_owns at pass there)

      caller_is : (at : ℕ) (pass : Pass M) → slice_get passes at ≡ Some pass → 1 + at ≡ (own_at pass).number
      caller_is at pass there = let number = number_is at pass there in omega arith

      entries_at : (at : ℕ) (pass : Pass M) → slice_get passes at ≡ Some pass → entries_of core (1 + at) ≡ entries_in (view_of pass)
      entries_at at pass there =
          ap (entries_of core) (caller_is at pass there)
          ∙ ap (λ (f : Frame). map (entry_of (own_at pass).number) (zip f.finished (account_of core (own_at pass).number).versions)) (frame_is at pass there)
          ∙ ap (λ (a : Account). map (entry_of (own_at pass).number) (zip (own_at pass).frame.finished a.versions)) (account_is at pass there)
          ∙ ap entries_in (sym (view_is at pass there))

      refusals_at : (at : ℕ) (pass : Pass M) → slice_get passes at ≡ Some pass → refusals_of core (1 + at) ≡ refusals_in (view_of pass)
      refusals_at at pass there =
          ap (refusals_of core) (caller_is at pass there) ∙ ap (λ (a : Account). a.refusals) (account_is at pass there) ∙ ap refusals_in (sym (view_is at pass there))

      same_callers : {X : Type 0} (of_caller : ℕ → X) (of_view : PassView → X) → ((at : ℕ) (pass : Pass M) → slice_get passes at ≡ Some pass → of_caller (1 + at) ≡ of_view (view_of pass))
          → map of_caller (callers_of plan) ≡ map of_view (map view_of passes)
      same_callers of_caller of_view each =
          ap (λ (count : ℕ). map of_caller (numbers_from 1 count)) (sym idle.count) ∙ by_caller of_caller (λ pass. of_view (view_of pass)) 1 passes each ∙ sym (twice of_view view_of passes)
        where
          twice : {A B C : Type 0} (g : B → C) (f : A → B) (xs : List A) → map g (map f xs) ≡ map (λ x. g (f x)) xs
          twice g f [] = refl
          twice g f (x ∷ xs) = ap (λ rest. g (f x) ∷ rest) (twice g f xs)

      calls_are : calls_in me.0 ≡ begun_on (map view_of passes)
      calls_are = ap (map (λ (own : Own). own.calls)) gathered.owns ∙ calls_from passes (λ at pass there. ap (λ (view : PassView). view.calls) (sym (view_is at pass there)))
        where
          calls_from : (ps : List (Pass M)) → ((at : ℕ) (pass : Pass M) → slice_get ps at ≡ Some pass → (own_at pass).calls ≡ (view_of pass).calls) → map (λ (own : Own). own.calls) (map own_at ps) ≡ begun_on (map view_of ps)
          calls_from [] each = refl
          calls_from (p ∷ ps) each =
              ap (λ first. first ∷ map (λ (own : Own). own.calls) (map own_at ps)) (each 0 p refl) ∙ ap (λ rest. (view_of p).calls ∷ rest) (calls_from ps (λ at pass there. each (suc at) pass there))

      pub ends_on : (closed : Closed) → IsLeft plan core closed → EndsOn plan (map view_of passes) closed
      ends_on closed left = record {
        entries = left.entries ∙ same_callers (entries_of core) entries_in entries_at;
        refusals = left.refusals ∙ same_callers (refusals_of core) refusals_in refusals_at;
        core = core;
        reached = subst (IsReached plan core) calls_are shows.reached;
        frames = λ at view there.
            let from = in_map view_of passes at view there in
            let same = sym (view_is at from.0 from.1) ∙ from.2 in
            subst (λ (v : PassView). frame_of core.world v.caller ≡ v.frame) same (frame_is at from.0 from.1);
        accounts = λ at view there.
            let from = in_map view_of passes at view there in
            let same = sym (view_is at from.0 from.1) ∙ from.2 in
            subst (λ (v : PassView). account_of core v.caller ≡ v.account) same (account_is at from.0 from.1);
        heap = left.heap;
        free = left.free;
      }
