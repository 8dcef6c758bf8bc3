-- The machine is in the slot when the table is closed by a seat that has everything.
use Rattle.std.proofs.Common.{◌≡◌, ◌≢◌, ℕ, suc, ◌-◌, List, [], ◌∷◌, length, get_or, sym, refl, ap, ◌∙◌, subst, arith, map, add-one}
use Rattle.std.specs.Prelude.{Option, Some, None, slice_get}
use mathlib.Core.Option.{some, some-injective}
use mathlib.Core.Logic.{dite}
use native.Mathlib.Decide.{ℕ_discrete}
use lib.ListN.{get_elem?}
use Rattle.atomic_table.specs.Table.{State, Final, Seen}
use Rattle.dl_ir.specs.declared.calls.Call.{Call}
use Rattle.dl_core.specs.declared.stages.Stage.TheVariants as stages
use Rattle.dl_core.specs.Core.{Core, frame_of, account_of}
use Rattle.dl_core.specs.Plans.{Plan}
use Rattle.dl_core.specs.Reached.{Calls, calls_of, IsReached}
use Rattle.dl_coarse.specs.Sights.{Own, Sight}
use Rattle.dl_coarse.specs.Turn.{IsTurn, HasOwn}
use Rattle.dl_coarse.specs.Ends.{HasAll, ShowsAll, calls_in}
use Rattle.dl_coarse.proofs.Keeps.{no_turn}
use Rattle.dl_lemmas.proofs.Places.{contains_at, one_at}

same_lists : (calls : Calls) (owns : List Own) → length calls ≡ length owns → ((at : ℕ) (own : Own) → slice_get owns at ≡ Some own → get_or calls at [] ≡ own.calls) → calls ≡ map (λ (own : Own). own.calls) owns
same_lists [] [] many each = refl
same_lists [] (own ∷ owns) many each = absurd (omega arith)
same_lists (c ∷ calls) [] many each = absurd (omega arith)
same_lists (c ∷ calls) (own ∷ owns) many each =
    ap (λ (first : List Call). first ∷ calls) (each 0 own refl) ∙ ap (λ (rest : Calls). own.calls ∷ rest) (same_lists calls owns (omega arith) (λ at other there. each (suc at) other there))

module _ {M : Type 0} (runs : Plan → M → Type 0) (core_of : M → Core) (plan : Plan) where
  -- the slot has the machine, and it shows what the seat has
  pub ends_with : (id : ℕ) (v : Sight) (words : List ℕ) (slots : List (Option M)) → v.turn ≡ None → HasAll plan v → Final (Seen (IsTurn runs core_of plan) id v) words slots
      → (machine : M) × (get_elem? slots 0 ≡ some (Some machine)) × runs plan machine × ShowsAll plan v (core_of machine)
  ends_with id v words slots out all final =
      let s : State (Option M) Sight = final.0 in
      let h : IsTurn runs core_of plan s = final.1.0 in
      let at_id : get_elem? s.views id ≡ some v = final.1.1 in
      let none_out : get_or s.words 0 0 ≢ 0 → ⊥ = (λ taken.
      let other = h.out taken in
      let has = h.turns other.seat other.sight other.turn other.there other.has in
      let theirs = h.owns other.seat other.sight has.own other.there has.mine in
      let from_one = theirs.is_caller.from_one in
      let to_last = theirs.is_caller.to_last in
      let many = all.many in
      let mine = one_at v.owns (has.own.number - 1) (omega arith) in
      let ours = h.owns id v mine.0 at_id (contains_at v.owns (has.own.number - 1) mine.0 mine.1) in
      let numbered = all.numbered (has.own.number - 1) mine.0 mine.1 in
      let number : mine.0.number ≡ has.own.number = omega arith in
      let same_seat : other.seat ≡ id = sym theirs.at_seat ∙ ap h.owner (sym number) ∙ ours.at_seat in
      let same_sight : other.sight ≡ v = some-injective other.sight v (sym other.there ∙ ap (get_elem? s.views) same_seat ∙ at_id) in
      no_turn (sym out ∙ ap (λ (u : Sight). u.turn) (sym same_sight) ∙ other.has)) in
      let free : get_or s.words 0 0 ≡ 0 = dite (ℕ_discrete (get_or s.words 0 0) 0) (λ is. is) (λ taken. absurd (none_out taken)) in
      let home = h.free free in
      let own_at : (at : ℕ) (own : Own) → slice_get v.owns at ≡ Some own → HasOwn plan h.core h.calls h.owner id own = λ at own there. h.owns id v own at_id (contains_at v.owns at own there) in
      let calls : h.calls ≡ calls_in v = same_lists h.calls v.owns (h.lists ∙ sym all.many) (λ at own there.
      let number : own.number ≡ suc at = all.numbered at own there ∙ add-one at in
      sym (ap (calls_of h.calls) number) ∙ (own_at at own there).begun) in (
        home.machine,
        final.4 0 (Some home.machine) home.home,
        home.of_run,
        record {
          reached = subst (λ (c : Core). IsReached plan c (calls_in v)) (sym home.same_core) (subst (IsReached plan h.core) calls h.reached);
          frames = λ at own there. ap (λ (c : Core). frame_of c.world own.number) home.same_core ∙ (own_at at own there).frame;
          accounts = λ at own there. ap (λ (c : Core). account_of c own.number) home.same_core ∙ (own_at at own there).account;
          idle = subst (λ (c : Core). (caller : ℕ) → (frame_of c.world caller).stage ≡ stages.Idle) (sym home.same_core) h.idle;
        },
      )

  -- what was taken out of the slot is that machine
  pub of_taken : (id : ℕ) (v : Sight) (words : List ℕ) (slots : List (Option M)) (machine : M) → v.turn ≡ None → HasAll plan v → Final (Seen (IsTurn runs core_of plan) id v) words slots
      → get_elem? slots 0 ≡ some (Some machine) → runs plan machine × ShowsAll plan v (core_of machine)
  of_taken id v words slots machine out all final there =
      let ending = ends_with id v words slots out all final in
      let same : ending.0 ≡ machine = same_machine (some-injective (Some ending.0) (Some machine) (sym ending.1 ∙ there)) in
      subst (λ (m : M). runs plan m × ShowsAll plan v (core_of m)) same (ending.2, ending.3)
    where
      same_machine : {a b : M} → Some a ≡ Some b → a ≡ b
      same_machine same = cc same

  pub none_taken : (id : ℕ) (v : Sight) (words : List ℕ) (slots : List (Option M)) → v.turn ≡ None → HasAll plan v → Final (Seen (IsTurn runs core_of plan) id v) words slots
      → get_elem? slots 0 ≡ some None → ⊥
  none_taken id v words slots out all final there =
      let ending = ends_with id v words slots out all final in
      no_machine (some-injective (Some ending.0) None (sym ending.1 ∙ there))
    where
      no_machine : {a : M} → Some a ≡ None → ⊥
      no_machine same = cc same
