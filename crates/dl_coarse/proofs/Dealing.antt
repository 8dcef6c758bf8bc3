-- The passes that are given out at the start.
use Rattle.std.proofs.Common.{◌≡◌, ℕ, zero, suc, ◌+◌, ◌-◌, ◌<◌, ◌≤◌, ◌⊎◌, inl, inr, ⊎_elim, true, false, List, [], ◌∷◌, ◌++◌, length, sym, refl, ap, ◌∙◌, subst, arith, vec_capacity}
use Rattle.std.specs.Prelude.{Option, Some, None, slice_get}
use Rattle.atomic_table.specs.Table.{Me}
use Rattle.dl_core.specs.Passes.{fresh_pass, first_round, no_look}
use Rattle.dl_core.specs.Plans.{Plan, IsPlan}
use Rattle.dl_core.specs.Sound.{numbers_from}
use Rattle.dl_coarse.specs.Openings.{HasYet, fresh_own}
use Rattle.dl_coarse.specs.Passes.{IsOf, hand_of, plan_in, view_of}
use Rattle.dl_coarse.specs.Sights.{Own, Sight, own_of, own_in, behind, first_alone, without_first, view_with}
use Rattle.dl_coarse.specs.declared.passes.Coarse.{Coarse}
use Rattle.dl_coarse.specs.declared.passes.Pass.{Pass}

pub one_less : (at callers : ℕ) → at < callers → callers - at ≡ suc (callers - (at + 1))
one_less at callers within = omega arith

-- one caller after the other is dealt out
pub dealt_one : {M : Type 0} (plan : Plan) (first more : ℕ) (before after : Me (Option M) Sight) → HasYet plan (numbers_from first (suc more)) before → after ≡ (without_first before.0, before.1) → HasYet plan (numbers_from (first + 1) more) after
dealt_one plan first more before after has is = record {
  owns = ap (λ me. me.0.owns) is ∙ ap behind has.owns;
  no_turn = ap (λ me. me.0.turn) is ∙ has.no_turn;
  front = ap (λ me. me.0.front) is ∙ has.front;
  known = ap (λ me. me.0.known) is ∙ has.known;
  slot = ap (λ me. me.1) is ∙ has.slot;
}

-- an element of a list with one more behind it
in_longer : {A : Type 0} (xs : List A) (last x : A) (at : ℕ) → slice_get (xs ++ last ∷ []) at ≡ Some x → (slice_get xs at ≡ Some x) ⊎ ((at ≡ length xs) × (last ≡ x))
in_longer [] last x zero there = inr (refl, cc there)
in_longer [] last x (suc at) there = absurd (cc there)
in_longer (y ∷ xs) last x zero there = inl there
in_longer (y ∷ xs) last x (suc at) there = ⊎_elim (λ a. inl a) (λ b. inr (ap suc b.0, b.1)) (in_longer xs last x at there)

module _ {M : Type 0} (opening : M → Plan) (coarse : Coarse M) where
  abbrev plan : Plan
  plan = plan_in opening coarse

  -- a pass that is as fresh as the run
  abbrev pub IsFresh : ℕ → Pass M → Type 0
  IsFresh at pass = IsOf opening coarse pass × (view_of pass ≡ fresh_pass plan (at + 1))

  pub is_fresh : IsPlan plan → (coarse.table.shared.table_id.words ≡ 3) × (coarse.table.shared.table_id.slots ≡ 1) → (at more : ℕ) (before : Me (Option M) Sight) → HasYet plan (numbers_from (at + 1) (suc more)) before
      → (pass : Pass M) → pass.seat.table_id ≡ coarse.table.shared.table_id → pass.seat.me ≡ (first_alone before.0, []) → pass.number ≡ at + 1 → pass.busy ≡ false → pass.front ≡ before.0.front → 32 ≤ vec_capacity pass.args
      → IsFresh at pass
  is_fresh is counts at more before has pass table me number busy front room =
      let own : own_of before.0 ≡ fresh_own (at + 1) = ap own_in has.owns in
      let sight : pass.seat.me.0 ≡ first_alone before.0 = ap (λ me. me.0) me in
      let is_own : own_of pass.seat.me.0 ≡ fresh_own (at + 1) = ap own_of sight ∙ own in (
        record {
          is_plan = is;
          words = counts.0;
          slots = counts.1;
          table = table;
          number = ap (λ (o : Own). o.number) is_own ∙ sym number;
          from_one = omega arith;
          resting = record {
            one = ap (λ (u : Sight). u.owns) sight ∙ ap (λ (o : Own). o ∷ []) (sym (ap own_of sight));
            no_turn = ap (λ (u : Sight). u.turn) sight;
            idle = ap (λ (o : Own). o.frame.stage) is_own;
            index = ap (λ (o : Own). o.frame.index) is_own ∙ sym (ap (λ (o : Own). length o.calls) is_own);
            unreserved = ap (λ (o : Own). o.account.reserved_at) is_own;
          };
          slot = ap (λ me. me.1) me;
          front = front ∙ sym (ap (λ (u : Sight). u.front) sight);
          room = room;
          hand = λ yes. absurd (no_hand (sym busy ∙ yes));
        },
        seen busy ∙ ap (view_with None) sight
            ∙ ap
            (λ (o : Own). record {
              caller = o.number;
              calls = o.calls;
              frame = o.frame;
              account = o.account;
              front = before.0.front;
              known = before.0.known;
              look = no_look;
              places = [];
              round = first_round;
            }) own
            ∙ ap (λ (front : ℕ). record (fresh_pass plan (at + 1)) { front = front; known = before.0.known }) has.front ∙ ap (λ (known : ℕ). record (fresh_pass plan (at + 1)) { known = known }) has.known,
      )
    where
      no_hand : false ≡ true → ⊥
      no_hand same = cc same

      seen : pass.busy ≡ false → view_of pass ≡ view_with None pass.seat.me.0
      seen not_busy = ap (λ busy. view_with (hand_of busy pass.op pass.args.items) pass.seat.me.0) not_busy

  -- one pass more
  pub fresh_more : (passes : List (Pass M)) (last : Pass M) (at : ℕ) → length passes ≡ at → ((k : ℕ) (pass : Pass M) → slice_get passes k ≡ Some pass → IsFresh k pass) → IsFresh at last
      → (k : ℕ) (pass : Pass M) → slice_get (passes ++ last ∷ []) k ≡ Some pass → IsFresh k pass
  fresh_more passes last at many each is k pass there =
      ⊎_elim (λ old. each k pass old) (λ new. subst (λ (p : Pass M). IsFresh k p) new.1 (subst (λ (n : ℕ). IsFresh n last) (sym (new.0 ∙ many)) is)) (in_longer passes last pass k there)
