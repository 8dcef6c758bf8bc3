-- What contracts see of the passes and notes of a table with one turn.
use Rattle.std.specs.Prelude.{◌≡◌, ◌<◌, ◌≤◌, ℕ, ℤ, Bool, true, false, Option, Some, None, List, [], ◌∷◌, length, map, slice_get, vec_capacity}
use Rattle.atomic_table.specs.Seated.{TableId}
use Rattle.atomic_table.specs.Table.{Me}
use Rattle.dl_ir.specs.declared.calls.Call.{Call}
use Rattle.dl_ir.specs.CallForms.{IsCallOf}
use Rattle.dl_core.specs.Passes.{PassView, Told}
use Rattle.dl_core.specs.Plans.{Plan, IsPlan, source_of, size_of}
use Rattle.dl_core.specs.Turns.{call_of}
use Rattle.dl_coarse.specs.Sights.{Own, Sight, own_of, view_with, IsResting}
use Rattle.dl_coarse.specs.declared.passes.Coarse.{Coarse}
use Rattle.dl_coarse.specs.declared.passes.Pass.{Pass}
use Rattle.dl_coarse.specs.declared.passes.Note.{Note}

-- the call in hand, if there is one
abbrev pub hand_of : Bool → ℕ → List ℤ → Option Call
hand_of false op args = None
hand_of true op args = Some (call_of op args)

module _ {M : Type 0} (opening : M → Plan) where
  abbrev pub plan_in : Coarse M → Plan
  plan_in coarse = opening coarse.table.shared.key

  -- the call in hand is one of the module, and its pass has room for it
  pub record HasHand (plan : Plan) (pass : Pass M) : Type 0 where
    pub fits : IsCallOf (source_of plan) (call_of pass.op pass.args.items)
    pub room : length (own_of pass.seat.me.0).calls < size_of plan pass.number

  -- the pass is one of this run
  pub record IsOf (coarse : Coarse M) (pass : Pass M) : Type 0 where
    pub is_plan : IsPlan (plan_in coarse)
    pub words : coarse.table.shared.table_id.words ≡ 3
    pub slots : coarse.table.shared.table_id.slots ≡ 1
    pub table : pass.seat.table_id ≡ coarse.table.shared.table_id
    pub number : (own_of pass.seat.me.0).number ≡ pass.number
    pub from_one : 0 < pass.number
    pub resting : IsResting pass.seat.me.0
    pub slot : pass.seat.me.1 ≡ []
    pub front : pass.front ≡ pass.seat.me.0.front
    pub room : 32 ≤ vec_capacity pass.args
    pub hand : pass.busy ≡ true → HasHand (plan_in coarse) pass

  -- the note is one of this run
  pub record IsNote (coarse : Coarse M) (note : Note M) : Type 0 where
    pub table : note.seat.table_id ≡ coarse.table.shared.table_id
    pub slot : note.seat.me.1 ≡ []
    pub nobodys : note.seat.me.0.owns ≡ []
    pub no_turn : note.seat.me.0.turn ≡ None
    pub front : note.front ≡ note.seat.me.0.front

module _ {M : Type 0} where
  abbrev pub view_of : Pass M → PassView
  view_of pass = view_with (hand_of pass.busy pass.op pass.args.items) pass.seat.me.0

  abbrev pub told_of : Note M → Told
  told_of note = record { front = note.seat.me.0.front; known = note.seat.me.0.known }

  -- the own of the pass's caller
  abbrev pub own_at : Pass M → Own
  own_at pass = own_of pass.seat.me.0

  -- the seat of the pass may be joined to another of this table
  pub record CanJoin (table_id : TableId) (pass : Pass M) : Type 0 where
    pub table : pass.seat.table_id ≡ table_id
    pub slot : pass.seat.me.1 ≡ []
    pub one : pass.seat.me.0.owns ≡ own_at pass ∷ []
    pub no_turn : pass.seat.me.0.turn ≡ None

  abbrev pub CanJoinAll : TableId → List (Pass M) → Type 0
  CanJoinAll table_id passes = (at : ℕ) (pass : Pass M) → slice_get passes at ≡ Some pass → CanJoin table_id pass

  -- a seat has the own of all these passes, in order, and no turn
  pub record HasGathered (passes : List (Pass M)) (me : Me (Option M) Sight) : Type 0 where
    pub owns : me.0.owns ≡ map own_at passes
    pub no_turn : me.0.turn ≡ None
    pub slot : me.1 ≡ []
