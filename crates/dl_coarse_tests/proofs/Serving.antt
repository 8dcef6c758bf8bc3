-- How passes come to be ready for calls, and what holds when they have carried them out.
use Rattle.std.proofs.Common.{◌≡◌, ℕ, ◌+◌, ◌<◌, ◌≤◌, List, [], ◌∷◌, ◌++◌, length, length-append, get_or, refl, sym, ap, subst, ◌∙◌, arith}
use Rattle.std.specs.Prelude.{All, max}
use Rattle.std.proofs.Math.Nat.{le-max_left, le-max_right}
use Rattle.std.proofs.lemmas.List.Elements.{All-push, All-weaker}
use Rattle.dl_ir.specs.declared.answers.Entry.{Entry}
use Rattle.dl_ir.specs.declared.calls.Call.{Call}
use Rattle.dl_ir.specs.CallForms.{IsCallOf}
use Rattle.dl_core.specs.Advances.{IsDone}
use Rattle.dl_core.specs.Passes.{Manner, PassView, Told, IsIdle, MayTake, begun_by, learnt_by, told_by}
use Rattle.dl_core.specs.Plans.{Plan, source_of, size_of}
use Rattle.dl_coarse_tests.specs.Meetings.{IsRested, IsReadyFor, IsServed, HasServed}

-- a call that is done was put into the hand of an idle pass, which kept no ticket with it
pub is_served : (manner : Manner) (plan : Plan) (call : Call) (before after : PassView) (entry : Entry) → IsDone manner plan (begun_by call before) entry after → IsServed before call entry after
is_served manner plan call before after entry done =
    let drawn : before.front < entry.ticket = done.ticket.drawn_now refl in
    let up = le-max_left before.front entry.ticket in
    let front : after.front ≡ entry.ticket = done.front ∙ greater before.front entry.ticket drawn in
    record {
      rested = record { caller = done.same.caller; idle = done.idle; front = omega arith };
      calls = done.same.calls;
      drawn = drawn;
      front = front;
    }
  where
    greater : (a b : ℕ) → a < b → max a b ≡ b
    greater a b less = omega arith

pub nothing_served : (view : PassView) (entries : List Entry) → entries ≡ [] → IsIdle view → HasServed view entries view
nothing_served view entries none idle = subst (λ entries. HasServed view entries view) (sym none) (record {
  rested = record { caller = refl; idle = idle; front = omega arith };
  drawn = λ k d within. absurd (omega arith);
  kept = λ k d within. absurd (omega arith);
})

module _ (before mid after : PassView) (entries : List Entry) (call : Call) (entry : Entry) (served : HasServed before entries mid) (one : IsServed mid call entry after) where
  -- one call more
  pub served_more : HasServed before (entries ++ entry ∷ []) after
  served_more =
      let up = served.rested.front in
      let drawn = one.drawn in
      let front = one.front in
      record {
        rested = record { caller = one.rested.caller ∙ served.rested.caller; idle = one.rested.idle; front = omega arith };
        drawn = All-push (λ (e : Entry). before.front < e.ticket) entries entry served.drawn (omega arith);
        kept = All-push (λ (e : Entry). e.ticket ≤ after.front) entries entry
            (All-weaker (λ (e : Entry). e.ticket ≤ mid.front) (λ (e : Entry). e.ticket ≤ after.front) (λ e within. omega arith) entries served.kept) (omega arith);
      }

  pub one_more : (many at : ℕ) → length mid.calls ≡ many + at → length after.calls ≡ many + (at + 1)
  one_more many at so_many = ap (λ (calls : List Call). length calls) one.calls ∙ length-append mid.calls (call ∷ []) ∙ (omega arith)

-- the next of the calls for which a pass was ready
pub may_take : (plan : Plan) (calls : List Call) (before mid : PassView) (at : ℕ) (call : Call) → IsReadyFor plan calls before → IsRested before mid → length mid.calls ≡ length before.calls + at
    → at < length calls → call ≡ get_or calls at call → MayTake plan mid call
may_take plan calls before mid at call ready rested so_many within same =
    let room = ready.room in record {
      idle = rested.idle;
      room = subst (λ caller. length mid.calls < size_of plan caller) (sym rested.caller) (omega arith);
      fits = subst (IsCallOf (source_of plan)) (sym same) (ready.fits at call within);
    }

-- what a pass learns leaves it ready
pub ready_learnt : (plan : Plan) (calls : List Call) (before after : PassView) (told : Told) → after ≡ learnt_by told before → IsReadyFor plan calls before → IsReadyFor plan calls after
ready_learnt plan calls before after told learnt ready = subst (IsReadyFor plan calls) (sym learnt) (record {
  idle = record { stage = ready.idle.stage; unreserved = ready.idle.unreserved };
  room = ready.room;
  fits = ready.fits;
})

pub rested_learnt : (before mid after : PassView) (told : Told) → after ≡ learnt_by told mid → IsRested before mid → IsRested before after
rested_learnt before mid after told learnt rested =
    let up = le-max_left mid.front told.front in
    let was = rested.front in
    subst (IsRested before) (sym learnt) (record {
      caller = rested.caller;
      idle = record { stage = rested.idle.stage; unreserved = rested.idle.unreserved };
      front = omega arith;
    })

pub rested_on : (before mid after : PassView) → IsRested before mid → IsRested mid after → IsRested before after
rested_on before mid after one other =
    let up = one.front in
    let further = other.front in
    record { caller = other.caller ∙ one.caller; idle = other.idle; front = omega arith }

pub rested_self : (view : PassView) → IsIdle view → IsRested view view
rested_self view idle = record { caller = refl; idle = idle; front = omega arith }

-- tickets above the front of a pass that has learnt are above what it was told
pub above_told : (teller before after : PassView) (entries : List Entry) (told : ℕ) → after ≡ learnt_by (told_by teller) before → told ≡ teller.front
    → All (λ (entry : Entry). after.front < entry.ticket) entries → All (λ (entry : Entry). told < entry.ticket) entries
above_told teller before after entries told learnt same drawn =
    let up = le-max_right before.front teller.front in
    let now : after.front ≡ max before.front teller.front = ap (λ (view : PassView). view.front) learnt in
    All-weaker (λ (entry : Entry). after.front < entry.ticket) (λ (entry : Entry). told < entry.ticket) (λ entry within. omega arith) entries drawn

pub up_to : (front told : ℕ) (entries : List Entry) → told ≡ front → All (λ (entry : Entry). entry.ticket ≤ front) entries → All (λ (entry : Entry). entry.ticket ≤ told) entries
up_to front told entries same kept = subst (λ most. All (λ (entry : Entry). entry.ticket ≤ most) entries) (sym same) kept
