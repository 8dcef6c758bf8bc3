use Rattle.std.proofs.Common.{◌≡◌, ◌+◌, ◌<◌, ◌≤◌, ℕ, MatchBool, length}
use Rattle.dl_live.specs.Marks.{AllLive, IsSettled, unmarked}
use Rattle.dl_live.proofs.live.sweep.Given as goal

abbrev pub invariant-loop-d : goal.invariant-loop-d
invariant-loop-d l = record {
  same : length l.marks ≡ length l.initial.marks;
  sound : AllLive l.steps l.local l.marks;
  more : MatchBool l.is_changed (unmarked l.marks < unmarked l.initial.marks)
      ((l.marks ≡ l.initial.marks) × ((at : ℕ) → l.count ≤ at + l.d → at < l.count → IsSettled l.steps l.local l.marks at));
}
