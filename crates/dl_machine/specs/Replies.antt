-- What a call leaves of what its pass was.
use Rattle.std.specs.Prelude.{◌≡◌, ◌+◌, ◌<◌, ◌≤◌, ℕ, [], ◌∷◌, ◌++◌, length}
use Rattle.dl_ir.specs.declared.answers.Entry.{Entry}
use Rattle.dl_ir.specs.declared.calls.Call.{Call}
use Rattle.dl_core.specs.Passes.{PassView, entries_in, refusals_in, IsIdle, IsBusy}
use Rattle.dl_machine.specs.declared.replies.Reply.{Reply}
use Rattle.dl_machine.specs.declared.replies.Reply.TheVariants.{Answered, NoRoom}

-- the same caller's pass, with this call begun and over
pub record HasRun (call : Call) (before after : PassView) : Type 0 where
  pub caller : after.caller ≡ before.caller
  pub calls : after.calls ≡ before.calls ++ call ∷ []
  pub idle : IsIdle after
  pub front : before.front ≤ after.front
  pub known : before.known ≤ after.known

-- the operation was carried out: one entry is added, with a ticket above those known before
pub record IsAnswered (call : Call) (before : PassView) (entry : Entry) (after : PassView) : Type 0 where
  pub has_run : HasRun call before after
  pub entries : entries_in after ≡ entries_in before ++ entry ∷ []
  pub refusals : refusals_in after ≡ refusals_in before
  pub caller : entry.caller ≡ before.caller
  pub index : entry.index ≡ length before.calls + 1
  pub drawn : before.front < entry.ticket
  pub front : entry.ticket ≤ after.front
  pub reserved : 0 < entry.reserved_at → before.known < entry.reserved_at
  pub returned : 0 < entry.returned_at → before.known < entry.returned_at
  pub reserved_known : entry.reserved_at ≤ after.known
  pub returned_known : entry.returned_at ≤ after.known

-- the operation was refused: one refusal is added, at a version not below those known before
pub record IsRefused (call : Call) (before : PassView) (need found version : ℕ) (after : PassView) : Type 0 where
  pub has_run : HasRun call before after
  pub entries : entries_in after ≡ entries_in before
  pub refusals : refusals_in after ≡ refusals_in before ++ record { caller = before.caller; index = length before.calls + 1; need = need; found = found; version = version } ∷ []
  pub short : found < need
  pub not_before : before.known ≤ version
  pub known : version ≤ after.known

abbrev pub Replies : Call → PassView → Reply → PassView → Type 0
Replies call before (Answered entry) after = IsAnswered call before entry after
Replies call before (NoRoom need found version) after = IsRefused call before need found version after

-- a number that was not there before is above what was known before, and is known
abbrev pub IsNewer : ℕ → ℕ → ℕ → Type 0
IsNewer before number after = 0 < number → (before < number) × (number ≤ after)

-- the call is in hand, and what was finished or refused before is as it was
pub record IsInHand (call : Call) (before now : PassView) : Type 0 where
  pub caller : now.caller ≡ before.caller
  pub calls : now.calls ≡ before.calls ++ call ∷ []
  pub busy : IsBusy now
  pub entries : entries_in now ≡ entries_in before
  pub refusals : refusals_in now ≡ refusals_in before
  pub front : before.front ≤ now.front
  pub known : before.known ≤ now.known
  pub ticket : IsNewer before.front now.frame.ticket now.front
  pub reserved : IsNewer before.known now.account.reserved_at now.known
