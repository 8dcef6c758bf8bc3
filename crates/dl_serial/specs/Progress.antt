-- Where a line of calls stands.
use Rattle.std.specs.Prelude.{◌≡◌, ℕ, ◌+◌, ◌*◌, ◌<◌, ◌≤◌, ◌^◌, List, length}
use Rattle.dl_ir.specs.declared.answers.Entry.{Entry}
use Rattle.dl_ir.specs.declared.calls.Call.{Call}
use Rattle.dl_ir.specs.declared.modules.Module.{Module}
use Rattle.dl_ir.specs.Heap.{Objects, View, hidden_count}
use Rattle.dl_serial.specs.declared.serving.Line.{Line}
use Rattle.dl_serial.specs.Serving.{Serves, move_count}

-- the next call of a line may be carried out
pub record IsReady (line : Line) (heap : View) : Type 0 where
  pub ticket : 0 < line.ticket
  pub next_ticket : line.ticket + 1 < 2 ^ 64
  pub version : line.version + 2 < 2 ^ 64
  pub places : line.free + hidden_count heap.objects < 2 ^ 32

-- where a line of calls stands when so many of them are done
pub record IsAfter (source : Module) (places first : ℕ) (start : Objects) (calls : List Call) (count : ℕ) (line : Line) (heap : View) : Type 0 where
  pub serves : Serves source places first start calls count line.entries line.refusals heap.objects line.version
  pub ticket : line.ticket ≡ first + length line.entries
  pub free : line.free + hidden_count heap.objects ≡ places
  pub version : line.version ≤ 2 * count
  pub few : length line.entries ≤ count

-- what an entry changes in a line: the next ticket, the version, and the free places
pub record Passes (before after : Line) (need : ℕ) (entry : Entry) : Type 0 where
  pub entries : after.entries ≡ before.entries
  pub refusals : after.refusals ≡ before.refusals
  pub ticket : after.ticket ≡ before.ticket + 1
  pub version : after.version ≡ before.version + move_count need + move_count entry.returned
  pub free : after.free + need ≡ before.free + entry.returned
