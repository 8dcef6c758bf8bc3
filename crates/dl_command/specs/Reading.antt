-- How reading a file ends.
use Rattle.std.specs.Prelude.{◌≡◌, ◌+◌, ◌<◌, ◌≤◌, ℕ, Some, List, length, IfSome, Contains}
use Rattle.dl_io.specs.Faults.{Rose}
use Rattle.dl_io.specs.Source.{Source, SameFiles}
use Rattle.dl_command.specs.Words.{limit_of}
use Rattle.dl_command.specs.declared.reading.Stop.{Stop}
use Rattle.dl_command.specs.declared.reading.Stop.TheVariants as stops
use Rattle.dl_command.specs.declared.status.Status.{Status}
use Rattle.dl_command.specs.declared.status.Status.TheVariants as statuses

-- reading the file at this path failed in this call, and the path is not sound
pub record Fails (file : ℕ) (path : List ℕ) (old new : Source) : Type 0 where
  pub rose : Rose old.faults new.faults
  pub file_failed : new.failed_last ≡ Some file
  pub not_sound : Contains old.sound_paths path → ⊥

-- one byte more than the limit was taken of this file, and where they are told, more stand at its path
pub record IsTooLong (file : ℕ) (path : List ℕ) (limit : ℕ) (old new : Source) : Type 0 where
  pub attached : new.attached ≡ Some file
  pub taken : limit < new.given
  pub at_most : new.given ≤ limit + 1
  pub long : IfSome (old.bytes_at path) (λ bytes. limit < length bytes)

-- why reading a file stopped
abbrev pub StopCause : Stop → ℕ → List ℕ → ℕ → Source → Source → Type 0
StopCause stops.Failed file path limit old new = Fails file path old new
StopCause stops.TooLong file path limit old new = IsTooLong file path limit old new
StopCause stops.Memory file path limit old new = Unit {0}

-- what holds however reading ends
pub record AfterReading (old new : Source) : Type 0 where
  pub same : SameFiles old new
  pub later : old.faults ≤ new.faults

-- no more than the limit's bytes were taken of the file attached last
abbrev pub IsWithin : Source → Type 0
IsWithin source = (file : ℕ) → source.attached ≡ Some file → source.given ≤ limit_of file

-- memory ran out before a file was attached
abbrev pub IsUnread : Source → Source → Status → Type 0
IsUnread old new status = (status ≡ statuses.Memory) × (new ≡ old)

-- why a file was not read, as a status
abbrev pub ReadCause : Status → ℕ → List ℕ → Source → Source → Type 0
ReadCause (statuses.ReadFault f) file path old new = (f ≡ file) × Fails file path old new × IsWithin new
ReadCause (statuses.TooLong f) file path old new = (f ≡ file) × IsTooLong file path (limit_of file) old new
ReadCause statuses.Memory file path old new = IsWithin new
ReadCause statuses.Done file path old new = ⊥
ReadCause statuses.Usage file path old new = ⊥
ReadCause (statuses.ModuleFault line why) file path old new = ⊥
ReadCause (statuses.OpsFault f line why) file path old new = ⊥
ReadCause statuses.WriteFault file path old new = ⊥
ReadCause (statuses.HeapFault line why) file path old new = ⊥
