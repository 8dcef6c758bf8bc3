-- The entries and refusals that the program keeps with a frame, and what they are to the frame and to the pool.
use Rattle.std.specs.Prelude.{map}
use Rattle.dl_ir.specs.declared.answers.Entry.{Entry}
use Rattle.dl_core.specs.declared.frames.Frame.{Frame as Kept}
use Rattle.dl_core.specs.declared.stages.Finished.{Finished}
use Rattle.dl_core.specs.declared.stages.Versions.{Versions}
use Rattle.dl_core.specs.Core.{Account}

-- what an entry has of the operation, and of the pool
abbrev pub finished_in : Entry → Finished
finished_in entry = record { index = entry.index; ticket = entry.ticket; answer = entry.answer; returned = entry.returned }

abbrev pub versions_in : Entry → Versions
versions_in entry = record { reserved_at = entry.reserved_at; returned_at = entry.returned_at }

-- what the pool keeps of a caller
abbrev pub shown_account : Kept → Account
shown_account kept = record { reserved_at = kept.reserved_at; versions = map versions_in kept.entries.items; refusals = kept.refusals.items }
