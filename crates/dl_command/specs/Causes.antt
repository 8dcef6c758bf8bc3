-- Why the files of a command are refused, and how a sink fails.
use Rattle.std.specs.Prelude.{◌≡◌, ℕ, ◌≤◌, List, ◌++◌, Some, length, slice_get, take}
use Rattle.dl_io.specs.Faults.{Rose}
use Rattle.dl_io.specs.Source.{Source, Tells}
use Rattle.dl_io.specs.Taken.{Taken, Took}
use Rattle.dl_ir.specs.declared.modules.Module.{Module}
use Rattle.dl_grammar.specs.declared.tree.Tree.{Tree}
use Rattle.dl_command.specs.declared.status.Status.{Status}
use Rattle.dl_command.specs.declared.status.Status.TheVariants as statuses
use Rattle.dl_command.specs.declared.status.ModuleWhy.{ModuleWhy}
use Rattle.dl_command.specs.Reading.{ReadCause, IsWithin}
use Rattle.dl_command.specs.Texts.{IsModuleFault, IsFaultOf, IsModuleFile, AreFiles, Behind, nothing_behind}
use Rattle.dl_command.specs.Wanted.{Wanted, wanted}
use Rattle.dl_command.specs.Words.{Bytes, Request, limit_of}

-- why the module of a command was not taken
pub data NoModule (path : Bytes) (old new : Source) (status : Status) : Type 0 where
  unread : ReadCause status 0 path old new → NoModule path old new status
  no_memory : status ≡ statuses.Memory → IsWithin new → NoModule path old new status
  -- the file was read to its end, and this is the fault of its text
  at_fault : (line : ℕ) (why : ModuleWhy) (text : Bytes) → status ≡ statuses.ModuleFault line why → Tells (old.bytes_at path) text
      → length text ≤ limit_of 0 → IsModuleFault text line why → IsWithin new → NoModule path old new status

-- why a wanted file was not taken
pub data NoFile (source : Module) (file : Wanted) (old new : Source) (status : Status) : Type 0 where
  unread : ReadCause status file.number file.path old new → NoFile source file old new status
  no_memory : status ≡ statuses.Memory → IsWithin new → NoFile source file old new status
  -- the file was read to its end, and the status tells the first fault of its text
  at_fault : (text : Bytes) → Tells (old.bytes_at file.path) text → length text ≤ limit_of file.number
      → IsFaultOf source file.number file.form text status → IsWithin new → NoFile source file old new status

-- why the files of a command were not taken: the module was not, or it was and so were the files before one that was not
pub data Refuses (request : Request) (old new : Source) (status : Status) : Type 0 where
  no_module : NoModule request.first old new status → Refuses request old new status
  no_file : (tree : Tree) (source : Module) (before : Behind) (at : ℕ) (file : Wanted) → IsModuleFile old request.first tree source
      → AreFiles source old (take at (wanted request)) nothing_behind before → slice_get (wanted request) at ≡ Some file
      → NoFile source file old new status → Refuses request old new status
  no_memory : status ≡ statuses.Memory → IsWithin new → Refuses request old new status

-- the sink failed behind a prefix of the text
pub record Cut (text : List ℕ) (old new : Taken) : Type 0 where
  pub rose : Rose old.faults new.faults
  pub taken : List ℕ
  pub lost : List ℕ
  pub took : Took old.written new.written taken
  pub whole : taken ++ lost ≡ text
