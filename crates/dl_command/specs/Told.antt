-- What the files of a command tell decides how the call ends, but for files that can't be read and want of memory.
use Rattle.std.specs.Prelude.{◌≡◌, ℕ, ◌+◌, ◌<◌, ◌≤◌, List, Some, length, slice_get, take, All, Contains}
use Rattle.dl_io.specs.Source.{Source}
use Rattle.dl_ir.specs.declared.modules.Module.{Module}
use Rattle.dl_command.specs.declared.loading.Content.{Content}
use Rattle.dl_command.specs.declared.status.Status.{Status}
use Rattle.dl_command.specs.declared.status.Status.TheVariants as statuses
use Rattle.dl_command.specs.declared.status.ModuleWhy.{ModuleWhy}
use Rattle.dl_command.specs.Texts.{IsModuleText, IsModuleFault, IsFaultOf, Says}
use Rattle.dl_command.specs.Wanted.{Wanted, wanted, numbers_of, paths_of}
use Rattle.dl_command.specs.Words.{Bytes, Request, limit_of}

-- the text at the path of a file is told, and is within the file's limit
pub record IsTold (files : Source) (file : ℕ) (path text : Bytes) : Type 0 where
  pub told : files.bytes_at path ≡ Some text
  pub short : length text ≤ limit_of file

-- the text at a path is told, and is this module
pub record TellsModule (files : Source) (path : Bytes) (source : Module) : Type 0 where
  pub text : Bytes
  pub is_told : IsTold files 0 path text
  pub spells : IsModuleText text source

-- the text at the path of a wanted file is told, and is of the form that is wanted
pub record TellsFile (source : Module) (files : Source) (file : Wanted) : Type 0 where
  pub text : Bytes
  pub is_told : IsTold files file.number file.path text
  pub content : Content
  pub says : Says source file.form text content

-- what is told at the path of the module calls for this refusal: it is too long, or no module
pub data RefusesModule (files : Source) (path : Bytes) (answer : Status) : Type 0 where
  too_long : (text : Bytes) → files.bytes_at path ≡ Some text → limit_of 0 < length text → answer ≡ statuses.TooLong 0
      → RefusesModule files path answer
  at_fault : (text : Bytes) (line : ℕ) (why : ModuleWhy) → IsTold files 0 path text → IsModuleFault text line why
      → answer ≡ statuses.ModuleFault line why → RefusesModule files path answer

-- what is told at the path of a wanted file calls for this refusal: it is too long, or not of the form that is wanted
pub data RefusesFile (source : Module) (files : Source) (file : Wanted) (answer : Status) : Type 0 where
  too_long : (text : Bytes) → files.bytes_at file.path ≡ Some text → limit_of file.number < length text → answer ≡ statuses.TooLong file.number
      → RefusesFile source files file answer
  at_fault : (text : Bytes) → IsTold files file.number file.path text → IsFaultOf source file.number file.form text answer
      → RefusesFile source files file answer

-- the files before the one at this place are told and are what they should be, and what is told of it calls for the refusal. The module
-- stands at place 0
pub data CallsFor (files : Source) (request : Request) (place : ℕ) (answer : Status) : Type 0 where
  source_file : place ≡ 0 → RefusesModule files request.first answer → CallsFor files request place answer
  wanted_file : (source : Module) (at : ℕ) (file : Wanted) → place ≡ at + 1 → TellsModule files request.first source
      → All (TellsFile source files) (take at (wanted request)) → slice_get (wanted request) at ≡ Some file → RefusesFile source files file answer
      → CallsFor files request place answer

-- a call ends with this answer, unless one of the files up to the one at this place can't be read or memory runs out. The numbers of the
-- files are these
pub data EndsWith (numbers : List ℕ) (place : ℕ) (answer status : Status) : Type 0 where
  answered : status ≡ answer → EndsWith numbers place answer status
  unread : (before number : ℕ) → before ≤ place → slice_get numbers before ≡ Some number → status ≡ statuses.ReadFault number
      → EndsWith numbers place answer status
  no_memory : status ≡ statuses.Memory → EndsWith numbers place answer status

-- where what is told calls for a refusal, a call of this command ends with it
abbrev pub EndsAsTold : Source → Request → Status → Type 0
EndsAsTold files request status = (place : ℕ) (answer : Status) → CallsFor files request place answer → EndsWith (numbers_of request) place answer status

-- the path of each file of the command is sound, and what is told at it is what it should be
pub record IsInOrder (files : Source) (request : Request) : Type 0 where
  pub sound : All (Contains files.sound_paths) (paths_of request)
  pub source : Module
  pub source_file : TellsModule files request.first source
  pub wanted_files : All (TellsFile source files) (wanted request)
