-- The statuses of faults, and why reading the files of a command stops.
use Rattle.std.specs.Prelude.{◌≡◌, ℕ, ◌<◌, List, Some, slice_get, take}
use Rattle.dl_io.specs.Source.{Source}
use Rattle.dl_ir.specs.declared.modules.Module.{Module}
use Rattle.dl_command.specs.declared.status.Status.{Status}
use Rattle.dl_command.specs.declared.status.Status.TheVariants as statuses
use Rattle.dl_command.specs.declared.status.ModuleWhy.{ModuleWhy}
use Rattle.dl_command.specs.declared.status.ModuleWhy.TheVariants as modules
use Rattle.dl_grammar.specs.declared.fault.SyntaxFault.{SyntaxFault}
use Rattle.dl_grammar.specs.declared.fault.SyntaxFault.TheVariants as syntax
use Rattle.dl_types.specs.declared.fault.TypeFault.{TypeFault}
use Rattle.dl_types.specs.declared.fault.TypeFault.TheVariants as types
use Rattle.dl_ir.specs.CallForms.{AreCallsOf}
use Rattle.dl_command.specs.declared.loading.Content.{Content}
use Rattle.dl_command.specs.declared.loading.Content.TheVariants as contents
use Rattle.dl_command.specs.declared.wanted.Form.{Form}
use Rattle.dl_command.specs.declared.wanted.Form.TheVariants as forms
use Rattle.dl_command.specs.Texts.{IsModuleFault, IsFaultOf, AreFiles, Behind, nothing_behind}
use Rattle.dl_command.specs.Causes.{NoFile}
use Rattle.dl_command.specs.Reading.{IsWithin}
use Rattle.dl_command.specs.Wanted.{Wanted}
use Rattle.dl_command.specs.Words.{heap_number}

-- the status that a fault of a module text is answered with
abbrev pub syntax_status : SyntaxFault → Status
syntax_status (syntax.NotAscii at line) = statuses.ModuleFault line modules.NotAscii
syntax_status (syntax.BadByte at line) = statuses.ModuleFault line modules.BadByte
syntax_status (syntax.BigNumber at line) = statuses.ModuleFault line modules.BigNumber
syntax_status (syntax.Expected line) = statuses.ModuleFault line modules.Expected
syntax_status (syntax.TooDeep line) = statuses.ModuleFault line modules.TooDeep
syntax_status (syntax.Limit line which) = statuses.ModuleFault line (modules.Limit which)
syntax_status syntax.Memory = statuses.Memory

-- the status that a fault of names and types is answered with
abbrev pub type_status : TypeFault → Status
type_status (types.Twice line) = statuses.ModuleFault line modules.Twice
type_status (types.Unknown line) = statuses.ModuleFault line modules.Unknown
type_status (types.KindClash line) = statuses.ModuleFault line modules.KindClash
type_status (types.RootInField line) = statuses.ModuleFault line modules.RootInField
type_status (types.NewRoot line) = statuses.ModuleFault line modules.NewRoot
type_status (types.AssignRoot line) = statuses.ModuleFault line modules.AssignRoot
type_status (types.NoRoots line) = statuses.ModuleFault line modules.NoRoots
type_status types.Memory = statuses.Memory

-- why a text was not read as a module: its fault, or want of memory
pub data ParseCause (text : List ℕ) (status : Status) : Type 0 where
  at_fault : (line : ℕ) (why : ModuleWhy) → status ≡ statuses.ModuleFault line why → IsModuleFault text line why → ParseCause text status
  no_memory : status ≡ statuses.Memory → ParseCause text status

-- why a text was not read as one of this form: its first fault, or want of memory
pub data TextCause (source : Module) (file : ℕ) (form : Form) (text : List ℕ) (status : Status) : Type 0 where
  at_fault : IsFaultOf source file form text status → TextCause source file form text status
  no_memory : status ≡ statuses.Memory → TextCause source file form text status

-- why one of these files was not taken, the ones before it being as they should be
pub data StopsAt (source : Module) (wanted : List Wanted) (old new : Source) (status : Status) : Type 0 where
  no_file : (before : Behind) (at : ℕ) (file : Wanted) → AreFiles source old (take at wanted) nothing_behind before → slice_get wanted at ≡ Some file
      → NoFile source file old new status → StopsAt source wanted old new status
  no_memory : status ≡ statuses.Memory → IsWithin new → StopsAt source wanted old new status

-- calls that are said are calls of the module
abbrev pub IsFine : Module → Content → Type 0
IsFine source (contents.Heap heap) = Unit {0}
IsFine source (contents.Schedule gives) = Unit {0}
IsFine source (contents.Calls calls) = AreCallsOf source calls

-- files of this form may have this number: the heap file has its own, and the others have more than 0 and are not long
abbrev pub IsNumberOf : Form → ℕ → Type 0
IsNumberOf (forms.Heap places) file = file ≡ heap_number
IsNumberOf (forms.Schedule callers) file = (0 < file) × (file < heap_number)
IsNumberOf forms.Operations file = (0 < file) × (file < heap_number)
