-- What the files of a command spell, and the faults of texts that spell nothing.
use Rattle.std.specs.Prelude.{◌≡◌, ◌≢◌, ℕ, ◌≤◌, List, [], ◌∷◌, ◌++◌, Option, Some, None, option_map, Ok, Err, length}
use Rattle.dl_io.specs.Source.{Source, Tells}
use Rattle.dl_ir.specs.declared.modules.Module.{Module}
use Rattle.dl_ir.specs.declared.calls.Call.{Call}
use Rattle.dl_ir.specs.Heap.{Objects, View, hidden_count, start_objects}
use Rattle.dl_shape.specs.Startable.{IsStartable}
use Rattle.dl_heapfile.specs.Faults.{Reads}
use Rattle.dl_heapfile.specs.declared.fault.HeapFault.{HeapFault}
use Rattle.dl_heapfile.specs.declared.fault.HeapFault.TheVariants as heap_faults
use Rattle.dl_syntax.specs.Rules.{IsCallsFile, IsCallsFault}
use Rattle.dl_grammar.specs.Texts.{Spells, IsSyntaxFault}
use Rattle.dl_grammar.specs.declared.tree.Tree.{Tree}
use Rattle.dl_grammar.specs.declared.fault.SyntaxFault.TheVariants as syntax
use Rattle.dl_types.specs.Rules.{Types, IsTypeFault}
use Rattle.dl_types.specs.declared.fault.TypeFault.{TypeFault}
use Rattle.dl_types.specs.declared.fault.TypeFault.TheVariants as types
use Rattle.dl_syntax.specs.declared.calls.CallsFault.{CallsFault}
use Rattle.dl_syntax.specs.declared.calls.CallsFault.TheVariants as faults
use Rattle.dl_schedule.specs.Rules.{SpellsSchedule, IsScheduleFault}
use Rattle.dl_schedule.specs.declared.give.Give.{Give}
use Rattle.dl_schedule.specs.declared.give.ScheduleFault.{ScheduleFault}
use Rattle.dl_schedule.specs.declared.give.ScheduleFault.TheVariants as schedules
use Rattle.dl_command.specs.declared.loading.Content.{Content}
use Rattle.dl_command.specs.declared.loading.Content.TheVariants as contents
use Rattle.dl_command.specs.declared.loading.Input.{Input}
use Rattle.dl_command.specs.declared.status.Status.{Status}
use Rattle.dl_command.specs.declared.status.Status.TheVariants as statuses
use Rattle.dl_command.specs.declared.wanted.Form.{Form}
use Rattle.dl_command.specs.declared.wanted.Form.TheVariants as forms
use Rattle.dl_command.specs.declared.status.HeapWhy.TheVariants as heaps
use Rattle.dl_command.specs.declared.status.ModuleWhy.{ModuleWhy}
use Rattle.dl_command.specs.declared.status.ModuleWhy.TheVariants as modules
use Rattle.dl_command.specs.declared.status.OpsWhy.TheVariants as whys
use Rattle.dl_command.specs.Wanted.{Wanted, wanted}
use Rattle.dl_command.specs.Words.{Bytes, Request, limit_of}

-- the text spells a tree, and the tree is this module
pub record IsModuleText (text : Bytes) (source : Module) : Type 0 where
  pub tree : Tree
  pub spelled : Spells text tree
  pub typed : Types tree source

-- the text spells a tree of which this is the first fault
pub record HasTypeFault (text : Bytes) (fault : TypeFault) : Type 0 where
  pub tree : Tree
  pub spelled : Spells text tree
  pub at_fault : IsTypeFault tree fault

-- the text is no module, and this is its first fault: of its bytes, of its tokens, or of its names and types
abbrev pub IsModuleFault : Bytes → ℕ → ModuleWhy → Type 0
IsModuleFault text line modules.NotAscii = (at : ℕ) × IsSyntaxFault text (syntax.NotAscii at line)
IsModuleFault text line modules.BadByte = (at : ℕ) × IsSyntaxFault text (syntax.BadByte at line)
IsModuleFault text line modules.BigNumber = (at : ℕ) × IsSyntaxFault text (syntax.BigNumber at line)
IsModuleFault text line modules.Expected = IsSyntaxFault text (syntax.Expected line)
IsModuleFault text line modules.TooDeep = IsSyntaxFault text (syntax.TooDeep line)
IsModuleFault text line (modules.Limit which) = IsSyntaxFault text (syntax.Limit line which)
IsModuleFault text line modules.Twice = HasTypeFault text (types.Twice line)
IsModuleFault text line modules.Unknown = HasTypeFault text (types.Unknown line)
IsModuleFault text line modules.KindClash = HasTypeFault text (types.KindClash line)
IsModuleFault text line modules.RootInField = HasTypeFault text (types.RootInField line)
IsModuleFault text line modules.NewRoot = HasTypeFault text (types.NewRoot line)
IsModuleFault text line modules.AssignRoot = HasTypeFault text (types.AssignRoot line)
IsModuleFault text line modules.NoRoots = HasTypeFault text (types.NoRoots line)

-- the status that tells a fault of the operation file of this number
abbrev pub calls_status : ℕ → CallsFault → Status
calls_status file (faults.NotAscii line) = statuses.OpsFault file line whys.NotAscii
calls_status file (faults.BadByte line) = statuses.OpsFault file line whys.BadByte
calls_status file (faults.TooMany line) = statuses.OpsFault file line whys.TooMany
calls_status file (faults.NoOp line) = statuses.OpsFault file line whys.NoOp
calls_status file (faults.ArgCount line) = statuses.OpsFault file line whys.ArgCount
calls_status file (faults.NotNumber line) = statuses.OpsFault file line whys.NotNumber
calls_status file (faults.NoRoot line) = statuses.OpsFault file line whys.NoRoot
calls_status file faults.Memory = statuses.Memory

-- the status that tells a fault of the schedule file of this number
abbrev pub schedule_status : ℕ → ScheduleFault → Status
schedule_status file (schedules.NotAscii line) = statuses.OpsFault file line whys.NotAscii
schedule_status file (schedules.BadByte line) = statuses.OpsFault file line whys.BadByte
schedule_status file (schedules.BadStep line) = statuses.OpsFault file line whys.BadStep
schedule_status file (schedules.NoCaller line) = statuses.OpsFault file line whys.NoCaller
schedule_status file (schedules.TooMany line) = statuses.OpsFault file line whys.TooMany
schedule_status file schedules.Memory = statuses.Memory

-- the status that tells a fault of the heap file
abbrev pub heap_status : HeapFault → Status
heap_status (heap_faults.NoHeap line) = statuses.HeapFault line heaps.NoHeap
heap_status (heap_faults.BadLine line) = statuses.HeapFault line heaps.BadLine
heap_status (heap_faults.Count line) = statuses.HeapFault line heaps.Count
heap_status (heap_faults.Dangling line) = statuses.HeapFault line heaps.Dangling
heap_status (heap_faults.Shape line) = statuses.HeapFault line heaps.Shape
heap_status (heap_faults.NoPlaces line) = statuses.HeapFault line heaps.NoPlaces
heap_status heap_faults.Memory = statuses.Memory

-- there is such a fault, other than want of memory, and the status tells it
pub record IsToldBy {Fault : Type 0} (is_fault : Fault → Type 0) (memory : Fault) (told : Fault → Status) (status : Status) : Type 0 where
  pub fault : Fault
  pub at_fault : is_fault fault
  pub other : fault ≢ memory
  pub is : status ≡ told fault

-- the text is not of this form, and the status tells its first fault, in the file of this number
abbrev pub IsFaultOf : Module → ℕ → Form → Bytes → Status → Type 0
IsFaultOf source file (forms.Heap places) text status = IsToldBy (λ fault. Reads source places text (Err fault)) heap_faults.Memory heap_status status
IsFaultOf source file (forms.Schedule callers) text status = IsToldBy (IsScheduleFault callers text) schedules.Memory (schedule_status file) status
IsFaultOf source file forms.Operations text status = IsToldBy (IsCallsFault source text) faults.Memory (calls_status file) status

-- what a text of this form says: a heap of the module, the gives of a schedule, or calls of the module
abbrev pub Says : Module → Form → Bytes → Content → Type 0
Says source (forms.Heap places) text (contents.Heap heap) = Reads source places text (Ok heap.objects)
Says source (forms.Heap places) text (contents.Schedule gives) = ⊥
Says source (forms.Heap places) text (contents.Calls calls) = ⊥
Says source (forms.Schedule callers) text (contents.Heap heap) = ⊥
Says source (forms.Schedule callers) text (contents.Schedule gives) = SpellsSchedule callers text gives
Says source (forms.Schedule callers) text (contents.Calls calls) = ⊥
Says source forms.Operations text (contents.Heap heap) = ⊥
Says source forms.Operations text (contents.Schedule gives) = ⊥
Says source forms.Operations text (contents.Calls calls) = IsCallsFile source text calls

-- the bytes at the path of a wanted file, at most as many as it may have, say this
pub record IsFile (source : Module) (files : Source) (file : Wanted) (content : Content) : Type 0 where
  pub text : Bytes
  pub told : Tells (files.bytes_at file.path) text
  pub short : length text ≤ limit_of file.number
  pub says : Says source file.form text content

-- what the files behind a module say: a heap, where a heap file is given; a schedule, empty where there is none; and the calls of each
-- operation file
pub record Behind : Type 0 where
  pub heap : Option Objects
  pub gives : List Give
  pub all : List (List Call)

abbrev pub nothing_behind : Behind
nothing_behind = record { heap = None; gives = []; all = [] }

-- the same, and what one more file says
abbrev pub with_content : Behind → Content → Behind
with_content behind (contents.Heap heap) = record behind { heap = Some heap.objects }
with_content behind (contents.Schedule gives) = record behind { gives = gives }
with_content behind (contents.Calls calls) = record behind { all = behind.all ++ calls ∷ [] }

-- the wanted files, one after another, lead from what was said to this
abbrev pub AreFiles : Module → Source → List Wanted → Behind → Behind → Type 0
AreFiles source files [] before after = after ≡ before
AreFiles source files (file ∷ rest) before after = (content : Content) × IsFile source files file content × AreFiles source files rest (with_content before content) after

-- the bytes at the path of a module, at most as many as it may have, spell this tree, and the tree is this module
pub record IsModuleFile (files : Source) (path : Bytes) (tree : Tree) (source : Module) : Type 0 where
  pub text : Bytes
  pub told : Tells (files.bytes_at path) text
  pub short : length text ≤ limit_of 0
  pub spelled : Spells text tree
  pub typed : Types tree source

-- what the files behind a module say, as the program holds it
abbrev pub behind_of : Input → Behind
behind_of input = record { heap = option_map (λ heap. heap.objects) input.heap; gives = input.schedule; all = input.all.items }

-- the files of a command spell a tree that is a module, and behind it what the command wants
pub record SpellsInput (files : Source) (request : Request) (input : Input) : Type 0 where
  pub source_file : IsModuleFile files request.first input.tree input.source
  pub behind : AreFiles input.source files (wanted request) nothing_behind (behind_of input)

-- the heap from which the runs of a command start: the one that its heap file says, or else the start heap of the module
abbrev pub first_heap : Module → Option View → Objects
first_heap source None = start_objects source
first_heap source (Some heap) = heap.objects

abbrev pub heap_of : Input → Objects
heap_of input = first_heap input.source input.heap

-- a run with so many places may start from this heap
pub record CanStart (source : Module) (places : ℕ) (heap : Objects) : Type 0 where
  pub startable : IsStartable source heap
  pub fits : hidden_count heap ≤ places
