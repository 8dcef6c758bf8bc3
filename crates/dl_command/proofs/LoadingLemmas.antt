-- The causes of statuses that faults of texts are answered with.
use Rattle.std.proofs.Common.{◌≢◌, ◌≤◌, ℕ, List, length, Result, Ok, Err, IfErr, IfOk, refl}
use Rattle.dl_io.specs.Source.{Source, Tells}
use Rattle.dl_ir.specs.declared.modules.Module.{Module}
use Rattle.dl_heapfile.specs.Faults.{Reads}
use Rattle.dl_heapfile.specs.declared.fault.HeapFault.{HeapFault}
use Rattle.dl_heapfile.specs.declared.fault.HeapFault.TheVariants as heap_faults
use Rattle.dl_grammar.specs.Texts.{Spells, IsSyntaxFault}
use Rattle.dl_grammar.specs.declared.tree.Tree.{Tree}
use Rattle.dl_grammar.specs.declared.fault.SyntaxFault.{SyntaxFault}
use Rattle.dl_grammar.specs.declared.fault.SyntaxFault.TheVariants as syntax
use Rattle.dl_types.specs.Rules.{IsTypeFault}
use Rattle.dl_types.specs.declared.fault.TypeFault.{TypeFault}
use Rattle.dl_types.specs.declared.fault.TypeFault.TheVariants as types
use Rattle.dl_command.specs.declared.status.ModuleWhy.TheVariants as whys
use Rattle.dl_syntax.specs.Rules.{IsCallsFault}
use Rattle.dl_syntax.specs.declared.calls.CallsFault.{CallsFault}
use Rattle.dl_syntax.specs.declared.calls.CallsFault.TheVariants as faults
use Rattle.dl_command.specs.declared.status.Status.{Status}
use Rattle.dl_schedule.specs.Rules.{IsScheduleFault}
use Rattle.dl_schedule.specs.declared.give.ScheduleFault.{ScheduleFault}
use Rattle.dl_schedule.specs.declared.give.ScheduleFault.TheVariants as schedules
use Rattle.dl_command.specs.declared.loading.Content.{Content}
use Rattle.dl_command.specs.declared.wanted.Form.TheVariants as forms
use Rattle.dl_command.specs.Causes.{NoModule, NoFile}
use Rattle.dl_command.specs.Loading.{syntax_status, type_status, ParseCause, TextCause}
use Rattle.dl_command.specs.Reading.{IsWithin}
use Rattle.dl_command.specs.Texts.{IsFile, Says, calls_status, heap_status, schedule_status}
use Rattle.dl_command.specs.Wanted.{Wanted}
use Rattle.dl_command.specs.Words.{limit_of}

-- the status of a fault has the cause that the fault has
pub calls_cause : {source : Module} {text : List ℕ} {file : ℕ} (fault : CallsFault) → (fault ≢ faults.Memory → IsCallsFault source text fault)
    → TextCause source file forms.Operations text (calls_status file fault)
calls_cause (faults.NotAscii line) found = TextCause.at_fault (record { fault = faults.NotAscii line; at_fault = found (λ e. cc); other = λ e. cc; is = refl })
calls_cause (faults.BadByte line) found = TextCause.at_fault (record { fault = faults.BadByte line; at_fault = found (λ e. cc); other = λ e. cc; is = refl })
calls_cause (faults.TooMany line) found = TextCause.at_fault (record { fault = faults.TooMany line; at_fault = found (λ e. cc); other = λ e. cc; is = refl })
calls_cause (faults.NoOp line) found = TextCause.at_fault (record { fault = faults.NoOp line; at_fault = found (λ e. cc); other = λ e. cc; is = refl })
calls_cause (faults.ArgCount line) found = TextCause.at_fault (record { fault = faults.ArgCount line; at_fault = found (λ e. cc); other = λ e. cc; is = refl })
calls_cause (faults.NotNumber line) found = TextCause.at_fault (record { fault = faults.NotNumber line; at_fault = found (λ e. cc); other = λ e. cc; is = refl })
calls_cause (faults.NoRoot line) found = TextCause.at_fault (record { fault = faults.NoRoot line; at_fault = found (λ e. cc); other = λ e. cc; is = refl })
calls_cause faults.Memory found = TextCause.no_memory refl

pub schedule_cause : {source : Module} {text : List ℕ} {file callers : ℕ} (fault : ScheduleFault) → (fault ≢ schedules.Memory → IsScheduleFault callers text fault)
    → TextCause source file (forms.Schedule callers) text (schedule_status file fault)
schedule_cause (schedules.NotAscii line) found = TextCause.at_fault (record { fault = schedules.NotAscii line; at_fault = found (λ e. cc); other = λ e. cc; is = refl })
schedule_cause (schedules.BadByte line) found = TextCause.at_fault (record { fault = schedules.BadByte line; at_fault = found (λ e. cc); other = λ e. cc; is = refl })
schedule_cause (schedules.BadStep line) found = TextCause.at_fault (record { fault = schedules.BadStep line; at_fault = found (λ e. cc); other = λ e. cc; is = refl })
schedule_cause (schedules.NoCaller line) found = TextCause.at_fault (record { fault = schedules.NoCaller line; at_fault = found (λ e. cc); other = λ e. cc; is = refl })
schedule_cause (schedules.TooMany line) found = TextCause.at_fault (record { fault = schedules.TooMany line; at_fault = found (λ e. cc); other = λ e. cc; is = refl })
schedule_cause schedules.Memory found = TextCause.no_memory refl

pub heap_cause : {source : Module} {text : List ℕ} {file places : ℕ} (fault : HeapFault) → (fault ≢ heap_faults.Memory → Reads source places text (Err fault))
    → TextCause source file (forms.Heap places) text (heap_status fault)
heap_cause (heap_faults.NoHeap line) found = TextCause.at_fault (record { fault = heap_faults.NoHeap line; at_fault = found (λ e. cc); other = λ e. cc; is = refl })
heap_cause (heap_faults.BadLine line) found = TextCause.at_fault (record { fault = heap_faults.BadLine line; at_fault = found (λ e. cc); other = λ e. cc; is = refl })
heap_cause (heap_faults.Count line) found = TextCause.at_fault (record { fault = heap_faults.Count line; at_fault = found (λ e. cc); other = λ e. cc; is = refl })
heap_cause (heap_faults.Dangling line) found = TextCause.at_fault (record { fault = heap_faults.Dangling line; at_fault = found (λ e. cc); other = λ e. cc; is = refl })
heap_cause (heap_faults.Shape line) found = TextCause.at_fault (record { fault = heap_faults.Shape line; at_fault = found (λ e. cc); other = λ e. cc; is = refl })
heap_cause (heap_faults.NoPlaces line) found = TextCause.at_fault (record { fault = heap_faults.NoPlaces line; at_fault = found (λ e. cc); other = λ e. cc; is = refl })
heap_cause heap_faults.Memory found = TextCause.no_memory refl

-- why a module that was read to its end is not taken
pub no_source : {T : Type 0} (old new : Source) (path text : List ℕ) (r : Result T Status) → Tells (old.bytes_at path) text → length text ≤ limit_of 0 → IsWithin new →
    IfErr r (ParseCause text) → IfErr r (NoModule path old new)
no_source old new path text (Ok found) told short within cause = tt
no_source old new path text (Err status) told short within (ParseCause.at_fault line w is is_fault) = NoModule.at_fault line w text is told short is_fault within
no_source old new path text (Err status) told short within (ParseCause.no_memory is) = NoModule.no_memory is within

-- why a file that was read to its end is not taken
pub no_file : {T : Type 0} (old new : Source) (source : Module) (file : Wanted) (text : List ℕ) (r : Result T Status) → Tells (old.bytes_at file.path) text → length text ≤ limit_of file.number → IsWithin new →
    IfErr r (TextCause source file.number file.form text) → IfErr r (NoFile source file old new)
no_file old new source file text (Ok content) told short within cause = tt
no_file old new source file text (Err status) told short within (TextCause.at_fault is_fault) = NoFile.at_fault text told short is_fault within
no_file old new source file text (Err status) told short within (TextCause.no_memory is) = NoFile.no_memory is within

-- a file that was read to its end says what its text says
pub says_file : (old : Source) (source : Module) (file : Wanted) (text : List ℕ) (r : Result Content Status) → Tells (old.bytes_at file.path) text → length text ≤ limit_of file.number →
    IfOk r (Says source file.form text) → IfOk r (IsFile source old file)
says_file old source file text (Ok content) told short says = record { text = text; told = told; short = short; says = says }
says_file old source file text (Err status) told short says = tt

-- the status of a fault of a text has the cause that the fault has
pub syntax_cause : (text : List ℕ) (fault : SyntaxFault) → (fault ≢ syntax.Memory → IsSyntaxFault text fault) → ParseCause text (syntax_status fault)
syntax_cause text (syntax.NotAscii at line) found = ParseCause.at_fault line whys.NotAscii refl (at, found (λ e. cc))
syntax_cause text (syntax.BadByte at line) found = ParseCause.at_fault line whys.BadByte refl (at, found (λ e. cc))
syntax_cause text (syntax.BigNumber at line) found = ParseCause.at_fault line whys.BigNumber refl (at, found (λ e. cc))
syntax_cause text (syntax.Expected line) found = ParseCause.at_fault line whys.Expected refl (found (λ e. cc))
syntax_cause text (syntax.TooDeep line) found = ParseCause.at_fault line whys.TooDeep refl (found (λ e. cc))
syntax_cause text (syntax.Limit line which) found = ParseCause.at_fault line (whys.Limit which) refl (found (λ e. cc))
syntax_cause text syntax.Memory found = ParseCause.no_memory refl

-- the status of a fault of a tree has the cause that the fault has
pub type_cause : (text : List ℕ) (tree : Tree) (fault : TypeFault) → Spells text tree → (fault ≢ types.Memory → IsTypeFault tree fault) → ParseCause text (type_status fault)
type_cause text tree (types.Twice line) spelled found = ParseCause.at_fault line whys.Twice refl (record { tree = tree; spelled = spelled; at_fault = found (λ e. cc) })
type_cause text tree (types.Unknown line) spelled found = ParseCause.at_fault line whys.Unknown refl (record { tree = tree; spelled = spelled; at_fault = found (λ e. cc) })
type_cause text tree (types.KindClash line) spelled found = ParseCause.at_fault line whys.KindClash refl (record { tree = tree; spelled = spelled; at_fault = found (λ e. cc) })
type_cause text tree (types.RootInField line) spelled found = ParseCause.at_fault line whys.RootInField refl (record { tree = tree; spelled = spelled; at_fault = found (λ e. cc) })
type_cause text tree (types.NewRoot line) spelled found = ParseCause.at_fault line whys.NewRoot refl (record { tree = tree; spelled = spelled; at_fault = found (λ e. cc) })
type_cause text tree (types.AssignRoot line) spelled found = ParseCause.at_fault line whys.AssignRoot refl (record { tree = tree; spelled = spelled; at_fault = found (λ e. cc) })
type_cause text tree (types.NoRoots line) spelled found = ParseCause.at_fault line whys.NoRoots refl (record { tree = tree; spelled = spelled; at_fault = found (λ e. cc) })
type_cause text tree types.Memory spelled found = ParseCause.no_memory refl
