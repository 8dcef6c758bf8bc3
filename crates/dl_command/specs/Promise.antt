-- What the program promises of a call: what it writes where all goes well, and how it ends else.
use Rattle.std.specs.Prelude.{◌≡◌, ◌≢◌, ◌<◌, ◌≤◌, ◌+◌, ◌⊎◌, ℕ, List, [], ◌++◌, Option, Some, None, All, AllPairs, length, map}
use Rattle.dl_io.specs.Faults.{Rose}
use Rattle.dl_io.specs.Source.{Source}
use Rattle.dl_io.specs.Taken.{Taken, Took}
use Rattle.dl_ir.specs.declared.modules.Module.{Module}
use Rattle.dl_ir.specs.declared.calls.Call.{Call}
use Rattle.dl_ir.specs.declared.answers.Entry.{Entry}
use Rattle.dl_ir.specs.declared.answers.Refusal.{Refusal}
use Rattle.dl_ir.specs.Cover.{Covers}
use Rattle.dl_ir.specs.Heap.{Objects}
use Rattle.dl_shape.specs.Closed.{IsForestClosed}
use Rattle.dl_shape.specs.Pool.{IsLawfulPool, HasVersionsOfMovesAlone, moves_of, in_rising_versions}
use Rattle.dl_shape.specs.Replay.{IsLegal, replayed}
use Rattle.dl_closed.specs.Unsealed.{IsUnsealed}
use Rattle.dl_history.specs.Histories.{Seen}
use Rattle.dl_history.specs.Report.{report}
use Rattle.dl_print.specs.Canonical.{canonical}
use Rattle.dl_instr.specs.Code.{code}
use Rattle.dl_instr.specs.Listing.{listing}
use Rattle.dl_core.specs.Heaps.{plain}
use Rattle.dl_core.specs.Passes.{plan_over}
use Rattle.dl_core.specs.Plans.{Plan}
use Rattle.dl_order.specs.Ends.{all_refusals, history_in}
use Rattle.dl_schedule.specs.declared.give.Give.{Give}
use Rattle.dl_trace.specs.Runs.{Run as Scheduled, ScheduleRun}
use Rattle.dl_command.specs.declared.loading.Input.{Input}
use Rattle.dl_command.specs.declared.status.Status.{Status}
use Rattle.dl_command.specs.declared.status.Status.TheVariants as statuses
use Rattle.dl_command.specs.Causes.{Refuses, Cut}
use Rattle.dl_command.specs.Reading.{IsUnread, IsWithin}
use Rattle.dl_command.specs.Texts.{SpellsInput, heap_of}
use Rattle.dl_command.specs.Told.{EndsAsTold, IsInOrder}
use Rattle.dl_command.specs.Words.{IsGood, Bytes, Request, limit_of}
use Rattle.dl_command.specs.declared.top.Ending.{Ending}
use Rattle.dl_command.specs.declared.words.Verb.{Verb}
use Rattle.dl_command.specs.declared.words.Verb.TheVariants as verbs

-- the refusals stand by caller, and those of a caller by index
abbrev pub AreInOrder : List Refusal → Type 0
AreInOrder refusals = AllPairs (λ (earlier later : Refusal). (earlier.caller < later.caller) ⊎ ((earlier.caller ≡ later.caller) × (earlier.index ≤ later.index))) refusals

-- what running the calls of a module came to, from this heap and with so many places: each operation stands once, in
-- the history or among the refusals; every answer is that of the serial meaning; the pool is lawful, its moves are those that the entries
-- give, and an entry has no version but those of its moves; and where every serial run ends each operation in a forest, no answer tells
-- of a sealed object
pub record IsRun (source : Module) (heap : Objects) (all : List (List Call)) (places : ℕ) (history : Seen) (refusals : List Refusal) : Type 0 where
  pub covers : Covers all history.entries refusals
  pub in_order : AreInOrder refusals
  pub legal : IsLegal source all heap history.entries
  pub lawful : IsLawfulPool places source all heap history.entries refusals
  pub moves : history.moves ≡ in_rising_versions (moves_of source all history.entries)
  pub versions : All (HasVersionsOfMovesAlone source all) history.entries
  pub unsealed : IsForestClosed source heap → All (λ (entry : Entry). IsUnsealed entry.answer) history.entries

-- the history of no operation
abbrev pub nothing_done : Seen
nothing_done = record { entries = []; moves = [] }

-- the report of a run from this heap, with the heap that its history leads to
abbrev pub report_of : Module → Objects → List (List Call) → List Entry → List Refusal → Bytes
report_of source heap all history refusals = report source all history refusals (replayed source all heap history)

-- the text is the report of a run of the calls from this heap
pub record Reports (source : Module) (heap : Objects) (all : List (List Call)) (places : ℕ) (history : Seen) (refusals : List Refusal) (text : Bytes) : Type 0 where
  pub is_run : IsRun source heap all places history refusals
  pub is_report : text ≡ report_of source heap all history.entries refusals

-- what a scheduled run has to keep to: the module's own code, the heap from which it starts, the places, and the calls of each caller
abbrev pub plan_of : Module → Objects → List (List Call) → ℕ → Plan
plan_of source heap all places = plan_over (code source) heap places (map length all)

-- this is the end of the scheduled run of the calls from this heap, with this history and these refusals, which is a run of the calls
pub record IsScheduled (source : Module) (heap : Objects) (gives : List Give) (all : List (List Call)) (places : ℕ) (end : Scheduled) (history : Seen) (refusals : List Refusal) : Type 0 where
  pub run : ScheduleRun (plan_of source heap all places) all gives end
  pub entries : history.entries ≡ history_in (plan_of source heap all places) end.core
  pub refused : refusals ≡ all_refusals (plan_of source heap all places) end.core
  pub is_run : IsRun source heap all places history refusals

-- the text is the trace of the scheduled run of the calls from this heap, and behind it its report; and the heap at the end of the run
-- is the one that the history leads to
pub record Traces (source : Module) (heap : Objects) (gives : List Give) (all : List (List Call)) (places : ℕ) (history : Seen) (refusals : List Refusal) (text : Bytes) : Type 0 where
  pub end : Scheduled
  pub scheduled : IsScheduled source heap gives all places end history refusals
  pub heap_at_end : plain end.core.world.heap ≡ replayed source all heap history.entries
  pub is_text : text ≡ end.text ++ report_of source heap all history.entries refusals

-- what a command writes of what its files spell: `serial` and `run` the report of a run of the calls from the heap that is given, or
-- else from the start heap; `step` the trace and the report of the scheduled run from it; and `show`, which carries out nothing, the
-- canonical text of the tree and the listing of the module's code. `work` reads no file, and has a promise of its own
abbrev pub Writes : Verb → Input → ℕ → Seen → List Refusal → Bytes → Type 0
Writes verbs.Serial input places history refusals text = Reports input.source (heap_of input) input.all.items places history refusals text
Writes verbs.Run input places history refusals text = Reports input.source (heap_of input) input.all.items places history refusals text
Writes verbs.Step input places history refusals text = Traces input.source (heap_of input) input.schedule input.all.items places history refusals text
Writes verbs.Show input places history refusals text =
    (history ≡ nothing_done) × (refusals ≡ []) × (text ≡ canonical input.tree ++ listing (code input.source))
Writes verbs.Work input places history refusals text = ⊥

-- there is a command, and its files spell a tree that is a module, and what stands behind it; the text is what the command writes of
-- these, with this history and these refusals
pub record Ran (given : Option Request) (files : Source) (history : Seen) (refusals : List Refusal) (text : Bytes) : Type 0 where
  pub request : Request
  pub is_request : given ≡ Some request
  pub input : Input
  pub spells : SpellsInput files request input
  pub writes : Writes request.verb input request.places history refusals text

-- what the sink took of a text
abbrev pub Prints : Status → Bytes → Taken → Taken → Type 0
Prints statuses.Done text old new = Took old.written new.written text
Prints statuses.WriteFault text old new = Cut text old new
Prints statuses.Usage text old new = ⊥
Prints (statuses.ReadFault file) text old new = ⊥
Prints (statuses.TooLong file) text old new = ⊥
Prints (statuses.ModuleFault line why) text old new = ⊥
Prints (statuses.OpsFault file line why) text old new = ⊥
Prints statuses.Memory text old new = ⊥
Prints (statuses.HeapFault line why) text old new = ⊥

-- how a command ends once its files are read: memory runs out, or what it writes is written as far as the sink takes it
pub data Finishes (verb : Verb) (input : Input) (places : ℕ) (taken_before taken_after : Taken) (status : Status) (history : Seen) (refusals : List Refusal) : Type 0 where
  no_memory : status ≡ statuses.Memory → taken_after ≡ taken_before → history ≡ nothing_done → refusals ≡ []
      → Finishes verb input places taken_before taken_after status history refusals
  wrote : (text : Bytes) → Writes verb input places history refusals text → Prints status text taken_before taken_after
      → Finishes verb input places taken_before taken_after status history refusals

-- how a call ends: there is no command, or memory runs out while the words are read, or the files are refused, or memory runs out, or
-- what the command writes is written as far as the sink takes it
pub data Ends (given : Option Request) (old new : Source) (taken_before taken_after : Taken) (status : Status) (history : Seen) (refusals : List Refusal) : Type 0 where
  usage : status ≡ statuses.Usage → given ≡ None → new ≡ old → taken_after ≡ taken_before → history ≡ nothing_done → refusals ≡ []
      → Ends given old new taken_before taken_after status history refusals
  unread : status ≡ statuses.Memory → new ≡ old → taken_after ≡ taken_before → history ≡ nothing_done → refusals ≡ []
      → Ends given old new taken_before taken_after status history refusals
  refused : (request : Request) → given ≡ Some request → Refuses request old new status → taken_after ≡ taken_before → history ≡ nothing_done → refusals ≡ []
      → Ends given old new taken_before taken_after status history refusals
  ran : (text : Bytes) → Ran given old history refusals text → IsWithin new → Prints status text taken_before taken_after
      → Ends given old new taken_before taken_after status history refusals

-- the promise of a call whose words give this command, or none, over what the files tell before and after it and what the sink has
-- taken before and after it
pub record KeepsPromise (given : Option Request) (old new : Source) (taken_before taken_after : Taken) (ending : Ending) : Type 0 where
  -- where all is done, the sink took what the command writes of what the files' bytes spell
  pub done : ending.status ≡ statuses.Done → (text : Bytes) × Ran given old ending.history ending.refusals text × Took taken_before.written taken_after.written text
  -- at a fault of the sink the same, and a prefix of it was taken
  pub write_fault : ending.status ≡ statuses.WriteFault → (text : Bytes) × Ran given old ending.history ending.refusals text × Cut text taken_before taken_after
  -- else nothing was written, and nothing carried out; so memory never runs out once an operation has begun
  pub nothing : ending.status ≢ statuses.Done → ending.status ≢ statuses.WriteFault
      → (taken_after ≡ taken_before) × (ending.history ≡ nothing_done) × (ending.refusals ≡ [])
  pub usage : ending.status ≡ statuses.Usage → ¬ IsGood given
  -- where there is no command, no file is touched, and nothing else is answered unless memory runs out
  pub bad_words : ¬ IsGood given → ((ending.status ≡ statuses.Usage) ⊎ (ending.status ≡ statuses.Memory)) × (new ≡ old)
  -- each other refusal has its cause, and want of memory needs none
  pub causes : ending.status ≢ statuses.Done → ending.status ≢ statuses.WriteFault → ending.status ≢ statuses.Usage → ending.status ≢ statuses.Memory
      → (request : Request) × (given ≡ Some request) × Refuses request old new ending.status
  -- where what the files tell calls for a refusal, it is answered, unless a file can't be read or memory runs out
  pub exact : (request : Request) → given ≡ Some request → EndsAsTold old request ending.status
  -- where all is in order and the sink does not fail, all is done, unless memory runs out
  pub complete : (request : Request) → given ≡ Some request → IsInOrder old request → ¬ Rose taken_before.faults taken_after.faults
      → (ending.status ≡ statuses.Done) ⊎ (ending.status ≡ statuses.Memory)
  -- where more than a file's limit was taken of it, nothing else is answered, unless memory runs out before a file is attached
  pub too_long : IsGood given → (file : ℕ) → new.attached ≡ Some file → limit_of file < new.given
      → (ending.status ≡ statuses.TooLong file) ⊎ IsUnread old new ending.status
  -- of no file more than one byte over its limit is taken
  pub at_most : IsGood given → (file : ℕ) → new.attached ≡ Some file → (new.given ≤ limit_of file + 1) ⊎ IsUnread old new ending.status
