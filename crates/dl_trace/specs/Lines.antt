-- The lines of a trace.
use Rattle.std.specs.Prelude.{◌++◌, ℕ, List, codes, decimal}
use Rattle.dl_ir.specs.declared.answers.Answer.{Answer}
use Rattle.dl_ir.specs.declared.modules.Module.{Module}
use Rattle.dl_ir.specs.declared.names.Name.{Name}
use Rattle.dl_core.specs.declared.answers.Event.{Event}
use Rattle.dl_core.specs.declared.answers.Event.TheVariants as events
use Rattle.dl_core.specs.declared.answers.Lock.{Lock}
use Rattle.dl_core.specs.declared.answers.Lock.TheVariants as locks
use Rattle.dl_core.specs.declared.answers.Progress.{Progress}
use Rattle.dl_core.specs.declared.answers.Progress.TheVariants as progress
use Rattle.dl_core.specs.Heaps.{Heap}
use Rattle.dl_core.specs.Machines.{field_named}
use Rattle.dl_history.specs.Report.{dotted, name_text, answer_text}

-- a word and a number
abbrev pub word_number : List ℕ → ℕ → List ℕ
word_number word number = word ++ decimal number

-- a word and the name of a root
abbrev pub word_root : List ℕ → ℕ → List ℕ
word_root word root = word ++ dotted 0 root

-- a word and a name
abbrev pub word_name : List ℕ → Name → List ℕ
word_name word name = word ++ name_text name

-- the name of an object's field behind a space
abbrev pub field_text : Module → Heap → Name → ℕ → List ℕ
field_text source heap name field = codes " " ++ field_named source heap name field

-- a word, a name and a field of the object of this name
abbrev pub word_field : Module → Heap → List ℕ → Name → ℕ → List ℕ
word_field source heap word name field = word_name word name ++ field_text source heap name field

-- two words, each with a number
abbrev pub two_numbers : List ℕ → ℕ → List ℕ → ℕ → List ℕ
two_numbers word number behind last = word_number word number ++ word_number behind last

-- what is said of an event behind which the heap is this one
abbrev pub event_text : Module → Heap → Event → List ℕ
event_text source heap (events.Reserve need version) = two_numbers (codes "reserve ") need (codes " version ") version
event_text source heap (events.TakeRoot root) = word_root (codes "root ") root
event_text source heap (events.Enter ticket) = word_number (codes "enter ") ticket
event_text source heap (events.Read name field) = word_field source heap (codes "read ") name field
event_text source heap (events.Write name field) = word_field source heap (codes "write ") name field
event_text source heap (events.Take name) = word_name (codes "take ") name
event_text source heap (events.SeeSealed name) = word_name (codes "sealed ") name
event_text source heap (events.LetGo name) = word_name (codes "letgo ") name
event_text source heap (events.GiveUp name) = word_name (codes "giveup ") name
event_text source heap (events.Seal name) = word_name (codes "seal ") name
event_text source heap (events.Make name) = word_name (codes "make ") name

-- a word and the name of what is locked. A step never answers the turn or a place
abbrev pub word_lock : List ℕ → Lock → List ℕ
word_lock word locks.Turn = word
word_lock word (locks.Root root) = word_root word root
word_lock word (locks.Object name) = word_name word name
word_lock word (locks.Place place) = word

-- an answer behind a space
abbrev pub spaced_answer : Answer → List ℕ
spaced_answer answer = codes " " ++ answer_text answer

-- what is said of a step behind which the heap is this one. A step never answers the last two
abbrev pub progress_text : Module → Heap → Progress → List ℕ
progress_text source heap (progress.Moved event) = event_text source heap event
progress_text source heap (progress.Waiting lock by) = word_lock (codes "wait ") lock ++ word_number (codes " by ") by
progress_text source heap (progress.Refused need found version) = word_number (codes "noroom need ") need ++ two_numbers (codes " found ") found (codes " version ") version
progress_text source heap (progress.Done entry) = word_number (codes "finish ") entry.ticket ++ spaced_answer entry.answer
progress_text source heap progress.Idle = codes "idle"
progress_text source heap (progress.Looked place) = codes "looked"
progress_text source heap (progress.Raced seen now) = codes "raced"

-- the line of a step of a caller
abbrev pub step_line : Module → Heap → ℕ → Progress → List ℕ
step_line source heap caller answer = decimal caller ++ codes " " ++ progress_text source heap answer ++ codes "\n"
