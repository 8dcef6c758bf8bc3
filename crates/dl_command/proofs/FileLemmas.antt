-- Files that are read one after another.
use Rattle.std.proofs.Common.{◌≡◌, ℕ, ◌+◌, ◌<◌, ◌≤◌, List, [], ◌∷◌, ◌++◌, Option, Some, Ok, take, get_or, map, length, refl, sym, ◌∙◌, ap, subst, arith, length-append}
use Rattle.std.specs.Prelude.{All, IfSome, None, Contains, option_map}
use Rattle.std.proofs.Math.Nat.{le_trans}
use Rattle.std.proofs.lemmas.List.Elements.{All-nil, All-push}
use Rattle.dl_io.specs.Source.{Source, SameFiles, Tells}
use Rattle.dl_ir.specs.declared.calls.Call.{Call}
use Rattle.dl_ir.specs.declared.modules.Module.{Module}
use Rattle.dl_grammar.specs.declared.tree.Tree.{Tree}
use Rattle.dl_ir.specs.CallForms.{AreCallsOf}
use Rattle.dl_ir.specs.Checked.{IsChecked}
use Rattle.dl_ir.specs.Heap.{Objects, View}
use Rattle.dl_shape.proofs.Starting.{hidden_count-start, start_is_startable}
use Rattle.dl_heapfile.specs.Faults.{Reads}
use Rattle.dl_heapfile.proofs.Spelled.{what_is_read_is_spelt}
use Rattle.dl_schedule.specs.declared.give.Give.{Give}
use Rattle.dl_schedule.specs.Rules.{IsGiveOf}
use Rattle.dl_schedule.proofs.RuleLaws.{spelled_in_range}
use Rattle.dl_command.specs.declared.loading.Content.{Content}
use Rattle.dl_command.specs.declared.loading.Content.TheVariants as contents
use Rattle.dl_command.specs.declared.status.Status.{Status}
use Rattle.dl_command.specs.declared.status.Status.TheVariants as statuses
use Rattle.dl_command.specs.declared.loading.Input.{Input}
use Rattle.dl_command.specs.declared.wanted.WantedFile.{WantedFile as Held}
use Rattle.dl_command.specs.declared.words.Verb.{Verb}
use Rattle.dl_command.specs.declared.words.Verb.TheVariants as verbs
use Rattle.dl_command.specs.Causes.{NoFile, Refuses}
use Rattle.dl_command.specs.Loading.{IsFine, StopsAt}
use Rattle.dl_command.specs.Reading.{AfterReading, IsWithin, ReadCause, Fails, IsTooLong}
use Rattle.dl_command.specs.Texts.{CanStart, IsFile, AreFiles, IsModuleFile, Behind, behind_of, first_heap, heap_of, nothing_behind, with_content}
use Rattle.dl_command.specs.Wanted.{Wanted, heap_file, operations_from, wanted, wanted_by, wanted_held}
use Rattle.dl_command.specs.Words.{Bytes, Request}
use Rattle.dl_text.proofs.WritingLemmas.{rose_later}
use Rattle.dl_command.proofs.WantedLemmas.{seen_to}

-- what holds while files are read one after another
pub record Loaded (source : Module) (start now : Source) (wanted : List Wanted) (behind : Behind) : Type 0 where
  pub after : AfterReading start now
  pub within : IsWithin now
  pub files : AreFiles source start wanted nothing_behind behind
  pub calls : All (AreCallsOf source) behind.all

-- reading twice is reading
pub after_both : {start now new : Source} → AfterReading start now → AfterReading now new → AfterReading start new
after_both first then = record {
  same = record { bytes = then.same.bytes ∙ first.same.bytes; sound = then.same.sound ∙ first.same.sound };
  later = le_trans first.later then.later;
}

-- what a path tells later it told before
pub told_before : {start now : Source} (path text : List ℕ) → SameFiles start now → Tells (now.bytes_at path) text → Tells (start.bytes_at path) text
told_before path text same told = subst (λ (at : List ℕ → Option (List ℕ)). Tells (at path) text) same.bytes told

-- a file that is as it should be later is so before
pub file_before : {source : Module} {start now : Source} {wanted : Wanted} {content : Content} → SameFiles start now → IsFile source now wanted content → IsFile source start wanted content
file_before {wanted = wanted} same file = record { text = file.text; told = told_before wanted.path file.text same file.told; short = file.short; says = file.says }

fails_before : {start now new : Source} {file : ℕ} {path : Bytes} → AfterReading start now → Fails file path now new → Fails file path start new
fails_before {path = path} after fails = record {
  rose = rose_later after.later fails.rose;
  file_failed = fails.file_failed;
  not_sound = λ h. fails.not_sound (subst (λ paths. Contains paths path) (sym after.same.sound) h);
}

long_before : {start now new : Source} {file : ℕ} {path : Bytes} {limit : ℕ} → AfterReading start now → IsTooLong file path limit now new → IsTooLong file path limit start new
long_before {path = path} {limit = limit} after long = record {
  attached = long.attached;
  taken = long.taken;
  at_most = long.at_most;
  long = subst (λ (at : List ℕ → Option (List ℕ)). IfSome (at path) (λ bytes. limit < length bytes)) after.same.bytes long.long;
}

-- a fault of reading that was seen later is one of the whole call
pub read_before : (start now new : Source) (file : ℕ) (path : Bytes) (status : Status) → AfterReading start now → ReadCause status file path now new → ReadCause status file path start new
read_before start now new file path (statuses.ReadFault f) after cause = (cause.0, fails_before after cause.1, cause.2)
read_before start now new file path (statuses.TooLong f) after cause = (cause.0, long_before after cause.1)
read_before start now new file path statuses.Memory after cause = cause
read_before start now new file path statuses.Done after cause = cause
read_before start now new file path statuses.Usage after cause = cause
read_before start now new file path (statuses.ModuleFault line why) after cause = cause
read_before start now new file path (statuses.OpsFault f line why) after cause = cause
read_before start now new file path statuses.WriteFault after cause = cause
read_before start now new file path (statuses.HeapFault line why) after cause = cause

-- one more file
pub files_push : (source : Module) (files : Source) (wanted : List Wanted) (before after : Behind) (file : Wanted) (content : Content) →
    AreFiles source files wanted before after → IsFile source files file content → AreFiles source files (wanted ++ file ∷ []) before (with_content after content)
files_push source files [] before after file content are is = (content, is, ap (λ (behind : Behind). with_content behind content) are)
files_push source files (first ∷ wanted) before after file content are is = (are.0, are.1, files_push source files wanted (with_content before are.0) after file content are.2 is)

-- why a file was not taken, seen later, is why it was not in the whole call
pub no_file_before : {source : Module} {start now new : Source} {file : Wanted} {status : Status} → AfterReading start now →
    NoFile source file now new status → NoFile source file start new status
no_file_before {start = start} {now = now} {new = new} {file = file} {status = status} after (NoFile.unread cause) =
    NoFile.unread (read_before start now new file.number file.path status after cause)
no_file_before after (NoFile.no_memory is within) = NoFile.no_memory is within
no_file_before {file = file} after (NoFile.at_fault text told short is_fault within) =
    NoFile.at_fault text (told_before file.path text after.same told) short is_fault within

-- files that are as they should be later are so before
pub files_before : (source : Module) (start now : Source) (wanted : List Wanted) (before after : Behind) → SameFiles start now → AreFiles source now wanted before after → AreFiles source start wanted before after
files_before source start now [] before after same are = are
files_before source start now (file ∷ wanted) before after same are = (are.0, file_before same are.1, files_before source start now wanted (with_content before are.0) after same are.2)

-- why the files behind the module were not taken is why those of the command were not
pub refuses_behind : {tree : Tree} {source : Module} {start now new : Source} {request : Request} {status : Status} → AfterReading start now → IsModuleFile start request.first tree source →
    StopsAt source (wanted request) now new status → Refuses request start new status
refuses_behind {tree = tree} {source = source} {start = start} {now = now} {request = request} after source_file (StopsAt.no_file before at file files is cause) =
    Refuses.no_file tree source before at file source_file (files_before source start now (take at (wanted request)) nothing_behind before after.same files) is (no_file_before after cause)
refuses_behind after source_file (StopsAt.no_memory is within) = Refuses.no_memory is within

-- calls are kept where one more content is fine
pub calls_with : (source : Module) (behind : Behind) (content : Content) → All (AreCallsOf source) behind.all → IsFine source content → All (AreCallsOf source) (with_content behind content).all
calls_with source behind (contents.Heap heap) calls fine = calls
calls_with source behind (contents.Schedule gives) calls fine = calls
calls_with source behind (contents.Calls more) calls fine = All-push (AreCallsOf source) behind.all more calls fine

-- a list of operation files says the calls of so many files, no schedule, and no heap
pub record AreOperations (before after : Behind) (paths : List Bytes) : Type 0 where
  pub count : length after.all ≡ length before.all + length paths
  pub gives : after.gives ≡ before.gives
  pub heap : after.heap ≡ before.heap

pub operations_say : (source : Module) (files : Source) (number : ℕ) (paths : List Bytes) (before after : Behind) → AreFiles source files (operations_from number paths) before after → AreOperations before after paths
operations_say source files number [] before after are =
    record { count = (let e = ap (λ (behind : Behind). length behind.all) are in omega (arith, e)); gives = ap (λ (behind : Behind). behind.gives) are; heap = ap (λ (behind : Behind). behind.heap) are }
operations_say source files number (path ∷ paths) before after (contents.Heap heap, is, are) = absurd is.says
operations_say source files number (path ∷ paths) before after (contents.Schedule gives, is, are) = absurd is.says
operations_say source files number (path ∷ paths) before after (contents.Calls calls, is, are) =
    let rest = operations_say source files (number + 1) paths (with_content before (contents.Calls calls)) after are in
    let longer : length (before.all ++ calls ∷ []) ≡ length before.all + 1 = length-append before.all (calls ∷ []) in
    let count = rest.count in
    record { count = omega (arith, count, longer); gives = rest.gives; heap = rest.heap }

-- there are calls for each operation file, and a schedule gives steps to their callers alone
pub record AreBehind (count : ℕ) (behind : Behind) : Type 0 where
  pub all : length behind.all ≡ count
  pub gives : All (IsGiveOf count) behind.gives

no_gives : (count : ℕ) → All (IsGiveOf count) []
no_gives count = All-nil (IsGiveOf count)

-- what a heap file says, where there is one
abbrev SaysHeap : Module → ℕ → Option Objects → Type 0
SaysHeap source places None = Unit {0}
SaysHeap source places (Some heap) = (text : Bytes) × Reads source places text (Ok heap)

-- the files behind the heap file lead from what that says
record BehindHeap (source : Module) (files : Source) (places : ℕ) (rest : List Wanted) (after : Behind) : Type 0 where
  before : Behind
  no_gives : before.gives ≡ []
  no_calls : before.all ≡ []
  says : SaysHeap source places before.heap
  are : AreFiles source files rest before after

behind_heap : (source : Module) (files : Source) (places : ℕ) (heap : Option Bytes) (rest : List Wanted) (after : Behind) → AreFiles source files (heap_file places heap ++ rest) nothing_behind after
    → BehindHeap source files places rest after
behind_heap source files places None rest after are = record { before = nothing_behind; no_gives = refl; no_calls = refl; says = tt; are = are }
behind_heap source files places (Some path) rest after (contents.Heap heap, is, are) =
    record { before = with_content nothing_behind (contents.Heap heap); no_gives = refl; no_calls = refl; says = (is.text, is.says); are = are }
behind_heap source files places (Some path) rest after (contents.Schedule gives, is, are) = absurd is.says
behind_heap source files places (Some path) rest after (contents.Calls calls, is, are) = absurd is.says

pub operations_behind : (source : Module) (files : Source) (places : ℕ) (heap : Option Bytes) (paths : List Bytes) (after : Behind)
    → AreFiles source files (heap_file places heap ++ operations_from 1 paths) nothing_behind after → AreBehind (length paths) after
operations_behind source files places heap paths after are =
    let first = behind_heap source files places heap (operations_from 1 paths) after are in
    let is = operations_say source files 1 paths first.before after first.are in
    let count = is.count in
    let none : length first.before.all ≡ 0 = ap (λ (all : List (List Call)). length all) first.no_calls in
    record { all = omega (arith, count, none); gives = subst (λ (gives : List Give). All (IsGiveOf (length paths)) gives) (sym (is.gives ∙ first.no_gives)) (no_gives (length paths)) }

step_behind : (source : Module) (files : Source) (path : Bytes) (paths : List Bytes) (before after : Behind) → before.all ≡ []
    → AreFiles source files (wanted_by verbs.Step (path ∷ paths)) before after → AreBehind (length paths) after
step_behind source files path paths before after no_calls (contents.Heap heap, is, are) = absurd is.says
step_behind source files path paths before after no_calls (contents.Calls calls, is, are) = absurd is.says
step_behind source files path paths before after no_calls (contents.Schedule gives, is, are) =
    let rest = operations_say source files 2 paths (with_content before (contents.Schedule gives)) after are in
    let range = spelled_in_range (length paths) is.text (Ok gives) is.says in
    let count = rest.count in
    let none : length before.all ≡ 0 = ap (λ (all : List (List Call)). length all) no_calls in
    record { all = omega (arith, count, none); gives = subst (λ (gs : List Give). All (IsGiveOf (length paths)) gs) (sym rest.gives) range.each }

pub step_counts : (source : Module) (files : Source) (places : ℕ) (heap : Option Bytes) (rest : List Bytes) (behind : Behind) → 2 ≤ length rest
    → AreFiles source files (heap_file places heap ++ wanted_by verbs.Step rest) nothing_behind behind → (count : ℕ) × (count + 1 ≡ length rest) × AreBehind count behind
step_counts source files places heap [] behind more are = absurd (omega (arith, more))
step_counts source files places heap (path ∷ paths) behind more are =
    let first = behind_heap source files places heap (wanted_by verbs.Step (path ∷ paths)) behind are in
    (length paths, omega arith, step_behind source files path paths first.before behind first.no_calls first.are)

-- no file behind the heap file says a heap
keeps_heap : (source : Module) (files : Source) (verb : Verb) (rest : List Bytes) (before after : Behind) → AreFiles source files (wanted_by verb rest) before after → after.heap ≡ before.heap
keeps_heap source files verbs.Serial rest before after are = (operations_say source files 1 rest before after are).heap
keeps_heap source files verbs.Run rest before after are = (operations_say source files 1 rest before after are).heap
keeps_heap source files verbs.Step [] before after are = ap (λ (behind : Behind). behind.heap) are
keeps_heap source files verbs.Step (path ∷ paths) before after (contents.Heap heap, is, are) = absurd is.says
keeps_heap source files verbs.Step (path ∷ paths) before after (contents.Calls calls, is, are) = absurd is.says
keeps_heap source files verbs.Step (path ∷ paths) before after (contents.Schedule gives, is, are) =
    (operations_say source files 2 paths (with_content before (contents.Schedule gives)) after are).heap
keeps_heap source files verbs.Show rest before after are = (operations_say source files 1 rest before after are).heap
keeps_heap source files verbs.Work rest before after are = ap (λ (behind : Behind). behind.heap) are

-- a run may start from the heap that was given, and from the start heap where none was
may_start : (source : Module) (places : ℕ) (given : Option View) → IsChecked source → SaysHeap source places (option_map (λ (heap : View). heap.objects) given)
    → CanStart source places (first_heap source given)
may_start source places None checked says = record { startable = start_is_startable source checked.start; fits = omega (arith, hidden_count-start source) }
may_start source places (Some heap) checked says =
    let read = what_is_read_is_spelt source places says.0 heap.objects checked.start says.1 in
    record { startable = read.startable; fits = read.fits }

-- what the files of a command say is a heap from which a run may start
pub can_start : (files : Source) (request : Request) (input : Input) → IsChecked input.source → AreFiles input.source files (wanted request) nothing_behind (behind_of input)
    → CanStart input.source request.places (heap_of input)
can_start files request input checked are =
    let first = behind_heap input.source files request.places request.heap (wanted_by request.verb request.rest) (behind_of input) are in
    let kept = keeps_heap input.source files request.verb request.rest first.before (behind_of input) first.are in
    may_start input.source request.places input.heap checked (subst (SaysHeap input.source request.places) (sym kept) first.says)

-- one more file was read
pub loaded_more : {source : Module} {start now new : Source} (files : List Held) (i : ℕ) (d : Held) (behind : Behind) (content : Content) → i < length files
    → Loaded source start now (take i (map wanted_held files)) behind → AfterReading now new → IsWithin new → IsFile source now (wanted_held (get_or files i d)) content → IsFine source content
    → Loaded source start new (take (i + 1) (map wanted_held files)) (with_content behind content)
loaded_more {source = source} {start = start} {new = new} files i d behind content inside loaded after within is fine =
    subst (λ (wanted : List Wanted). Loaded source start new wanted (with_content behind content)) (sym (seen_to wanted_held files i d inside)) record {
      after = after_both loaded.after after;
      within = within;
      files = files_push source start (take i (map wanted_held files)) nothing_behind behind (wanted_held (get_or files i d)) content loaded.files (file_before loaded.after.same is);
      calls = calls_with source behind content loaded.calls fine;
    }
