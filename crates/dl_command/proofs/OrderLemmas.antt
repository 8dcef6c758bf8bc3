-- The order of refusals, and what is done where nothing calls for one.
use Rattle.std.proofs.Common.{◌≡◌, ℕ, suc, ◌+◌, ◌<◌, ◌≤◌, List, ◌∷◌, Option, Some, take, map, refl, sym, ◌∙◌, ap, subst, arith, ◌⊎◌, inl, inr}
use Rattle.std.specs.Prelude.{All, Contains, slice_get, option_map}
use Rattle.std.proofs.lemmas.Option.{slice_get-map}
use Rattle.std.proofs.lemmas.Bool.{cases_lt}
use Rattle.std.proofs.lemmas.List.Elements.{All-head}
use Rattle.dl_lemmas.proofs.Places.{all_at, front_get}
use Rattle.dl_io.specs.Faults.{Rose}
use Rattle.dl_io.specs.Source.{Source}
use Rattle.dl_io.specs.Taken.{Taken}
use Rattle.dl_heapfile.specs.Names.{HasNames}
use Rattle.dl_history.specs.Histories.{Seen}
use Rattle.dl_ir.specs.declared.answers.Refusal.{Refusal}
use Rattle.dl_ir.specs.declared.modules.Module.{Module}
use Rattle.dl_naming.specs.Naming.{SpelledHasNames}
use Rattle.dl_command.specs.declared.status.Status.{Status}
use Rattle.dl_command.specs.declared.status.Status.TheVariants as statuses
use Rattle.dl_command.specs.declared.loading.Input.{Input}
use Rattle.dl_command.specs.Causes.{NoFile, Refuses}
use Rattle.dl_command.specs.Promise.{Ends, Prints}
use Rattle.dl_command.specs.Texts.{AreFiles, SpellsInput, Behind, behind_of, nothing_behind}
use Rattle.dl_command.specs.Told.{TellsFile, RefusesFile, CallsFor, EndsWith, EndsAsTold, IsInOrder}
use Rattle.dl_command.specs.Wanted.{Wanted, wanted, numbers_of, paths_of}
use Rattle.dl_command.specs.Words.{Bytes, Request}
use Rattle.dl_command.proofs.ToldLemmas.{Untaken, module_untaken, file_untaken, module_refused, file_refused, module_not_taken, file_not_taken, told_source, told_named, found_named, file_at}

-- a file up to the one at this place could not be read, or there was no memory
before_it : {numbers : List ℕ} {place before number : ℕ} {path : Bytes} {old new : Source} {answer status : Status} → before ≤ place → slice_get numbers before ≡ Some number
    → Untaken number path old new status → EndsWith numbers place answer status
before_it {before = before} {number = number} within there (Untaken.failed is fails) = EndsWith.unread before number within there is
before_it within there (Untaken.memory is) = EndsWith.no_memory is

-- the file that stopped the call, and the one that calls for a refusal
record Stopped (source : Module) (old new : Source) (files : List Wanted) (stop : ℕ) (status : Status) : Type 0 where
  before : Behind
  file : Wanted
  are : AreFiles source old (take stop files) nothing_behind before
  is_file : slice_get files stop ≡ Some file
  cause : NoFile source file old new status

record Called (source : Module) (old : Source) (files : List Wanted) (at : ℕ) (answer : Status) : Type 0 where
  file : Wanted
  tells : All (TellsFile source old) (take at files)
  is_file : slice_get files at ≡ Some file
  refused : RefusesFile source old file answer

-- the numbers of files behind the module
abbrev numbers : List Wanted → List ℕ
numbers files = 0 ∷ map (λ (file : Wanted). file.number) files

number_at : (files : List Wanted) (at : ℕ) (file : Wanted) → slice_get files at ≡ Some file → slice_get (numbers files) (suc at) ≡ Some file.number
number_at files at file is = slice_get-map (λ (f : Wanted). f.number) files at ∙ ap (option_map (λ (f : Wanted). f.number)) is

earlier : {source : Module} {old new : Source} {files : List Wanted} {at stop : ℕ} {answer status : Status} → HasNames source → stop < at → Called source old files at answer →
    Stopped source old new files stop status → EndsWith (numbers files) (at + 1) answer status
earlier {source = source} {old = old} {files = files} {at = at} {stop = stop} named below called stopped =
    let tells = all_at (TellsFile source old) (take at files) stop stopped.file called.tells (front_get files at stop below ∙ stopped.is_file) in
    before_it {before = suc stop} (omega (arith, below)) (number_at files stop stopped.file stopped.is_file) (file_untaken named tells stopped.cause)

same_place : {source : Module} {old new : Source} {files : List Wanted} {at stop : ℕ} {answer status : Status} → HasNames source → stop ≡ at → Called source old files at answer →
    Stopped source old new files stop status → EndsWith (numbers files) (at + 1) answer status
same_place {source = source} {old = old} {new = new} {files = files} {at = at} {stop = stop} {answer = answer} {status = status} named same called stopped =
    let stopped_file : slice_get files at ≡ Some stopped.file = subst (λ n. slice_get files n ≡ Some stopped.file) same stopped.is_file in
    let called_file = called.is_file in
    let one : stopped.file ≡ called.file = cc in
    let place : suc at ≡ at + 1 = omega arith in
    let here : slice_get (numbers files) (at + 1) ≡ Some called.file.number = subst (λ n. slice_get (numbers files) n ≡ Some called.file.number) place (number_at files at called.file called.is_file) in
    file_refused named here called.refused (subst (λ f. NoFile source f old new status) one stopped.cause)

later : {P : Type 0} {source : Module} {old new : Source} {files : List Wanted} {at stop : ℕ} {answer status : Status} → HasNames source → at < stop → Called source old files at answer →
    Stopped source old new files stop status → P
later {source = source} {old = old} {files = files} {at = at} {stop = stop} named below called stopped =
    let found = file_at source old (take stop files) nothing_behind stopped.before at called.file stopped.are (front_get files stop at below ∙ called.is_file) in
    file_not_taken named called.refused found.is

refused_at : {source : Module} {old new : Source} {files : List Wanted} {at stop : ℕ} {answer status : Status} → HasNames source → Called source old files at answer →
    Stopped source old new files stop status → EndsWith (numbers files) (at + 1) answer status
refused_at {at = at} {stop = stop} named called stopped = elim (cases_lt stop at) [
  | inl below ↦ earlier named below called stopped
  | inr past ↦ elim (cases_lt at stop) [
    | inl above ↦ later named above called stopped
    | inr not_above ↦ same_place named (omega (arith, past, not_above)) called stopped
  ]
]

-- a call that was stopped ends as what is told calls for
stopped_ends : {request : Request} {old new : Source} {status : Status} → SpelledHasNames → Refuses request old new status → EndsAsTold old request status
stopped_ends {old = old} {status = status} named (Refuses.no_memory is within) place answer calls = EndsWith.no_memory is
stopped_ends {request = request} {status = status} named (Refuses.no_module cause) place answer (CallsFor.source_file is refused) =
    subst (λ p. EndsWith (numbers_of request) p answer status) (sym is) (module_refused refl refused cause)
stopped_ends named (Refuses.no_module cause) place answer (CallsFor.wanted_file source at file is tells before is_file refused) =
    before_it {before = 0} {number = 0} (omega arith) refl (module_untaken tells cause)
stopped_ends named (Refuses.no_file tree source before at file source_file files is_file cause) place answer (CallsFor.source_file is refused) =
    module_not_taken refused source_file
stopped_ends {request = request} {old = old} {new = new} {status = status} named (Refuses.no_file tree found before stop stopped source_file files is_stopped cause) place answer (CallsFor.wanted_file source at file is tells told is_file refused) =
    let same : source ≡ found = told_source tells source_file in
    let stops : Stopped source old new (wanted request) stop status = subst (λ m. Stopped m old new (wanted request) stop status) (sym same)
    (record { before = before; file = stopped; are = files; is_file = is_stopped; cause = cause }) in
    let called : Called source old (wanted request) at answer = record { file = file; tells = told; is_file = is_file; refused = refused } in
    subst (λ p. EndsWith (numbers_of request) p answer status) (sym is) (refused_at (told_named named tells) called stops)

-- where the files spell what they should, nothing calls for a refusal
none_called : {P : Type 0} {request : Request} {old : Source} {input : Input} {place : ℕ} {answer : Status} → SpelledHasNames → SpellsInput old request input →
    CallsFor old request place answer → P
none_called named spells (CallsFor.source_file is refused) = module_not_taken refused spells.source_file
none_called {request = request} {old = old} {input = input} {answer = answer} named spells (CallsFor.wanted_file source at file is tells told is_file refused) =
    let same : source ≡ input.source = told_source tells spells.source_file in
    let found = file_at input.source old (wanted request) nothing_behind (behind_of input) at file spells.behind is_file in
    file_not_taken (found_named named spells.source_file) (subst (λ m. RefusesFile m old file answer) same refused) found.is

-- at a sound path no file fails
no_fault : {file : ℕ} {path : Bytes} {old new : Source} {status : Status} → Untaken file path old new status → Contains old.sound_paths path → status ≡ statuses.Memory
no_fault (Untaken.failed is fails) sound = absurd (fails.not_sound sound)
no_fault (Untaken.memory is) sound = is

-- a call that was stopped though all is in order had no memory
stopped_in_order : {request : Request} {old new : Source} {status : Status} → SpelledHasNames → Refuses request old new status → IsInOrder old request → status ≡ statuses.Memory
stopped_in_order named (Refuses.no_memory is within) order = is
stopped_in_order {request = request} {old = old} named (Refuses.no_module cause) order =
    no_fault (module_untaken order.source_file cause) (All-head (Contains old.sound_paths) request.first (map (λ (file : Wanted). file.path) (wanted request)) order.sound)
stopped_in_order {request = request} {old = old} {status = status} named (Refuses.no_file tree found before stop file source_file files is_file cause) order =
    let same : order.source ≡ found = told_source order.source_file source_file in
    let tells : TellsFile found old file = subst (λ m. TellsFile m old file) same (all_at (TellsFile order.source old) (wanted request) stop file order.wanted_files is_file) in
    let path : slice_get (map (λ (f : Wanted). f.path) (wanted request)) stop ≡ Some file.path = slice_get-map (λ (f : Wanted). f.path) (wanted request) stop ∙ ap (option_map (λ (f : Wanted). f.path)) is_file in
    let sound = all_at (Contains old.sound_paths) (paths_of request) (suc stop) file.path order.sound path in
    no_fault (file_untaken (found_named named source_file) tells cause) sound

-- what was printed was printed whole, where the sink did not fail
printed_whole : (status : Status) (text : Bytes) (before after : Taken) → Prints status text before after → (Rose before.faults after.faults → ⊥) →
    (status ≡ statuses.Done) ⊎ (status ≡ statuses.Memory)
printed_whole statuses.Done text before after prints works = inl refl
printed_whole statuses.WriteFault text before after prints works = absurd (works prints.rose)
printed_whole statuses.Usage text before after prints works = absurd prints
printed_whole (statuses.ReadFault file) text before after prints works = absurd prints
printed_whole (statuses.TooLong file) text before after prints works = absurd prints
printed_whole (statuses.ModuleFault line why) text before after prints works = absurd prints
printed_whole (statuses.OpsFault file line why) text before after prints works = absurd prints
printed_whole statuses.Memory text before after prints works = absurd prints
printed_whole (statuses.HeapFault line why) text before after prints works = absurd prints

module _ {given : Option Request} {old new : Source} {before after : Taken} {status : Status} {history : Seen} {refusals : List Refusal} where
  pub ends_as_told : SpelledHasNames → Ends given old new before after status history refusals → (request : Request) → given ≡ Some request → EndsAsTold old request status
  ends_as_told named (Ends.usage is none same same_taken no_history no_refusals) request is_request file answer calls = absurd (cc)
  ends_as_told named (Ends.unread is same same_taken no_history no_refusals) request is_request file answer calls = EndsWith.no_memory is
  ends_as_told named (Ends.refused found is_found cause same_taken no_history no_refusals) request is_request file answer calls =
      let same : found ≡ request = cc in
      stopped_ends named (subst (λ t. Refuses t old new status) same cause) file answer calls
  ends_as_told named (Ends.ran text ran within prints) request is_request file answer calls =
      let is_found = ran.is_request in
      let same : ran.request ≡ request = cc in
      none_called named (subst (λ t. SpellsInput old t ran.input) same ran.spells) calls

  pub ends_complete : SpelledHasNames → Ends given old new before after status history refusals → (request : Request) → given ≡ Some request → IsInOrder old request →
      (Rose before.faults after.faults → ⊥) → (status ≡ statuses.Done) ⊎ (status ≡ statuses.Memory)
  ends_complete named (Ends.usage is none same same_taken no_history no_refusals) request is_request order works = absurd (cc)
  ends_complete named (Ends.unread is same same_taken no_history no_refusals) request is_request order works = inr is
  ends_complete named (Ends.refused found is_found cause same_taken no_history no_refusals) request is_request order works =
      let same : found ≡ request = cc in
      inr (stopped_in_order named (subst (λ t. Refuses t old new status) same cause) order)
  ends_complete named (Ends.ran text ran within prints) request is_request order works = printed_whole status text before after prints works
