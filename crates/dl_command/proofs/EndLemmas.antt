-- How a call ends, clause by clause.
use Rattle.std.proofs.Common.{◌≡◌, ◌≢◌, ℕ, ◌+◌, ◌<◌, ◌≤◌, List, [], ◌⊎◌, inl, inr, Option, Some, None, refl, sym, ◌∙◌, subst, arith}
use Rattle.std.proofs.lemmas.Option.{same_Some}
use Rattle.dl_io.specs.Source.{Source}
use Rattle.dl_io.specs.Taken.{Taken, Took}
use Rattle.dl_history.specs.Histories.{Seen}
use Rattle.dl_ir.specs.declared.answers.Refusal.{Refusal}
use Rattle.dl_ir.specs.declared.modules.Module.{Module}
use Rattle.dl_heapfile.specs.declared.fault.HeapFault.{HeapFault}
use Rattle.dl_heapfile.specs.declared.fault.HeapFault.TheVariants as heaps
use Rattle.dl_syntax.specs.declared.calls.CallsFault.{CallsFault}
use Rattle.dl_syntax.specs.declared.calls.CallsFault.TheVariants as calls
use Rattle.dl_schedule.specs.declared.give.ScheduleFault.{ScheduleFault}
use Rattle.dl_schedule.specs.declared.give.ScheduleFault.TheVariants as schedules
use Rattle.dl_command.specs.declared.loading.Input.{Input}
use Rattle.dl_command.specs.declared.wanted.Form.{Form}
use Rattle.dl_command.specs.declared.wanted.Form.TheVariants as forms
use Rattle.dl_command.specs.declared.status.Status.{Status}
use Rattle.dl_command.specs.declared.status.Status.TheVariants as statuses
use Rattle.dl_command.specs.Causes.{NoModule, NoFile, Refuses, Cut}
use Rattle.dl_command.specs.Promise.{Ran, Finishes, Ends, Prints, nothing_done}
use Rattle.dl_command.specs.Reading.{IsUnread, ReadCause, IsWithin}
use Rattle.dl_command.specs.Texts.{IsFaultOf, SpellsInput, calls_status, heap_status, schedule_status}
use Rattle.dl_command.specs.Wanted.{Wanted}
use Rattle.dl_command.specs.Words.{IsGood, Bytes, Request, limit_of, status_of}
use Rattle.dl_command.specs.declared.words.WordsFault.{WordsFault}
use Rattle.dl_command.specs.declared.words.WordsFault.TheVariants as faults

-- a status with which files are refused
abbrev IsRefusal : Status → Type 0
IsRefusal statuses.Done = ⊥
IsRefusal statuses.WriteFault = ⊥
IsRefusal statuses.Usage = ⊥
IsRefusal (statuses.ReadFault file) = Unit {0}
IsRefusal (statuses.TooLong file) = Unit {0}
IsRefusal (statuses.ModuleFault line why) = Unit {0}
IsRefusal (statuses.OpsFault file line why) = Unit {0}
IsRefusal statuses.Memory = Unit {0}
IsRefusal (statuses.HeapFault line why) = Unit {0}

read_refuses : (status : Status) (file : ℕ) (path : Bytes) (old new : Source) → ReadCause status file path old new → IsRefusal status
read_refuses statuses.Done f path old new cause = cause
read_refuses statuses.WriteFault f path old new cause = cause
read_refuses statuses.Usage f path old new cause = cause
read_refuses (statuses.ReadFault file) f path old new cause = tt
read_refuses (statuses.TooLong file) f path old new cause = tt
read_refuses (statuses.ModuleFault line why) f path old new cause = tt
read_refuses (statuses.OpsFault file line why) f path old new cause = tt
read_refuses statuses.Memory f path old new cause = tt
read_refuses (statuses.HeapFault line why) f path old new cause = tt

module_refuses : {path : Bytes} {old new : Source} {status : Status} → NoModule path old new status → IsRefusal status
module_refuses {path = path} {old = old} {new = new} {status = status} (NoModule.unread cause) = read_refuses status 0 path old new cause
module_refuses (NoModule.no_memory is within) = subst IsRefusal (sym is) tt
module_refuses (NoModule.at_fault line why text is told short is_fault within) = subst IsRefusal (sym is) tt

calls_told : (file : ℕ) (fault : CallsFault) → IsRefusal (calls_status file fault)
calls_told file (calls.NotAscii line) = tt
calls_told file (calls.BadByte line) = tt
calls_told file (calls.TooMany line) = tt
calls_told file (calls.NoOp line) = tt
calls_told file (calls.ArgCount line) = tt
calls_told file (calls.NotNumber line) = tt
calls_told file (calls.NoRoot line) = tt
calls_told file calls.Memory = tt

schedule_told : (file : ℕ) (fault : ScheduleFault) → IsRefusal (schedule_status file fault)
schedule_told file (schedules.NotAscii line) = tt
schedule_told file (schedules.BadByte line) = tt
schedule_told file (schedules.BadStep line) = tt
schedule_told file (schedules.NoCaller line) = tt
schedule_told file (schedules.TooMany line) = tt
schedule_told file schedules.Memory = tt

heap_told : (fault : HeapFault) → IsRefusal (heap_status fault)
heap_told (heaps.NoHeap line) = tt
heap_told (heaps.BadLine line) = tt
heap_told (heaps.Count line) = tt
heap_told (heaps.Dangling line) = tt
heap_told (heaps.Shape line) = tt
heap_told (heaps.NoPlaces line) = tt
heap_told heaps.Memory = tt

fault_refuses : (source : Module) (file : ℕ) (form : Form) (text : Bytes) (status : Status) → IsFaultOf source file form text status → IsRefusal status
fault_refuses source file (forms.Heap places) text status told = subst IsRefusal (sym told.is) (heap_told told.fault)
fault_refuses source file (forms.Schedule callers) text status told = subst IsRefusal (sym told.is) (schedule_told file told.fault)
fault_refuses source file forms.Operations text status told = subst IsRefusal (sym told.is) (calls_told file told.fault)

file_refuses : {source : Module} {file : Wanted} {old new : Source} {status : Status} → NoFile source file old new status → IsRefusal status
file_refuses {file = file} {old = old} {new = new} {status = status} (NoFile.unread cause) = read_refuses status file.number file.path old new cause
file_refuses (NoFile.no_memory is within) = subst IsRefusal (sym is) tt
file_refuses {source = source} {file = file} {status = status} (NoFile.at_fault text told short is_fault within) = fault_refuses source file.number file.form text status is_fault

refuses : {request : Request} {old new : Source} {status : Status} → Refuses request old new status → IsRefusal status
refuses (Refuses.no_module cause) = module_refuses cause
refuses (Refuses.no_file tree source before at file source_file files is cause) = file_refuses cause
refuses (Refuses.no_memory is within) = subst IsRefusal (sym is) tt

-- what is printed is printed by one of two statuses
printed : {P : Type 0} (status : Status) (text : Bytes) (old new : Taken) → Prints status text old new → status ≢ statuses.Done → status ≢ statuses.WriteFault → P
printed statuses.Done text old new prints no_done no_fault = absurd (no_done refl)
printed statuses.WriteFault text old new prints no_done no_fault = absurd (no_fault refl)
printed statuses.Usage text old new prints no_done no_fault = absurd prints
printed (statuses.ReadFault file) text old new prints no_done no_fault = absurd prints
printed (statuses.TooLong file) text old new prints no_done no_fault = absurd prints
printed (statuses.ModuleFault line why) text old new prints no_done no_fault = absurd prints
printed (statuses.OpsFault file line why) text old new prints no_done no_fault = absurd prints
printed statuses.Memory text old new prints no_done no_fault = absurd prints
printed (statuses.HeapFault line why) text old new prints no_done no_fault = absurd prints

-- where reading stopped and more than the limit was taken, the file was too long
read_long : (status : Status) (f : ℕ) (path : Bytes) (old new : Source) (file : ℕ) → ReadCause status f path old new →
    new.attached ≡ Some file → limit_of file < new.given → status ≡ statuses.TooLong file
read_long statuses.Done g path old new file cause is more = absurd cause
read_long statuses.WriteFault g path old new file cause is more = absurd cause
read_long statuses.Usage g path old new file cause is more = absurd cause
read_long (statuses.ReadFault f) g path old new file cause is more = let short = cause.2 file is in absurd (omega (arith, short, more))
read_long (statuses.TooLong f) g path old new file cause is more = let e = cause.1.attached in cc
read_long (statuses.ModuleFault line why) g path old new file cause is more = absurd cause
read_long (statuses.OpsFault f line why) g path old new file cause is more = absurd cause
read_long (statuses.HeapFault line why) g path old new file cause is more = absurd cause
read_long statuses.Memory g path old new file cause is more = let short = cause file is in absurd (omega (arith, short, more))

within_long : {P : Type 0} (new : Source) (file : ℕ) → IsWithin new → new.attached ≡ Some file → limit_of file < new.given → P
within_long new file within is more = let short = within file is in absurd (omega (arith, short, more))

refused_long : {request : Request} {old new : Source} {status : Status} (file : ℕ) → Refuses request old new status → new.attached ≡ Some file →
    limit_of file < new.given → status ≡ statuses.TooLong file
refused_long {request = request} {old = old} {new = new} {status = status} file (Refuses.no_module (NoModule.unread cause)) is more = read_long status 0 request.first old new file cause is more
refused_long {new = new} file (Refuses.no_module (NoModule.no_memory e within)) is more = within_long new file within is more
refused_long {new = new} file (Refuses.no_module (NoModule.at_fault line why text e told short is_fault within)) is more = within_long new file within is more
refused_long {old = old} {new = new} {status = status} file (Refuses.no_file tree source before at found source_file files is_file (NoFile.unread cause)) is more = read_long status found.number found.path old new file cause is more
refused_long {new = new} file (Refuses.no_file tree source before at found source_file files is_file (NoFile.no_memory e within)) is more = within_long new file within is more
refused_long {new = new} file (Refuses.no_file tree source before at found source_file files is_file (NoFile.at_fault text told short is_fault within)) is more = within_long new file within is more
refused_long {new = new} file (Refuses.no_memory e within) is more = within_long new file within is more

within_most : (new : Source) (file : ℕ) → IsWithin new → new.attached ≡ Some file → new.given ≤ limit_of file + 1
within_most new file within is = let short = within file is in omega (arith, short)

-- where reading stopped, at most one byte more than the limit was taken
read_most : (status : Status) (f : ℕ) (path : Bytes) (old new : Source) (file : ℕ) → ReadCause status f path old new →
    new.attached ≡ Some file → new.given ≤ limit_of file + 1
read_most statuses.Done g path old new file cause is = absurd cause
read_most statuses.WriteFault g path old new file cause is = absurd cause
read_most statuses.Usage g path old new file cause is = absurd cause
read_most (statuses.ReadFault f) g path old new file cause is = within_most new file cause.2 is
read_most (statuses.TooLong f) g path old new file cause is =
    subst (λ n. new.given ≤ limit_of n + 1) (same_Some g file (sym cause.1.attached ∙ is)) cause.1.at_most
read_most (statuses.ModuleFault line why) g path old new file cause is = absurd cause
read_most (statuses.OpsFault f line why) g path old new file cause is = absurd cause
read_most (statuses.HeapFault line why) g path old new file cause is = absurd cause
read_most statuses.Memory g path old new file cause is = within_most new file cause is

refused_most : {request : Request} {old new : Source} {status : Status} (file : ℕ) → Refuses request old new status → new.attached ≡ Some file →
    new.given ≤ limit_of file + 1
refused_most {request = request} {old = old} {new = new} {status = status} file (Refuses.no_module (NoModule.unread cause)) is = read_most status 0 request.first old new file cause is
refused_most {new = new} file (Refuses.no_module (NoModule.no_memory e within)) is = within_most new file within is
refused_most {new = new} file (Refuses.no_module (NoModule.at_fault line why text e told short is_fault within)) is = within_most new file within is
refused_most {old = old} {new = new} {status = status} file (Refuses.no_file tree source before at found source_file files is_file (NoFile.unread cause)) is = read_most status found.number found.path old new file cause is
refused_most {new = new} file (Refuses.no_file tree source before at found source_file files is_file (NoFile.no_memory e within)) is = within_most new file within is
refused_most {new = new} file (Refuses.no_file tree source before at found source_file files is_file (NoFile.at_fault text told short is_fault within)) is = within_most new file within is
refused_most {new = new} file (Refuses.no_memory e within) is = within_most new file within is

-- a call of which the files were read ends as its command finishes
pub ends_finished : {given : Option Request} {old new : Source} {before after : Taken} {status : Status} {history : Seen} {refusals : List Refusal}
    (request : Request) {input : Input} → given ≡ Some request → SpellsInput old request input → IsWithin new →
    Finishes request.verb input request.places before after status history refusals → Ends given old new before after status history refusals
ends_finished request is_request spells within (Finishes.no_memory is same_taken no_history no_refusals) =
    Ends.refused request is_request (Refuses.no_memory is within) same_taken no_history no_refusals
ends_finished request {input = input} is_request spells within (Finishes.wrote text writes prints) =
    Ends.ran text (record { request = request; is_request = is_request; input = input; spells = spells; writes = writes }) within prints

-- a call whose words give no command ends by what is amiss with them
pub ends_without_command : {given : Option Request} {old : Source} {before : Taken} {status : Status} {history : Seen} {refusals : List Refusal}
    (fault : WordsFault) → status ≡ status_of fault → (fault ≡ faults.Usage → given ≡ None) → history ≡ nothing_done → refusals ≡ []
    → Ends given old old before before status history refusals
ends_without_command faults.Usage is none no_history no_refusals = Ends.usage is (none refl) refl refl no_history no_refusals
ends_without_command faults.Memory is none no_history no_refusals = Ends.unread is refl refl no_history no_refusals

-- the clauses of a call that ends so
module _ {given : Option Request} {old new : Source} {before after : Taken} {status : Status} {history : Seen} {refusals : List Refusal} where
  pub ends_done : Ends given old new before after status history refusals → status ≡ statuses.Done →
      (text : Bytes) × Ran given old history refusals text × Took before.written after.written text
  ends_done (Ends.usage is none same same_taken no_history no_refusals) done = let e : statuses.Usage ≡ statuses.Done = sym is ∙ done in absurd (cc)
  ends_done (Ends.unread is same same_taken no_history no_refusals) done = let e : statuses.Memory ≡ statuses.Done = sym is ∙ done in absurd (cc)
  ends_done (Ends.refused request is_request cause same_taken no_history no_refusals) done = absurd (subst IsRefusal done (refuses cause))
  ends_done (Ends.ran text ran within prints) done = (text, ran, subst (λ s. Prints s text before after) done prints)

  pub ends_cut : Ends given old new before after status history refusals → status ≡ statuses.WriteFault →
      (text : Bytes) × Ran given old history refusals text × Cut text before after
  ends_cut (Ends.usage is none same same_taken no_history no_refusals) fault = let e : statuses.Usage ≡ statuses.WriteFault = sym is ∙ fault in absurd (cc)
  ends_cut (Ends.unread is same same_taken no_history no_refusals) fault = let e : statuses.Memory ≡ statuses.WriteFault = sym is ∙ fault in absurd (cc)
  ends_cut (Ends.refused request is_request cause same_taken no_history no_refusals) fault = absurd (subst IsRefusal fault (refuses cause))
  ends_cut (Ends.ran text ran within prints) fault = (text, ran, subst (λ s. Prints s text before after) fault prints)

  pub ends_nothing : Ends given old new before after status history refusals → status ≢ statuses.Done → status ≢ statuses.WriteFault →
      (after ≡ before) × (history ≡ nothing_done) × (refusals ≡ [])
  ends_nothing (Ends.usage is none same same_taken no_history no_refusals) no_done no_fault = (same_taken, no_history, no_refusals)
  ends_nothing (Ends.unread is same same_taken no_history no_refusals) no_done no_fault = (same_taken, no_history, no_refusals)
  ends_nothing (Ends.refused request is_request cause same_taken no_history no_refusals) no_done no_fault = (same_taken, no_history, no_refusals)
  ends_nothing (Ends.ran text ran within prints) no_done no_fault = printed status text before after prints no_done no_fault

  pub ends_usage : Ends given old new before after status history refusals → status ≡ statuses.Usage → ¬ IsGood given
  ends_usage (Ends.usage is none same same_taken no_history no_refusals) usage good = let request = good.1 in cc
  ends_usage (Ends.unread is same same_taken no_history no_refusals) usage good = let e : statuses.Memory ≡ statuses.Usage = sym is ∙ usage in absurd (cc)
  ends_usage (Ends.refused request is_request cause same_taken no_history no_refusals) usage good = absurd (subst IsRefusal usage (refuses cause))
  ends_usage (Ends.ran text ran within prints) usage good = absurd (subst (λ s. Prints s text before after) usage prints)

  pub ends_bad_words : Ends given old new before after status history refusals → ¬ IsGood given →
      ((status ≡ statuses.Usage) ⊎ (status ≡ statuses.Memory)) × (new ≡ old)
  ends_bad_words (Ends.usage is none same same_taken no_history no_refusals) bad = (inl is, same)
  ends_bad_words (Ends.unread is same same_taken no_history no_refusals) bad = (inr is, same)
  ends_bad_words (Ends.refused request is_request cause same_taken no_history no_refusals) bad = absurd (bad (request, is_request))
  ends_bad_words (Ends.ran text ran within prints) bad = absurd (bad (ran.request, ran.is_request))

  pub ends_cause : Ends given old new before after status history refusals → status ≢ statuses.Done → status ≢ statuses.WriteFault → status ≢ statuses.Usage →
      status ≢ statuses.Memory → (request : Request) × (given ≡ Some request) × Refuses request old new status
  ends_cause (Ends.usage is none same same_taken no_history no_refusals) no_done no_fault no_usage no_want = absurd (no_usage is)
  ends_cause (Ends.unread is same same_taken no_history no_refusals) no_done no_fault no_usage no_want = absurd (no_want is)
  ends_cause (Ends.refused request is_request cause same_taken no_history no_refusals) no_done no_fault no_usage no_want = (request, is_request, cause)
  ends_cause (Ends.ran text ran within prints) no_done no_fault no_usage no_want = printed status text before after prints no_done no_fault

  pub ends_long : Ends given old new before after status history refusals → IsGood given → (file : ℕ) → new.attached ≡ Some file →
      limit_of file < new.given → (status ≡ statuses.TooLong file) ⊎ IsUnread old new status
  ends_long (Ends.usage is none same same_taken no_history no_refusals) good file attached more = let request = good.1 in absurd (cc)
  ends_long (Ends.unread is same same_taken no_history no_refusals) good file attached more = inr (is, same)
  ends_long (Ends.refused request is_request cause same_taken no_history no_refusals) good file attached more = inl (refused_long file cause attached more)
  ends_long (Ends.ran text ran within prints) good file attached more = within_long new file within attached more

  pub ends_most : Ends given old new before after status history refusals → IsGood given → (file : ℕ) → new.attached ≡ Some file →
      (new.given ≤ limit_of file + 1) ⊎ IsUnread old new status
  ends_most (Ends.usage is none same same_taken no_history no_refusals) good file attached = let request = good.1 in absurd (cc)
  ends_most (Ends.unread is same same_taken no_history no_refusals) good file attached = inr (is, same)
  ends_most (Ends.refused request is_request cause same_taken no_history no_refusals) good file attached = inl (refused_most file cause attached)
  ends_most (Ends.ran text ran within prints) good file attached = inl (within_most new file within attached)
