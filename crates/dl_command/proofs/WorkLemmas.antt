-- What generated work comes to, and how its promise is kept.
use Rattle.std.proofs.Common.{◌≡◌, ◌≢◌, ◌∙◌, ℕ, List, Option, Some, None, [], length, inl, inr, refl, sym, ap, subst}
use Rattle.std.specs.Prelude.{option_and_then, option_map, ◌⊎◌}
use Rattle.std.proofs.lemmas.List.FromFn.{length-map-range_with_len}
use Rattle.dl_io.specs.Faults.{Rose}
use Rattle.dl_io.specs.Source.{Source}
use Rattle.dl_io.specs.Taken.{Taken, Took}
use Rattle.dl_ir.specs.declared.answers.Refusal.{Refusal}
use Rattle.dl_history.specs.Histories.{Seen}
use Rattle.dl_ir.specs.declared.calls.Call.{Call}
use Rattle.dl_ir.specs.declared.modules.Module.{Module}
use Rattle.dl_ir.specs.Heap.{Objects, start_objects}
use Rattle.dl_core.specs.Heaps.{plain}
use Rattle.dl_naming.specs.Naming.{SpelledHasNames}
use Rattle.dl_schedule.specs.declared.give.Give.{Give}
use Rattle.dl_trace.specs.Runs.{Run}
use Rattle.dl_work.specs.declared.summaries.Figures.{Figures}
use Rattle.dl_work.specs.Summary.{summary}
use Rattle.dl_work.specs.Works.{file_of, files_of, schedule_of}
use Rattle.dl_command.specs.declared.numbers.Asked.{Asked}
use Rattle.dl_command.specs.declared.status.Status.{Status}
use Rattle.dl_command.specs.declared.status.Status.TheVariants as statuses
use Rattle.dl_command.specs.declared.top.Ending.{Ending}
use Rattle.dl_command.specs.declared.words.Verb.{Verb}
use Rattle.dl_command.specs.declared.words.Verb.TheVariants as verbs
use Rattle.dl_command.specs.Causes.{Cut}
use Rattle.dl_command.specs.Numbers.{asked_of}
use Rattle.dl_command.specs.declared.words.WordsFault.{WordsFault}
use Rattle.dl_command.specs.declared.words.WordsFault.TheVariants as faults
use Rattle.dl_command.specs.Promise.{Ends, IsScheduled, Prints, nothing_done}
use Rattle.dl_command.specs.Wishes.{Comes, Keeps, Wish, OverFiles, FromSeed, still_wish_of_words, wish_by, wish_of, wish_of_words}
use Rattle.dl_command.specs.Words.{Request, Bytes, status_of, request_of_words, unless_run}
use Rattle.dl_command.specs.Work.{FinishesWork, IsWorkModule, Works}
use Rattle.dl_command.proofs.PromiseLemmas.{ends_keeps, still_is}

-- there is a file for each caller
pub work_many : (seed count callers : ℕ) → length (files_of seed count callers) ≡ callers
work_many seed count callers = length-map-range_with_len (file_of seed count callers) 1 callers

-- what was run, replayed and counted is what the summary tells
pub works_is : (asked : Asked) (places : ℕ) (source : Module) (all : List (List Call)) (gives : List Give) (end : Run) (history : Seen) (refusals left : List Refusal) (heap : Objects) (waits replayed : ℕ)
    → IsWorkModule source → all ≡ files_of asked.seed asked.count asked.callers → gives ≡ schedule_of asked.seed asked.count asked.callers
    → IsScheduled source (start_objects source) gives all places end history refusals → heap ≡ plain end.core.world.heap → waits ≡ end.waits → left ≡ refusals → replayed ≡ length history.entries
    → Works asked places history refusals (summary (record { seed = asked.seed; count = asked.count; callers = asked.callers; waits = waits; replayed = replayed }) history.entries left heap)
works_is asked places source all gives end history refusals left heap waits replayed is_module files schedule scheduled heap_is waits_are left_is replayed_are = record {
  source = source;
  is_module = is_module;
  end = end;
  scheduled = subst (λ (cs : List (List Call)). IsScheduled source (start_objects source) (schedule_of asked.seed asked.count asked.callers) cs places end history refusals) files
      (subst (λ (gs : List Give). IsScheduled source (start_objects source) gs all places end history refusals) schedule scheduled);
  is_summary = ap (λ (w : ℕ). summary (figures w replayed) history.entries left heap) waits_are
      ∙ ap (λ (r : ℕ). summary (figures end.waits r) history.entries left heap) replayed_are
      ∙ ap (λ (rs : List Refusal). summary (figures end.waits (length history.entries)) history.entries rs heap) left_is
      ∙ ap (λ (h : Objects). summary (figures end.waits (length history.entries)) history.entries refusals h) heap_is;
}
  where
    figures : ℕ → ℕ → Figures
    figures w r = record { seed = asked.seed; count = asked.count; callers = asked.callers; waits = w; replayed = r }

-- what is printed is printed by one of two statuses
by_status : (before after : Taken) (status : Status) (text : Bytes) → Prints status text before after → (status ≡ statuses.Done) ⊎ (status ≡ statuses.WriteFault)
by_status before after statuses.Done text prints = inl refl
by_status before after statuses.WriteFault text prints = inr refl
by_status before after statuses.Usage text prints = absurd prints
by_status before after (statuses.ReadFault file) text prints = absurd prints
by_status before after (statuses.TooLong file) text prints = absurd prints
by_status before after (statuses.ModuleFault line why) text prints = absurd prints
by_status before after (statuses.OpsFault file line why) text prints = absurd prints
by_status before after statuses.Memory text prints = absurd prints
by_status before after (statuses.HeapFault line why) text prints = absurd prints

-- the clauses of a call that finishes so
module _ {asked : Asked} {places : ℕ} {before after : Taken} {status : Status} {history : Seen} {refusals : List Refusal} where
  work_done : FinishesWork asked places before after status history refusals → status ≡ statuses.Done →
      (text : Bytes) × Works asked places history refusals text × Took before.written after.written text
  work_done (FinishesWork.no_memory is same no_history no_refusals) done = let e : statuses.Memory ≡ statuses.Done = sym is ∙ done in absurd (cc)
  work_done (FinishesWork.wrote text works prints) done = (text, works, subst (λ s. Prints s text before after) done prints)

  work_cut : FinishesWork asked places before after status history refusals → status ≡ statuses.WriteFault →
      (text : Bytes) × Works asked places history refusals text × Cut text before after
  work_cut (FinishesWork.no_memory is same no_history no_refusals) fault = let e : statuses.Memory ≡ statuses.WriteFault = sym is ∙ fault in absurd (cc)
  work_cut (FinishesWork.wrote text works prints) fault = (text, works, subst (λ s. Prints s text before after) fault prints)

  work_nothing : FinishesWork asked places before after status history refusals → status ≢ statuses.Done → status ≢ statuses.WriteFault →
      (status ≡ statuses.Memory) × (after ≡ before) × (history ≡ nothing_done) × (refusals ≡ [])
  work_nothing (FinishesWork.no_memory is same no_history no_refusals) no_done no_fault = (is, same, no_history, no_refusals)
  work_nothing (FinishesWork.wrote text works prints) no_done no_fault = elim (by_status before after status text prints) [
    | inl done ↦ absurd (no_done done)
    | inr fault ↦ absurd (no_fault fault)
  ]

  work_complete : FinishesWork asked places before after status history refusals → ¬ Rose before.faults after.faults → (status ≡ statuses.Done) ⊎ (status ≡ statuses.Memory)
  work_complete (FinishesWork.no_memory is same no_history no_refusals) calm = inr is
  work_complete (FinishesWork.wrote text works prints) calm = elim (by_status before after status text prints) [
    | inl done ↦ inl done
    | inr fault ↦ (let cut : Cut text before after = subst (λ s. Prints s text before after) fault prints in absurd (calm cut.rose))
  ]

-- a call keeps its promise by how it comes to its end
pub comes_keeps : (wish : Option Wish) (old new : Source) (before after : Taken) (ending : Ending) → SpelledHasNames
    → Comes wish old new before after ending.status ending.history ending.refusals → Keeps wish old new before after ending
comes_keeps None old new before after ending named comes = ends_keeps None old new before after ending named comes
comes_keeps (Some (OverFiles request)) old new before after ending named comes = ends_keeps (Some request) old new before after ending named comes
comes_keeps (Some (FromSeed asked places)) old new before after ending named comes = record {
  untouched = comes.0;
  done = work_done comes.1;
  write_fault = work_cut comes.1;
  nothing = work_nothing comes.1;
  complete = work_complete comes.1;
}

-- where memory runs out before a file is touched, a call ends so whatever was asked for
comes_no_memory : (wish : Option Wish) (files : Source) (taken : Taken) (status : Status) (history : Seen) (refusals : List Refusal) → status ≡ statuses.Memory → history ≡ nothing_done → refusals ≡ []
    → Comes wish files files taken taken status history refusals
comes_no_memory None files taken status history refusals is no_history no_refusals = Ends.unread is refl refl no_history no_refusals
comes_no_memory (Some (OverFiles request)) files taken status history refusals is no_history no_refusals = Ends.unread is refl refl no_history no_refusals
comes_no_memory (Some (FromSeed asked places)) files taken status history refusals is no_history no_refusals = (refl, FinishesWork.no_memory is refl no_history no_refusals)

-- a call whose words were not read comes to its end by what is amiss with them
pub comes_without_command : (wish : Option Wish) (files : Source) (taken : Taken) (status : Status) (history : Seen) (refusals : List Refusal) (fault : WordsFault)
    → status ≡ status_of fault → (fault ≡ faults.Usage → wish ≡ None) → history ≡ nothing_done → refusals ≡ [] → Comes wish files files taken taken status history refusals
comes_without_command wish files taken status history refusals faults.Usage is none no_history no_refusals =
    subst (λ w. Comes w files files taken taken status history refusals) (sym (none refl)) (Ends.usage is refl refl refl no_history no_refusals)
comes_without_command wish files taken status history refusals faults.Memory is none no_history no_refusals =
    comes_no_memory wish files taken status history refusals is no_history no_refusals

-- what the words ask for that give a command
pub wish_is : (words : List Bytes) (request : Request) (verb : Verb) → request_of_words words ≡ Some request → request.verb ≡ verb → wish_of_words words ≡ wish_by verb request
wish_is words request verb is same = ap wish_of is ∙ ap (λ (v : Verb). wish_by v request) same

-- the same, where it needs no threads
pub still_wish_is : (words : List Bytes) (request : Request) (verb : Verb) → request_of_words words ≡ Some request → request.verb ≡ verb
    → still_wish_of_words words ≡ option_and_then (wish_by verb) (unless_run verb request)
still_wish_is words request verb is same = ap wish_of (still_is words request verb is same) ∙ of_verb verb same
  where
    of_verb : (v : Verb) → request.verb ≡ v → wish_of (unless_run v request) ≡ option_and_then (wish_by v) (unless_run v request)
    of_verb verbs.Run e = refl
    of_verb verbs.Serial e = ap (λ (w : Verb). wish_by w request) e
    of_verb verbs.Step e = ap (λ (w : Verb). wish_by w request) e
    of_verb verbs.Show e = ap (λ (w : Verb). wish_by w request) e
    of_verb verbs.Work e = ap (λ (w : Verb). wish_by w request) e

-- a call of `work` comes to its end as it finishes, where the words say its numbers, and else as a call without a command
pub comes_work : (request : Request) (asked : Asked) (before after : Taken) (status : Status) (history : Seen) (refusals : List Refusal) → asked_of request.first request.rest ≡ Some asked
    → FinishesWork asked request.places before after status history refusals → (files : Source) → Comes (wish_by verbs.Work request) files files before after status history refusals
comes_work request asked before after status history refusals is finishes files =
    subst (λ (o : Option Asked). Comes (option_map (λ (a : Asked). FromSeed a request.places) o) files files before after status history refusals) (sym is) (refl, finishes)

pub comes_unasked : (request : Request) (before after : Taken) (status : Status) (history : Seen) (refusals : List Refusal) → asked_of request.first request.rest ≡ None
    → (files : Source) → Ends None files files before after status history refusals → Comes (wish_by verbs.Work request) files files before after status history refusals
comes_unasked request before after status history refusals is files ends =
    subst (λ (o : Option Asked). Comes (option_map (λ (a : Asked). FromSeed a request.places) o) files files before after status history refusals) (sym is) ends
