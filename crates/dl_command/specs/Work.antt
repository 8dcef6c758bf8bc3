-- What `work` promises: the summary of the scheduled run of the operations that a seed gives.
use Rattle.std.specs.Prelude.{◌≡◌, ◌≢◌, ◌⊎◌, ℕ, List, [], length}
use Rattle.dl_io.specs.Faults.{Rose}
use Rattle.dl_io.specs.Source.{Source}
use Rattle.dl_io.specs.Taken.{Taken, Took}
use Rattle.dl_ir.specs.declared.answers.Refusal.{Refusal}
use Rattle.dl_ir.specs.declared.modules.Module.{Module}
use Rattle.dl_ir.specs.Heap.{start_objects}
use Rattle.dl_grammar.specs.declared.tree.Tree.{Tree}
use Rattle.dl_grammar.specs.Texts.{Spells}
use Rattle.dl_types.specs.Rules.{Types}
use Rattle.dl_modules.specs.declared.TheConstants.{SKEW}
use Rattle.dl_core.specs.Heaps.{plain}
use Rattle.dl_history.specs.Histories.{Seen}
use Rattle.dl_trace.specs.Runs.{Run}
use Rattle.dl_work.specs.declared.summaries.Figures.{Figures}
use Rattle.dl_work.specs.Summary.{summary}
use Rattle.dl_work.specs.Works.{files_of, schedule_of}
use Rattle.dl_command.specs.declared.numbers.Asked.{Asked}
use Rattle.dl_command.specs.declared.status.Status.{Status}
use Rattle.dl_command.specs.declared.status.Status.TheVariants as statuses
use Rattle.dl_command.specs.declared.top.Ending.{Ending}
use Rattle.dl_command.specs.Causes.{Cut}
use Rattle.dl_command.specs.Promise.{IsScheduled, Prints, nothing_done}
use Rattle.dl_command.specs.Words.{Bytes}

-- the module of generated work: its text spells a tree, and the tree is the module
pub record IsWorkModule (source : Module) : Type 0 where
  pub tree : Tree
  pub spelled : Spells SKEW.now tree
  pub typed : Types tree source

-- what the summary tells of a scheduled run beside its history and what it left; the replay goes through all entries
abbrev pub figures_of : Asked → Run → Seen → Figures
figures_of asked end history = record { seed = asked.seed; count = asked.count; callers = asked.callers; waits = end.waits; replayed = length history.entries }

-- the text is the summary of the scheduled run of the operations and the schedule that the seed gives, from the start heap of the
-- module, and history and refusals are those of that run
pub record Works (asked : Asked) (places : ℕ) (history : Seen) (refusals : List Refusal) (text : Bytes) : Type 0 where
  pub source : Module
  pub is_module : IsWorkModule source
  pub end : Run
  pub scheduled : IsScheduled source (start_objects source) (schedule_of asked.seed asked.count asked.callers) (files_of asked.seed asked.count asked.callers) places end history refusals
  pub is_summary : text ≡ summary (figures_of asked end history) history.entries refusals (plain end.core.world.heap)

-- how generated work ends: memory runs out, or its summary is written as far as the sink takes it
pub data FinishesWork (asked : Asked) (places : ℕ) (taken_before taken_after : Taken) (status : Status) (history : Seen) (refusals : List Refusal) : Type 0 where
  no_memory : status ≡ statuses.Memory → taken_after ≡ taken_before → history ≡ nothing_done → refusals ≡ []
      → FinishesWork asked places taken_before taken_after status history refusals
  wrote : (text : Bytes) → Works asked places history refusals text → Prints status text taken_before taken_after
      → FinishesWork asked places taken_before taken_after status history refusals

-- the promise of a call of `work` with these numbers and so many places
pub record KeepsWork (asked : Asked) (places : ℕ) (old new : Source) (taken_before taken_after : Taken) (ending : Ending) : Type 0 where
  -- no file is touched
  pub untouched : new ≡ old
  -- where all is done, the sink took the summary
  pub done : ending.status ≡ statuses.Done
      → (text : Bytes) × Works asked places ending.history ending.refusals text × Took taken_before.written taken_after.written text
  -- at a fault of the sink the same, and a prefix of it was taken
  pub write_fault : ending.status ≡ statuses.WriteFault → (text : Bytes) × Works asked places ending.history ending.refusals text × Cut text taken_before taken_after
  -- else memory ran out, and nothing was written; where it ran out in the replay, operations were carried out, but no history is told
  pub nothing : ending.status ≢ statuses.Done → ending.status ≢ statuses.WriteFault
      → (ending.status ≡ statuses.Memory) × (taken_after ≡ taken_before) × (ending.history ≡ nothing_done) × (ending.refusals ≡ [])
  -- where the sink does not fail, all is done, unless memory runs out
  pub complete : ¬ Rose taken_before.faults taken_after.faults → (ending.status ≡ statuses.Done) ⊎ (ending.status ≡ statuses.Memory)
