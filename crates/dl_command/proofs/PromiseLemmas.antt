-- A call keeps its promise by how it ends.
use Rattle.std.proofs.Common.{◌≡◌, ◌∙◌, List, Option, Some, None, ap}
use Rattle.std.specs.Prelude.{option_and_then}
use Rattle.dl_io.specs.Source.{Source}
use Rattle.dl_io.specs.Taken.{Taken}
use Rattle.dl_naming.specs.Naming.{SpelledHasNames}
use Rattle.dl_command.specs.Promise.{Ends, KeepsPromise}
use Rattle.dl_command.specs.Words.{Request, Bytes, still_request_of_words, request_of_words, unless_run}
use Rattle.dl_command.specs.declared.top.Ending.{Ending}
use Rattle.dl_command.specs.declared.words.Verb.{Verb}
use Rattle.dl_command.proofs.EndLemmas.{ends_done, ends_cut, ends_nothing, ends_usage, ends_bad_words, ends_cause, ends_long, ends_most}
use Rattle.dl_command.proofs.OrderLemmas.{ends_as_told, ends_complete}

pub ends_keeps : (given : Option Request) (old new : Source) (before after : Taken) (ending : Ending) → SpelledHasNames → Ends given old new before after ending.status ending.history ending.refusals
    → KeepsPromise given old new before after ending
ends_keeps given old new before after ending named ends = record {
  done = ends_done ends;
  write_fault = ends_cut ends;
  nothing = ends_nothing ends;
  usage = ends_usage ends;
  bad_words = ends_bad_words ends;
  causes = ends_cause ends;
  exact = ends_as_told named ends;
  complete = ends_complete named ends;
  too_long = ends_long ends;
  at_most = ends_most ends;
}

-- where the words give no command, they give none that needs no threads
pub still_none : (words : List Bytes) → request_of_words words ≡ None → still_request_of_words words ≡ None
still_none words none = ap (option_and_then (λ (request : Request). unless_run request.verb request)) none

pub still_is : (words : List Bytes) (request : Request) (verb : Verb) → request_of_words words ≡ Some request → request.verb ≡ verb → still_request_of_words words ≡ unless_run verb request
still_is words request verb is same = ap (option_and_then (λ (given : Request). unless_run given.verb given)) is ∙ ap (λ (v : Verb). unless_run v request) same
