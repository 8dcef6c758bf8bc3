-- What the words ask for, and the promise of a call by it.
use Rattle.std.specs.Prelude.{◌≡◌, ℕ, List, Option, Some, None, option_and_then, option_map}
use Rattle.dl_io.specs.Source.{Source}
use Rattle.dl_io.specs.Taken.{Taken}
use Rattle.dl_ir.specs.declared.answers.Refusal.{Refusal}
use Rattle.dl_history.specs.Histories.{Seen}
use Rattle.dl_command.specs.declared.numbers.Asked.{Asked}
use Rattle.dl_command.specs.declared.status.Status.{Status}
use Rattle.dl_command.specs.declared.top.Ending.{Ending}
use Rattle.dl_command.specs.declared.words.Verb.{Verb}
use Rattle.dl_command.specs.declared.words.Verb.TheVariants as verbs
use Rattle.dl_command.specs.Numbers.{asked_of}
use Rattle.dl_command.specs.Promise.{Ends, KeepsPromise}
use Rattle.dl_command.specs.Words.{Request, Bytes, still_request_of_words, request_of_words}
use Rattle.dl_command.specs.Work.{FinishesWork, KeepsWork}

-- what words ask for: a command over files, or generated work with these numbers and so many places
pub data Wish : Type 0 where
  OverFiles : Request → Wish
  FromSeed : Asked → ℕ → Wish

-- the words of `work` are numbers, those of the other commands are paths
abbrev pub wish_by : Verb → Request → Option Wish
wish_by verbs.Work request = option_map (λ asked. FromSeed asked request.places) (asked_of request.first request.rest)
wish_by verbs.Serial request = Some (OverFiles request)
wish_by verbs.Run request = Some (OverFiles request)
wish_by verbs.Step request = Some (OverFiles request)
wish_by verbs.Show request = Some (OverFiles request)

abbrev pub wish_of : Option Request → Option Wish
wish_of given = option_and_then (λ (request : Request). wish_by request.verb request) given

-- what the words ask for, where they are good
abbrev pub wish_of_words : List Bytes → Option Wish
wish_of_words words = wish_of (request_of_words words)

-- the same, where it needs no threads
abbrev pub still_wish_of_words : List Bytes → Option Wish
still_wish_of_words words = wish_of (still_request_of_words words)

-- the promise of a call whose words ask for this, or are not good
abbrev pub Keeps : Option Wish → Source → Source → Taken → Taken → Ending → Type 0
Keeps None old new before after ending = KeepsPromise None old new before after ending
Keeps (Some (OverFiles request)) old new before after ending = KeepsPromise (Some request) old new before after ending
Keeps (Some (FromSeed asked places)) old new before after ending = KeepsWork asked places old new before after ending

-- how such a call ends
abbrev pub Comes : Option Wish → Source → Source → Taken → Taken → Status → Seen → List Refusal → Type 0
Comes None old new before after status history refusals = Ends None old new before after status history refusals
Comes (Some (OverFiles request)) old new before after status history refusals = Ends (Some request) old new before after status history refusals
Comes (Some (FromSeed asked places)) old new before after status history refusals = (new ≡ old) × FinishesWork asked places before after status history refusals
