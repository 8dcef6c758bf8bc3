-- Which words are a command, over what the library `clap` makes of them: the command line, and the table of commands.
use Rattle.std.specs.Prelude.{◌≡◌, ℕ, ◌==◌, ◌-◌, ◌≤◌, ◌^◌, ◌&&◌, nat_lt, true, false, not, is_some, List, [], ◌∷◌, length, map, find, fold, pos, Option, Some, None, codes, bytes_eq, unwrap_or, if◌then◌else◌}
use Rattle.std.specs.Prelude.{option_map, option_and_then}
use Rattle.std.specs.Str.Parse.{digits_value, without_leading_plus}
use Rattle.clap.specs.ValueTests.{is_unsigned_in}
use Rattle.clap.specs.Words.{App, Kinds, Row, Rule, all_of, fault_of, first_of, matches_of, new_app, new_rule, one_of, with_rule}
use Rattle.clap.specs.Simple.{on_top}
use Rattle.clap.specs.declared.builder.action.ArgAction.TheVariants.{Append}
use Rattle.clap.specs.declared.builder.value_parser.ValueParser.{ValueParser}
use Rattle.clap.specs.declared.builder.value_parser.ValueParser.TheVariants as parsers
use Rattle.dl_command.specs.declared.status.Status.{Status}
use Rattle.dl_command.specs.declared.status.Status.TheVariants as statuses
use Rattle.dl_command.specs.declared.words.Command.{Command}
use Rattle.dl_command.specs.declared.words.CommandRow.{CommandRow}
use Rattle.dl_command.specs.declared.words.Line.{Line as Held}
use Rattle.dl_command.specs.declared.words.Verb.{Verb}
use Rattle.dl_command.specs.declared.words.Verb.TheVariants as verbs
use Rattle.dl_command.specs.declared.words.WordsFault.{WordsFault}
use Rattle.dl_command.specs.declared.words.WordsFault.TheVariants as faults

-- a word, as its bytes
abbrev pub Bytes : Type 0
Bytes = List ℕ

-- a command: what to do, the path of the module, the paths of the files behind it, how many hidden objects there may be at a
-- time, and the path of a heap file, where one is given
pub record Request : Type 0 where
  pub verb : Verb
  pub first : Bytes
  pub rest : List Bytes
  pub places : ℕ
  pub heap : Option Bytes

-- the word that says what to do
abbrev pub command_rule : Rule
command_rule = record (new_rule (codes "COMMAND")) { required = true }

-- the word behind it
abbrev pub first_rule : Rule
first_rule = record (new_rule (codes "FIRST")) { required = true }

-- all further words
abbrev pub rest_rule : Rule
rest_rule = record (new_rule (codes "REST")) { action = Some Append }

-- the numbers that the option takes
abbrev pub places_parser : ValueParser
places_parser = parsers.Signed (pos 1) (pos 65536)

-- the option `--places N`: a number from 1 to 65,536, and 4,096 where the option is not given
abbrev pub places_rule : Rule
places_rule = record (new_rule (codes "places")) {
  long = Some (codes "places");
  parser = Some places_parser;
  defaults = codes "4096" ∷ [];
}

-- the option `--heap FILE`: the path of a heap file
abbrev pub heap_rule : Rule
heap_rule = record (new_rule (codes "heap")) { long = Some (codes "heap") }

-- what the words may be: the three kinds of words in this order, and the options
abbrev pub rules : List Rule
rules = command_rule ∷ first_rule ∷ rest_rule ∷ places_rule ∷ heap_rule ∷ []

-- the command line, which the program's name is no part of
abbrev pub command_line : App
command_line = fold with_rule (on_top (λ shape. record shape { no_binary_name = true }) (new_app (codes "domlock"))) rules

-- what the command line gives: the words in their order, and what the options say
pub record Line : Type 0 where
  pub command : Bytes
  pub first : Bytes
  pub rest : List Bytes
  pub places : ℕ
  pub heap : Option Bytes

-- the number that a text says, where 32 bits hold it
abbrev pub number_of : Bytes → Option ℕ
number_of text = if is_unsigned_in 0 (2 ^ 32 - 1) text then Some (digits_value 10 (without_leading_plus text)) else None

-- what the matches of the command line give
abbrev pub line_of_matches : List Row → Option Line
line_of_matches rows = option_and_then (λ command. option_and_then (λ first. option_map (λ places. record {
  command = command;
  first = first;
  rest = unwrap_or (all_of (codes "REST") rows) [];
  places = places;
  heap = first_of (codes "heap") rows;
}) (option_and_then number_of (one_of (codes "places") rows))) (first_of (codes "FIRST") rows)) (first_of (codes "COMMAND") rows)

-- the table of commands, a row each: the word COMMAND, what it asks for, how many words REST has at least and at most, and whether it
-- takes `--heap`; they are `serial MODULE OPERATIONS`, `run MODULE OPERATIONS..` and `step MODULE SCHEDULE OPERATIONS..` with up to 64
-- operation files, which take a heap file, and `show MODULE` and `work SEED COUNT CALLERS`, which take none
abbrev pub table : List (Bytes × CommandRow)
table =
    (codes "serial", record { verb = verbs.Serial; fewest = 1; most = 1; takes_heap = true })
    ∷ (codes "run", record { verb = verbs.Run; fewest = 1; most = 64; takes_heap = true })
    ∷ (codes "step", record { verb = verbs.Step; fewest = 2; most = 65; takes_heap = true })
    ∷ (codes "show", record { verb = verbs.Show; fewest = 0; most = 0; takes_heap = false })
    ∷ (codes "work", record { verb = verbs.Work; fewest = 2; most = 2; takes_heap = false })
    ∷ []

-- the row of a word
abbrev pub row_of : Bytes → Option CommandRow
row_of word = option_map (λ row. row.1) (find (λ row. bytes_eq row.0 word) table)

-- the command that a row gives, where REST has as many words as the row asks for, and a heap file is given only where the row takes one
abbrev pub request_by : Line → CommandRow → Option Request
request_by line row =
    if nat_lt (length line.rest) row.fewest then None
    else if nat_lt row.most (length line.rest) then None
    else if is_some line.heap && not row.takes_heap then None
    else Some (record { verb = row.verb; first = line.first; rest = line.rest; places = line.places; heap = line.heap })

-- the command that the table has for what the words give
abbrev pub request_of_line : Line → Option Request
request_of_line line = option_and_then (request_by line) (row_of line.command)

-- the command that the matches of the command line give
abbrev pub request_of_matches : List Row → Option Request
request_of_matches rows = option_and_then request_of_line (line_of_matches rows)

-- the command, unless the command line has something against the words
abbrev pub unless_refused : Kinds → Option Request → Option Request
unless_refused [] request = request
unless_refused (kind ∷ kinds) request = None

-- the command that the words give, where they are good
abbrev pub request_of_words : List Bytes → Option Request
request_of_words words = unless_refused (fault_of command_line words) (request_of_matches (matches_of command_line words))

-- words that give this are good: the command line takes them, and they are as the table of commands says
abbrev pub IsGood : Option Request → Type 0
IsGood given = (request : Request) × (given ≡ Some request)

-- a command that needs no threads
abbrev pub unless_run : Verb → Request → Option Request
unless_run verbs.Run request = None
unless_run verbs.Serial request = Some request
unless_run verbs.Step request = Some request
unless_run verbs.Show request = Some request
unless_run verbs.Work request = Some request

-- the command that the words give, where they are good and are not `run`
abbrev pub still_request_of_words : List Bytes → Option Request
still_request_of_words words = option_and_then (λ (request : Request). unless_run request.verb request) (request_of_words words)

-- the status of a call whose words give no command
abbrev pub status_of : WordsFault → Status
status_of faults.Usage = statuses.Usage
status_of faults.Memory = statuses.Memory

-- a command of the table may have so many words REST
abbrev pub MayHave : Verb → ℕ → Type 0
MayHave verbs.Serial count = count ≡ 1
MayHave verbs.Run count = (1 ≤ count) × (count ≤ 64)
MayHave verbs.Step count = (2 ≤ count) × (count ≤ 65)
MayHave verbs.Show count = count ≡ 0
MayHave verbs.Work count = count ≡ 2

-- the number of the heap file
abbrev pub heap_number : ℕ
heap_number = 65535

-- how many bytes a file may have: the module fewer than the others, and the heap file more
abbrev pub limit_of : ℕ → ℕ
limit_of file = if file == 0 then 262144 else if file == heap_number then 67108864 else 4194304

-- what the command line gives, as the program holds it
abbrev pub line_held : Held → Line
line_held line = record { command = line.command.now; first = line.first.now; rest = map (λ word. word.now) line.rest.items; places = line.places; heap = option_map (λ word. word.now) line.heap }

-- a command as the program holds it
abbrev pub request_of : Command → Request
request_of command = record { verb = command.verb; first = command.first.now; rest = map (λ path. path.now) command.rest.items; places = command.places; heap = option_map (λ path. path.now) command.heap }
