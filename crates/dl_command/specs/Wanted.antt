-- The files that a command wants behind the module, in the order in which they are read.
use Rattle.std.specs.Prelude.{ℕ, ◌+◌, ◌++◌, List, [], ◌∷◌, Option, Some, None, length, map}
use Rattle.dl_command.specs.declared.wanted.Form.{Form}
use Rattle.dl_command.specs.declared.wanted.Form.TheVariants as forms
use Rattle.dl_command.specs.declared.wanted.WantedFile.{WantedFile as Held}
use Rattle.dl_command.specs.declared.words.Verb.{Verb}
use Rattle.dl_command.specs.declared.words.Verb.TheVariants as verbs
use Rattle.dl_command.specs.Words.{Request, Bytes, heap_number}

-- a file that is wanted: its number, what it is to be, and its path
pub record Wanted : Type 0 where
  pub number : ℕ
  pub form : Form
  pub path : Bytes

-- operation files at these paths, numbered from this number on
abbrev pub operations_from : ℕ → List Bytes → List Wanted
operations_from number [] = []
operations_from number (path ∷ paths) = record { number = number; form = forms.Operations; path = path } ∷ operations_from (number + 1) paths

-- the heap file at this path, from which a run with so many places is to start, where one is given
abbrev pub heap_file : ℕ → Option Bytes → List Wanted
heap_file places None = []
heap_file places (Some path) = record { number = heap_number; form = forms.Heap places; path = path } ∷ []

-- what the words REST of a command are the paths of: operation files, and for `step` a schedule before them, which names their callers
abbrev pub wanted_by : Verb → List Bytes → List Wanted
wanted_by verbs.Serial rest = operations_from 1 rest
wanted_by verbs.Run rest = operations_from 1 rest
wanted_by verbs.Step [] = []
wanted_by verbs.Step (path ∷ paths) = record { number = 1; form = forms.Schedule (length paths); path = path } ∷ operations_from 2 paths
wanted_by verbs.Show rest = operations_from 1 rest
wanted_by verbs.Work rest = []

-- the files that a command wants behind the module, in the order in which they are read: the heap file first, where one is given
abbrev pub wanted : Request → List Wanted
wanted request = heap_file request.places request.heap ++ wanted_by request.verb request.rest

-- the numbers of all its files in that order; the module is file 0
abbrev pub numbers_of : Request → List ℕ
numbers_of request = 0 ∷ map (λ (file : Wanted). file.number) (wanted request)

-- the paths of all its files
abbrev pub paths_of : Request → List Bytes
paths_of request = request.first ∷ map (λ (file : Wanted). file.path) (wanted request)

-- a file that is wanted, as the program holds it
abbrev pub wanted_held : Held → Wanted
wanted_held file = record { number = file.number; form = file.form; path = file.path.now }
