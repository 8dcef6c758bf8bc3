-- What files and a sink in memory tell, and which of their calls fail.
use Rattle.std.specs.Prelude.{◌≡◌, ◌≢◌, ◌&&◌, ℕ, Bool, true, false, List, [], ◌∷◌, ◌++◌, Some, None, map, if◌then◌else◌, Contains, is_some, option_map, string_bytes}
use Rattle.dl_io.specs.Source.{Source, raised}
use Rattle.dl_io.specs.Taken.{Taken}
use Rattle.dl_io.specs.declared.pieces.MemFile.{MemFile}
use Rattle.dl_io.specs.declared.memory_files.MemFiles.{MemFiles}
use Rattle.dl_io.specs.Files.{bytes_in, left_of}
use Rattle.dl_io.specs.declared.memory_sink.MemSink.{MemSink}

-- the number of the next call; it stands still at its type's end
abbrev pub next_call : ℕ → ℕ
next_call calls = raised calls 1

-- the call of this number is one of those that fail
abbrev pub IsNamed : List ℕ → ℕ → Type 0
IsNamed fails call = Contains fails call

-- whether no call was named to fail
abbrev pub is_reliable : List ℕ → Bool
is_reliable [] = true
is_reliable (call ∷ calls) = false

-- where no call fails, each path that was added is sound, and else none is
abbrev pub sound_paths_in : List ℕ → List MemFile → List (List ℕ)
sound_paths_in fails files = if is_reliable fails then map (λ file. string_bytes file.path) files else []

-- how files in memory give: how many bytes at most at a time, which calls fail, and how many were made
pub record Plan : Type 0 where
  pub piece : ℕ
  pub fails : List ℕ
  pub calls : ℕ

-- the plan of files in memory, with the calls made so far
abbrev pub plan_of : MemFiles → Plan
plan_of files = record { piece = files.piece; fails = files.fails.items; calls = files.calls }

-- what files in memory tell
abbrev pub source_of : MemFiles → Source
source_of files = let left = left_of files.files.items files.reading in record {
  bytes_at = bytes_in files.files.items;
  sound_paths = sound_paths_in files.fails.items files.files.items;
  attached = option_map (λ reading. reading.file) files.reading;
  is_sound = is_reliable files.fails.items && is_some left;
  left = left;
  given = files.given;
  failed_last = files.failed_last;
  faults = files.faults;
}

-- files in memory before any was added
abbrev pub no_files : Source
no_files = record {
  bytes_at = λ _. None;
  sound_paths = [];
  attached = None;
  is_sound = false;
  left = None;
  given = 0;
  failed_last = None;
  faults = 0;
}

-- a file is there that was not, sound where no call fails, and all else is as before
pub record Adds (fails : List ℕ) (old new : Source) (path bytes : List ℕ) : Type 0 where
  pub here : new.bytes_at path ≡ Some bytes
  pub others : (q : List ℕ) → q ≢ path → new.bytes_at q ≡ old.bytes_at q
  pub sound : new.sound_paths ≡ (if is_reliable fails then old.sound_paths ++ path ∷ [] else [])
  pub rest : new ≡ record old { bytes_at = new.bytes_at; sound_paths = new.sound_paths }

-- what a sink in memory tells
abbrev pub taken_of : MemSink → Taken
taken_of sink = record { written = Some sink.bytes.items; faults = sink.faults }

-- how a sink in memory takes: how many bytes at most at a time, which calls fail, how many were made,
-- and how many bytes it has room for
pub record Script : Type 0 where
  pub piece : ℕ
  pub fails : List ℕ
  pub calls : ℕ
  pub room : ℕ

-- the script of a sink in memory, with the calls made so far
abbrev pub script_of : MemSink → Script
script_of sink = record { piece = sink.piece; fails = sink.fails.items; calls = sink.calls; room = sink.room }
