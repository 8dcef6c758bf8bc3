-- What a list of files in memory holds at a path, and what is left of the one that is read.
use Rattle.std.specs.Prelude.{◌≡◌, ℕ, List, [], ◌∷◌, Option, Some, None, length, drop, slice_get, bytes_eq, nat_le, if◌then◌else◌, option_map, option_and_then, string_bytes}
use Rattle.dl_io.specs.Source.{Gives}
use Rattle.dl_io.specs.declared.pieces.MemFile.{MemFile}
use Rattle.dl_io.specs.declared.pieces.Reading.{Reading}

-- the bytes of the first file at a path
abbrev pub bytes_in : List MemFile → List ℕ → Option (List ℕ)
bytes_in [] path = None
bytes_in (file ∷ files) path =
    if bytes_eq (string_bytes file.path) path then Some file.bytes.items else bytes_in files path

-- what is left of bytes of which so many were given
abbrev pub rest_of : List ℕ → ℕ → Option (List ℕ)
rest_of bytes taken = if nat_le taken (length bytes) then Some (drop taken bytes) else None

-- what is left of the file that is read
abbrev pub left_of : List MemFile → Option Reading → Option (List ℕ)
left_of files None = None
left_of files (Some reading) = option_and_then (λ file. rest_of file.bytes.items reading.taken) (slice_get files reading.place)

-- so many of the bytes left are put to the front of the buffer, and reading goes on in the same file
pub record Continues (files : List MemFile) (old : Option Reading) (n : ℕ) (buffer : List ℕ) (new : Reading) : Type 0 where
  pub left : List ℕ
  pub was_left : left_of files old ≡ Some left
  pub gives : Gives left n buffer (left_of files (Some new))
  pub same_file : option_map (λ reading. reading.file) old ≡ Some new.file
