-- What is found at a path, and which paths are sound, as files are added.
use Rattle.std.proofs.Common.{◌≡◌, ◌≢◌, ℕ, ◌+◌, ◌<◌, Bool, true, false, List, [], ◌∷◌, ◌++◌, Option, Some, None, IsSome, IfSome, length, drop, get_or, refl, sym, ◌∙◌, ap, arith, cond, drop-cons, add-one, zero, suc, subst}
use Rattle.std.specs.Prelude.{map, slice_get, option_map, string_bytes, Contains, bytes_eq, is_some, ◌&&◌}
use Rattle.std.specs.Bool.{Decides}
use Rattle.std.proofs.lemmas.List.{map-append}
use Rattle.std.proofs.lemmas.Option.{slice_get_read}
use Rattle.std.proofs.lemmas.Slice.Eq.{bytes_eq-Decides}
use Rattle.dl_io.specs.declared.pieces.MemFile.{MemFile}
use Rattle.dl_io.specs.Files.{bytes_in, left_of}
use Rattle.dl_io.specs.declared.pieces.Reading.{Reading}
use Rattle.dl_io.specs.Memory.{is_reliable, sound_paths_in}

-- no value comes of none
pub none_of-option_map : {A B : Type 0} (f : A → B) (o : Option A) → option_map f o ≡ None → o ≡ None
none_of-option_map f None h = refl
none_of-option_map f (Some x) h = cc

-- one file after another is tried
pub bytes_in-drop : (files : List MemFile) (i : ℕ) (file : MemFile) (path : List ℕ) → i < length files → file ≡ get_or files i file →
    bytes_in (drop i files) path ≡ cond (bytes_eq (string_bytes file.path) path) (Some file.bytes.items) (bytes_in (drop (i + 1) files) path)
bytes_in-drop files i file path within is =
    let cut : drop i files ≡ file ∷ drop (i + 1) files = rw (add-one, drop-cons files i file, ← is) refl in
    ap (λ fs. bytes_in fs path) cut

-- the file at which the search stops is the one that is found
pub bytes_in-at : (files : List MemFile) (i : ℕ) (file : MemFile) (path : List ℕ) → i < length files → file ≡ get_or files i file →
    bytes_eq (string_bytes file.path) path ≡ true → bytes_in (drop i files) path ≡ bytes_in files path →
    bytes_in files path ≡ option_map (λ (f : MemFile). f.bytes.items) (slice_get files i)
bytes_in-at files i file path within is here before =
    let found : bytes_in (drop i files) path ≡ Some file.bytes.items = bytes_in-drop files i file path within is ∙ (rw here refl) in
    let got : slice_get files i ≡ Some file = slice_get_read files (length files) i file refl within is in
    rw got (sym before ∙ found)

-- and something is found
pub bytes_in-there : (files : List MemFile) (i : ℕ) (file : MemFile) (path : List ℕ) → i < length files → file ≡ get_or files i file →
    bytes_eq (string_bytes file.path) path ≡ true → bytes_in (drop i files) path ≡ bytes_in files path → IsSome (bytes_in files path)
bytes_in-there files i file path within is here before =
    let found : bytes_in (drop i files) path ≡ Some file.bytes.items = bytes_in-drop files i file path within is ∙ (rw here refl) in
    subst IsSome (sym found ∙ before) refl

false_unless : (b : Bool) {P : Type 0} → Decides b P → (P → ⊥) → b ≡ false
false_unless true decides n = absurd (n (decides.0 refl))
false_unless false decides n = refl

found_later : {A : Type 0} (b : Bool) (x y : A) (rest rest' : Option A) → cond b (Some x) rest ≡ None → (rest ≡ None → rest' ≡ Some y) → cond b (Some x) rest' ≡ Some y
found_later true x y rest rest' none later = cc
found_later false x y rest rest' none later = later none

IsSome-cond : {A : Type 0} (b : Bool) (x : A) (rest : Option A) → IsSome rest → IsSome (cond b (Some x) rest)
IsSome-cond true x rest h = refl
IsSome-cond false x rest h = h

-- a file behind others is found at its path, where none of those has it
pub bytes_in-push-here : (files : List MemFile) (file : MemFile) (path : List ℕ) → string_bytes file.path ≡ path → bytes_in files path ≡ None →
    bytes_in (files ++ file ∷ []) path ≡ Some file.bytes.items
bytes_in-push-here [] file path e none =
    let here : bytes_eq (string_bytes file.path) path ≡ true = (bytes_eq-Decides (string_bytes file.path) path).1 e in
    rw here refl
bytes_in-push-here (first ∷ files) file path e none =
    found_later (bytes_eq (string_bytes first.path) path) first.bytes.items file.bytes.items (bytes_in files path) (bytes_in (files ++ file ∷ []) path) none
    (bytes_in-push-here files file path e)

-- a file behind others is not found at another path
pub bytes_in-push-other : (files : List MemFile) (file : MemFile) (path : List ℕ) → path ≢ string_bytes file.path →
    bytes_in (files ++ file ∷ []) path ≡ bytes_in files path
bytes_in-push-other [] file path n =
    let other : bytes_eq (string_bytes file.path) path ≡ false = false_unless _ (bytes_eq-Decides (string_bytes file.path) path) (λ e. n (sym e)) in
    rw other refl
bytes_in-push-other (first ∷ files) file path n =
    ap (λ rest. cond (bytes_eq (string_bytes first.path) path) (Some first.bytes.items) rest) (bytes_in-push-other files file path n)

-- a file is found at each path that was added
pub IsSome-bytes_in : (files : List MemFile) (path : List ℕ) → Contains (map (λ (file : MemFile). string_bytes file.path) files) path → IsSome (bytes_in files path)
IsSome-bytes_in [] path h = absurd (omega (arith, h.1))
IsSome-bytes_in (first ∷ files) path (zero, within, is) =
    let here : bytes_eq (string_bytes first.path) path ≡ true = (bytes_eq-Decides (string_bytes first.path) path).1 is in
    rw here refl
IsSome-bytes_in (first ∷ files) path (suc k, within, is) =
    IsSome-cond _ _ _ (IsSome-bytes_in files path (k, omega arith, is))

-- a path is sound only where no call fails and a file is found there
pub sound_path : (fails : List ℕ) (files : List MemFile) (path : List ℕ) → Contains (sound_paths_in fails files) path →
    (is_reliable fails ≡ true) × IsSome (bytes_in files path)
sound_path [] files path h = (refl, IsSome-bytes_in files path h)
sound_path (call ∷ calls) files path h = absurd (omega (arith, h.1))

-- one more file adds its path to the sound ones, where no call fails
pub sound_paths_in-push : (fails : List ℕ) (files : List MemFile) (file : MemFile) →
    sound_paths_in fails (files ++ file ∷ []) ≡ cond (is_reliable fails) (sound_paths_in fails files ++ string_bytes file.path ∷ []) []
sound_paths_in-push [] files file = map-append (λ (f : MemFile). string_bytes f.path) files (file ∷ [])
sound_paths_in-push (call ∷ calls) files file = refl

-- what is attached where no call fails is sound
pub attached_sound : (fails : List ℕ) (files : List MemFile) (reading : Option Reading) (file : ℕ) (path : List ℕ) →
    is_reliable fails ≡ true → IsSome (bytes_in files path) →
    IfSome reading (λ (r : Reading). (r.file ≡ file) × (left_of files (Some r) ≡ bytes_in files path)) → IsSome reading →
    (is_reliable fails && is_some (left_of files reading)) ≡ true
attached_sound fails files None file path reliable found begins some = cc
attached_sound fails files (Some r) file path reliable found begins some = rw (reliable, begins.1) found
