-- What files tell of themselves, and what a read gives.
use Rattle.std.specs.Prelude.{◌≡◌, ℕ, ◌+◌, ◌-◌, ◌^◌, ◌≤◌, min, Bool, List, [], Option, Some, IfSome, length, take, drop}

-- what files tell, and what happened to them
pub record Source : Type 0 where
  -- the bytes at each path, where they are told
  pub bytes_at : List ℕ → Option (List ℕ)
  -- the paths at which no call fails
  pub sound_paths : List (List ℕ)
  -- the file attached last, and whether it is sound
  pub attached : Option ℕ
  pub is_sound : Bool
  -- the bytes left of it, where they are told
  pub left : Option (List ℕ)
  -- the number of bytes given since the last attach
  pub given : ℕ
  -- the file that failed last, and the number of faults so far
  pub failed_last : Option ℕ
  pub faults : ℕ

-- no call changes the bytes at a path or the sound paths
pub record SameFiles (old new : Source) : Type 0 where
  pub bytes : new.bytes_at ≡ old.bytes_at
  pub sound : new.sound_paths ≡ old.sound_paths

-- where bytes are told, they are these
abbrev pub Tells : Option (List ℕ) → List ℕ → Type 0
Tells told bytes = IfSome told (λ b. b ≡ bytes)

-- the count of bytes after n more; it stands still at its type's end
abbrev pub raised : ℕ → ℕ → ℕ
raised given n = min (given + n) (2 ^ 64 - 1)

-- n bytes of those left are put to the front of the buffer; n is 0 exactly at the end
pub record Gives (left : List ℕ) (n : ℕ) (buffer : List ℕ) (left_after : Option (List ℕ)) : Type 0 where
  pub put : take n buffer ≡ take n left
  pub fits : n ≤ length left
  pub after : left_after ≡ Some (drop n left)
  pub ends : n ≡ 0 → left ≡ []
