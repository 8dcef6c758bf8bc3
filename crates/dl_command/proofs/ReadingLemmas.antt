-- Pieces of a file that are read one after another.
use Rattle.std.proofs.Common.{◌≡◌, ℕ, ◌+◌, ◌<◌, ◌≤◌, true, List, [], ◌++◌, Option, Some, None, IfSome, length, take, drop, refl, ap, subst, arith, append_assoc, length-append}
use Rattle.std.specs.Prelude.{Contains}
use Rattle.std.proofs.lemmas.List.{append-nil, take-append-drop}
use Rattle.dl_io.specs.Source.{Source, SameFiles, Tells, Gives}

-- where the bytes at a path are told, these and those that are left are they
abbrev pub Ahead : Option (List ℕ) → List ℕ → Option (List ℕ) → Type 0
Ahead None bytes left = Unit {0}
Ahead (Some all) bytes left = (rest : List ℕ) × (left ≡ Some rest) × (bytes ++ rest ≡ all)

-- what holds while a file is read
pub record SoFar (start now : Source) (file : ℕ) (path : List ℕ) (limit : ℕ) (bytes : List ℕ) (taken : ℕ) : Type 0 where
  pub same : SameFiles start now
  pub later : start.faults ≤ now.faults
  pub attached : now.attached ≡ Some file
  pub sound : Contains start.sound_paths path → now.is_sound ≡ true
  pub given : now.given ≡ length bytes
  pub count : taken ≡ length bytes
  pub short : taken ≤ limit
  pub ahead : Ahead (start.bytes_at path) bytes now.left

-- nothing was read yet
pub ahead_start : (told left : Option (List ℕ)) → left ≡ told → Ahead told [] left
ahead_start None left is = tt
ahead_start (Some all) left is = (all, is, refl)

-- one more piece was read
pub ahead_step : (told left left_after : Option (List ℕ)) (bytes buffer : List ℕ) (n : ℕ) → Ahead told bytes left →
    IfSome left (λ (rest : List ℕ). Gives rest n buffer left_after) → Ahead told (bytes ++ take n buffer) left_after
ahead_step None left left_after bytes buffer n ahead gives = tt
ahead_step (Some all) left left_after bytes buffer n ahead gives =
    let g : Gives ahead.0 n buffer left_after = subst (λ (o : Option (List ℕ)). IfSome o (λ (rest : List ℕ). Gives rest n buffer left_after)) ahead.1 gives in
    (drop n ahead.0, g.after, rw (g.put, append_assoc bytes (take n ahead.0) (drop n ahead.0), take-append-drop n ahead.0) ahead.2)

-- at the end the bytes are those at the path
pub ahead_end : (told left left_after : Option (List ℕ)) (bytes buffer : List ℕ) (n : ℕ) → Ahead told bytes left →
    IfSome left (λ (rest : List ℕ). Gives rest n buffer left_after) → n ≡ 0 → Tells told bytes
ahead_end None left left_after bytes buffer n ahead gives none = tt
ahead_end (Some all) left left_after bytes buffer n ahead gives none =
    let g : Gives ahead.0 n buffer left_after = subst (λ (o : Option (List ℕ)). IfSome o (λ (rest : List ℕ). Gives rest n buffer left_after)) ahead.1 gives in
    rw (← ahead.2, g.ends none, append-nil) refl

-- where more was taken than the limit, more stands at the path
pub ahead_long : (told left left_after : Option (List ℕ)) (bytes buffer : List ℕ) (n limit : ℕ) → Ahead told bytes left →
    IfSome left (λ (rest : List ℕ). Gives rest n buffer left_after) → limit < length bytes + n → IfSome told (λ (all : List ℕ). limit < length all)
ahead_long None left left_after bytes buffer n limit ahead gives more = tt
ahead_long (Some all) left left_after bytes buffer n limit ahead gives more =
    let g : Gives ahead.0 n buffer left_after = subst (λ (o : Option (List ℕ)). IfSome o (λ (rest : List ℕ). Gives rest n buffer left_after)) ahead.1 gives in
    omega (arith, length-append bytes ahead.0, ap length ahead.2, g.fits)
