-- The files that a command wants: lists that grow, and how many files there are.
use Rattle.std.proofs.Common.{◌≡◌, ℕ, suc, ◌+◌, ◌<◌, ◌≤◌, List, [], ◌∷◌, ◌++◌, Option, Some, None, take, length, get_or, refl, sym, ◌∙◌, ap, subst, arith, append_assoc}
use Rattle.std.specs.Prelude.{All, slice_get, map, option_map}
use Rattle.std.specs.List.{take-map}
use Rattle.std.specs.Borrow.{Bor}
use Rattle.std.proofs.lemmas.Bool.{ne_eqb}
use Rattle.std.proofs.lemmas.List.{get_or-map, get_or_default, length-map, length-take-le, take_more, map-append}
use Rattle.std.proofs.lemmas.List.Elements.{All-append, All-cons, All-nil}
use Rattle.std.proofs.lemmas.Option.{slice_get-map, slice_get_read}
use Rattle.dl_command.specs.declared.wanted.Form.TheVariants as forms
use Rattle.dl_command.specs.declared.wanted.WantedFile.{WantedFile as Held}
use Rattle.dl_command.specs.declared.words.Verb.{Verb}
use Rattle.dl_command.specs.declared.words.Verb.TheVariants as verbs
use Rattle.dl_command.specs.Loading.{IsNumberOf}
use Rattle.dl_command.specs.Wanted.{Wanted, heap_file, operations_from, wanted, wanted_by, wanted_held}
use Rattle.dl_command.specs.Words.{Request, Bytes, heap_number, limit_of}

-- what is seen of the element at a place
pub seen_at : {X Y : Type 0} (f : X → Y) (xs : List X) (i : ℕ) (d : X) → i < length xs → slice_get (map f xs) i ≡ Some (f (get_or xs i d))
seen_at f xs i d within =
    slice_get-map f xs i
    ∙ ap (option_map f) (slice_get_read xs (length xs) i (get_or xs i d) refl within (get_or_default xs i d (get_or xs i d) within))

-- what is seen of the elements up to and with the one at a place
pub seen_to : {X Y : Type 0} (f : X → Y) (xs : List X) (i : ℕ) (d : X) → i < length xs → take (i + 1) (map f xs) ≡ take i (map f xs) ++ f (get_or xs i d) ∷ []
seen_to f xs i d within =
    take-map f (i + 1) xs
    ∙ ap (map f) (take_more xs i d within)
    ∙ map-append f (take i xs) (get_or xs i d ∷ [])
    ∙ ap (λ ys. ys ++ f (get_or xs i d) ∷ []) (sym (take-map f i xs))

-- one more operation file
pub operations_push : (number : ℕ) (paths : List Bytes) (path : Bytes)
    → operations_from number (paths ++ path ∷ []) ≡ operations_from number paths ++ record { number = number + length paths; form = forms.Operations; path = path } ∷ []
operations_push number [] path = ap (λ (n : ℕ). record { number = n; form = forms.Operations; path = path } ∷ []) {x = number} {y = number + 0} (omega arith)
operations_push number (first ∷ paths) path =
    let later = operations_push (number + 1) paths path in
    ap (λ (rest : List Wanted). record { number = number; form = forms.Operations; path = first } ∷ rest)
    (later ∙ ap (λ (n : ℕ). operations_from (number + 1) paths ++ record { number = n; form = forms.Operations; path = path } ∷ []) {x = number + 1 + length paths} {y = number + suc (length paths)} (omega arith))

-- what was there before, and one more operation file
pub operations_more : (old new : List Wanted) (first i : ℕ) (paths : List (Bor Bytes)) (d : Bor Bytes) → i < length paths
    → new ≡ old ++ operations_from first (take i (map (λ path. path.now) paths))
    → new ++ record { number = first + i; form = forms.Operations; path = (get_or paths i d).now } ∷ [] ≡ old ++ operations_from first (take (i + 1) (map (λ path. path.now) paths))
operations_more old new first i paths d within same =
    let texts = map (λ (path : Bor Bytes). path.now) paths in
    let path : Bytes = (get_or paths i d).now in
    let shorter : length (take i texts) ≡ i = length-take-le i texts (omega (arith, within, length-map paths (λ (path : Bor Bytes). path.now))) in
    let one : ℕ → Wanted = λ n. record { number = n; form = forms.Operations; path = path } in
    ap (λ (ws : List Wanted). ws ++ one (first + i) ∷ []) same
    ∙ append_assoc old (operations_from first (take i texts)) (one (first + i) ∷ [])
    ∙ ap (λ (ws : List Wanted). old ++ ws)
    (ap (λ (n : ℕ). operations_from first (take i texts) ++ one (first + n) ∷ []) (sym shorter)
    ∙ sym (operations_push first (take i texts) path)
    ∙ ap (operations_from first) (sym (seen_to (λ (path : Bor Bytes). path.now) paths i d within)))

-- a file that is neither the module nor the heap file is not long
pub plain_limit : (file : ℕ) → (0 < file) × (file < heap_number) → limit_of file ≡ 4194304
plain_limit file between = rw (ne_eqb file 0 (λ e. omega (arith, e, between.0)), ne_eqb file heap_number (λ e. omega (arith, e, between.1))) refl

-- each file behind the module has a number that its form may have
abbrev HasNumber : Wanted → Type 0
HasNumber file = IsNumberOf file.form file.number

operations_numbered : (number : ℕ) (paths : List Bytes) → 0 < number → number + length paths ≤ heap_number → All HasNumber (operations_from number paths)
operations_numbered number [] some few = All-nil HasNumber
operations_numbered number (path ∷ paths) some few =
    All-cons HasNumber _ (operations_from (number + 1) paths) (some, omega (arith, few)) (operations_numbered (number + 1) paths (omega arith) (omega (arith, few)))

heap_numbered : (places : ℕ) (heap : Option Bytes) → All HasNumber (heap_file places heap)
heap_numbered places None = All-nil HasNumber
heap_numbered places (Some path) = All-cons HasNumber _ [] refl (All-nil HasNumber)

rest_numbered : (verb : Verb) (rest : List Bytes) → length rest ≤ 65 → All HasNumber (wanted_by verb rest)
rest_numbered verbs.Serial rest few = operations_numbered 1 rest (omega arith) (omega (arith, few))
rest_numbered verbs.Run rest few = operations_numbered 1 rest (omega arith) (omega (arith, few))
rest_numbered verbs.Step [] few = All-nil HasNumber
rest_numbered verbs.Step (path ∷ paths) few =
    All-cons HasNumber _ (operations_from 2 paths) (omega arith, omega arith) (operations_numbered 2 paths (omega arith) (omega (arith, few)))
rest_numbered verbs.Show rest few = operations_numbered 1 rest (omega arith) (omega (arith, few))
rest_numbered verbs.Work rest few = All-nil HasNumber

pub wanted_numbered : (request : Request) → length request.rest ≤ 65 → All (λ (file : Wanted). IsNumberOf file.form file.number) (wanted request)
wanted_numbered request few =
    All-append HasNumber (heap_file request.places request.heap) (wanted_by request.verb request.rest) (heap_numbered request.places request.heap) (rest_numbered request.verb request.rest few)

-- what holds of the files as they are seen holds of them as they are held
pub held_numbered : (files : List Held) → All (λ (file : Wanted). IsNumberOf file.form file.number) (map wanted_held files) → All (λ (file : Held). IsNumberOf file.form file.number) files
held_numbered files all k d within =
    subst (λ (file : Wanted). IsNumberOf file.form file.number) (get_or-map wanted_held files k d (wanted_held d) within) (all k (wanted_held d) (rw (length-map files wanted_held) within))
