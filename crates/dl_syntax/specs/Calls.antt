-- What an operation file says as a function of its text, in the order in which the reader goes through it. `Rules` has the same as rules.
use Rattle.std.specs.Prelude.{◌≡◌, ◌≢◌, ℕ, ◌+◌, Bool, true, false, ◌&&◌, ◌==◌, nat_le, nat_lt, if◌then◌else◌, List, [], ◌∷◌, length, slice_get, position, find, Option, Some, None, Result, Ok, Err, ℤ, pos}
use Rattle.std.specs.Str.{bytes_eq}
use Rattle.dl_ir.specs.declared.modules.Ty.{Ty}
use Rattle.dl_ir.specs.declared.modules.Ty.TheVariants.{Int, Of}
use Rattle.dl_ir.specs.declared.modules.KindDecl.{KindDecl}
use Rattle.dl_ir.specs.declared.modules.LocalDecl.{LocalDecl}
use Rattle.dl_ir.specs.declared.modules.OpDecl.{OpDecl}
use Rattle.dl_ir.specs.declared.modules.Module.{Module}
use Rattle.dl_ir.specs.declared.calls.Call.{Call}
use Rattle.dl_syntax.specs.declared.calls.CallsFault.{CallsFault}
use Rattle.dl_syntax.specs.declared.calls.CallsFault.TheVariants.{NotAscii, BadByte, TooMany, NoOp, ArgCount, NotNumber, NoRoot, Memory}
use Rattle.dl_syntax.specs.Line.{is_wrong, words_of, before_comment, numbers_of}
use Rattle.dl_syntax.specs.Rules.{with_call}

-- an argument is the number of a root of the kind
abbrev pub is_root_of : Option KindDecl → ℤ → Bool
is_root_of (Some kind) (pos n) = kind.is_root && nat_le kind.first n && nat_lt n (kind.first + kind.count)
is_root_of _ _ = false

-- an argument may be given for a parameter of the type
abbrev pub fits : Module → Ty → ℤ → Bool
fits source Int n = true
fits source (Of kind) n = is_root_of (slice_get source.kinds kind) n

-- there is one argument for each parameter, and it may be given for it
abbrev pub all_fit : Module → List LocalDecl → List ℤ → Bool
all_fit source [] [] = true
all_fit source [] (n ∷ ns) = false
all_fit source (param ∷ params) [] = false
all_fit source (param ∷ params) (n ∷ ns) = fits source param.ty n && all_fit source params ns

-- the call of an operation with these arguments
abbrev pub call_with : Module → ℕ → ℕ → List LocalDecl → Option (List ℤ) → Result (Option Call) CallsFault
call_with source line op params None = Err (NotNumber line)
call_with source line op params (Some ns) = if all_fit source params ns then Ok (Some (record { op = op; args = ns })) else Err (NoRoot line)

-- the call of the operation of this number with these words as arguments
abbrev pub call_of_op : Module → ℕ → List (List ℕ) → ℕ → Option OpDecl → Result (Option Call) CallsFault
call_of_op source line words op None = Err (NoOp line)
call_of_op source line words op (Some decl) =
    if length words == length decl.params then call_with source line op decl.params (numbers_of words) else Err (ArgCount line)

-- the number of the operation of this name
abbrev pub op_named : Module → List ℕ → Option ℕ
op_named source name = position (λ (op : OpDecl). bytes_eq op.name name) source.ops

-- the call of the operation that was found
abbrev pub call_of_found : Module → ℕ → List (List ℕ) → Option ℕ → Result (Option Call) CallsFault
call_of_found source line words None = Err (NoOp line)
call_of_found source line words (Some op) = call_of_op source line words op (slice_get source.ops op)

-- what the words of a line say behind so many calls: nothing where there is no word, else a call, where the calls are at
-- most 65,536
abbrev pub call_of_words : Module → ℕ → ℕ → List (List ℕ) → Result (Option Call) CallsFault
call_of_words source line before [] = Ok None
call_of_words source line before (name ∷ words) =
    if nat_le 65536 before then Err (TooMany line) else call_of_found source line words (op_named source name)

-- the fault of a byte that no operation file has
abbrev pub byte_fault : ℕ → ℕ → CallsFault
byte_fault line b = if nat_le 128 b then NotAscii line else BadByte line

-- what a line says whose first wrong byte is this one, if it has one
abbrev pub call_unless_wrong : Module → ℕ → ℕ → List ℕ → Option ℕ → Result (Option Call) CallsFault
call_unless_wrong source line before text (Some b) = Err (byte_fault line b)
call_unless_wrong source line before text None = call_of_words source line before (words_of (before_comment text))

-- what a line says, behind so many calls: a call, none, or its fault
abbrev pub call_of_line : Module → ℕ → ℕ → List ℕ → Result (Option Call) CallsFault
call_of_line source line before text = call_unless_wrong source line before text (find is_wrong text)

-- what follows a line: its fault, or what the lines behind it say
abbrev pub after_line : List Call → Result (Option Call) CallsFault → (List Call → Result (List Call) CallsFault) → Result (List Call) CallsFault
after_line calls (Err fault) next = Err fault
after_line calls (Ok call) next = next (with_call calls call)

-- the calls that lines say, from a line's number on and behind the calls before; the first line at fault decides
abbrev pub calls_from : Module → ℕ → List Call → List (List ℕ) → Result (List Call) CallsFault
calls_from source line calls [] = Ok calls
calls_from source line calls (text ∷ rest) =
    after_line calls (call_of_line source line (length calls) text) (λ next. calls_from source (line + 1) next rest)

-- what a reader answers that may run out of memory at any point: the outcome, or that
abbrev pub Gives : {A : Type 0} → Result A CallsFault → Result A CallsFault → Type 0
Gives outcome (Ok a) = outcome ≡ Ok a
Gives outcome (Err fault) = fault ≢ Memory → outcome ≡ Err fault
