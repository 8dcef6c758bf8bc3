-- What an operation file says, by rules: one for each form of a line, and one for each fault of a line, in the order in which faults are tested.
use Rattle.std.specs.Prelude.{◌≡◌, ℕ, ℤ, ◌+◌, ◌<◌, ◌≤◌, ◌⊎◌, List, [], ◌∷◌, ◌++◌, length, slice_get, Option, Some, None, Result, Ok, Err}
use Rattle.std.specs.List.{AllByRecursion, AllZip}
use Rattle.dl_ir.specs.declared.calls.Call.{Call}
use Rattle.dl_ir.specs.declared.modules.Module.{Module}
use Rattle.dl_ir.specs.declared.modules.OpDecl.{OpDecl}
use Rattle.dl_ir.specs.CallForms.{AllFit}
use Rattle.dl_syntax.specs.declared.calls.CallsFault.{CallsFault}
use Rattle.dl_syntax.specs.declared.calls.CallsFault.TheVariants.{NotAscii, BadByte, TooMany, NoOp, ArgCount, NotNumber, NoRoot}
use Rattle.dl_syntax.specs.Line.{lines_of, words_of, before_comment, number_of}

-- a byte may stand in a line: a tab, a carriage return, or one from 32 to 126
abbrev pub MayStand : ℕ → Type 0
MayStand b = (b ≡ 9) ⊎ (b ≡ 13) ⊎ ((32 ≤ b) × (b < 127))

-- the first byte of a line that may not stand in it
pub record IsFirstWrong (text : List ℕ) (b : ℕ) : Type 0 where
  pub front : List ℕ
  pub rest : List ℕ
  pub cut : text ≡ front ++ b ∷ rest
  pub before : AllByRecursion MayStand front
  pub wrong : MayStand b → ⊥

-- each byte of a line may stand in it, and these are its words
pub record HasWords (text : List ℕ) (words : List (List ℕ)) : Type 0 where
  pub clean : AllByRecursion MayStand text
  pub has : words_of (before_comment text) ≡ words

-- the first operation of the module that has this name
pub record IsNamed (source : Module) (name : List ℕ) (op : ℕ) (decl : OpDecl) : Type 0 where
  pub there : slice_get source.ops op ≡ Some decl
  pub named : decl.name ≡ name
  pub first : (before : ℕ) (other : OpDecl) → before < op → slice_get source.ops before ≡ Some other → other.name ≡ name → ⊥

-- no operation of the module has this name
abbrev pub IsUnnamed : Module → List ℕ → Type 0
IsUnnamed source name = (op : ℕ) (decl : OpDecl) → slice_get source.ops op ≡ Some decl → decl.name ≡ name → ⊥

-- each word says the number at its place
abbrev pub Say : List (List ℕ) → List ℤ → Type 0
Say words numbers = AllZip (λ word number. number_of word ≡ Some number) words numbers

-- one of the words says no number
pub record SomeSaysNone (words : List (List ℕ)) : Type 0 where
  pub at : ℕ
  pub word : List ℕ
  pub there : slice_get words at ≡ Some word
  pub none : number_of word ≡ None

-- What a line says behind so many calls: nothing, a call, or its fault. A fault is answered where none of those above it is.
pub data Says (source : Module) (line before : ℕ) (text : List ℕ) : Result (Option Call) CallsFault → Type 0 where
  nothing : HasWords text [] → Says source line before text (Ok None)
  one_call : {name : List ℕ} {words : List (List ℕ)} {op : ℕ} {decl : OpDecl} {numbers : List ℤ} → HasWords text (name ∷ words) → before < 65536
      → IsNamed source name op decl → Say words numbers → AllFit source decl.params numbers
      → Says source line before text (Ok (Some (record { op = op; args = numbers })))
  not_ascii : {b : ℕ} → IsFirstWrong text b → 128 ≤ b → Says source line before text (Err (NotAscii line))
  bad_byte : {b : ℕ} → IsFirstWrong text b → b < 128 → Says source line before text (Err (BadByte line))
  too_many : {name : List ℕ} {words : List (List ℕ)} → HasWords text (name ∷ words) → 65536 ≤ before → Says source line before text (Err (TooMany line))
  no_op : {name : List ℕ} {words : List (List ℕ)} → HasWords text (name ∷ words) → before < 65536 → IsUnnamed source name
      → Says source line before text (Err (NoOp line))
  arg_count : {name : List ℕ} {words : List (List ℕ)} {op : ℕ} {decl : OpDecl} → HasWords text (name ∷ words) → before < 65536
      → IsNamed source name op decl → (length words ≡ length decl.params → ⊥) → Says source line before text (Err (ArgCount line))
  not_number : {name : List ℕ} {words : List (List ℕ)} {op : ℕ} {decl : OpDecl} → HasWords text (name ∷ words) → before < 65536
      → IsNamed source name op decl → length words ≡ length decl.params → SomeSaysNone words → Says source line before text (Err (NotNumber line))
  no_root : {name : List ℕ} {words : List (List ℕ)} {op : ℕ} {decl : OpDecl} (numbers : List ℤ) → HasWords text (name ∷ words) → before < 65536
      → IsNamed source name op decl → length words ≡ length decl.params → Say words numbers → (AllFit source decl.params numbers → ⊥)
      → Says source line before text (Err (NoRoot line))

-- the calls before, and behind them the one that a line says, if it says one
abbrev pub with_call : List Call → Option Call → List Call
with_call calls None = calls
with_call calls (Some call) = calls ++ call ∷ []

-- what lines say, from a line's number on and behind the calls before: the fault of the first line that has one, or the calls
abbrev pub LinesSay : Module → ℕ → List Call → List (List ℕ) → Result (List Call) CallsFault → Type 0
LinesSay source line calls [] outcome = outcome ≡ Ok calls
LinesSay source line calls (text ∷ rest) outcome =
    ((fault : CallsFault) × Says source line (length calls) text (Err fault) × (outcome ≡ Err fault))
    ⊎ ((call : Option Call) × Says source line (length calls) text (Ok call) × LinesSay source (line + 1) (with_call calls call) rest outcome)

-- the text is the operation file of the module with these calls
abbrev pub IsCallsFile : Module → List ℕ → List Call → Type 0
IsCallsFile source text calls = LinesSay source 1 [] (lines_of text) (Ok calls)

-- the text is no operation file of the module, and this is its first fault
abbrev pub IsCallsFault : Module → List ℕ → CallsFault → Type 0
IsCallsFault source text fault = LinesSay source 1 [] (lines_of text) (Err fault)
