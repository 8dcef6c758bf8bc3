-- The text of a report.
use Rattle.std.specs.Prelude.{◌+◌, ◌<◌, ◌≤◌, ◌^◌, All, ◌==◌, ◌&&◌, ◌++◌, ℕ, ℤ, pos, negsuc, Bool, true, false, Option, Some, None, List, [], ◌∷◌, length, slice_get, sum_by, codes, decimal}
use Rattle.std.specs.Fmt.{signed_decimal}
use Rattle.std.specs.Option.{option_map, option_map_or}
use Rattle.std.specs.List.{find, flat_map, zip}
use Rattle.std.specs.FinMap as finite
use Rattle.dl_ir.specs.declared.names.Name.{Name}
use Rattle.dl_ir.specs.declared.names.Value.{Value}
use Rattle.dl_ir.specs.declared.names.Value.TheVariants as values
use Rattle.dl_ir.specs.declared.modules.FieldDecl.{FieldDecl}
use Rattle.dl_ir.specs.declared.modules.KindDecl.{KindDecl}
use Rattle.dl_ir.specs.declared.modules.OpDecl.{OpDecl}
use Rattle.dl_ir.specs.declared.modules.Module.{Module}
use Rattle.dl_ir.specs.declared.calls.Call.{Call}
use Rattle.dl_ir.specs.declared.answers.End.{End}
use Rattle.dl_ir.specs.declared.answers.End.TheVariants as ends
use Rattle.dl_ir.specs.declared.answers.Answer.{Answer}
use Rattle.dl_ir.specs.declared.answers.Entry.{Entry}
use Rattle.dl_ir.specs.declared.answers.Refusal.{Refusal}
use Rattle.dl_ir.specs.declared.objects.Obj.{Obj}
use Rattle.dl_ir.specs.Heap.{Objects, hidden_count}
use Rattle.dl_ir.specs.Cover.{call_at}
use Rattle.dl_ir.specs.declared.moves.Move.{Move}
use Rattle.dl_text.specs.Lists.{each_from}
use Rattle.dl_shape.specs.Pool.{moves_of, in_rising_versions}

-- two numbers with a dot between them, as names and the places of operations are written
abbrev pub dotted : ℕ → ℕ → List ℕ
dotted a b = decimal a ++ codes "." ++ decimal b

-- a name as `TICKET.INDEX`
abbrev pub name_text : Name → List ℕ
name_text name = dotted name.ticket name.index

-- how an operation ended
abbrev pub end_text : End → List ℕ
end_text (ends.Ok number) = codes "ok " ++ signed_decimal number
end_text ends.Null = codes "null"
end_text ends.Overflow = codes "overflow"
end_text ends.DivZero = codes "divzero"
end_text ends.Fuel = codes "fuel"
end_text ends.Quota = codes "quota"
end_text ends.Emits = codes "emits"
end_text (ends.Sealed name) = codes "sealed " ++ name_text name

-- the breach behind an end, where there is one
abbrev pub breach_text : Option Name → List ℕ
breach_text None = []
breach_text (Some name) = codes " breach " ++ name_text name

-- a number behind a space
abbrev pub argument_text : ℤ → List ℕ
argument_text argument = codes " " ++ signed_decimal argument

-- the numbers emitted, each behind a space, where there are any
abbrev pub emitted_text : List ℤ → List ℕ
emitted_text [] = []
emitted_text (first ∷ rest) = codes " emit" ++ flat_map argument_text (first ∷ rest)

-- an answer
abbrev pub answer_text : Answer → List ℕ
answer_text answer = end_text answer.end ++ breach_text answer.breach ++ emitted_text answer.emitted

-- what a refused operation needed and what was free
abbrev pub shortage_text : Refusal → List ℕ
shortage_text refusal = codes "noroom need " ++ decimal refusal.need ++ codes " found " ++ decimal refusal.found

-- what stands in place of an answer where the operation was refused
abbrev pub refusal_text : Refusal → List ℕ
refusal_text refusal = shortage_text refusal ++ codes " version " ++ decimal refusal.version

-- the entry is that of the caller's operation with this index
abbrev pub is_entry_of : ℕ → ℕ → Entry → Bool
is_entry_of caller index entry = (entry.caller == caller) && (entry.index == index)

-- the refusal is that of the caller's operation with this index
abbrev pub is_refusal_of : ℕ → ℕ → Refusal → Bool
is_refusal_of caller index refusal = (refusal.caller == caller) && (refusal.index == index)

-- what is said of an operation: its answer, where there is one, and else its refusal
abbrev pub told_text : Option Answer → Option Refusal → List ℕ
told_text answer refusal = option_map_or answer_text answer (option_map_or refusal_text refusal [])

-- what the report says of an operation: its answer, where the history has it, and else its refusal
abbrev pub outcome_text : List Entry → List Refusal → ℕ → ℕ → List ℕ
outcome_text history refusals caller index = told_text (option_map (λ (entry : Entry). entry.answer) (find (is_entry_of caller index) history))
    (find (is_refusal_of caller index) refusals)

-- the line `CALLER.INDEX TEXT`
abbrev pub line_text : ℕ → ℕ → List ℕ → List ℕ
line_text caller index text = dotted caller index ++ codes " " ++ text ++ codes "\n"

-- the line `CALLER.INDEX ANSWER`
abbrev pub answer_line : List Entry → List Refusal → ℕ → ℕ → List ℕ
answer_line history refusals caller index = line_text caller index (outcome_text history refusals caller index)

-- the lines of a caller's operations
abbrev pub answer_lines : List Entry → List Refusal → ℕ → List Call → List ℕ
answer_lines history refusals caller calls = each_from (λ index (call : Call). answer_line history refusals caller index) 1 calls

-- a word with a space behind it, and a number
abbrev pub head_line : List ℕ → ℕ → List ℕ
head_line word count = word ++ decimal count ++ codes "\n"

-- the number of operations in all files, and a line for each
abbrev pub answers_part : List (List Call) → List Entry → List Refusal → List ℕ
answers_part files history refusals = head_line (codes "answers ") (sum_by length files) ++ each_from (answer_lines history refusals) 1 files

-- the name of the operation with this number
abbrev pub op_text : Module → ℕ → List ℕ
op_text source op = option_map_or (λ (decl : OpDecl). decl.name) (slice_get source.ops op) []

-- the name of a call's operation and its arguments
abbrev pub call_text : Module → Call → List ℕ
call_text source call = op_text source call.op ++ flat_map argument_text call.args

-- the place of an entry: `TICKET CALLER.INDEX`
abbrev pub place_text : Entry → List ℕ
place_text entry = decimal entry.ticket ++ codes " " ++ dotted entry.caller entry.index

-- the line `TICKET CALLER.INDEX OPNAME ARGS`
abbrev pub history_line : Module → List (List Call) → Entry → List ℕ
history_line source files entry = place_text entry ++ codes " " ++ option_map_or (call_text source) (call_at files entry.caller entry.index) [] ++ codes "\n"

-- the number of entries, and a line for each in rising tickets
abbrev pub history_part : Module → List (List Call) → List Entry → List ℕ
history_part source files history = head_line (codes "history ") (length history) ++ flat_map (history_line source files) history

-- a change with its sign: `-N` for a reservation and `+N` for a return
abbrev pub change_text : ℤ → List ℕ
change_text (pos number) = codes "+" ++ decimal number
change_text (negsuc number) = codes "-" ++ decimal (number + 1)

-- the version and the change of a move
abbrev pub step_text : Move → List ℕ
step_text move = decimal move.version ++ codes " " ++ change_text move.change

-- the line `VERSION -N TICKET` or `VERSION +N TICKET`
abbrev pub move_line : Move → List ℕ
move_line move = step_text move ++ codes " " ++ decimal move.ticket ++ codes "\n"

-- the number of moves, and a line for each
abbrev pub pool_part : List Move → List ℕ
pool_part moves = head_line (codes "pool ") (length moves) ++ flat_map move_line moves

-- a value: a number, a name, or `-` for null
abbrev pub value_text : Value → List ℕ
value_text (values.Int number) = signed_decimal number
value_text (values.Ref None) = codes "-"
value_text (values.Ref (Some name)) = name_text name

-- a field as ` FIELD=VALUE`
abbrev pub field_text : FieldDecl × Value → List ℕ
field_text field = codes " " ++ field.0.name ++ codes "=" ++ value_text field.1

-- the mark of a sealed object
abbrev pub seal_text : Bool → List ℕ
seal_text true = codes " sealed"
seal_text false = []

-- the name of an object's kind, its mark and its fields
abbrev pub object_text : Obj → Option KindDecl → List ℕ
object_text object None = []
object_text object (Some kind) = kind.name ++ seal_text object.sealed ++ flat_map field_text (zip kind.fields object.fields)

-- the line `NAME KIND`, with ` sealed` where the object is, and its fields
abbrev pub object_line : Module → Name × Obj → List ℕ
object_line source entry = name_text entry.0 ++ codes " " ++ object_text entry.1 (slice_get source.kinds entry.1.kind) ++ codes "\n"

-- the number of objects, and of those that are no roots
abbrev pub heap_head : ℕ → ℕ → List ℕ
heap_head objects hidden = codes "heap " ++ decimal objects ++ codes " kept " ++ decimal hidden

-- the numbers of objects, and a line for each in rising names
abbrev pub heap_part : Module → Objects → List ℕ
heap_part source heap = heap_head (length (finite.entries heap)) (hidden_count heap) ++ codes "\n" ++ flat_map (object_line source) (finite.entries heap)

-- the first line, which names the version of the module's language
abbrev pub version_line : Module → List ℕ
version_line source = head_line (codes "domlock report ") source.version

-- what the report says of the operations: its first line, the answers and the history
abbrev pub operations_part : Module → List (List Call) → List Entry → List Refusal → List ℕ
operations_part source files history refusals = version_line source ++ answers_part files history refusals ++ history_part source files history

-- what the report says of the pool and of the heap, and its last line
abbrev pub state_part : Module → List Move → Objects → List ℕ
state_part source moves heap = pool_part moves ++ heap_part source heap ++ codes "end\n"

-- the report of a history and its refusals over the files of a module, and of the heap at the end
abbrev pub report : Module → List (List Call) → List Entry → List Refusal → Objects → List ℕ
report source files history refusals heap = operations_part source files history refusals ++ state_part source (in_rising_versions (moves_of source files history)) heap

-- the callers are counted by 32 bits, and each file has at most 65,536 operations
pub record AreFew (files : List (List Call)) : Type 0 where
  pub files_few : length files < 2 ^ 32
  pub calls_few : All (λ (calls : List Call). length calls ≤ 65536) files
