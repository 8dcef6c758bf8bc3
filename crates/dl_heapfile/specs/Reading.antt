-- How a line of the heap part is read from the left, piece by piece: what a piece says, and the bytes behind it.
use Rattle.std.specs.Prelude.{ℕ, ℤ, pos, neg_ℤ, ◌+◌, ◌-◌, ◌^◌, ◌==◌, ◌&&◌, Bool, true, false, not, nat_le, if◌then◌else◌, Option, Some, None, List, [], ◌∷◌, codes, drop, option_and_then}
use Rattle.std.specs.Option.{option_map}
use Rattle.std.specs.List.{prefix_len, take_while}
use Rattle.std.specs.Str.{bytes_eq}
use Rattle.dl_ir.specs.declared.modules.FieldDecl.{FieldDecl}
use Rattle.dl_ir.specs.declared.modules.KindDecl.{KindDecl}
use Rattle.dl_ir.specs.declared.modules.Module.{Module}
use Rattle.dl_ir.specs.declared.modules.Ty.{Ty}
use Rattle.dl_ir.specs.declared.modules.Ty.TheVariants.{Int, Of}
use Rattle.dl_ir.specs.declared.names.Name.{Name}
use Rattle.dl_ir.specs.declared.names.Value.{Value}
use Rattle.dl_ir.specs.declared.names.Value.TheVariants as values
use Rattle.dl_ir.specs.declared.objects.Obj.{Obj}
use Rattle.dl_text.specs.Bytes.{is_digit, is_word, value}

-- the bytes behind these ones, if they come next
abbrev pub behind : List ℕ → List ℕ → Option (List ℕ)
behind [] text = Some text
behind (w ∷ word) [] = None
behind (w ∷ word) (b ∷ text) = if w == b then behind word text else None

-- some digits, and no 0 before others
abbrev pub is_plain : List ℕ → Bool
is_plain [] = false
is_plain (d ∷ []) = true
is_plain (d ∷ e ∷ digits) = not (d == 48)

abbrev pub number_cut : ℕ → List ℕ → List ℕ → Option (ℕ × List ℕ)
number_cut most digits rest = if is_plain digits && nat_le (value digits) most then Some (value digits, rest) else None

-- a number that is not above the greatest
abbrev pub number : ℕ → List ℕ → Option (ℕ × List ℕ)
number most text = number_cut most (take_while is_digit text) (drop (prefix_len is_digit text) text)

abbrev pub negative : ℕ × List ℕ → Option (ℤ × List ℕ)
negative found = if found.0 == 0 then None else Some (neg_ℤ (pos found.0), found.1)

abbrev pub positive : ℕ × List ℕ → ℤ × List ℕ
positive found = (pos found.0, found.1)

-- a number of signed 64 bits
abbrev pub integer : List ℕ → Option (ℤ × List ℕ)
integer [] = None
integer (b ∷ rest) = if b == 45 then option_and_then negative (number (2 ^ 63) rest) else option_map positive (number (2 ^ 63 - 1) (b ∷ rest))

-- the index behind a ticket and a dot
abbrev pub name_behind : ℕ → List ℕ → Option (Name × List ℕ)
name_behind ticket text = option_map (λ (index : ℕ × List ℕ). (record { ticket = ticket; index = index.0 }, index.1)) (number (2 ^ 32 - 1) text)

-- the name of an object
abbrev pub name : List ℕ → Option (Name × List ℕ)
name text = option_and_then (λ (ticket : ℕ × List ℕ). option_and_then (name_behind ticket.0) (behind (codes ".") ticket.1)) (number (2 ^ 64 - 1) text)

-- null, or a name
abbrev pub reference : List ℕ → Option (Value × List ℕ)
reference [] = None
reference (b ∷ rest) = if b == 45 then Some (values.Ref None, rest) else option_map (λ (found : Name × List ℕ). (values.Ref (Some found.0), found.1)) (name (b ∷ rest))

-- a value of a type
abbrev pub typed : Ty → List ℕ → Option (Value × List ℕ)
typed Int text = option_map (λ (found : ℤ × List ℕ). (values.Int found.0, found.1)) (integer text)
typed (Of kind) text = reference text

-- a field with its name
abbrev pub field : FieldDecl → List ℕ → Option (Value × List ℕ)
field decl text = option_and_then (typed decl.ty) (option_and_then (behind (codes "=")) (option_and_then (behind decl.name) (behind (codes " ") text)))

-- one more value before others
abbrev pub with_value : Value → List Value × List ℕ → List Value × List ℕ
with_value value found = (value ∷ found.0, found.1)

-- fields one after another
abbrev pub fields : List FieldDecl → List ℕ → Option (List Value × List ℕ)
fields [] text = Some ([], text)
fields (decl ∷ decls) text = option_and_then (λ (found : Value × List ℕ). option_map (with_value found.0) (fields decls found.1)) (field decl text)

abbrev pub seal_behind : List ℕ → Option (List ℕ) → Bool × List ℕ
seal_behind text None = (false, text)
seal_behind text (Some []) = (true, [])
seal_behind text (Some (b ∷ rest)) = if b == 32 then (true, b ∷ rest) else (false, text)

-- the mark of a sealed object, where a space or nothing follows
abbrev pub seal : List ℕ → Bool × List ℕ
seal text = seal_behind text (behind (codes " sealed") text)

-- the first kind of this name, with its number
abbrev pub kind_named : ℕ → List ℕ → List KindDecl → Option (ℕ × KindDecl)
kind_named at word [] = None
kind_named at word (kind ∷ kinds) = if bytes_eq kind.name word then Some (at, kind) else kind_named (at + 1) word kinds

-- the object, where nothing is left
abbrev pub object_ended : ℕ → Bool → List Value × List ℕ → Option Obj
object_ended kind sealed (held, []) = Some (record { kind = kind; sealed = sealed; fields = held })
object_ended kind sealed (held, b ∷ rest) = None

-- the mark and the fields of an object of a kind, up to the end
abbrev pub object_of : List ℕ → ℕ × KindDecl → Option Obj
object_of text kind = option_and_then (object_ended kind.0 (seal text).0) (fields kind.1.fields (seal text).1)

-- an object by the name of its kind
abbrev pub object : List KindDecl → List ℕ → Option Obj
object kinds text = option_and_then (object_of (drop (prefix_len is_word text) text)) (kind_named 0 (take_while is_word text) kinds)

abbrev pub entry_behind : Module → Name × List ℕ → Option (Name × Obj)
entry_behind source found = option_map (λ (o : Obj). (found.0, o)) (option_and_then (object source.kinds) (behind (codes " ") found.1))

-- what a line, without its end, tells
abbrev pub entry : Module → List ℕ → Option (Name × Obj)
entry source line = option_and_then (entry_behind source) (name line)

-- ---- the heap line

-- the digits of a number of any length, with no 0 before others, and what is behind them
abbrev pub plain : List ℕ → Option (List ℕ × List ℕ)
plain text = if is_plain (take_while is_digit text) then Some (take_while is_digit text, drop (prefix_len is_digit text) text) else None

abbrev pub head_ended : List ℕ → List ℕ × List ℕ → Option (List ℕ × List ℕ × List ℕ)
head_ended objects hidden = option_map (λ (rest : List ℕ). (objects, hidden.0, rest)) (behind (codes "\n") hidden.1)

abbrev pub head_kept : List ℕ × List ℕ → Option (List ℕ × List ℕ × List ℕ)
head_kept objects = option_and_then (head_ended objects.0) (option_and_then plain (behind (codes " kept ") objects.1))

-- the digits of the two numbers of a heap line, and what is behind it
abbrev pub head : List ℕ → Option (List ℕ × List ℕ × List ℕ)
head text = option_and_then head_kept (option_and_then plain (behind (codes "heap ") text))
