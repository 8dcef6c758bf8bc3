-- The meaning of statements as a function from state to outcome.
use Rattle.std.specs.Prelude.{ℕ, zero, suc, ◌+◌, ◌-◌, ◌==◌, Bool, false, ℤ, Option, Some, None, Ok, Err, List, [], ◌∷◌, ◌++◌, length, map, nat_le, slice_get, slice_set, option_and_then, if◌then◌else◌}
use Rattle.std.specs.FinMap as finite
use Rattle.dl_ir.specs.declared.answers.End.{End}
use Rattle.dl_ir.specs.declared.answers.End.TheVariants as ends
use Rattle.dl_ir.specs.declared.answers.Fault.{Fault}
use Rattle.dl_ir.specs.declared.answers.Fault.TheVariants.{Overflow, DivZero}
use Rattle.dl_ir.specs.declared.expressions.Cond.{Cond}
use Rattle.dl_ir.specs.declared.modules.KindDecl.{KindDecl}
use Rattle.dl_ir.specs.declared.modules.Module.{Module}
use Rattle.dl_ir.specs.declared.names.Name.{Name}
use Rattle.dl_ir.specs.declared.names.Value.{Value}
use Rattle.dl_ir.specs.declared.names.Value.TheVariants.{Int, Ref}
use Rattle.dl_ir.specs.declared.objects.Obj.{Obj}
use Rattle.dl_ir.specs.declared.statements.Stmt.{Stmt, Stmt-F}
use Rattle.dl_ir.specs.declared.statements.Stmt.TheFolds.{fold-Stmt}
use Rattle.dl_ir.specs.Evaluation.{Number, Truth, number_of, target_of, value_of, holds_of}
use Rattle.dl_ir.specs.Heap.{Objects, blank_object, with_field}

-- what stays the same while an operation runs: its module, its ticket, and the number of objects that it may make
pub record Context : Type 0 where
  pub source : Module
  pub ticket : ℕ
  pub allocs : ℕ

-- what a statement changes: the locals, the heap's objects, the turns left, the number of objects made, and the numbers emitted
pub record State : Type 0 where
  pub locals : List Value
  pub objects : Objects
  pub turns : ℕ
  pub made : ℕ
  pub emitted : List ℤ

-- the state after a statement, and how the operation ended there, if it did
pub record Outcome : Type 0 where
  pub state : State
  pub end : Option End

-- what a statement or a block does
abbrev pub Does : Type 0
Does = State → Outcome

-- the operation goes on behind the statement
abbrev pub goes_on : State → Outcome
goes_on s = record { state = s; end = None }

-- the operation ends at the statement
abbrev pub ends_with : End → State → Outcome
ends_with end s = record { state = s; end = Some end }

-- the end that a fault in an expression is
abbrev pub fault_end : Fault → End
fault_end Overflow = ends.Overflow
fault_end DivZero = ends.DivZero

-- goes on with a number, or ends with its fault
abbrev pub with_value : Number → State → (ℤ → Outcome) → Outcome
with_value (Ok n) s next = next n
with_value (Err fault) s next = ends_with (fault_end fault) s

-- goes on with the truth of a condition, or ends with its fault
abbrev pub with_truth : Truth → State → (Bool → Outcome) → Outcome
with_truth (Ok b) s next = next b
with_truth (Err fault) s next = ends_with (fault_end fault) s

-- goes on at the object that a reference names, or ends at null
abbrev pub at_object : Option Name → State → (Name → Outcome) → Outcome
at_object None s next = ends_with ends.Null s
at_object (Some name) s next = next name

-- the object is sealed
abbrev pub is_sealed : Option Obj → Bool
is_sealed None = false
is_sealed (Some object) = object.sealed

-- goes on where a reference is null or its object is unsealed, and else ends at that object
abbrev pub unless_sealed : Option Name → State → Outcome → Outcome
unless_sealed None s next = next
unless_sealed (Some name) s next = if is_sealed (finite.get s.objects name) then ends_with (ends.Sealed name) s else next

-- what a local refers to
abbrev pub refers_in : State → ℕ → Option Name
refers_in s p = target_of (slice_get s.locals p)

-- what a field of an object holds
abbrev pub field_in : State → Name → ℕ → Option Value
field_in s name f = option_and_then (λ (object : Obj). slice_get object.fields f) (finite.get s.objects name)

-- a local gets a value
abbrev pub set_local : ℕ → Value → State → State
set_local x value s = record s { locals = slice_set s.locals x value }

-- a field of an object gets a value
abbrev pub set_field : Name → ℕ → Value → State → State
set_field name f value s = record s { objects = with_field s.objects name f value }

-- one turn is taken
abbrev pub take_turn : State → State
take_turn s = record s { turns = s.turns - 1 }

-- the name of the object that the operation makes next
abbrev pub next_name : Context → State → Name
next_name cx s = record { ticket = cx.ticket; index = s.made + 1 }

-- an object of a kind as it begins; it has no fields where the module has no such kind
abbrev pub object_of : ℕ → Option KindDecl → Obj
object_of kind None = record { kind = kind; sealed = false; fields = [] }
object_of kind (Some declared) = blank_object kind declared

-- an object of a kind is made, with numbers 0 and references null, and a local refers to it
abbrev pub make : Context → ℕ → ℕ → State → State
make cx p kind s = record {
  locals = slice_set s.locals p (Ref (Some (next_name cx s)));
  objects = finite.insert s.objects (next_name cx s) (object_of kind (slice_get cx.source.kinds kind));
  turns = s.turns;
  made = s.made + 1;
  emitted = s.emitted;
}

-- a number is emitted behind the others
abbrev pub add_emitted : ℤ → State → State
add_emitted number s = record s { emitted = s.emitted ++ number ∷ [] }

-- what follows runs, or does not where the operation has ended
abbrev pub go_on_from : Option End → State → Does → Outcome
go_on_from None s next = next s
go_on_from (Some end) s next = ends_with end s

-- the second part runs where the first did not end
abbrev pub then_do : Outcome → Does → Outcome
then_do first next = go_on_from first.end first.state next

-- the parts run one after another, up to the first end
abbrev pub in_turn : List Does → Does
in_turn [] s = goes_on s
in_turn (d ∷ ds) s = then_do (d s) (in_turn ds)

-- a loop's test takes a turn; n is at least the number of turns left, so that the definition ends
abbrev pub loops : ℕ → Cond → Does → Does
loops zero c body s = ends_with ends.Fuel s
loops (suc n) c body s =
    if s.turns == 0 then ends_with ends.Fuel s
    else with_truth (holds_of c s.locals) (take_turn s)
    (λ b. if b then then_do (body (take_turn s)) (loops n c body) else goes_on (take_turn s))

-- a field of the object that a local refers to gets a reference, or the operation ends at null or at a sealed old target
abbrev pub links_to : ℕ → ℕ → Option Name → Does
links_to q f target s =
    at_object (refers_in s q) s (λ name.
    unless_sealed (target_of (field_in s name f)) s (goes_on (set_field name f (Ref target) s)))

-- one level of a statement, the statements in it being replaced by what they do
abbrev pub step : Context → Stmt-F Does → Does
step cx (Stmt-F.SetInt x e) s = with_value (value_of e s.locals) s (λ n. goes_on (set_local x (Int n) s))
step cx (Stmt-F.Load x p f) s = at_object (refers_in s p) s (λ name. goes_on (set_local x (Int (number_of (field_in s name f))) s))
step cx (Stmt-F.Store p f e) s =
    with_value (value_of e s.locals) s (λ n. at_object (refers_in s p) s (λ name. goes_on (set_field name f (Int n) s)))
step cx (Stmt-F.Copy p q) s = goes_on (set_local p (Ref (refers_in s q)) s)
step cx (Stmt-F.Null p) s = goes_on (set_local p (Ref None) s)
step cx (Stmt-F.Follow p q f) s =
    at_object (refers_in s q) s (λ name.
    let target = target_of (field_in s name f) in unless_sealed target s (goes_on (set_local p (Ref target) s)))
step cx (Stmt-F.New p kind) s = if nat_le cx.allocs s.made then ends_with ends.Quota s else goes_on (make cx p kind s)
step cx (Stmt-F.Link q f p) s = links_to q f (refers_in s p) s
step cx (Stmt-F.Cut q f) s = links_to q f None s
step cx (Stmt-F.If c yes_block no_block) s =
    with_truth (holds_of c s.locals) s (λ b. if b then in_turn yes_block s else in_turn no_block s)
step cx (Stmt-F.While c body) s = loops s.turns c (in_turn body) s
step cx (Stmt-F.Emit e) s = with_value (value_of e s.locals) s (λ n. if nat_le 16 (length s.emitted) then ends_with ends.Emits s else goes_on (add_emitted n s))
step cx (Stmt-F.Return e) s = with_value (value_of e s.locals) s (λ n. ends_with (ends.Ok n) s)

-- what a statement does
abbrev pub does : Context → Stmt → Does
does cx = fold-Stmt Does (step cx)

-- what a block does
abbrev pub block_does : Context → List Stmt → Does
block_does cx block = in_turn (map (does cx) block)
