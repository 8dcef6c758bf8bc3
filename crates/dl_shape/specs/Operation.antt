-- What an operation gives: its answer, and the heap that it leaves.
use Rattle.std.specs.Prelude.{◌++◌, ℕ, ℤ, pos, negsuc, Option, Some, None, List, [], map, slice_get}
use Rattle.std.specs.List.{zip}
use Rattle.dl_ir.specs.declared.names.Value.{Value}
use Rattle.dl_ir.specs.declared.names.Value.TheVariants as values
use Rattle.dl_ir.specs.declared.modules.Ty.{Ty}
use Rattle.dl_ir.specs.declared.modules.Ty.TheVariants as types
use Rattle.dl_ir.specs.declared.modules.LocalDecl.{LocalDecl}
use Rattle.dl_ir.specs.declared.modules.OpDecl.{OpDecl}
use Rattle.dl_ir.specs.declared.modules.Module.{Module}
use Rattle.dl_ir.specs.declared.calls.Call.{Call}
use Rattle.dl_ir.specs.declared.answers.End.{End}
use Rattle.dl_ir.specs.declared.answers.End.TheVariants as ends
use Rattle.dl_ir.specs.declared.answers.Answer.{Answer}
use Rattle.dl_ir.specs.Heap.{Objects, root, blank}
use Rattle.dl_ir.specs.Meaning.{Context, State, Outcome, block_does}
use Rattle.dl_shape.specs.Settling.{settled, breach_of}

-- the number of a root that an argument gives
abbrev pub root_number : ℤ → ℕ
root_number (pos number) = number
root_number (negsuc number) = 0

-- the value of an argument for a parameter of this type
abbrev pub argument_value : Ty → ℤ → Value
argument_value types.Int argument = values.Int argument
argument_value (types.Of kind) argument = values.Ref (Some (root (root_number argument)))

-- the locals with which an operation begins: its arguments, then its vars
abbrev pub first_locals : OpDecl → List ℤ → List Value
first_locals op arguments = map (λ (given : LocalDecl × ℤ). argument_value given.0.ty given.1) (zip op.params arguments)
    ++ map (λ (var : LocalDecl). blank var.ty) op.vars

-- what an operation gives: its answer, and the heap that it leaves
pub record Result : Type 0 where
  pub answer : Answer
  pub objects : Objects

-- where a body did not end early, it fell off its end
abbrev pub end_of : Option End → End
end_of None = ends.Ok (pos 0)
end_of (Some early) = early

-- the locals are gone, and the heap is settled
abbrev pub result_of : Outcome → Result
result_of outcome = record {
  answer = record { end = end_of outcome.end; breach = breach_of outcome.state.objects; emitted = outcome.state.emitted };
  objects = settled outcome.state.objects;
}

-- what stays the same while an operation runs with a ticket
abbrev pub context_of : Module → ℕ → OpDecl → Context
context_of source ticket op = record { source = source; ticket = ticket; allocs = op.allocs }

-- the state in which an operation begins on a heap, with so many turns: nothing is made, and no number emitted
abbrev pub begun : OpDecl → List ℤ → Objects → ℕ → State
begun op arguments heap turns = record { locals = first_locals op arguments; objects = heap; turns = turns; made = 0; emitted = [] }

-- how the body of an operation ends, run on a heap with a ticket and arguments
abbrev pub body_outcome : Module → Objects → ℕ → List ℤ → OpDecl → Outcome
body_outcome source heap ticket arguments op = block_does (context_of source ticket op) op.body (begun op arguments heap op.fuel)

-- where the module has no such operation, nothing is done
abbrev pub operated_where : Module → Objects → ℕ → List ℤ → Option OpDecl → Result
operated_where source heap ticket arguments None = record { answer = record { end = ends.Ok (pos 0); breach = None; emitted = [] }; objects = heap }
operated_where source heap ticket arguments (Some op) = result_of (body_outcome source heap ticket arguments op)

-- what a call gives, run on a heap with a ticket
abbrev pub operated : Module → Objects → ℕ → Call → Result
operated source heap ticket call = operated_where source heap ticket call.args (slice_get source.ops call.op)
