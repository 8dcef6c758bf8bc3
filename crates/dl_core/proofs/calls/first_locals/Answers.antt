use Rattle.std.proofs.Common.{◌≡◌, ◌≤◌, ◌++◌, ℤ, List, [], ◌∷◌, length, map, refl, ap, ◌∙◌, arith}
use Rattle.std.specs.List.{zip}
use Rattle.dl_ir.specs.declared.modules.LocalDecl.{LocalDecl}
use Rattle.dl_ir.specs.declared.names.Value.{Value}
use Rattle.dl_ir.specs.Heap.{blank}
use Rattle.dl_shape.specs.Operation.{argument_value}
use Rattle.dl_core.specs.Rooms.{Roomed}
use Rattle.dl_core.proofs.calls.first_locals.Goals as goal

abbrev given : LocalDecl × ℤ → Value
given pair = argument_value pair.0.ty pair.1

few_given : (params : List LocalDecl) (args : List ℤ) → length (map given (zip params args)) ≤ length params
few_given [] args = omega arith
few_given (p ∷ params) [] = omega arith
few_given (p ∷ params) (a ∷ args) = let rest = few_given params args in omega (arith, rest)

pub loop-var-init : goal.loop-var-init
loop-var-init c =
    let items : c.give_arguments.new.locals.items ≡ map given (zip c.args.op.now.params c.args.args.now) =
    ap (λ (r : Roomed Value). r.items) c.give_arguments.ensures
    ∙ ap (λ (r : Roomed Value). r.items ++ map given (zip c.as_slice.result.now c.args.args.now)) c.clear.ensures
    ∙ ap (λ (params : List LocalDecl). map given (zip params c.args.args.now)) c.as_slice.ensures in
    record {
      room = refl;
      few = omega (arith, ap length items, few_given c.args.op.now.params c.args.args.now, ap length c.as_slice-var-items.ensures);
      items = λ i. items i ++ map (λ (var : LocalDecl). blank var.ty) (c.as_slice-var-items.ensures i);
    }
