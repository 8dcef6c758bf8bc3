-- What holds of a frame that has no call in hand.
use Rattle.std.proofs.Common.{◌≡◌, List, [], ◌∷◌, length, Option, Some, None, refl, sym, ap, subst, ◌∙◌, arith}
use Rattle.std.specs.Prelude.{get_or}
use Rattle.std.specs.List.{zip}
use Rattle.std.specs.FinMap as finite
use Rattle.std.specs.FinMap.{len-empty}
use Rattle.dl_ir.specs.declared.modules.LocalDecl.{LocalDecl}
use Rattle.dl_ir.specs.declared.modules.OpDecl.{OpDecl}
use Rattle.std.specs.Option.{option_map_or}
use Rattle.dl_instr.specs.declared.code.Code.{Code}
use Rattle.dl_core.specs.declared.frames.Frame.{Frame as Kept}
use Rattle.dl_core.specs.declared.stages.Booked.{Booked}
use Rattle.dl_core.specs.Frames.{Book, no_call}
use Rattle.dl_core.specs.LocalSteps.{GoesBackToTurns}
use Rattle.dl_core.specs.Plans.{Plan, op_of, roots_of, roots_among}
use Rattle.dl_core.specs.Shown.{shown, CanGoOn, HasTurns, AreTidy}
use Rattle.dl_ir.specs.Heap.{name_cmp}

-- no arguments name no roots
pub no_roots : (plan : Plan) → [] ≡ roots_of plan no_call
no_roots plan = by (op_of plan no_call)
  where
    none : (params : List LocalDecl) → [] ≡ roots_among (zip params [])
    none [] = refl
    none (p ∷ params) = refl

    by : (op : Option OpDecl) → [] ≡ option_map_or (λ (o : OpDecl). roots_among (zip o.params [])) op []
    by None = refl
    by (Some op) = none op.params

-- local steps may be made of it, since there are none
pub can_rest : (code : Code) (old new : Kept) → HasTurns code → CanGoOn code old → (shown new).call ≡ no_call → new.book.rows ≡ finite.empty → new.locals.items ≡ [] → new.loose.items ≡ [] → new.roots.items ≡ [] → CanGoOn code new
can_rest code old new turns can call book locals loose roots = record {
  few = can.few;
  tidy = subst (AreTidy new.book.rows) (sym loose) tt;
  room = let none : finite.len new.book.rows ≡ 0 = ap (λ (b : Book). finite.len b) book ∙ len-empty name_cmp Booked in omega (arith, none);
  locals = let none : length new.locals.items ≡ 0 = ap length locals in omega (arith, none);
  roots = λ plan c. roots ∙ no_roots plan ∙ ap (roots_of plan) (sym call);
  turns = λ plan c. subst (λ (k : Code). GoesBackToTurns (get_or k.ops (shown new).call.op [])) (sym c) (turns (shown new).call.op);
}
