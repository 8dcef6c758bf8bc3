use Rattle.dl_ir.specs.declared.calls.Call.{Call}
use Rattle.dl_core.specs.Passes.{PassView}
use Rattle.dl_machine.specs.Replies.{IsInHand}
use Rattle.dl_machine.proofs.calls.call.Given as goal

abbrev pub invariant-loop : goal.invariant-loop
invariant-loop g l = g.G.Ground.is_of l.ground l.pass
    × ((call : Call) (before : PassView) → IsInHand call before (g.G.Ground.view l.initial.pass) → IsInHand call before (g.G.Ground.view l.pass))
