use Rattle.std.proofs.Common.{subst, sym, refl}
use Rattle.dl_ir.specs.declared.calls.Call.{Call}
use Rattle.dl_core.specs.Advances.{Progresses}
use Rattle.dl_core.specs.Passes.{PassView}
use Rattle.dl_machine.specs.Replies.{IsInHand}
use Rattle.dl_machine.proofs.Hands.{begins, is_answered, is_refused}
use Rattle.dl_machine.proofs.calls.call.Goals as goal

pub returns-in-Done-clause-reply : goal.returns-in-Done-clause-reply
returns-in-Done-clause-reply g c =
    let call : Call = c.args.call.now in
    let before : PassView = g.G.Ground.view c.args.pass.now in
    let begun : IsInHand call before (g.G.Ground.view c.begin.new.pass) = subst (IsInHand call before) (sym c.begin.ensures.view) (begins call before c.requires.may.idle refl) in
    is_answered g.G.Ground.manner (g.G.Ground.plan c.args.ground.now) call before (g.G.Ground.view c.loop.pass) (g.G.Ground.view c.advance-last.new.pass) (c.loop.invariant.1 call before begun) c.in-Done.entry
    (subst (λ answer. Progresses g.G.Ground.manner (g.G.Ground.plan c.args.ground.now) (g.G.Ground.view c.loop.pass) answer (g.G.Ground.view c.advance-last.new.pass)) c.in-Done.is c.advance-last.ensures.view)

pub returns-in-Refused-clause-reply : goal.returns-in-Refused-clause-reply
returns-in-Refused-clause-reply g c =
    let call : Call = c.args.call.now in
    let before : PassView = g.G.Ground.view c.args.pass.now in
    let begun : IsInHand call before (g.G.Ground.view c.begin.new.pass) = subst (IsInHand call before) (sym c.begin.ensures.view) (begins call before c.requires.may.idle refl) in
    is_refused g.G.Ground.manner (g.G.Ground.plan c.args.ground.now) call before (g.G.Ground.view c.loop.pass) (g.G.Ground.view c.advance-last.new.pass) (c.loop.invariant.1 call before begun) c.in-Refused.need c.in-Refused.found c.in-Refused.version
    (subst (λ answer. Progresses g.G.Ground.manner (g.G.Ground.plan c.args.ground.now) (g.G.Ground.view c.loop.pass) answer (g.G.Ground.view c.advance-last.new.pass)) c.in-Refused.is c.advance-last.ensures.view)
