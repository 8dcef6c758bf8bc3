use Rattle.std.proofs.Common.{sym, subst}
use Rattle.dl_core.specs.Machines.{IsRunning}
use Rattle.dl_core.specs.Plans.{Plan}
use Rattle.dl_core.specs.Reached.{Calls, MayBegin}
use Rattle.dl_core.specs.Turns.{call_of}
use Rattle.dl_core.proofs.machines.Core.begin.Goals as goal

pub begin_with-requires : goal.begin_with-requires
begin_with-requires c = record {
  may = subst (λ args. (plan : Plan) × (calls : Calls) × IsRunning plan c.args.self.now calls × MayBegin plan c.args.self.now.state calls c.args.caller (call_of c.args.call.now.op args)) (sym c.as_slice.ensures) c.requires.may;
}
