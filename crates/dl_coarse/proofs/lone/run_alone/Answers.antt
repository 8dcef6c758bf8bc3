use Rattle.std.proofs.Common.{refl}
use Rattle.dl_core.specs.Turns.{call_of}
use Rattle.dl_coarse.proofs.LoneSteps.{begins_ending, leaves_whole}
use Rattle.dl_coarse.proofs.lone.run_alone.Goals as goal

pub invariant_of-finish : goal.invariant_of-finish
invariant_of-finish c =
    let may = c.requires.may in
    record { more = begins_ending may.0 c.args.caller (call_of c.args.op c.args.args.now) c.args.core c.begin_with.new.self may.1 may.2 c.begin_with.ensures.begun }

pub returns-clause-leaves : goal.returns-clause-leaves
returns-clause-leaves c plan run may =
    leaves_whole plan c.args.caller (call_of c.args.op c.args.args.now) c.args.core _ c.finish.result.0 c.finish.result.1 run may c.begin_with.ensures.begun refl c.finish.ensures
