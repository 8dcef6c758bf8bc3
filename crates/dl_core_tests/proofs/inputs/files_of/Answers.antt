use Rattle.std.proofs.lemmas.List.Elements.{All-push}
use Rattle.dl_ir.specs.CallForms.{AreCallsOf}
use Rattle.dl_core_tests.proofs.inputs.files_of.Goals as goal

pub texts-preserved : goal.texts-preserved
texts-preserved c = rw c.in_ok-push.ensures.items (All-push (AreCallsOf c.args.source.now) _ _ c.texts.invariant c.in_ok-calls_of.ensures)
