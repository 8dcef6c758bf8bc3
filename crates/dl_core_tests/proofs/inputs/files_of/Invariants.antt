use Rattle.std.specs.Prelude.{All}
use Rattle.dl_ir.specs.CallForms.{AreCallsOf}
use Rattle.dl_core_tests.proofs.inputs.files_of.Given as goal

abbrev pub invariant-texts : goal.invariant-texts
invariant-texts l = All (AreCallsOf l.source) l.files.items
