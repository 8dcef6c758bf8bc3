use Rattle.dl_meaning.specs.Operations.{AreFilesOf}
use Rattle.domlock.proofs.run_tests.files_of.Given as goal

abbrev pub invariant-callers : goal.invariant-callers
invariant-callers l = AreFilesOf l.source l.files.items
