use Rattle.std.proofs.Common.{length, ◌+◌, ◌*◌}
use Rattle.dl_machine.proofs.files.+files.Given as goal

-- the passes that are left, and one more for a function that has cut them
abbrev pub decreases-one_beside-others : goal.decreases-one_beside-others
decreases-one_beside-others g l = 3 * length l.rest.now + 1

abbrev pub decreases-one_beside : goal.decreases-one_beside
decreases-one_beside g l = 3 * length l.rest.now + 2

abbrev pub decreases-run_all : goal.decreases-run_all
decreases-run_all g l = 3 * length l.passes.now
