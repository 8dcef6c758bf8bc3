use Rattle.std.proofs.Common.{◌≡◌, ◌*◌}
use Rattle.dl_work.specs.Draws.{state_after}
use Rattle.dl_work.specs.Works.{files_of}
use Rattle.dl_work.proofs.works.make_files.Given as goal

-- the operations so far are dealt
abbrev pub invariant-loop-i : goal.invariant-loop-i
invariant-loop-i l = record {
  files : l.files.items ≡ files_of l.fn.draws.state l.i l.callers;
  state : l.draws.state ≡ state_after l.fn.draws.state (3 * l.i);
}
