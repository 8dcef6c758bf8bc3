use Rattle.std.proofs.Common.{Some}
use Rattle.dl_coarse.proofs.steps.grab.Given as goal

abbrev pub ghosts-grab_at : goal.ghosts-grab_at
ghosts-grab_at g a = record { plan = Some (g.M.Machine.opening a.table.now.key) }
