use Rattle.std.proofs.Common.{◌≡◌, true}
use Rattle.std.specs.List.{list_all}
use Rattle.dl_core.specs.Sound.{numbers_from}
use Rattle.dl_trace.specs.Runs.{is_done}
use Rattle.dl_trace.proofs.steps.are_done.Given as goal

abbrev pub invariant-callers : goal.invariant-callers
invariant-callers l = list_all (is_done l.files l.core.state) (numbers_from 1 l.place) ≡ true
