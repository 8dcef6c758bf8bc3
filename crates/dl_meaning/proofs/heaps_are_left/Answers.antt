use Rattle.dl_meaning.proofs.Left.{calls_leave_heaps, replays_leave_heaps, legal_replays_leave_heaps}
use Rattle.dl_meaning.proofs.heaps_are_left.Goals as goal

pub returns-clause-calls : goal.returns-clause-calls
returns-clause-calls c = calls_leave_heaps

pub returns-clause-replays : goal.returns-clause-replays
returns-clause-replays c = replays_leave_heaps

pub returns-clause-legal : goal.returns-clause-legal
returns-clause-legal c = legal_replays_leave_heaps
