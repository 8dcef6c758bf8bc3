use Rattle.dl_replay.proofs.Covered.{covered_names}
use Rattle.dl_replay.proofs.replays.covered_entries_name_operations.Goals as goal

pub returns : goal.returns
returns c = covered_names
