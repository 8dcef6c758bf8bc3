use Rattle.dl_meaning.proofs.First.{begun_fits, roots_are_held}
use Rattle.dl_meaning.proofs.first_states_fit.Goals as goal

pub returns-clause-states : goal.returns-clause-states
returns-clause-states c = begun_fits

pub returns-clause-roots : goal.returns-clause-roots
returns-clause-roots c = roots_are_held
