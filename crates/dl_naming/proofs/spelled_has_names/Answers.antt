use Rattle.dl_naming.proofs.Declared.{has_names}
use Rattle.dl_naming.proofs.spelled_has_names.Goals as goal

pub returns : goal.returns
returns c = λ bytes tree source spells types. has_names tree source (c.spelled_has_tokens.ensures bytes tree spells) types
