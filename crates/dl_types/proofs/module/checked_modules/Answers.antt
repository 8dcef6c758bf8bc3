use Rattle.dl_types.proofs.ModulesFit.{typed_is_checked}
use Rattle.dl_types.proofs.module.checked_modules.Goals as goal

pub returns : goal.returns
returns c = typed_is_checked
