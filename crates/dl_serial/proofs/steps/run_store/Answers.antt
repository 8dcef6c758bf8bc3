use Rattle.dl_serial.proofs.Counts.{grows-with_field}
use Rattle.dl_serial.proofs.Sizes.{len-with_field}
use Rattle.dl_serial.proofs.steps.run_store.Goals as goal

pub returns-in-Some-clause-len : goal.returns-in-Some-clause-len
returns-in-Some-clause-len c = rw c.set_field.ensures (len-with_field _ _ _ _)

pub returns-in-Some-clause-grows : goal.returns-in-Some-clause-grows
returns-in-Some-clause-grows c = rw c.set_field.ensures (grows-with_field _ _ _ _ _)
