use Rattle.dl_serial.proofs.Counts.{grows-with_field}
use Rattle.dl_serial.proofs.Sizes.{len-with_field}
use Rattle.dl_serial.proofs.steps.link.Goals as goal

pub returns-in-None-sealed_end_at-clause-len : goal.returns-in-None-sealed_end_at-clause-len
returns-in-None-sealed_end_at-clause-len c = rw c.set_field.ensures (len-with_field _ _ _ _)

pub returns-in-None-sealed_end_at-clause-grows : goal.returns-in-None-sealed_end_at-clause-grows
returns-in-None-sealed_end_at-clause-grows c = rw c.set_field.ensures (grows-with_field _ _ _ _ _)
