use Rattle.dl_serial.proofs.Counts.{grows-operation, grows-settled}
use Rattle.dl_serial.proofs.RootNumbers.{all_held}
use Rattle.dl_serial.proofs.operations.run_body.Goals as goal

pub first_locals-requires : goal.first_locals-requires
first_locals-requires c = all_held _ _ _ c.requires.start c.requires.fits

pub returns-clause-grows : goal.returns-clause-grows
returns-clause-grows c = rw c.settle-breach.ensures.heap (grows-operation c.run_block.ensures.grows (grows-settled _) c.run_block.ensures.room.made)
