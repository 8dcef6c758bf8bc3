use Rattle.dl_instr.proofs.PlainJumps.{jumps_of_code_land}
use Rattle.dl_instr.proofs.laws.jumps_land.Goals as goal

pub returns : goal.returns
returns c = jumps_of_code_land
