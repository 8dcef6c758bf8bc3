use Rattle.std.proofs.Common.{arith}
use Rattle.std.proofs.lemmas.Option.{slice_get_within}
use Rattle.dl_lemmas.proofs.Places.{one_at}
use Rattle.dl_instr.specs.Code.{op_code}
use Rattle.dl_instr.proofs.CodesOf.{plain_is_code, codes_land}
use Rattle.dl_instr.proofs.PlainJumps.{plain_lands}
use Rattle.dl_instr.proofs.drops.codes_of_modules.Goals as goal

pub returns-clause-plain : goal.returns-clause-plain
returns-clause-plain c = plain_is_code

pub returns-clause-jumps : goal.returns-clause-jumps
returns-clause-jumps c = λ source made is i steps there.
    let op = one_at source.ops i (let within = slice_get_within made.ops i steps there in let one = is.one_each in omega (arith, within, one)) in
    codes_land op.0 (op_code op.0) steps (is.ops i op.0 steps op.1 there) (plain_lands op.0)
