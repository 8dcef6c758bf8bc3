use Rattle.dl_text.specs.Bytes.{is_digit}
use Rattle.dl_text.proofs.Pieces.{take_while-passes}
use Rattle.dl_text.proofs.scan.number.Goals as goal

pub decimal-requires : goal.decimal-requires
decimal-requires c = rw c.digits_len-len.ensures.run (take_while-passes is_digit c.args.bytes.now)
