use Rattle.dl_text.specs.Bytes.{is_digit}
use Rattle.dl_heapfile.proofs.numbers.number.Goals as goal
use Rattle.dl_text.proofs.Pieces.{take_while-passes}

pub decimal-requires : goal.decimal-requires
decimal-requires c = rw (c.split_at.ensures.front, c.digits_len.ensures.run) (take_while-passes is_digit c.args.text.now)
