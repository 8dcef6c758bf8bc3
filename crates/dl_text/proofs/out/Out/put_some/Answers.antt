use Rattle.std.proofs.Common.{refl}
use Rattle.dl_text.proofs.WritingLemmas.{puts_both, puts_short}
use Rattle.dl_text.proofs.out.Out.put_some.Goals as goal

pub returns-in_err-flush : goal.returns-in_err-flush
returns-in_err-flush g c =
    puts_short c.args.bytes.now refl c.from_residual.ensures.0 c.in_err-flush.ensures.puts

pub returns : goal.returns
returns g c = puts_both c.in_ok-flush.ensures.puts.ok c.put_empty.ensures
