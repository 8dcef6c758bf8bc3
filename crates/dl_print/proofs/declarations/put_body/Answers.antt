use Rattle.std.proofs.Common.{refl}
use Rattle.dl_print.proofs.Parts.{first_puts}
use Rattle.dl_print.proofs.declarations.put_body.Goals as goal

pub returns : goal.returns
returns g c = first_puts c.args.op.now.body _ refl c.put_statements.ensures
