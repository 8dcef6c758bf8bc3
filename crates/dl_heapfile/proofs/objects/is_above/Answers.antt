use Rattle.std.proofs.Common.{sym}
use Rattle.dl_heapfile.proofs.Placed.{last_decides}
use Rattle.dl_heapfile.proofs.objects.is_above.Goals as goal

pub returns-in-Some : goal.returns-in-Some
returns-in-Some c = last_decides c.args.source.now c.args.before.now c.in-Some.last.now c.args.name c.is_less.result c.requires (sym c.in-Some.ensures.value) c.is_less.ensures
