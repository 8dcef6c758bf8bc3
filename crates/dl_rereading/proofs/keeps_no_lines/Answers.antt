use Rattle.dl_rereading.proofs.SameText.{keeps_no_lines}
use Rattle.dl_rereading.proofs.keeps_no_lines.Goals as goal

pub returns : goal.returns
returns c = keeps_no_lines
