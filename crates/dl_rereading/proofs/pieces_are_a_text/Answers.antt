use Rattle.dl_rereading.proofs.Modules.{pieces_are_a_text}
use Rattle.dl_rereading.proofs.pieces_are_a_text.Goals as goal

pub returns : goal.returns
returns c = pieces_are_a_text
