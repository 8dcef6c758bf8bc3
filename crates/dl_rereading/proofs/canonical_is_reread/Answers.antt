use Rattle.dl_rereading.proofs.Reread.{reread}
use Rattle.dl_rereading.proofs.canonical_is_reread.Goals as goal

pub returns : goal.returns
returns c = reread c.pieces_are_tokens.ensures c.one_module.ensures.tree
