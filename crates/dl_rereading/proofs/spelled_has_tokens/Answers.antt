use Rattle.dl_rereading.proofs.Lexemes.{spelled_has_tokens}
use Rattle.dl_rereading.proofs.spelled_has_tokens.Goals as goal

pub returns : goal.returns
returns c = spelled_has_tokens
