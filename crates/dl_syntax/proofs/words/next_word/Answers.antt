use Rattle.dl_syntax.proofs.WordCuts.{no_word, a_word}
use Rattle.dl_syntax.proofs.words.next_word.Goals as goal

pub returns-then-len-eq0-clause-cut : goal.returns-then-len-eq0-clause-cut
returns-then-len-eq0-clause-cut c = no_word _ _ _ _ c.blanks_len.ensures c.split_at.ensures.back c.word_len-len.ensures c.if-len-eq0.true

pub returns-clause-cut : goal.returns-clause-cut
returns-clause-cut c = a_word _ _ _ _ _ _ c.blanks_len.ensures c.split_at.ensures.back c.word_len-len.ensures c.if-len-eq0.false c.split_at-2.ensures.front c.split_at-2.ensures.back
