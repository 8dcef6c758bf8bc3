use Rattle.std.proofs.Common.{◌≡◌, drop}
use Rattle.dl_grammar.specs.Texts.{last_line}
use Rattle.dl_grammar.proofs.module.last_line.Given as goal

-- the line so far is that of the lexeme before
abbrev pub invariant-loop-lexeme : goal.invariant-loop-lexeme
invariant-loop-lexeme l = last_line 1 l.all ≡ last_line l.line (drop l.lexeme-index l.all)
