use Rattle.std.proofs.Common.{◌≡◌, ℕ, ◌++◌, length}
use Rattle.dl_text.specs.Text.{InOrder}
use Rattle.dl_grammar.specs.Texts.{lexemes_in}
use Rattle.dl_grammar.proofs.module.lexemes.Given as goal

-- those so far and those of the rest are all
abbrev pub invariant-tokens : goal.invariant-tokens
invariant-tokens l = record {
  all : l.found ++ lexemes_in l.version l.bytes l.rest ≡ lexemes_in l.version l.bytes l.fn.tokens;
  order : (from : ℕ) × InOrder from (length l.bytes) l.rest;
}

abbrev pub decreases-tokens : goal.decreases-tokens
decreases-tokens l = length l.rest
