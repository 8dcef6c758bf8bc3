use Rattle.std.proofs.Common.{arith, length}
use Rattle.dl_text.specs.declared.token.TokenKind.TheVariants.{Word}
use Rattle.dl_grammar.proofs.Whole.{second_in_order}
use Rattle.dl_grammar.proofs.module.version_of.Goals as goal

-- the second token lies in the bytes
pub text_of-requires : goal.text_of-requires
text_of-requires c =
    let o = second_in_order 0 (length c.args.bytes.now) c.args.tokens.now (record { kind = Word; at = 0; end = 0; line = 0 }) c.requires (omega (arith, c.in-len2-up.len_at_least)) in
    record { ordered = o.0; within = o.1 }
