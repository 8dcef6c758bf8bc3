use Rattle.std.proofs.Common.{arith, length}
use Rattle.dl_text.specs.declared.token.TokenKind.TheVariants.{Word}
use Rattle.dl_grammar.proofs.Whole.{first_in_order}
use Rattle.dl_grammar.proofs.module.lexemes.Goals as goal

-- the token lies in the bytes
pub text_of-requires : goal.text_of-requires
text_of-requires c =
    let o = first_in_order c.tokens.invariant.order.0 (length c.args.bytes.now) c.tokens.rest.now (record { kind = Word; at = 0; end = 0; line = 0 }) c.tokens.invariant.order.1 (omega (arith, c.in-len1-up.len_at_least)) in
    record { ordered = o.0; within = o.1 }
