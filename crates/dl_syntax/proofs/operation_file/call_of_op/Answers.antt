use Rattle.std.proofs.Common.{rules, ◌≡◌, length, Some, arith}
use Rattle.std.proofs.lemmas.Grind.{common_steps}
use Rattle.dl_syntax.specs.Line.{numbers_of, words_of}
use Rattle.dl_syntax.proofs.Numbers.{as_many}
use Rattle.dl_syntax.proofs.operation_file.call_of_op.Goals as goal

pub returns-then-len : goal.returns-then-len
returns-then-len c some =
    let found : numbers_of (words_of c.args.words.now) ≡ Some c.in-Some-2.args = first_of (search rules, grind (arith, common_steps)) in
    let counted : length c.in-Some-2.args ≡ length (words_of c.args.words.now) = as_many (words_of c.args.words.now) c.in-Some-2.args found in
    first_of (search rules, grind (arith, common_steps))
