use Rattle.std.proofs.Common.{◌∙◌, ◌≡◌, ap, sym, codes}
use Rattle.std.specs.Prelude.{option_and_then}
use Rattle.std.specs.Str.Parse.{ParsesUnsigned, ExplainsUnsignedError, HasUnsignedDigitsIfOk}
use Rattle.clap.specs.Words.{found_of, one_of, rows_of}
use Rattle.clap.proofs.WalkLemmas.{first_value-rows, one_text-rows}
use Rattle.dl_command.specs.Words.{number_of}
use Rattle.dl_command.proofs.WordLemmas.{line_given, no_command, no_first, no_number, number_read, read_number}
use Rattle.dl_command.proofs.words.line_of.Goals as goal

pub returns-in_default-clause-usage : goal.returns-in_default-clause-usage
returns-in_default-clause-usage c =
    let f = found_of c.args.matches.now in
    λ is. no_command (rows_of f) (sym (first_value-rows f (codes "COMMAND")) ∙ sym c.in_default.ensures)

pub returns-in_default-get_str-clause-usage : goal.returns-in_default-get_str-clause-usage
returns-in_default-get_str-clause-usage c =
    let f = found_of c.args.matches.now in
    λ is. no_first (rows_of f) _ (sym (first_value-rows f (codes "COMMAND")) ∙ sym c.in-Some.ensures)
    (sym (first_value-rows f (codes "FIRST")) ∙ sym c.in_default-get_str.ensures)

pub returns-in_default-get_one-clause-usage : goal.returns-in_default-get_one-clause-usage
returns-in_default-get_one-clause-usage c =
    let f = found_of c.args.matches.now in
    let number : c.get_one.result ≡ option_and_then number_of (one_of (codes "places") (rows_of f)) =
    number_read _ _ c.get_one.ensures.none
    (λ t e. read_number (λ bs r. ParsesUnsigned 32 10 bs r × ExplainsUnsignedError 10 bs r × HasUnsignedDigitsIfOk bs r) t _ (c.get_one.ensures.value t e) (λ u x g. g.0))
    ∙ ap (option_and_then number_of) (one_text-rows f (codes "places")) in
    λ is. no_number (rows_of f) _ _ (sym (first_value-rows f (codes "COMMAND")) ∙ sym c.in-Some.ensures)
    (sym (first_value-rows f (codes "FIRST")) ∙ sym c.in-Some-get_str.ensures) (sym number ∙ c.in_default-get_one.is)

pub returns-in-Ok-clause-ok : goal.returns-in-Ok-clause-ok
returns-in-Ok-clause-ok c =
    let f = found_of c.args.matches.now in
    let number : c.get_one.result ≡ option_and_then number_of (one_of (codes "places") (rows_of f)) =
    number_read _ _ c.get_one.ensures.none
    (λ t e. read_number (λ bs r. ParsesUnsigned 32 10 bs r × ExplainsUnsignedError 10 bs r × HasUnsignedDigitsIfOk bs r) t _ (c.get_one.ensures.value t e) (λ u x g. g.0))
    ∙ ap (option_and_then number_of) (one_text-rows f (codes "places")) in
    line_given (rows_of f) _ _ _ _ _ (sym (first_value-rows f (codes "COMMAND")) ∙ sym c.in-Some.ensures)
    (sym (first_value-rows f (codes "FIRST")) ∙ sym c.in-Some-get_str.ensures) (sym number ∙ c.in-Some-get_one.is) c.in-Ok.ensures
    (c.get_str-heap.ensures ∙ first_value-rows f (codes "heap"))
