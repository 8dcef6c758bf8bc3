use Rattle.std.proofs.Common.{◌∙◌, ◌≡◌, ◌≢◌, subst, map, None}
use Rattle.std.specs.Prelude.{string_bytes}
use Rattle.clap.specs.Words.{found_of, rows_of}
use Rattle.clap.specs.declared.error.kind.ErrorKind.TheVariants as kinds
use Rattle.dl_command.specs.Words.{request_of_matches, request_of_words}
use Rattle.dl_command.specs.declared.words.WordsFault.TheVariants as faults
use Rattle.dl_command.proofs.WordLemmas.{given_places, given_rest, refuses_words, rows_are, rows_in_range, same_words, takes_words, words_give}
use Rattle.dl_command.proofs.words.command_of.Goals as goal

pub returns-in-Ok-try_get_matches_from-clause-ok : goal.returns-in-Ok-try_get_matches_from-clause-ok
returns-in-Ok-try_get_matches_from-clause-ok c =
    let m = c.in-Ok-try_get_matches_from.matches in
    let words = map string_bytes c.as_slice.result.now in
    let facts = c.in-Ok-try_get_matches_from.ensures in
    let gives : request_of_words c.args.words.now ≡ request_of_matches (rows_of (found_of m)) =
    subst (λ ws. request_of_words ws ≡ request_of_matches (rows_of (found_of m))) c.as_slice.ensures
    (words_give words (rows_of (found_of m)) (takes_words c.in-Ok.line words c.in-Ok.ensures m facts.kinds) (rows_are c.in-Ok.line words c.in-Ok.ensures m facts.matches)) in
    same_words c.command_given.result (request_of_words c.args.words.now) (request_of_matches (rows_of (found_of m))) gives c.command_given.ensures.ok

pub returns-in-Ok-try_get_matches_from-clause-usage : goal.returns-in-Ok-try_get_matches_from-clause-usage
returns-in-Ok-try_get_matches_from-clause-usage c =
    let m = c.in-Ok-try_get_matches_from.matches in
    let words = map string_bytes c.as_slice.result.now in
    let facts = c.in-Ok-try_get_matches_from.ensures in
    let gives : request_of_words c.args.words.now ≡ request_of_matches (rows_of (found_of m)) =
    subst (λ ws. request_of_words ws ≡ request_of_matches (rows_of (found_of m))) c.as_slice.ensures
    (words_give words (rows_of (found_of m)) (takes_words c.in-Ok.line words c.in-Ok.ensures m facts.kinds) (rows_are c.in-Ok.line words c.in-Ok.ensures m facts.matches)) in
    λ is. gives ∙ c.command_given.ensures.usage is

pub returns-in-Ok-try_get_matches_from-clause-rest : goal.returns-in-Ok-try_get_matches_from-clause-rest
returns-in-Ok-try_get_matches_from-clause-rest c =
    given_rest c.command_given.result (rows_of (found_of c.in-Ok-try_get_matches_from.matches)) c.command_given.ensures.ok

pub returns-in-Ok-try_get_matches_from-clause-places : goal.returns-in-Ok-try_get_matches_from-clause-places
returns-in-Ok-try_get_matches_from-clause-places c =
    let m = c.in-Ok-try_get_matches_from.matches in
    given_places c.command_given.result (rows_of (found_of m)) c.command_given.ensures.ok
    (rows_in_range c.in-Ok.line m c.in-Ok.ensures c.in-Ok-try_get_matches_from.ensures.parsed)

pub returns-in-Err-clause-usage : goal.returns-in-Err-clause-usage
returns-in-Err-clause-usage c =
    let words = map string_bytes c.as_slice.result.now in
    λ is. let same : c.fault_of.result ≡ faults.Usage = cc in
    let other = subst (λ kind. kind ≢ kinds.OutOfMemory) c.kind.ensures (c.fault_of.ensures.usage same) in
    subst (λ ws. request_of_words ws ≡ None) c.as_slice.ensures (refuses_words c.in-Ok.line words c.in-Ok.ensures c.in-Err.error c.in-Err.ensures.kinds other)
