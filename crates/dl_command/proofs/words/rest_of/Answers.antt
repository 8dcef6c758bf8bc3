use Rattle.std.proofs.Common.{◌∙◌, ◌≡◌, ap, map, [], Some, None, codes}
use Rattle.std.specs.Prelude.{unwrap_or}
use Rattle.std.proofs.lemmas.Result.{IfOk-weaker}
use Rattle.clap.specs.Words.{all_of, found_of, rows_of}
use Rattle.clap.proofs.WalkLemmas.{raw_values-rows}
use Rattle.dl_command.proofs.words.rest_of.Goals as goal

pub returns-in-Some : goal.returns-in-Some
returns-in-Some c =
    let all : Some (map (λ word. word.now) c.in-Some.rest.now) ≡ all_of (codes "REST") (rows_of (found_of c.args.matches.now)) =
    c.in-Some.ensures ∙ raw_values-rows (found_of c.args.matches.now) (codes "REST") in
    IfOk-weaker c.from_slice.result _ _ (λ v same. ap (map (λ word. word.now)) same ∙ ap (λ o. unwrap_or o []) all) c.from_slice.ensures.items

pub returns-in-None : goal.returns-in-None
returns-in-None c =
    let all : None ≡ all_of (codes "REST") (rows_of (found_of c.args.matches.now)) =
    c.in-None.ensures ∙ raw_values-rows (found_of c.args.matches.now) (codes "REST") in
    ap (map (λ word. word.now)) c.new.ensures.items ∙ ap (λ o. unwrap_or o []) all
