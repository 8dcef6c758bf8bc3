use Rattle.std.proofs.Common.{◌≡◌, ◌∙◌, ◌∷◌, [], ap, ap₂}
use Rattle.std.specs.Prelude.{pos, Some, codes, true, false}
use Rattle.clap.specs.Words.{Rule, new_app, new_rule, rule_of, app_of, with_rule}
use Rattle.clap.specs.Simple.{on_top}
use Rattle.clap.specs.declared.builder.action.ArgAction.TheVariants.{Append}
use Rattle.clap.specs.declared.builder.arg.Arg.{Arg}
use Rattle.clap.specs.declared.builder.value_parser.ValueParser.TheVariants as parsers
use Rattle.dl_command.specs.Words as spec
use Rattle.dl_command.proofs.words.command_line.Goals as goal

pub returns : goal.returns
returns c =
    let given = c.value_parser-2.ensures.given in
    let made : c.range.result ≡ parsers.Signed (pos 1) (pos 65536) = rw (c.value_parser.ensures, c.new-5.ensures.start, c.new-5.ensures.end) at c.range.ensures in
    let parser : c.value_parser-2.result.value_parser ≡ Some (parsers.Signed (pos 1) (pos 65536)) = given.1 ∙ ap (λ q. Some q) (given.2 ∙ made) in
    let command : rule_of c.required-command.result ≡ spec.command_rule =
    rw c.required-command.ensures (ap (λ (rule : Rule). record rule { required = true }) c.new.ensures.rule) in
    let first : rule_of c.required-first.result ≡ spec.first_rule =
    rw c.required-first.ensures (ap (λ (rule : Rule). record rule { required = true }) c.new-2.ensures.rule) in
    let rest : rule_of c.action-rest.result ≡ spec.rest_rule =
    rw c.action-rest.ensures (ap (λ (rule : Rule). record rule { action = Some Append }) c.new-3.ensures.rule) in
    let long : rule_of c.long.result ≡ record (new_rule (codes "places")) { long = Some (codes "places") } =
    rw c.long.ensures (ap (λ (rule : Rule). record rule { long = Some (codes "places") }) c.new-4.ensures.rule) in
    let places : rule_of c.default_value-places.result ≡ spec.places_rule =
    ap rule_of c.default_value-places.ensures
    ∙ ap (λ (rule : Rule). record rule { defaults = codes "4096" ∷ [] }) (ap rule_of c.value_parser-2.ensures.others
    ∙ ap₂ (λ (rule : Rule) p. record rule { parser = p }) long parser) in
    let heap : rule_of c.long-heap.result ≡ spec.heap_rule =
    rw c.long-heap.ensures (ap (λ (rule : Rule). record rule { long = Some (codes "heap") }) c.new-6.ensures.rule) in
    let empty : app_of c.no_binary_name-line.result ≡ on_top (λ shape. record shape { no_binary_name = true }) (new_app (codes "domlock")) =
    rw c.no_binary_name-line.ensures (ap (on_top (λ shape. record shape { no_binary_name = true })) c.new-7.ensures.app) in
    let own : c.default_value-places.result.global ≡ false =
    ap (λ (arg : Arg). arg.global) c.default_value-places.ensures ∙ ap (λ (arg : Arg). arg.global) c.value_parser-2.ensures.others ∙ ap (λ (arg : Arg). arg.global) c.long.ensures ∙ c.new-4.ensures.optional.1 in
    c.in_ok-arg.ensures.shape (rw c.long-heap.ensures c.new-6.ensures.optional.1)
    ∙ ap₂ with_rule (c.in_ok-line-4.ensures.shape own
    ∙ ap₂ with_rule (c.in_ok-line-3.ensures.shape (rw c.action-rest.ensures c.new-3.ensures.optional.1)
    ∙ ap₂ with_rule (c.in_ok-line-2.ensures.shape (rw c.required-first.ensures c.new-2.ensures.optional.1)
    ∙ ap₂ with_rule (c.in_ok-line.ensures.shape (rw c.required-command.ensures c.new.ensures.optional.1)
    ∙ ap₂ with_rule empty command) first) rest) places) heap
