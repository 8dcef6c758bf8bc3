use Rattle.std.proofs.Common.{◌≡◌, length, map, rules}
use Rattle.dl_command.specs.Texts.{first_heap}
use Rattle.dl_command.proofs.PlanLemmas.{is_plan}
use Rattle.dl_command.proofs.step.make_ready.Goals as goal

pub core_over-requires : goal.core_over-requires
core_over-requires c =
    let source = c.args.source.now in
    let sizes : c.deref.result.now ≡ map length c.args.files.now = search rules in
    let is = is_plan c.codes_of_modules.ensures.plain source (first_heap source c.args.given.now) c.args.files.now c.args.places c.requires.checked c.requires.start c.requires.calls c.requires.some c.requires.few c.requires.places in
    record { plan = rw (c.in_ok-code.ensures, sizes) is }
