use Rattle.std.proofs.Common.{rules, ◌≡◌, length, map}
use Rattle.dl_core_tests.proofs.UnderWay.{starts_plan, way_starts}
use Rattle.dl_core_tests.proofs.runs.open.Goals as goal

pub start-requires : goal.start-requires
start-requires c =
    let source = c.requires.code.0 in
    let checked = c.requires.code.1 in
    let of = c.requires.code.2 in
    let calls = c.requires.code.3 in
    let sizes : c.deref.result.now ≡ map length c.args.files.now = search rules in
    record { plan = rw sizes (starts_plan source c.args.code c.args.files.now c.args.places checked of calls c.requires.some c.requires.few c.requires.places) }

pub returns : goal.returns
returns c =
    let source = c.requires.code.0 in
    let checked = c.requires.code.1 in
    let of = c.requires.code.2 in
    let calls = c.requires.code.3 in
    let sizes : c.deref.result.now ≡ map length c.args.files.now = search rules in
    let running = rw sizes at c.in_ok-core.ensures.running in
    way_starts source c.args.code c.args.files.now c.args.places checked of calls _ running
