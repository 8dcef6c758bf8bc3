use Rattle.std.proofs.Common.{◌∙◌, ap}
use Rattle.std.specs.Prelude.{map}
use Rattle.std.proofs.lemmas.List.{map-append}
use Rattle.dl_command.specs.Wanted.{wanted_held}
use Rattle.dl_command.proofs.WantedLemmas.{operations_more}
use Rattle.dl_command.proofs.wanted.add_operations.Goals as goal

pub paths-preserved : goal.paths-preserved
paths-preserved c =
    ap (map wanted_held) c.in_ok-push.ensures.items
    ∙ map-append wanted_held c.paths.wanted.items _
    ∙ operations_more _ _ c.args.first c.paths.i c.args.paths.now _ c.paths-test.true c.paths.invariant
