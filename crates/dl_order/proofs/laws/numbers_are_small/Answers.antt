use Rattle.dl_core.specs.Laws.{IsKept}
use Rattle.dl_core.proofs.LawfulAlways.{lawful_always}
use Rattle.dl_core.proofs.Small.{entered_few, version_few, free_few, spares_few}
use Rattle.dl_order.proofs.laws.numbers_are_small.Goals as goal

pub returns : goal.returns
returns c = λ plan core calls is reached.
    let kept : IsKept plan core calls = lawful_always plan core calls is reached in
    record { clock = entered_few plan core calls is kept; version = version_few plan core calls is kept; free = free_few plan core calls is kept; spares = spares_few plan core calls is kept }
