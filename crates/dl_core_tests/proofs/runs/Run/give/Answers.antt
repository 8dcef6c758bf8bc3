use Rattle.dl_core_tests.proofs.UnderWay.{way_goes_on}
use Rattle.dl_core_tests.proofs.runs.Run.give.Goals as goal

pub invariant_of-self : goal.invariant_of-self
invariant_of-self c =
    let way = c.begin_next.ensures.way in
    way_goes_on c.begin_next.new.core c.self.inside.files.now way c.advance.new.self way.calls (c.advance.ensures.running way.plan way.calls way.running)
