use Rattle.dl_trace.proofs.Goings.{under_way_stepped}
use Rattle.dl_trace.proofs.steps.give.Goals as goal

pub returns-clause-way : goal.returns-clause-way
returns-clause-way c =
    let way = c.begin_next.ensures.way in
    under_way_stepped c.begin_next.new.core c.advance.new.self c.args.files.now way (c.advance.ensures.running way.plan way.calls way.running)
