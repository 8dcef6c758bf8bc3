use Rattle.dl_instr.proofs.Refuted.{jump_below, read_at, not_moved, moved_nowhere, moved_where}
use Rattle.dl_instr.proofs.matching.jump_is_moved.Goals as goal

pub front_of-requires-clause-few : goal.front_of-requires-clause-few
front_of-requires-clause-few c = jump_below c.args.op.now c.args.i c.in-Some.place c.in-Some.ensures

pub returns-in-None-jump_of : goal.returns-in-None-jump_of
returns-in-None-jump_of c =
    not_moved c.args.op.now c.args.steps.now c.args.i c.args.x c.in-Some.place c.index-steps-x.result c.in-Some.ensures
    (read_at c.args.steps.now c.args.x c.index-steps-x.result c.requires.there c.index-steps-x.is) c.in-None-jump_of.ensures

pub returns-in-None-front_of : goal.returns-in-None-front_of
returns-in-None-front_of c =
    moved_nowhere c.args.op.now c.args.steps.now c.args.i c.args.x c.in-Some.place c.index-steps-x.result c.in-Some.ensures
    (read_at c.args.steps.now c.args.x c.index-steps-x.result c.requires.there c.index-steps-x.is) c.in-Some-jump_of.goes c.in-Some-jump_of.ensures c.in-None-front_of.ensures

pub returns-in-Some-front_of : goal.returns-in-Some-front_of
returns-in-Some-front_of c =
    moved_where c.args.op.now c.args.steps.now c.args.i c.args.x c.in-Some.place c.index-steps-x.result c.in-Some.ensures
    (read_at c.args.steps.now c.args.x c.index-steps-x.result c.requires.there c.index-steps-x.is) c.in-Some-jump_of.goes c.in-Some-jump_of.ensures c.in-Some-front_of.front c.in-Some-front_of.ensures
