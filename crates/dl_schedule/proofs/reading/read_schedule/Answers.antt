use Rattle.dl_syntax.specs.Line.{lines_of}
use Rattle.dl_schedule.proofs.Steps.{gives_only, gives_fault}
use Rattle.dl_schedule.proofs.RuleLaws.{gives_said, gives_why, say_lines, spelled_in_range}
use Rattle.dl_schedule.proofs.reading.read_schedule.Goals as goal

pub returns-clause-found : goal.returns-clause-found
returns-clause-found c = gives_said c.args.callers c.args.bytes.now c.gives_of.result c.gives_of.ensures

pub returns-clause-only : goal.returns-clause-only
returns-clause-only c = λ gives is. gives_only _ c.gives_of.result c.gives_of.ensures gives (say_lines c.args.callers _ 1 _ (lines_of c.args.bytes.now) is)

pub returns-clause-fault : goal.returns-clause-fault
returns-clause-fault c = gives_why c.args.callers c.args.bytes.now c.gives_of.result c.gives_of.ensures

pub returns-clause-only_fault : goal.returns-clause-only_fault
returns-clause-only_fault c = λ fault is. gives_fault _ c.gives_of.result c.gives_of.ensures fault (say_lines c.args.callers _ 1 _ (lines_of c.args.bytes.now) is)

pub returns-clause-in_range : goal.returns-clause-in_range
returns-clause-in_range c = spelled_in_range c.args.callers c.args.bytes.now c.gives_of.result (gives_said c.args.callers c.args.bytes.now c.gives_of.result c.gives_of.ensures)
