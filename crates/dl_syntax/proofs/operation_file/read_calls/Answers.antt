use Rattle.dl_syntax.proofs.CallSteps.{gives_only, gives_fault}
use Rattle.dl_syntax.specs.Line.{lines_of}
use Rattle.dl_syntax.proofs.CallsAreOf.{gives_of}
use Rattle.dl_syntax.proofs.RuleLaws.{gives_said, gives_why, say_lines}
use Rattle.dl_syntax.proofs.operation_file.read_calls.Goals as goal

pub returns-clause-found : goal.returns-clause-found
returns-clause-found c = gives_said c.args.source.now c.args.bytes.now c.calls_of.result c.calls_of.ensures

pub returns-clause-only : goal.returns-clause-only
returns-clause-only c = λ calls is. gives_only _ c.calls_of.result c.calls_of.ensures calls (say_lines c.args.source.now _ 1 _ (lines_of c.args.bytes.now) is)

pub returns-clause-fault : goal.returns-clause-fault
returns-clause-fault c = gives_why c.args.source.now c.args.bytes.now c.calls_of.result c.calls_of.ensures

pub returns-clause-only_fault : goal.returns-clause-only_fault
returns-clause-only_fault c = λ fault is. gives_fault _ c.calls_of.result c.calls_of.ensures fault (say_lines c.args.source.now _ 1 _ (lines_of c.args.bytes.now) is)

pub returns-clause-of_module : goal.returns-clause-of_module
returns-clause-of_module c = gives_of c.args.source.now (lines_of c.args.bytes.now) c.calls_of.result c.calls_of.ensures
