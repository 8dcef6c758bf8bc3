use Rattle.dl_types.proofs.Answered.{gives_only, gives_fault}
use Rattle.dl_types.proofs.ModulesFit.{gives_checked}
use Rattle.dl_types.proofs.TreeLaws.{gives_said, gives_why, is_tree}
use Rattle.dl_types.proofs.module.check.Goals as goal

pub returns-clause-found : goal.returns-clause-found
returns-clause-found c = gives_said c.args.tree.now c.module_typed.result c.module_typed.ensures

pub returns-clause-only : goal.returns-clause-only
returns-clause-only c = λ source is. gives_only _ c.module_typed.result c.module_typed.ensures source (is_tree c.args.tree.now _ is)

pub returns-clause-fault : goal.returns-clause-fault
returns-clause-fault c = gives_why c.args.tree.now c.module_typed.result c.module_typed.ensures

pub returns-clause-only_fault : goal.returns-clause-only_fault
returns-clause-only_fault c = λ fault is. gives_fault _ c.module_typed.result c.module_typed.ensures fault (is_tree c.args.tree.now _ is)

pub returns-clause-checked : goal.returns-clause-checked
returns-clause-checked c = gives_checked _ c.module_typed.result c.requires c.module_typed.ensures
