use Rattle.dl_grammar.proofs.Whole.{one_tree, one_syntax_fault, tree_or_fault}
use Rattle.dl_grammar.proofs.module.one_module.Goals as goal

pub returns-clause-tree : goal.returns-clause-tree
returns-clause-tree c = one_tree

pub returns-clause-fault : goal.returns-clause-fault
returns-clause-fault c = one_syntax_fault

pub returns-clause-either : goal.returns-clause-either
returns-clause-either c = tree_or_fault
