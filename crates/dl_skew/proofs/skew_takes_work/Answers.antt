use Rattle.std.proofs.Common.{◌≡◌, subst, Ok, Err, Result}
use Rattle.dl_modules.specs.declared.TheConstants.{SKEW}
use Rattle.dl_ir.specs.declared.modules.Module.{Module}
use Rattle.dl_grammar.specs.declared.tree.Tree.{Tree}
use Rattle.dl_grammar.specs.Texts.{Spells}
use Rattle.dl_grammar.proofs.Limited.{all_in_limits}
use Rattle.dl_grammar.proofs.Whole.{one_tree, tree_or_fault}
use Rattle.dl_types.specs.declared.fault.TypeFault.{TypeFault}
use Rattle.dl_types.specs.Rules.{Types, IsTypeFault}
use Rattle.dl_types.proofs.ModulesFit.{typed_is_checked}
use Rattle.dl_types.proofs.TreeLaws.{one_outcome}
use Rattle.dl_work.specs.Works.{TakesWork}
use Rattle.dl_skew.proofs.Heaps.{skew_tree, skew_source}
use Rattle.dl_skew.proofs.Reading.{skew_spells}
use Rattle.dl_skew.proofs.Typing.{skew_types, skew_takes}
use Rattle.dl_skew.proofs.skew_takes_work.Goals as goal

-- a tree that the text spells is the tree of the skew heaps
types_as : (tree : Tree) → Spells SKEW.now tree → Types tree skew_source
types_as tree spells = subst (λ t. Types t skew_source) (one_tree SKEW.now skew_tree tree skew_spells spells) skew_types

same_source : (tree : Tree) (source : Module) → Spells SKEW.now tree → Types tree source → skew_source ≡ source
same_source tree source spells is =
    let one : (let o : Result Module TypeFault = Ok skew_source in o) ≡ Ok source = one_outcome tree (Ok skew_source) (Ok source) (types_as tree spells) is in cc

no_fault : (tree : Tree) (fault : TypeFault) → Spells SKEW.now tree → IsTypeFault tree fault → ⊥
no_fault tree fault spells is = let one = one_outcome tree (Ok skew_source) (Err fault) (types_as tree spells) is in absurd (cc)

pub returns-clause-spells : goal.returns-clause-spells
returns-clause-spells c =
    let limits = all_in_limits SKEW.now (Ok skew_tree) skew_spells in
    record {
      tree = skew_tree;
      source = skew_source;
      spelled = skew_spells;
      in_limits = limits;
      typed = skew_types;
      checked = typed_is_checked skew_tree skew_source limits skew_types;
      takes = skew_takes;
    }

pub returns-clause-no_syntax_fault : goal.returns-clause-no_syntax_fault
returns-clause-no_syntax_fault c = λ fault is. tree_or_fault SKEW.now skew_tree fault skew_spells is

pub returns-clause-no_type_fault : goal.returns-clause-no_type_fault
returns-clause-no_type_fault c = no_fault

pub returns-clause-found : goal.returns-clause-found
returns-clause-found c = λ tree source spells is. subst TakesWork (same_source tree source spells is) skew_takes
