-- Texts of modules that take generated work.
use Rattle.std.specs.Prelude.{ℕ, List}
use Rattle.dl_ir.specs.declared.modules.Module.{Module}
use Rattle.dl_ir.specs.Checked.{IsChecked}
use Rattle.dl_grammar.specs.declared.tree.Tree.{Tree}
use Rattle.dl_grammar.specs.Limits.{IsInLimits}
use Rattle.dl_grammar.specs.Texts.{Spells}
use Rattle.dl_types.specs.Rules.{Types}
use Rattle.dl_work.specs.Works.{TakesWork}

-- the text spells a tree, the tree is a module, and the module takes generated work; the tree keeps the limits, and the module is checked
pub record SpellsWork (text : List ℕ) : Type 0 where
  pub tree : Tree
  pub source : Module
  pub spelled : Spells text tree
  pub in_limits : IsInLimits tree
  pub typed : Types tree source
  pub checked : IsChecked source
  pub takes : TakesWork source
