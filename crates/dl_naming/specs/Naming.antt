-- That a module that some bytes spell has names by which a text can tell its objects.
use Rattle.std.specs.Prelude.{ℕ, List}
use Rattle.dl_ir.specs.declared.modules.Module.{Module}
use Rattle.dl_grammar.specs.declared.tree.Tree.{Tree}
use Rattle.dl_grammar.specs.Texts.{Spells}
use Rattle.dl_types.specs.Rules.{Types}
use Rattle.dl_heapfile.specs.Names.{HasNames}

-- where bytes spell a tree and the tree is a module, the kinds of the module and their fields are named by words, and kinds have names of their own
abbrev pub SpelledHasNames : Type 0
SpelledHasNames = (bytes : List ℕ) (tree : Tree) (source : Module) → Spells bytes tree → Types tree source → HasNames source
