use Rattle.std.proofs.Common.{◌≡◌, take}
use Rattle.std.specs.Prelude.{map}
use Rattle.dl_command.specs.Texts.{behind_of}
use Rattle.dl_command.specs.Wanted.{wanted_held}
use Rattle.dl_command.proofs.FileLemmas.{Loaded}
use Rattle.dl_command.proofs.loading.read_behind.Given as goal

abbrev pub invariant-wanted : goal.invariant-wanted
invariant-wanted g l = record {
  tree : l.input.tree ≡ l.fn.input.tree;
  source : l.input.source ≡ l.fn.input.source;
  loaded : Loaded l.input.source (g.F.Files.source l.fn.files) (g.F.Files.source l.files) (take l.file-index (map wanted_held l.wanted)) (behind_of l.input);
}
