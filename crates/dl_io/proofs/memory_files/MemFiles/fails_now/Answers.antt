use Rattle.std.proofs.lemmas.Bool.Decides.{Decides-eqb}
use Rattle.std.proofs.lemmas.List.Elements.{Decides-contains, contains_decides}
use Rattle.dl_io.proofs.memory_files.MemFiles.fails_now.Goals as goal

-- the test on the list is that the number is there
pub returns-clause-fails : goal.returns-clause-fails
returns-clause-fails c = rw (← c.deref.ensures.value) (Decides-contains _ _ _ (contains_decides _ Decides-eqb _ _ _ c.contains.ensures.cases))
