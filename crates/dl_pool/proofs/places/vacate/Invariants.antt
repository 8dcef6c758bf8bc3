use Rattle.dl_pool.proofs.places.vacate.Given as goal

abbrev pub ghosts-vacate_at : goal.ghosts-vacate_at
ghosts-vacate_at g a = record { word = a.word; place = a.place }
