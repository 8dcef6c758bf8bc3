use Rattle.dl_pool.proofs.words.give_back.Given as goal

abbrev pub ghosts-give : goal.ghosts-give
ghosts-give g a = record { amount = a.count }
