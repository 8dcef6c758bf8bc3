use Rattle.dl_pool.proofs.places.claim.Given as goal

abbrev pub ghosts-claim_at : goal.ghosts-claim_at
ghosts-claim_at g a = record { word = a.word; place = a.place }
