use Rattle.dl_pool.proofs.words.reserve.Given as goal

abbrev pub ghosts-look : goal.ghosts-look
ghosts-look g a = record { amount = a.need }

abbrev pub ghosts-take : goal.ghosts-take
ghosts-take g a = record { amount = a.need; callers = g.P.Pooled.callers a.table.now.key }
