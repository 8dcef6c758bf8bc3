use Rattle.dl_work.proofs.summaries.put_refused.Goals as goal

pub returns : goal.returns
returns g c = rw (← c.number_in.ensures) c.put_line.ensures
