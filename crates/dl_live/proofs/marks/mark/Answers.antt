use Rattle.std.proofs.Common.{rules}
use Rattle.dl_live.proofs.Marked.{fewer, set_same, set_kept, set_exact}
use Rattle.dl_live.proofs.marks.mark.Goals as goal

pub returns-then-at-len-clause-marked : goal.returns-then-at-len-clause-marked
returns-then-at-len-clause-marked c = search (rules, set_same)

pub returns-then-at-len-clause-fewer : goal.returns-then-at-len-clause-fewer
returns-then-at-len-clause-fewer c = search (rules, fewer)

pub returns-then-at-len-clause-kept : goal.returns-then-at-len-clause-kept
returns-then-at-len-clause-kept c = search (rules, set_kept)

pub returns-then-at-len-clause-exact : goal.returns-then-at-len-clause-exact
returns-then-at-len-clause-exact c = search (rules, set_exact)
