use Rattle.std.proofs.Common.{◌+◌, sym, ap, ◌∙◌}
use Rattle.dl_heapfile.specs.Form.{root_count}
use Rattle.dl_heapfile.proofs.Listed.{hidden_is, in_all}
use Rattle.dl_heapfile.proofs.building.hidden_in.Goals as goal

pub returns-clause-count : goal.returns-clause-count
returns-clause-count c = c.hidden_among.ensures ∙ sym (hidden_is c.args.source.now c.args.entries.now c.requires)

pub returns-clause-roots : goal.returns-clause-roots
returns-clause-roots c = ap (λ n. root_count c.args.source.now + n) (c.hidden_among.ensures ∙ sym (hidden_is c.args.source.now c.args.entries.now c.requires)) ∙ in_all c.args.source.now c.args.entries.now c.requires
