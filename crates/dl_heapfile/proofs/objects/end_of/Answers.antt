use Rattle.std.proofs.Common.{arith}
use Rattle.dl_heapfile.proofs.Placed.{roots_wanting, no_last, last_more, last_ends}
use Rattle.dl_heapfile.proofs.objects.end_of.Goals as goal

pub returns-then-len-root_count : goal.returns-then-len-root_count
returns-then-len-root_count c = roots_wanting c.args.source.now c.args.entries c.args.line c.args.text.now c.requires.no_object (omega (arith, c.len.ensures, c.root_count.ensures, c.if-len-root_count.true))

pub returns-in-Some-empty : goal.returns-in-Some-empty
returns-in-Some-empty c =
    last_ends c.args.source.now c.args.entries c.args.line c.args.text.now c.in-Some-empty.field-0.now (omega (arith, c.len.ensures, c.root_count.ensures, c.if-len-root_count.false)) c.in-Some-empty.ensures c.in-Some-empty.len_below

pub returns-in-Some : goal.returns-in-Some
returns-in-Some c =
    last_more c.args.source.now c.args.entries c.args.line c.args.text.now c.in-Some.field-0.now (omega (arith, c.len.ensures, c.root_count.ensures, c.if-len-root_count.false)) c.in-Some.ensures c.in-Some.len_at_least

pub returns-in-None : goal.returns-in-None
returns-in-None c = no_last c.args.source.now c.args.entries c.args.line c.args.text.now c.requires.no_object c.in-None.ensures
