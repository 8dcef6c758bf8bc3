use Rattle.std.proofs.Common.{◌<◌, length, sym, subst, arith}
use Rattle.std.specs.Borrow.{Bor}
use Rattle.dl_instr.specs.declared.liveness.Reached.{Reached}
use Rattle.dl_instr.specs.Paths.{places_of}
use Rattle.dl_instr.proofs.Paths.{missing, fewer, none_later, one_more_place, reads_some, places_at}
use Rattle.dl_instr.proofs.liveness.+is_read_from_some.Goals as goal

pub returns-then-any_reads : goal.returns-then-any_reads
returns-then-any_reads t c = reads_some c.args.steps.now c.args.local (places_of c.args.reached.now) c.if-any_reads.ensures

pub is_read_from_some-requires : goal.is_read_from_some-requires
is_read_from_some-requires t c =
    let new = c.in-Some.ensures.2 in
    let less = fewer (length c.args.steps.now) c.in-Some.place (places_of c.args.reached.now) new.within new.unreached in
    let rest : Bor Reached = record { ref_ptr = c.args.reached.ref_ptr; now = c.args.reached.now } in
    let same = places_at c.in-Some.place rest in
    let d = c.decreases in
    let smaller = subst (λ xs. missing (length c.args.steps.now) xs < missing (length c.args.steps.now) (places_of c.args.reached.now)) (sym same) less in
    (omega (arith, smaller, d), tt)

pub returns-in-None : goal.returns-in-None
returns-in-None t c = none_later c.args.steps.now c.args.local (places_of c.args.reached.now) c.in-None.ensures c.if-any_reads.ensures

pub returns-in-Some : goal.returns-in-Some
returns-in-Some t c =
    let rest : Bor Reached = record { ref_ptr = c.args.reached.ref_ptr; now = c.args.reached.now } in
    one_more_place c.args.steps.now c.args.local c.in-Some.place (places_of c.args.reached.now) _ c.is_read_from_some.result (places_at c.in-Some.place rest) c.in-Some.ensures c.is_read_from_some.ensures
