use Rattle.std.proofs.Common.{◌≤◌, length, sym, subst, IfErr, IfOk}
use Rattle.dl_command.specs.Loading.{IsNumberOf, TextCause}
use Rattle.dl_command.specs.Texts.{Says}
use Rattle.dl_command.specs.Words.{limit_of}
use Rattle.dl_command.proofs.WantedLemmas.{plain_limit}
use Rattle.dl_command.proofs.loading.parse.Goals as goal

pub parse_heap-requires-clause-short : goal.parse_heap-requires-clause-short
parse_heap-requires-clause-short c =
    let number = subst (λ form. IsNumberOf form c.args.file) c.in-Heap.is c.requires.fits in
    subst (λ n. length c.args.text.now ≤ limit_of n) number c.requires.short

pub parse_schedule-requires : goal.parse_schedule-requires
parse_schedule-requires c =
    let number = subst (λ form. IsNumberOf form c.args.file) c.in-Schedule.is c.requires.fits in
    record { short = subst (λ n. length c.args.text.now ≤ n) (plain_limit c.args.file number) c.requires.short }

pub parse_calls-requires-clause-short : goal.parse_calls-requires-clause-short
parse_calls-requires-clause-short c =
    let number = subst (λ form. IsNumberOf form c.args.file) c.in-Operations.is c.requires.fits in
    subst (λ n. length c.args.text.now ≤ n) (plain_limit c.args.file number) c.requires.short

pub returns-in-Heap-clause-ok : goal.returns-in-Heap-clause-ok
returns-in-Heap-clause-ok c =
    subst (λ form. IfOk c.parse_heap.result (Says c.args.source.now form c.args.text.now)) (sym c.in-Heap.is) c.parse_heap.ensures.ok

pub returns-in-Heap-clause-cause : goal.returns-in-Heap-clause-cause
returns-in-Heap-clause-cause c =
    subst (λ form. IfErr c.parse_heap.result (TextCause c.args.source.now c.args.file form c.args.text.now)) (sym c.in-Heap.is) (c.parse_heap.ensures.cause c.args.file)

pub returns-in-Schedule-clause-ok : goal.returns-in-Schedule-clause-ok
returns-in-Schedule-clause-ok c =
    subst (λ form. IfOk c.parse_schedule.result (Says c.args.source.now form c.args.text.now)) (sym c.in-Schedule.is) (c.parse_schedule.ensures.ok c.args.source.now)

pub returns-in-Schedule-clause-calls : goal.returns-in-Schedule-clause-calls
returns-in-Schedule-clause-calls c = c.parse_schedule.ensures.calls c.args.source.now
