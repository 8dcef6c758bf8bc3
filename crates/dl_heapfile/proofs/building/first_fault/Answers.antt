use Rattle.std.proofs.Common.{arith}
use Rattle.std.proofs.lemmas.Option.{slice_get_within}
use Rattle.dl_heapfile.specs.Blanks.{IsObjectFault}
use Rattle.dl_heapfile.proofs.building.first_fault.Goals as goal

pub returns-in-Some : goal.returns-in-Some
returns-in-Some c = IsObjectFault.dangling c.in-Some.at c.in-Some.ensures

pub overflow_cast-result-in-Some-first_misshapen : goal.overflow_cast-result-in-Some-first_misshapen
overflow_cast-result-in-Some-first_misshapen c =
    let fails = c.in-Some-first_misshapen.ensures in
    let within = slice_get_within c.args.entries.now c.in-Some-first_misshapen.at fails.entry fails.there in omega (arith, within, c.requires.short)

pub overflow_add-result-in-Some-first_misshapen-2 : goal.overflow_add-result-in-Some-first_misshapen-2
overflow_add-result-in-Some-first_misshapen-2 c =
    let fails = c.in-Some-first_misshapen.ensures in
    let within = slice_get_within c.args.entries.now c.in-Some-first_misshapen.at fails.entry fails.there in omega (arith, within, c.requires.short)

pub returns-in-Some-first_misshapen : goal.returns-in-Some-first_misshapen
returns-in-Some-first_misshapen c = IsObjectFault.shape c.in-Some-first_misshapen.at c.in_default.ensures c.in-Some-first_misshapen.ensures
