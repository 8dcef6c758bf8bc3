use Rattle.dl_heapfile.proofs.Small.{FieldsSmall}
use Rattle.dl_heapfile.proofs.laws.fields_are_small.Given as goal

-- where the values to come hold no other number, none does
abbrev pub invariant-loop-value : goal.invariant-loop-value
invariant-loop-value l = FieldsSmall l.value-iterator → FieldsSmall l.fields
