use Rattle.std.proofs.Common.{◌≡◌, take}
use Rattle.dl_core.proofs.lists.Row.refill.Given as goal

abbrev pub invariant-loop-item : goal.invariant-loop-item
invariant-loop-item g l = l.self ≡ record l.initial.self { items = take l.item-index l.items }
