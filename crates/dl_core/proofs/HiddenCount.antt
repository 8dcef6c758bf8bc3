-- The number of hidden objects, through each change.
use Rattle.std.proofs.Common.{◌≡◌, ◌+◌, cond, ap, ◌∙◌, Some, None, arith}
use Rattle.std.specs.Option.{option_map}
use Rattle.std.proofs.lemmas.Bool.{lt-ltb}
use Rattle.std.specs.FinMap as finite
use Rattle.dl_ir.specs.declared.names.Name.{Name}
use Rattle.dl_ir.specs.Heap.{IsHidden, hidden_count}
use Rattle.dl_core.specs.declared.objects.Object.{Object}
use Rattle.dl_core.specs.Heaps.{Heap, put_at, plain, plain_object}
use Rattle.dl_core.proofs.Plain.{get_plain, plain_put}
use Rattle.dl_core.proofs.Typing.{plain_there}
use Rattle.dl_shape.proofs.HiddenCount.{one, hidden_count-new, hidden_count-over, hidden_count-there}

one_hidden : (name : Name) → IsHidden name → one name ≡ 1
one_hidden name hidden = ap (λ b. cond b 1 0) (lt-ltb 0 name.ticket hidden)

module _ (heap : Heap) (x : Name) where
  pub hidden_same : (a b : Object) → finite.get heap x ≡ Some a → hidden_count (plain (put_at heap x (Some b))) ≡ hidden_count (plain heap)
  unfolding put_at
  hidden_same a b there = omega (arith, ap hidden_count (plain_put heap x (Some b)), hidden_count-over (plain heap) x (plain_object b), hidden_count-there (plain heap) x (plain_object a) (plain_there heap x a there))

  pub hidden_gone : (a : Object) → finite.get heap x ≡ Some a → IsHidden x → hidden_count (plain (put_at heap x None)) + 1 ≡ hidden_count (plain heap)
  unfolding put_at
  hidden_gone a there hidden = omega (arith, ap hidden_count (plain_put heap x None), hidden_count-there (plain heap) x (plain_object a) (plain_there heap x a there), one_hidden x hidden)

  pub hidden_come : (b : Object) → finite.get heap x ≡ None → IsHidden x → hidden_count (plain (put_at heap x (Some b))) ≡ hidden_count (plain heap) + 1
  unfolding put_at
  hidden_come b there hidden = omega (arith, ap hidden_count (plain_put heap x (Some b)), hidden_count-new (plain heap) x (plain_object b) (get_plain heap x ∙ ap (option_map plain_object) there), one_hidden x hidden)
