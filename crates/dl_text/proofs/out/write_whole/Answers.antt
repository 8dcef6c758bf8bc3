use Rattle.std.proofs.Common.{◌≡◌, ◌-◌, length, drop, take, arith, length-drop}
use Rattle.std.proofs.lemmas.List.{take_all}
use Rattle.dl_text.proofs.WritingLemmas.{so_far_step}
use Rattle.dl_text.proofs.out.write_whole.Goals as goal

pub pieces-preserved : goal.pieces-preserved
pieces-preserved g c =
    let next = so_far_step c.in_ok-n.n c.pieces.invariant c.in_ok-n.ensures.cause.later c.in_ok-n.ensures.takes.2 in
    let rest_is : take (length c.pieces.rest.now - c.in_ok-n.n) (drop c.in_ok-n.n c.pieces.rest.now) ≡ drop c.in_ok-n.n c.pieces.rest.now =
    take_all _ _ (omega (arith, length-drop c.in_ok-n.n c.pieces.rest.now)) in
    rw rest_is next
