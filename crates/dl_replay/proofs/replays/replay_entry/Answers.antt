use Rattle.std.proofs.Common.{true, false, ◌≡◌, sym, ap, ◌∙◌, refl}
use Rattle.dl_ir.specs.Heap.{Objects, View}
use Rattle.dl_shape.specs.Operation.{operated}
use Rattle.dl_replay.proofs.replays.replay_entry.Goals as goal

pub returns-then-not-is_same-clause-fault : goal.returns-then-not-is_same-clause-fault
returns-then-not-is_same-clause-fault c = (
  refl,
  record {
    call = c.in-Some.call.now;
    own = c.if-entry-ticket.false;
    named = sym c.in-Some.ensures;
    is_kept = refl;
    is_given = c.in_ok-replayed.ensures.answer ∙ ap (λ (h : Objects). (operated c.args.source.now h c.args.ticket c.in-Some.call.now).answer) c.in_ok-make_room.ensures.objects;
    other = λ same. let told : c.is_same.result ≡ true = c.is_same.ensures.1 (sym same) in let none : c.is_same.result ≡ false = c.if-not-is_same.true in cc;
  },
)

pub returns-clause-goes_on : goal.returns-clause-goes_on
returns-clause-goes_on c = record {
  call = c.in-Some.call.now;
  own = c.if-entry-ticket.false;
  named = sym c.in-Some.ensures;
  answer = sym (c.is_same.ensures.0 c.if-not-is_same.false) ∙ c.in_ok-replayed.ensures.answer ∙ ap (λ (h : Objects). (operated c.args.source.now h c.args.ticket c.in-Some.call.now).answer) c.in_ok-make_room.ensures.objects;
  leaves = ap (λ (v : View). v.objects) c.in_ok-replayed.ensures.left ∙ ap (λ (h : Objects). (operated c.args.source.now h c.args.ticket c.in-Some.call.now).objects) c.in_ok-make_room.ensures.objects;
  of_module = c.in_ok-replayed.ensures.heap;
  below = c.in_ok-replayed.ensures.below;
}
