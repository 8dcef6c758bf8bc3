use Rattle.std.proofs.Common.{◌≡◌, ◌∙◌, ◌+◌, arith, length, take, ◌++◌, length-append}
use Rattle.std.proofs.Math.Nat.{le_trans}
use Rattle.std.proofs.lemmas.List.{length-take-le}
use Rattle.dl_command.proofs.ReadingLemmas.{ahead_step}
use Rattle.dl_command.proofs.reading.read_all.Goals as goal

pub pieces-preserved : goal.pieces-preserved
pieces-preserved g c =
    let before = c.pieces.invariant in
    let read = c.in_ok-n.ensures in
    let size = length-take-le c.in_ok-n.n c.read_piece.new.buffer (omega (arith, c.read_piece.auto.buffer, read.count.0)) in
    let longer : length (c.pieces.bytes.items ++ take c.in_ok-n.n c.read_piece.new.buffer) ≡ length c.pieces.bytes.items + c.in_ok-n.n =
    omega (arith, size, length-append c.pieces.bytes.items (take c.in_ok-n.n c.read_piece.new.buffer)) in
    rw c.in_ok-extend_from_slice.ensures.items record {
      same = record { bytes = read.same.bytes ∙ before.same.bytes; sound = read.same.sound ∙ before.same.sound };
      later = le_trans before.later read.cause.later;
      attached = read.same_attached.0 ∙ before.attached;
      sound = λ h. read.same_attached.1 ∙ before.sound h;
      given = omega (arith, longer, read.given, before.given, before.count, c.requires, c.if-taken-limit.false);
      count = omega (arith, longer, before.count);
      short = c.if-taken-limit.false;
      ahead = ahead_step _ _ _ _ _ c.in_ok-n.n before.ahead read.gives;
    }
