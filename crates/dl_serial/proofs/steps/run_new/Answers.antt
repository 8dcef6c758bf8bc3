use Rattle.std.proofs.Common.{arith}
use Rattle.dl_serial.proofs.Counts.{grows-put}
use Rattle.dl_serial.proofs.Sizes.{room_left}
use Rattle.dl_serial.proofs.steps.run_new.Goals as goal

pub returns-clause-room : goal.returns-clause-room
returns-clause-room c = record {
  made = omega arith;
  room = rw c.set_local.ensures.made (room_left c.args.heap.now _ _ _ _ _ c.put.ensures c.requires.room.room);
}

pub returns-clause-grows : goal.returns-clause-grows
returns-clause-grows c = rw (c.put.ensures, c.set_local.ensures.made) (grows-put _ _ _ _ c.requires.ticket)
