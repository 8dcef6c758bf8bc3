use denote.Param.Send.{sendable}
use Rattle.std.proofs.Crossing.{crosses}
use Rattle.dl_coarse.proofs.passes.Pass.TheSendSync as pass
use Rattle.dl_coarse.proofs.passes.Note.TheSendSync as note
use Rattle.dl_coarse.proofs.passes.Coarse.TheSendSync as coarse
use Rattle.dl_coarse.proofs.Sent.{core_send}
use Rattle.dl_coarse_tests.proofs.freshness.met.Goals as goal

pub meet_on-requires-send-G-Pass : goal.meet_on-requires-send-G-Pass
meet_on-requires-send-G-Pass c κs = search (core_send, pass.the_send, crosses, sendable) depth 60 fits 20000

pub meet_on-requires-send-G-Note : goal.meet_on-requires-send-G-Note
meet_on-requires-send-G-Note c κs = search (core_send, note.the_send, crosses, sendable) depth 60 fits 20000

pub meet_on-requires-sync-G : goal.meet_on-requires-sync-G
meet_on-requires-sync-G c κs = search (core_send, coarse.the_sync, crosses, sendable) depth 60 fits 20000
